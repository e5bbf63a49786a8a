-- `convert::Row::read` meets its contract.
use Rattle.collect.proofs.LineLaws.{row_read}
use Rattle.collect.proofs.convert.Row.read.Goals as goal

pub returns : goal.returns
returns c = search row_read
