-- `convert::Conversion::append_line` meets its contract.
use Rattle.collect.proofs.LineLaws.{line-appended}
use Rattle.collect.proofs.convert.Conversion.append_line.Goals as goal

pub returns : goal.returns
returns c = line-appended c.in-Ok.ensures c.sequence_offset.ensures c.write.ensures
