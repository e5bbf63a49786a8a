-- `joined::bytes_at` meets its contract.
use Rattle.files.proofs.JoinedLaws.{bytes-same}
use Rattle.files.proofs.joined.bytes_at.Goals as goal

pub returns : goal.returns
returns c = search bytes-same
