-- `SequencedLine::write` meets its contract.
use Rattle.rows.proofs.StoredLaws.{put-line}
use Rattle.rows.proofs.line.SequencedLine.write.Goals as goal

pub returns : goal.returns
returns c = search put-line
