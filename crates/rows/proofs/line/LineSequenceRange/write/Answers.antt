-- `LineSequenceRange::write` meets its contract.
use Rattle.rows.proofs.StoredLaws.{put-range}
use Rattle.rows.proofs.line.LineSequenceRange.write.Goals as goal

pub returns : goal.returns
returns c = search put-range
