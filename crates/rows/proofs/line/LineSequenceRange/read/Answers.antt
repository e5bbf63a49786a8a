-- `LineSequenceRange::read` meets its contract: the parts of the record.
use Rattle.rows.proofs.StoredLaws.{range-front, range-sequence}
use Rattle.rows.proofs.line.LineSequenceRange.read.Goals as goal

pub returns-clause-range : goal.returns-clause-range
returns-clause-range c = search range-front

pub returns-clause-sequence : goal.returns-clause-sequence
returns-clause-sequence c = search range-sequence
