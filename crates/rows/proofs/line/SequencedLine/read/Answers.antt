-- `SequencedLine::read` meets its contract: the parts of the row.
use Rattle.rows.proofs.StoredLaws.{line-entry, line-sequence}
use Rattle.rows.proofs.line.SequencedLine.read.Goals as goal

pub returns-clause-entry : goal.returns-clause-entry
returns-clause-entry c = search line-entry

pub returns-clause-sequence : goal.returns-clause-sequence
returns-clause-sequence c = search line-sequence
