-- `line::sequence_at` meets its contract.
use Rattle.rows.proofs.StoredLaws.{sequence-got}
use Rattle.rows.proofs.line.sequence_at.Goals as goal

pub returns : goal.returns
returns c = sequence-got _ _ _ c.read_option.ensures
