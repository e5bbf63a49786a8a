-- `line::entry_at` meets its contract.
use Rattle.rows.proofs.StoredLaws.{got-entry}
use Rattle.rows.proofs.line.entry_at.Goals as goal

pub returns : goal.returns
returns c = search got-entry
