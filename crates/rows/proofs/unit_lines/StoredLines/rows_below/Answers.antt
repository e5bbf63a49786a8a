-- `StoredLines::rows_below` meets its contract.
use Rattle.rows.proofs.FrontLaws.{start-below}
use Rattle.rows.proofs.unit_lines.StoredLines.rows_below.Goals as goal

pub returns : goal.returns
returns c = search start-below
