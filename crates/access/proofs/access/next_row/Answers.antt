-- `access::next_row` meets its contract.
use Rattle.access.proofs.access.RowLaws.{row_here}
use Rattle.access.proofs.access.next_row.Goals as goal

pub returns-then-s-p-eq-ROW_TAG : goal.returns-then-s-p-eq-ROW_TAG
returns-then-s-p-eq-ROW_TAG c = search row_here
