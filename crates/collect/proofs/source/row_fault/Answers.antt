-- `source::row_fault` meets its contract.
use Rattle.collect.proofs.UnitRowsLaws.{fault-first}
use Rattle.collect.proofs.source.row_fault.Goals as goal

pub returns : goal.returns
returns c = rw c.err.ensures.value (fault-first _ c.gather_unit_rows.ensures)
