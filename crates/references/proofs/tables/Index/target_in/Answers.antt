-- `tables::Index::target_in` meets its contract.
use Rattle.references.proofs.TargetLaws.{index-table-rising, leads_in-missing, leads_in-other, leads_in_at}
use Rattle.references.proofs.tables.Index.target_in.Goals as goal

pub returns-in_err-entry : goal.returns-in_err-entry
returns-in_err-entry c = rw c.from_residual.ensures (leads_in-missing c.requires.index_in c.args.target _ _ c.requires.unit_listed c.requires.offset_sum c.in_err-entry.ensures)

pub returns-then-entry-unit : goal.returns-then-entry-unit
returns-then-entry-unit c = leads_in_at c.requires.index_in c.args.target _ c.in_ok-entry.ensures _ _ c.requires.unit_listed c.requires.offset_sum c.if-entry-unit.true

pub returns-else-entry-unit : goal.returns-else-entry-unit
returns-else-entry-unit c = leads_in-other c.requires.index_in c.args.target _ c.in_ok-entry.ensures _ _ c.requires.unit_listed c.requires.offset_sum c.if-entry-unit.false

pub find_entry-requires-clause-rising : goal.find_entry-requires-clause-rising
find_entry-requires-clause-rising c = search index-table-rising
