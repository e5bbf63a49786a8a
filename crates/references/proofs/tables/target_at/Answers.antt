-- `tables::target_at` meets its contract.
use Rattle.references.proofs.TargetLaws.{index-table-rising, leads_to_outside, leads_no-entry, leads_to_at}
use Rattle.references.proofs.tables.target_at.Goals as goal

pub returns-in_default : goal.returns-in_default
returns-in_default c = leads_to_outside c.requires c.args.target _ c.unit_containing_offset.ensures c.in_default.is

pub returns-in_default-find_entry : goal.returns-in_default-find_entry
returns-in_default-find_entry c = leads_no-entry c.requires c.args.target _ c.unit_containing_offset.ensures _ c.in-Some.is (rw c.in_default-find_entry.is at c.find_entry.ensures)

pub returns : goal.returns
returns c = leads_to_at c.requires c.args.target _ (rw c.in-Some-find_entry.is at c.find_entry.ensures)

pub find_entry-requires-clause-rising : goal.find_entry-requires-clause-rising
find_entry-requires-clause-rising c = search index-table-rising
