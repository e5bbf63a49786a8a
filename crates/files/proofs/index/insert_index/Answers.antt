-- `index::insert_index` meets its contract.
use Rattle.files.proofs.index.IndexLaws.{inserted, not-inserted}
use Rattle.files.proofs.index.insert_index.Goals as goal

pub returns-else-number-indices : goal.returns-else-number-indices
returns-else-number-indices c = search not-inserted

pub returns-then-number-indices : goal.returns-then-number-indices
returns-then-number-indices c = search inserted
