-- `store::StoredFiles::find_file` meets its contract. The loop follows a chain to ever lower places.
use native.Mathlib.Omega.{arith}
use Rattle.files.proofs.ChainLaws.{searching-start, record_at, searching_step, searching_less, searching-found, searching_none}
use Rattle.files.proofs.store.StoredFiles.find_file.Goals as goal

pub is_file-requires-clause-stored_at : goal.is_file-requires-clause-stored_at
is_file-requires-clause-stored_at c = record_at c.requires.files_in _ c.loop-k.invariant c.loop-k-test.true

pub read-k-requires-in-loop-k : goal.read-k-requires-in-loop-k
read-k-requires-in-loop-k c = let r = record_at c.requires.files_in _ c.loop-k.invariant c.loop-k-test.true in
    omega arith

pub loop-k-init : goal.loop-k-init
loop-k-init c = search searching-start

pub loop-k-preserved : goal.loop-k-preserved
loop-k-preserved c = search searching_step

pub loop-k-smaller : goal.loop-k-smaller
loop-k-smaller c = search searching_less

pub returns : goal.returns
returns c = search searching_none

pub returns-then-is_file : goal.returns-then-is_file
returns-then-is_file c = search searching-found
