-- `index::index_entries` meets its contract. The loop's invariant: what is written and the entries that are left make the index.
use Prim.Native.Nat.{◌-◌}
use lib.ListN.{length}
use Rattle.access.proofs.IndexLaws.{Indexing}
use Rattle.access.proofs.index.index_entries.Given as goal

abbrev pub invariant-loop-field : goal.invariant-loop-field
invariant-loop-field l = Indexing l.s l.initial.work l.work l.base l.p l.n l.unit l.offset

abbrev pub decreases-loop-field : goal.decreases-loop-field
decreases-loop-field l = length l.s - l.p
