-- `spans::index_directories` meets its contract. The loop's invariant: the spans that are written and the directories that are left make the unit's.
use Prim.Native.Nat.{◌-◌}
use lib.ListN.{length}
use Rattle.files.proofs.DirectoryLaws.{Listing}
use Rattle.files.proofs.spans.index_directories.Given as goal

abbrev pub invariant-loop-field : goal.invariant-loop-field
invariant-loop-field l = Listing l.s l.initial.work l.work l.p l.base l.at l.n

abbrev pub decreases-loop-field : goal.decreases-loop-field
decreases-loop-field l = length l.s - l.at
