-- `layout::count_tags` meets its contract. The loop's invariant: of each tag what is counted and what is left to count make the whole.
use Prim.Native.Nat.{◌-◌}
use lib.ListN.{length}
use Rattle.checks.proofs.layout.TallyLaws.{Tallying}
use Rattle.checks.proofs.layout.count_tags.Given as goal

abbrev pub invariant-loop-field : goal.invariant-loop-field
invariant-loop-field l = Tallying l.s l.p l.counts

abbrev pub decreases-loop-field : goal.decreases-loop-field
decreases-loop-field l = length l.s - l.p
