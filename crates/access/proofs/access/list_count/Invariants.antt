-- `access::list_count` meets its contract. The loop's invariant: what is counted and what is left to count make the whole.
use Prim.Native.Nat.{◌-◌}
use lib.ListN.{length}
use Rattle.access.proofs.ListCountLaws.{CountingLists}
use Rattle.access.proofs.access.list_count.Given as goal

abbrev pub invariant-loop-field : goal.invariant-loop-field
invariant-loop-field l = CountingLists l.s l.p l.at l.n

abbrev pub decreases-loop-field : goal.decreases-loop-field
decreases-loop-field l = length l.s - l.at
