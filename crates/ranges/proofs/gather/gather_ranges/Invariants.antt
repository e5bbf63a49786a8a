-- `gather::gather_ranges` meets its contract. The loop's invariant: the ranges put so far, and those of the fields from here on that fit, are all that fit.
use Prim.Native.Nat.{◌-◌}
use lib.ListN.{length}
use Rattle.ranges.proofs.GatherLaws.{Gathering}
use Rattle.ranges.proofs.gather.gather_ranges.Given as goal

abbrev pub invariant-loop-field : goal.invariant-loop-field
invariant-loop-field l = Gathering l.s l.at l.initial.work l.work l.nest.parent.base l.nest.parent.count l.nest.to l.p l.n

abbrev pub decreases-loop-field : goal.decreases-loop-field
decreases-loop-field l = length l.s - l.p
