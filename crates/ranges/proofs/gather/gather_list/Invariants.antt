-- `gather::gather_list` meets its contract. The loop's invariant: the ranges put so far, and those of the list from here on that fit, are all that fit.
use Prim.Native.Nat.{◌-◌}
use lib.ListN.{length}
use Rattle.rnglists.specs.Sizes.{width_of}
use Rattle.ranges.proofs.gather.ListGatherLaws.{ListGathering}
use Rattle.ranges.proofs.gather.gather_list.Given as goal

abbrev pub invariant-loop-found : goal.invariant-loop-found
invariant-loop-found l = ListGathering l.lists.lists.now l.lists.addresses.now l.list.addresses (width_of l.list.size) l.list.offset l.list.base
    l.initial.work l.work l.nest.parent.base l.nest.parent.count l.nest.to l.at l.from l.n

abbrev pub decreases-loop-found : goal.decreases-loop-found
decreases-loop-found l = length l.lists.lists.now - l.at
