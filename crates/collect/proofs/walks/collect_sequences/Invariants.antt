-- `walks::collect_sequences` meets its contract: the records so far, and the sequences of the rows that are left, are those of all rows; the measure is what
-- lies ahead of the rows that are left.
use Prim.Native.Nat.{◌+◌, ◌-◌}
use lib.ListN.{length}
use Rattle.collect.specs.Walks.{begin_at}
use Rattle.collect.proofs.walks.CollectingLaws.{CollectingRows}
use Rattle.collect.proofs.walks.collect_sequences.Given as goal

abbrev pub invariant-loop-found : goal.invariant-loop-found
invariant-loop-found l = CollectingRows l.main l.initial.work l.work l.initial.rest l.rest l.offsets.base l.offsets.count l.base l.k l.start l.count

abbrev pub decreases-loop-found : goal.decreases-loop-found
decreases-loop-found l = length l.main + length l.work - begin_at l.rest
