-- `lists::RangeLists::next_range` meets its contract. The loop's invariant: what is left of the list gives what was asked for.
use Prim.Native.Nat.{◌-◌}
use lib.ListN.{length}
use Rattle.rnglists.specs.Sizes.{width_of}
use Rattle.rnglists.proofs.lists.NextLaws.{Left}
use Rattle.rnglists.proofs.lists.RangeLists.next_range.Given as goal

abbrev pub invariant-loop-read : goal.invariant-loop-read
invariant-loop-read l = Left l.self.lists.now l.self.addresses.now l.place (width_of l.size) l.at l.fn.base l.p l.base

abbrev pub decreases-loop-read : goal.decreases-loop-read
decreases-loop-read l = length l.self.lists.now - l.p
