-- `checks::most_work` meets its contract. The loop's invariant: so much asks the neediest unit before the place.
use Prim.Native.Nat.{◌-◌}
use lib.ListN.{length}
use Rattle.checks.proofs.WorkLaws.{Seeking}
use Rattle.checks.proofs.checks.most_work.Given as goal

abbrev pub invariant-loop-field : goal.invariant-loop-field
invariant-loop-field l = Seeking l.sizes.program l.sizes.lists l.main l.p l.most

abbrev pub decreases-loop-field : goal.decreases-loop-field
decreases-loop-field l = length l.main - l.p
