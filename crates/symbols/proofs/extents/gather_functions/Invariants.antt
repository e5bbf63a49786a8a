-- `extents::gather_functions` meets its contract.
use Prim.Native.Nat.{◌-◌}
use lib.ListN.{length}
use Rattle.symbols.proofs.extents.GatherLaws.{Gathering}
use Rattle.symbols.proofs.extents.gather_functions.Given as goal

abbrev pub invariant-loop-field : goal.invariant-loop-field
invariant-loop-field l = Gathering l.s l.initial.work l.work l.p l.n

abbrev pub decreases-loop-field : goal.decreases-loop-field
decreases-loop-field l = length l.s - l.p
