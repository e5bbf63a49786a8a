-- `units::index_units` meets its contract. The loop's invariant: what is written and the units that are left make the table.
use Prim.Native.Nat.{◌-◌}
use lib.ListN.{length}
use Rattle.access.proofs.UnitsLaws.{Listing}
use Rattle.access.proofs.units.index_units.Given as goal

abbrev pub invariant-loop-field : goal.invariant-loop-field
invariant-loop-field l = Listing l.s l.initial.work l.work l.base l.p l.n

abbrev pub decreases-loop-field : goal.decreases-loop-field
decreases-loop-field l = length l.s - l.p
