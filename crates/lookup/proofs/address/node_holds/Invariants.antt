-- `address::node_holds` meets its contract.
use mathlib.Core.Path.{◌≡◌}
use Prim.Native.Nat.{◌-◌}
use lib.ListN.{length}
use Rattle.lookup.specs.Walk.{StandsOwn, held_from}
use Rattle.lookup.proofs.address.node_holds.Given as goal

abbrev pub invariant-loop-field : goal.invariant-loop-field
invariant-loop-field l = StandsOwn l.s l.p × (held_from l.s l.own l.address ≡ held_from l.s l.p l.address)

abbrev pub decreases-loop-field : goal.decreases-loop-field
decreases-loop-field l = length l.s - l.p
