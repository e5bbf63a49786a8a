-- `address::row_in_force` meets its contract.
use mathlib.Core.Path.{◌≡◌}
use Prim.Native.Nat.{◌-◌}
use lib.ListN.{length}
use Rattle.tlv.specs.Lists.{or_else}
use Rattle.access.specs.Access.{place_of}
use Rattle.lookup.specs.Walk.{StandsOwn, row_from}
use Rattle.lookup.proofs.address.row_in_force.Given as goal

abbrev pub invariant-loop-field : goal.invariant-loop-field
invariant-loop-field l = StandsOwn l.s l.p × (row_from l.s l.own l.address ≡ or_else (row_from l.s l.p l.address) (place_of l.row))

abbrev pub decreases-loop-field : goal.decreases-loop-field
decreases-loop-field l = length l.s - l.p
