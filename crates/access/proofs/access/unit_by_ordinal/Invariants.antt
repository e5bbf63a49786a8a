-- `access::unit_by_ordinal` meets its contract. The loop's invariant: the unit that is looked for has the number `left` among those from p on.
use mathlib.Core.Path.{◌≡◌}
use Prim.Native.Nat.{◌-◌}
use lib.ListN.{length, drop}
use Rattle.tlv.specs.Lists.{at}
use Rattle.tlv.specs.Fields.{fields}
use Rattle.access.specs.Places.{unit_places}
use Rattle.access.proofs.access.unit_by_ordinal.Given as goal

abbrev pub invariant-loop-field : goal.invariant-loop-field
invariant-loop-field l = at (unit_places 0 (fields l.s)) l.ordinal ≡ at (unit_places l.p (fields (drop l.p l.s))) l.left

abbrev pub decreases-loop-field : goal.decreases-loop-field
decreases-loop-field l = length l.s - l.p
