-- `access::attribute` meets its contract. The loop's invariant: the attribute that is looked for is the first of its name from here on.
use mathlib.Core.Path.{◌≡◌}
use mathlib.Core.List.{map}
use Prim.Native.Nat.{◌-◌}
use lib.ListN.{length, drop}
use Rattle.tlv.specs.Lists.{first}
use Rattle.tlv.specs.Fields.{fields, payloads}
use Rattle.tlv.specs.Model.{attribute_of}
use Rattle.tlv.specs.Checked.{Placed}
use Rattle.access.specs.Places.{own_fields}
use Rattle.access.specs.Access.{is_named, meaning_of}
use Rattle.access.proofs.access.attribute.Given as goal

abbrev pub invariant-loop-field : goal.invariant-loop-field
invariant-loop-field l = Placed l.s l.at × (meaning_of (first (is_named l.name) (map attribute_of (payloads 0x18 (own_fields (fields (drop l.p l.s)))))) ≡ meaning_of (first (is_named l.name) (map attribute_of (payloads 0x18 (own_fields (fields (drop l.at l.s)))))))

abbrev pub decreases-loop-field : goal.decreases-loop-field
decreases-loop-field l = length l.s - l.at
