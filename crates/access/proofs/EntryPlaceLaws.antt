-- The entry at a place: its attributes, ranges and failure are in the fields behind its field 17, its numbers in that field.
use mathlib.Core.Path.{◌≡◌, refl}
use mathlib.Core.List.{List, map}
use Prim.Native.Nat.{ℕ, ◌+◌}
use native.Mathlib.Omega.{arith}
use lib.ListN.{drop}
use Rattle.tlv.specs.Lists.{first, map_option}
use Rattle.tlv.specs.Bytes.{le_at}
use Rattle.tlv.specs.Fields.{fields, payloads, payload_of}
use Rattle.tlv.specs.Model.{attribute_of, entry_range_of, failure_of, range_list_of, entry_of}
use Rattle.tlv.specs.Cursor.{Step, field_here, step_at}
use Rattle.tlv.specs.Checked.{Placed}
use Rattle.tlv.proofs.CursorLaws.{fields-field}
use Rattle.tlv.proofs.ShapeLaws.{number_at, number-first}
use Rattle.tlv.proofs.PlacePromises.{placed-entry}
use Rattle.std.specs.Prelude.{Option}
use Rattle.access.specs.declared.access.Value.{Value}
use Rattle.access.specs.Places.{own_fields, entry_here}
use Rattle.access.specs.Access.{is_named, meaning_of, Says}

module _ (s : List ℕ) (p : ℕ) (r : Step) (t start len next : ℕ) (reads : r ≡ step_at s p) (e : r ≡ field_here t start len next) where
  pub entry-attributes : (entry_here s p).attributes ≡ map attribute_of (payloads 0x18 (own_fields (fields (drop next s))))
  unfolding entry_here entry_of
  entry-attributes = rw (fields-field s p r t start len next reads e)

  pub entry-ranges : (entry_here s p).ranges ≡ map entry_range_of (payloads 0x19 (own_fields (fields (drop next s))))
  unfolding entry_here entry_of
  entry-ranges = rw (fields-field s p r t start len next reads e)

  pub entry-failure : (entry_here s p).failure ≡ map_option failure_of (payload_of 0x1a (own_fields (fields (drop next s))))
  unfolding entry_here entry_of
  entry-failure = rw (fields-field s p r t start len next reads e)

  pub entry-list : (entry_here s p).list ≡ map_option range_list_of (payload_of 0x1f (own_fields (fields (drop next s))))
  unfolding entry_here entry_of
  entry-list = rw (fields-field s p r t start len next reads e)

  module _ (h : Placed s p) (is : t ≡ 0x17) where
    pub entry-offset_is : (entry_here s p).offset ≡ le_at 8 s start
    unfolding entry_here entry_of
    entry-offset_is =
        let l = placed-entry s p r t start len next h reads e is in
        rw (fields-field s p r t start len next reads e) (number-first s start len 8 (le_at 8 s start) (omega arith) refl)

    pub entry_depth-is : (entry_here s p).depth ≡ le_at 2 s (start + 8)
    unfolding entry_here entry_of
    entry_depth-is =
        let l = placed-entry s p r t start len next h reads e is in
        rw (fields-field s p r t start len next reads e) (number_at s start len 2 8 (le_at 2 s (start + 8)) (omega arith) refl)

    pub entry_tag-is : (entry_here s p).tag ≡ le_at 2 s (start + 10)
    unfolding entry_here entry_of
    entry_tag-is =
        let l = placed-entry s p r t start len next h reads e is in
        rw (fields-field s p r t start len next reads e) (number_at s start len 2 10 (le_at 2 s (start + 10)) (omega arith) refl)

  -- what is said of the first attribute of a name in the fields behind is said of the entry
  pub entry-says : (v : Option Value) (name : ℕ) → Says s v (meaning_of (first (is_named name) (map attribute_of (payloads 0x18 (own_fields (fields (drop next s)))))))
      → Says s v (meaning_of (first (is_named name) (entry_here s p).attributes))
  entry-says v name h = rw entry-attributes h
