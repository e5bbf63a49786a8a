-- Writing the table of a sheet's units: a record of it, and a turn of the loop over the fields.
use mathlib.Core.Path.{◌≡◌, refl, sym, ap, ◌∙◌}
use mathlib.Core.Logic.{inl}
use mathlib.Core.List.{List, [], ◌∷◌, ◌++◌, map, append-nil, append_assoc}
use Prim.Native.Nat.{ℕ, ◌+◌, ◌*◌, ◌≤◌}
use native.Mathlib.Omega.{arith}
use lib.ListN.{length, take, drop, length-append, length-map}
use Rattle.std.specs.Prelude.{Some, None}
use Rattle.tlv.specs.declared.fields.FieldSpan.{FieldSpan}
use Rattle.tlv.specs.Bytes.{le_at}
use Rattle.tlv.specs.Fields.{FieldList, fields}
use Rattle.tlv.specs.Cursor.{step_at, field_from}
use Rattle.tlv.specs.Checked.{field_in, Placed}
use Rattle.tlv.proofs.FieldLaws.{is-step, at-none, fields-field, field-within, payload-length, payload-within}
use Rattle.tlv.proofs.PlaceFacts.{placed-next}
use Rattle.tlv.proofs.PlacePromises.{placed-unit}
use Rattle.buffers.specs.Table.{chunk, records, Kept, Wrote}
use Rattle.buffers.proofs.ChunkLaws.{le_at-chunk, le_at-front}
use Rattle.buffers.proofs.TableLaws.{kept_refl, kept_trans, kept-wide, le_at-kept}
use Rattle.buffers.proofs.RecordLaws.{records-length, records-nil, records-push}
use Rattle.access.specs.Places.{unit_places}
use Rattle.access.specs.Units.{indexed_unit, unit_of24, PutUnit, IndexedUnits}
use Rattle.access.proofs.UnitFacts.{unit-offset, unit-length}
use Rattle.access.proofs.IndexModel.{places-unit, places-other}

-- ---- a record of the table

-- the numbers of a record
pub unit-is : (w : List ℕ) (p o n q : ℕ) → le_at 8 w p ≡ o → le_at 8 w (p + 8) ≡ n → le_at 8 w (p + 16) ≡ q
    → unit_of24 (chunk w p 24) ≡ record { offset = o; length = n; place = q }
unfolding unit_of24
unit-is w p o n q eo en eq = λ i. record {
  offset = (le_at-front 8 w p 24 (omega arith) ∙ eo) i;
  length = (le_at-chunk 8 w p 24 8 (omega arith) ∙ en) i;
  place = (le_at-chunk 8 w p 24 16 (omega arith) ∙ eq) i;
}

-- its three numbers, written one after the other
pub put-unit : {w w₁ w₂ w₃ : List ℕ} {p o n q : ℕ} → Wrote w w₁ p 8 o → Wrote w₁ w₂ (p + 8) 8 n → Wrote w₂ w₃ (p + 16) 8 q → PutUnit w w₃ p o n q
put-unit {w} {w₁} {w₂} {w₃} {p} {o} {n} {q} A B C = record {
  unit = unit-is w₃ p o n q
      (le_at-kept 8 p C.rest (inl (omega arith)) ∙ le_at-kept 8 p B.rest (inl (omega arith)) ∙ A.value)
      (le_at-kept 8 (p + 8) C.rest (inl (omega arith)) ∙ B.value)
      C.value;
  rest = kept_trans (kept-wide p 24 A.rest (omega arith) (omega arith))
      (kept_trans (kept-wide p 24 B.rest (omega arith) (omega arith)) (kept-wide p 24 C.rest (omega arith) (omega arith)));
}

-- ---- the units from a place on

module _ (s : List ℕ) (p : ℕ) where
  places-end : None ≡ field_from s p → unit_places p (fields (drop p s)) ≡ []
  unfolding unit_places
  places-end at = at-none s p at (λ (fs : FieldList). unit_places p fs ≡ []) refl refl

  module _ (f : FieldSpan) (at : Some f ≡ field_from s p) where
    past_is : p + 3 + length (take f.len (drop f.start s)) ≡ f.next
    past_is = let w = field-within s p f at in omega (arith, payload-length s p f at)

    places-here : f.tag ≡ 0x10 → unit_places p (fields (drop p s)) ≡ p ∷ unit_places f.next (fields (drop f.next s))
    places-here is = rw (fields-field s p f at) (places-unit p (field_in s f.tag f.start f.len) (fields (drop f.next s)) f.next past_is is)

    places-past : (f.tag ≡ 0x10 → ⊥) → unit_places p (fields (drop p s)) ≡ unit_places f.next (fields (drop f.next s))
    places-past h = rw (fields-field s p f at) (places-other p (field_in s f.tag f.start f.len) (fields (drop f.next s)) f.next past_is h)

    -- the unit at p, of the offset o and the length n
    indexed-here : (o n : ℕ) → Placed s p → f.tag ≡ 0x10 → o ≡ le_at 8 s f.start → n ≡ le_at 8 s (f.start + 8)
        → indexed_unit s p ≡ record { offset = o; length = n; place = p }
    unfolding indexed_unit
    indexed-here o n h is eo en = λ i. record {
      offset = (unit-offset s p (step_at s p) f.tag f.start f.len f.next refl (is-step s p f at) h is ∙ sym eo) i;
      length = (unit-length s p (step_at s p) f.tag f.start f.len f.next refl (is-step s p f at) h is ∙ sym en) i;
      place = p;
    }

-- ---- the loop: n units are written, and those from p on are left

pub record Listing (s w₀ w : List ℕ) (base p n : ℕ) : Type 0 where
  pub placed : Placed s p
  pub left : records unit_of24 24 w base n ++ map (indexed_unit s) (unit_places p (fields (drop p s))) ≡ map (indexed_unit s) (unit_places 0 (fields s))
  pub rest : Kept w₀ w base (24 * n)
  pub size : length w ≡ length w₀

pub listing_start : (s w : List ℕ) (base : ℕ) → Placed s 0 → Listing s w w base 0 0
listing_start s w base h = record {
  placed = h;
  left = rw (records-nil unit_of24 24 w base);
  rest = kept_refl w base (24 * 0);
  size = refl;
}

module _ {s w₀ w : List ℕ} {base p n : ℕ} (I : Listing s w₀ w base p n) where
  listing-done : unit_places p (fields (drop p s)) ≡ [] → IndexedUnits s w₀ w base n
  listing-done none =
      let all : records unit_of24 24 w base n ≡ map (indexed_unit s) (unit_places 0 (fields s)) =
      sym (append-nil (records unit_of24 24 w base n)) ∙ rw none at I.left in
      record {
        table = all;
        count = sym (records-length unit_of24 24 w base n) ∙ ap length all ∙ length-map (unit_places 0 (fields s)) (indexed_unit s);
        rest = I.rest;
        size = I.size;
      }

  pub listing-end : None ≡ field_from s p → IndexedUnits s w₀ w base n
  listing-end at = listing-done (places-end s p at)

  module _ (f : FieldSpan) (at : Some f ≡ field_from s p) where
    long : f.tag ≡ 0x10 → f.start + 18 ≤ length s
    long is =
        let l = placed-unit s p (step_at s p) f.tag f.start f.len f.next I.placed refl (is-step s p f at) is in
        let w = payload-within s p f at in
        omega arith

    -- the offset and the length of a unit can be read
    pub offset_read : f.tag ≡ 0x10 → f.start + 8 ≤ length s
    offset_read is = let l = long is in omega arith

    pub length-read : f.tag ≡ 0x10 → f.start + 8 + 8 ≤ length s
    length-read is = let l = long is in omega arith

    -- and there is room for its record
    pub unit-room : f.tag ≡ 0x10 → base + 24 * length (unit_places 0 (fields s)) ≤ length w₀ → base + n * 24 + 24 ≤ length w
    unit-room is h =
        let count = ap length I.left in
        let size = I.size in
        omega (arith, rw (places-here s p f at is, length-append, records-length, length-map, length-map) at count)

    next-placed : Placed s f.next
    next-placed = placed-next s p (step_at s p) f.tag f.start f.len f.next I.placed refl (is-step s p f at)

    pub turn-listed : (o m : ℕ) {w' : List ℕ} → f.tag ≡ 0x10 → o ≡ le_at 8 s f.start → m ≡ le_at 8 s (f.start + 8) → PutUnit w w' (base + n * 24) o m p
        → length w' ≡ length w → Listing s w₀ w' base f.next (n + 1)
    turn-listed o m {w'} is eo em P same =
        let here = indexed-here s p f at o m I.placed is eo em in
        record {
          placed = next-placed;
          left = rw (records-push unit_of24 24 base n (indexed_unit s p) P.rest (P.unit ∙ sym here), append_assoc)
              (rw (places-here s p f at is) at I.left);
          rest = kept_trans (kept-wide base (24 * (n + 1)) I.rest (omega arith) (omega arith)) (kept-wide base (24 * (n + 1)) P.rest (omega arith) (omega arith));
          size = same ∙ I.size;
        }

    pub turn-passed : (f.tag ≡ 0x10 → ⊥) → Listing s w₀ w base f.next n
    turn-passed h = record {
      placed = next-placed;
      left = rw (← places-past s p f at h) I.left;
      rest = I.rest;
      size = I.size;
    }
