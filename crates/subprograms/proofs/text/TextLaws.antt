-- A unit's executable ranges in the work slice: the loop that writes them.
use mathlib.Core.Path.{◌≡◌, refl, sym, ap, ◌∙◌}
use mathlib.Core.List.{List, [], ◌∷◌, ◌++◌, map, append-nil, append_assoc}
use Prim.Native.Nat.{ℕ, ◌+◌, ◌*◌, ◌≤◌}
use native.Mathlib.Omega.{arith}
use lib.ListN.{length, drop, length-append}
use Rattle.std.specs.Prelude.{Some, None}
use Rattle.tlv.specs.declared.fields.FieldSpan.{FieldSpan}
use Rattle.tlv.specs.declared.model.AddressRange.{AddressRange}
use Rattle.tlv.specs.Fields.{fields, payloads}
use Rattle.tlv.specs.Model.{range_of}
use Rattle.tlv.specs.Cursor.{step_at}
use Rattle.tlv.specs.Checked.{Placed}
use Rattle.tlv.proofs.PlacePromises.{placed-text}
use Rattle.buffers.specs.declared.table.Stored.{Stored}
use Rattle.buffers.specs.Table.{chunk, Kept}
use Rattle.buffers.proofs.TableLaws.{kept_refl, kept-wide, kept_trans}
use Rattle.access.specs.Places.{own_fields, unit_here}
use Rattle.access.specs.Access.{NextOwn}
use Rattle.access.proofs.OwnLaws.{own-field, own-placed, own-within}
use Rattle.access.proofs.UnitFacts.{unit-text}
use Rattle.files.proofs.UnitLaws.{unit-next, unit-within}
use Rattle.collect.specs.Collects.{UnitIn}
use Rattle.collect.proofs.HeaderPlaces.{unit-stands}
use Rattle.buffers.specs.Table.{PutRange}
use Rattle.ranges.specs.RangeTable.{ranges_at}
use Rattle.ranges.proofs.RangeTableLaws.{ranges-length, ranges-nil, ranges-push}
use Rattle.subprograms.specs.Text.{TextIndexed}

-- ---- the loop that writes the executable ranges of the unit at `place`: n are written, and those of the fields from p on are left

abbrev text_from : List ℕ → ℕ → List AddressRange
text_from s p = map range_of (payloads 0x12 (own_fields (fields (drop p s))))

pub record TextListing (s : List ℕ) (place : ℕ) (w₀ w : List ℕ) (base p n : ℕ) : Type 0 where
  pub placed : Placed s p
  pub left : ranges_at w base n ++ text_from s p ≡ (unit_here s place).text
  pub rest : Kept w₀ w base (16 * n)
  pub size : length w ≡ length w₀

module _ {s : List ℕ} {place : ℕ} (h : Placed s 0) (U : UnitIn s place) where
  -- the place behind the unit's field fits
  pub text-within : place + 21 ≤ length s
  text-within = unit-within (unit-stands h U)

  pub listing_start : (w : List ℕ) (base : ℕ) → TextListing s place w w base (place + 21) 0
  listing_start w base = record {
    placed = unit-next (unit-stands h U);
    left = rw (ranges-nil w base) (sym (unit-text s place (step_at s place) 0x10 (place + 3) 18 (place + 21) refl (unit-stands h U).is));
    rest = kept_refl w base (16 * 0);
    size = refl;
  }

module _ {s : List ℕ} {place : ℕ} {w₀ w : List ℕ} {base p n : ℕ} (L : TextListing s place w₀ w base p n) where
  pub listing-done : {r : Stored AddressRange} → r.base ≡ base → r.count ≡ n → NextOwn s p 0x12 None → TextIndexed s w₀ w place base r
  listing-done based counted own =
      let none : payloads 0x12 (own_fields (fields (drop p s))) ≡ [] = sym own.is in
      let all : ranges_at w base n ≡ (unit_here s place).text =
      sym (append-nil (ranges_at w base n)) ∙ ap (λ (ps : List (List ℕ)). ranges_at w base n ++ map range_of ps) (sym none) ∙ L.left in
      record { base_is = based; table = rw (based, counted) all; count = counted ∙ sym (ranges-length w base n) ∙ ap length all; rest = rw counted L.rest }

  module _ {f : FieldSpan} (own : NextOwn s p 0x12 (Some f)) where
    long : f.len ≡ 16
    long = let x = own-field s p 0x12 f own L.placed in placed-text s x.place (step_at s x.place) 0x12 f.start f.len f.next x.here refl x.is refl

    pub listing-within : f.start + 16 ≤ length s
    listing-within = omega (arith, long, own-within s p 0x12 f own)

    text-more : text_from s p ≡ range_of (chunk s f.start 16) ∷ text_from s f.next
    unfolding chunk
    text-more = ap (map range_of) (sym own.is) ∙ rw long

    -- there is room for one more
    pub listing-room : base + 16 * length (unit_here s place).text ≤ length w₀ → base + n * 16 + 16 ≤ length w
    listing-room room =
        let count = ap length L.left in
        let size = L.size in
        omega (arith, rw (text-more, length-append, ranges-length) at count)

    pub listing-turn : {x : AddressRange} {w' : List ℕ} → x ≡ range_of (chunk s f.start 16) → PutRange w w' (base + n * 16) x → length w' ≡ length w → TextListing s place w₀ w' base f.next (n + 1)
    listing-turn {x} {w'} ex P same = record {
      placed = own-placed s p 0x12 f own L.placed;
      left =
          ap (λ (l : List AddressRange). l ++ text_from s f.next) (ranges-push base n P)
          ∙ append_assoc (ranges_at w base n) (x ∷ []) (text_from s f.next)
          ∙ ap (λ (y : AddressRange). ranges_at w base n ++ (y ∷ text_from s f.next)) ex
          ∙ ap (λ (l : List AddressRange). ranges_at w base n ++ l) (sym text-more)
          ∙ L.left;
      rest = kept_trans (kept-wide base (16 * (n + 1)) L.rest (omega arith) (omega arith)) (kept-wide base (16 * (n + 1)) P.rest (omega arith) (omega arith));
      size = same ∙ L.size;
    }
