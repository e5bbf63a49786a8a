-- The test of a records tray's form, field by field.
use mathlib.Core.Path.{◌≡◌, refl, sym, ap, ◌∙◌}
use mathlib.Core.Bool.{Bool, true, false, ◌&&◌, not}
use mathlib.Core.Logic.{inl, inr}
use mathlib.Core.List.{List}
use Prim.Native.Nat.{ℕ, ◌≤◌, ◌<◌}
use lib.Dec.{eqb, leb, ltb}
use lib.ListN.{length, take, drop}
use Rattle.std.specs.Prelude.{Some, None}
use borrow.Author.Tests.{lt-ltb, le-ltb}
use Rattle.std.proofs.lemmas.Bool.Decides.{leb_tells}
use Rattle.tlv.specs.Bytes.{le_at}
use Rattle.tlv.specs.Model.{range_of}
use Rattle.tlv.specs.declared.model.AddressRange.{AddressRange}
use Rattle.tlv.specs.declared.fields.FieldSpan.{FieldSpan}
use Rattle.tlv.specs.Lists.{exists}
use Rattle.tlv.specs.Fields.{FieldList, end, cut, more, fields}
use Rattle.tlv.specs.Cursor.{field_from}
use Rattle.tlv.specs.Checked.{field_in}
use Rattle.tlv.proofs.CursorLaws.{step_end, fields-at}
use Rattle.tlv.proofs.FieldLaws.{cut-here, fields-field}
use Rattle.buffers.specs.Reader.{records_after, range_formed, records_formed, depth_after, records_form}
use Rattle.lookup.specs.Tray.{up_to_next}
use Rattle.lookup.specs.Walk.{until}

-- ---- a range that is read

not-leb : (a b : ℕ) → not (leb a b) ≡ ltb b a
not-leb a b = elim (leb_tells a b) [
  | inl t ↦ rw (t.0, le-ltb b a t.1)
  | inr t ↦ rw (t.0, lt-ltb b a t.1)
]

pub range-filled : (p : List ℕ) {r : AddressRange} {b : Bool} → r ≡ range_of p → b ≡ leb r.end r.start → not b ≡ range_formed p
unfolding range_formed range_of
range-filled p e eb = rw (eb, e) (not-leb (le_at 8 p 8) (le_at 8 p 0))

-- ---- a turn of the loop: v is the answer for all, and a turn begins at place p

module _ (ends : ℕ → Bool) (s : List ℕ) (p previous depth : ℕ) (v : Bool) (inv : v ≡ records_form previous depth (until ends (fields (drop p s)))) where
  pub turn_end : length s ≤ p → not (eqb previous 0x43) ≡ v
  unfolding records_form until
  turn_end h = sym (inv ∙ rw (fields-at s p, step_end s p h))

  -- bytes that are left and are no whole field
  pub turn-cut : p < length s → None ≡ field_from s p → false ≡ v
  unfolding records_form until
  turn-cut h at = sym (inv ∙ rw (fields-at s p, cut-here s p at h))

  module _ (f : FieldSpan) (at : Some f ≡ field_from s p) (b : Bool) (says : b ≡ ends f.tag) where
    pub turn-ends : b ≡ true → not (eqb previous 0x43) ≡ v
    unfolding records_form until
    turn-ends e = sym (inv ∙ rw (fields-field s p f at, ← says, e))

    module _ (e : b ≡ false) where
      here : v ≡ (exists (eqb f.tag) (records_after previous) && records_formed depth f.tag (take f.len (drop f.start s)) && records_form f.tag
          (depth_after depth (field_in s f.tag f.start f.len)) (until ends (fields (drop f.next s))))
      unfolding records_form until
      here = inv ∙ rw (fields-field s p f at, ← says, e)

      pub turn-order : false ≡ exists (eqb f.tag) (records_after previous) → false ≡ v
      turn-order h = sym (here ∙ rw (← h))

      module _ (g : List ℕ) (is : g ≡ take f.len (drop f.start s)) (order : true ≡ exists (eqb f.tag) (records_after previous)) where
        pub turn-payload : false ≡ records_formed depth f.tag g → false ≡ v
        turn-payload h = sym (here ∙ rw (← order, ← is, ← h))

        pub turn-next : (d : ℕ) → true ≡ records_formed depth f.tag g → d ≡ depth_after depth (record { tag = f.tag; payload = g })
            → v ≡ records_form f.tag d (until ends (fields (drop f.next s)))
        turn-next d h q = here ∙ rw (← order, ← is, ← h, q)

-- ---- what ends a walk

pub until-none : (fs : FieldList) → until (λ t. false) fs ≡ fs
unfolding until
until-none end = refl
until-none cut = refl
until-none (more f fs) = ap (λ (l : FieldList). more f l) (until-none fs)

pub until-function : (fs : FieldList) → until (λ t. eqb t 0x41) fs ≡ up_to_next fs
unfolding until up_to_next
until-function end = refl
until-function cut = refl
until-function (more f fs) = rw (until-function fs) refl
