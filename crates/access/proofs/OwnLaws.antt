-- The next field of a tag before the next entry or unit: the turns of the loop that looks for it, and what an answer says.
use mathlib.Core.Path.{◌≡◌, refl, sym, ◌∙◌}
use mathlib.Core.Logic.{◌⊎◌, inl, inr}
use mathlib.Core.List.{List, []}
use Prim.Native.Nat.{ℕ, ◌+◌, ◌-◌, ◌≤◌, ◌<◌}
use native.Mathlib.Omega.{arith}
use lib.ListN.{length, drop}
use borrow.Author.Tests.{eq-eqb, ne_eqb}
use Rattle.std.specs.Prelude.{Some, None}
use Rattle.tlv.specs.declared.fields.FieldSpan.{FieldSpan}
use Rattle.tlv.specs.Lists.{take_while}
use Rattle.tlv.specs.Fields.{FieldList, fields, whole_fields, payloads}
use Rattle.tlv.specs.Cursor.{field_here, step_at, field_from}
use Rattle.tlv.specs.Checked.{Placed}
use Rattle.tlv.proofs.FieldLaws.{is-step, at-none, fields-field, field-within, next-keeps}
use Rattle.tlv.proofs.PlaceFacts.{placed-next}
use Rattle.access.specs.Places.{own_fields}
use Rattle.access.specs.Access.{NextOwn}
use Rattle.access.proofs.OrderLaws.{none-after_row}

-- ---- the loop

-- `at` is reached from p, and the payloads of the tag from `at` on are those from p on
pub record Looking (s : List ℕ) (p tag at : ℕ) : Type 0 where
  pub same : payloads tag (own_fields (fields (drop at s))) ≡ payloads tag (own_fields (fields (drop p s)))
  pub ahead : p ≤ at
  pub placed : Placed s p → Placed s at

pub looking-start : (s : List ℕ) (p tag : ℕ) → Looking s p tag p
looking-start s p tag = record { same = refl; ahead = omega arith; placed = λ h. h }

module _ (s : List ℕ) (p tag at : ℕ) (look : Looking s p tag at) where
  no_more : [] ≡ payloads tag (own_fields (fields (drop at s))) → NextOwn s p tag None
  no_more e = record { is = e ∙ look.same; within = tt; stands = tt }

  pub own-end : None ≡ field_from s at → NextOwn s p tag None
  unfolding own_fields take_while whole_fields payloads
  own-end none = no_more (at-none s at none (λ (fs : FieldList). [] ≡ payloads tag (own_fields fs)) refl refl)

  module _ (f : FieldSpan) (reads : Some f ≡ field_from s at) where
    pub own-over : (f.tag ≡ 0x17) ⊎ ((f.tag ≡ 0x17 → ⊥) × (f.tag ≡ 0x10)) → NextOwn s p tag None
    unfolding own_fields take_while whole_fields payloads
    own-over (inl h) = no_more (rw (fields-field s at f reads, eq-eqb f.tag 0x17 h))
    own-over (inr h) = no_more (rw (fields-field s at f reads, ne_eqb f.tag 0x17 h.0, eq-eqb f.tag 0x10 h.1))

    module _ (entry : f.tag ≡ 0x17 → ⊥) (unit : f.tag ≡ 0x10 → ⊥) where
      pub own-found : f.tag ≡ tag → NextOwn s p tag (Some f)
      unfolding own_fields take_while whole_fields payloads
      own-found h =
          let w = field-within s at f reads in
          let before = look.ahead in
          record {
            is = rw (fields-field s at f reads, ne_eqb f.tag 0x17 entry, ne_eqb f.tag 0x10 unit, eq-eqb f.tag tag h) at look.same;
            within = (omega arith, omega arith, omega arith);
            stands = record { place = at; reads = reads; tagged = h; placed = look.placed };
          }

      -- past the rows nothing comes, unless rows are looked for
      pub own_row : Placed s p → (f.tag ≡ tag → ⊥) → f.tag ≡ 0x16 → NextOwn s p tag None
      own_row h other row = record {
        is = sym (none-after_row s at f (look.placed h) reads tag (λ is. other (row ∙ sym is)) row) ∙ look.same;
        within = tt;
        stands = tt;
      }

      pub own-next : (f.tag ≡ tag → ⊥) → Looking s p tag f.next
      unfolding own_fields take_while whole_fields payloads
      own-next h = record {
        same = rw (fields-field s at f reads, ne_eqb f.tag 0x17 entry, ne_eqb f.tag 0x10 unit, ne_eqb f.tag tag h) at look.same;
        ahead = next-keeps s at f reads p look.ahead;
        placed = λ k. placed-next s at (step_at s at) f.tag f.start f.len f.next (look.placed k) refl (is-step s at f reads);
      }

-- ---- an answer

-- a field of tag t at a place of an accepted sheet, as the laws on places ask it
pub record OwnField (s : List ℕ) (t : ℕ) (f : FieldSpan) : Type 0 where
  pub place : ℕ
  pub here : Placed s place
  pub reads : Some f ≡ field_from s place
  pub tagged : f.tag ≡ t
  pub is : step_at s place ≡ field_here t f.start f.len f.next

module _ (s : List ℕ) (p tag : ℕ) (f : FieldSpan) (own : NextOwn s p tag (Some f)) where
  pub own-within : (f.start + f.len ≤ length s) × (p < f.next) × (f.next ≤ length s)
  own-within = own.within

  -- the next place is nearer to the end
  pub own-less : length s - f.next < length s - p
  own-less = let w = own-within in omega arith

  module _ (h : Placed s p) where
    pub own-field : OwnField s tag f
    own-field = let w = own.stands in record { place = w.place; here = w.placed h; reads = w.reads; tagged = w.tagged; is = rw w.tagged at (is-step s w.place f w.reads) }

    -- its next place is a place
    pub own-placed : Placed s f.next
    own-placed = let x = own-field in placed-next s x.place (step_at s x.place) tag f.start f.len f.next x.here refl x.is
