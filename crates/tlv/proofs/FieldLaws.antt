-- The field at a place: what it says of its places and of the fields from there on, and what it says where there is none.
use mathlib.Core.Path.{◌≡◌, refl, ◌∙◌, ap}
use mathlib.Core.List.{List}
use mathlib.Core.Logic.{◌⊎◌, inl, inr}
use Prim.Native.Nat.{ℕ, ◌+◌, ◌-◌, ◌<◌, ◌≤◌}
use native.Mathlib.Omega.{arith}
use lib.ListN.{length, take, drop}
use borrow.Author.Tests.{eq-eqb, ne_eqb}
use Rattle.std.specs.Prelude.{Option, Some, None}
use Rattle.tlv.specs.declared.fields.FieldSpan.{FieldSpan}
use Rattle.tlv.specs.Fields.{FieldList, end, cut, more, fields, whole_fields, payloads}
use Rattle.tlv.specs.Cursor.{Step, field_here, cut_short, nothing_left, step_at, fields_of, span_of, field_from}
use Rattle.tlv.proofs.CursorLaws as cursor

spanned : (r : Step) (f : FieldSpan) → Some f ≡ span_of r → r ≡ field_here f.tag f.start f.len f.next
unfolding span_of
spanned nothing_left f e = cc
spanned cut_short f e = cc
spanned (field_here t start n next) f e = cc

-- ---- there is a field

module _ (s : List ℕ) (p : ℕ) (f : FieldSpan) (at : Some f ≡ field_from s p) where
  pub is-step : step_at s p ≡ field_here f.tag f.start f.len f.next
  is-step = spanned (step_at s p) f at

  pub field-within : (f.start ≡ p + 3) × (f.next ≡ f.start + f.len) × (f.next ≤ length s)
  field-within = cursor.field-within s p (step_at s p) f.tag f.start f.len f.next refl is-step

  pub next-less : length s - f.next < length s - p
  next-less = let w = field-within in omega arith

  pub next-within : f.next ≤ length s
  next-within = field-within.2

  -- a counter that is at most the place stays so, with one more a field too
  pub next-counts : (k : ℕ) → k ≤ p → k + 1 ≤ f.next
  next-counts k h = let w = field-within in omega arith

  pub next-keeps : (k : ℕ) → k ≤ p → k ≤ f.next
  next-keeps k h = let w = field-within in omega arith

  pub payload-within : f.start + f.len ≤ length s
  payload-within = let w = field-within in omega arith

  pub payload-length : length (take f.len (drop f.start s)) ≡ f.len
  payload-length = cursor.payload-length s p (step_at s p) f.tag f.start f.len f.next refl is-step

  -- the fields from the place on begin with that field
  pub fields-field : fields (drop p s) ≡ more (record { tag = f.tag; payload = take f.len (drop f.start s) }) (fields (drop f.next s))
  fields-field = cursor.fields-field s p (step_at s p) f.tag f.start f.len f.next refl is-step

-- ---- what a call of next_field gave: a crate whose src/lib.rt names these in its `tactic(auto, using(..))` leaves the measure and the bounds of a walk over
-- fields to the check

module _ (s : List ℕ) (p : ℕ) (r : Option FieldSpan) (f : FieldSpan) (at : r ≡ field_from s p) (is : r ≡ Some f) where
  given : Some f ≡ field_from s p
  given = rw is at at

  pub goes_on : length s - f.next < length s - p
  goes_on = next-less s p f given

  pub lies_within : f.start + f.len ≤ length s
  lies_within = payload-within s p f given

-- ---- there is none

no-span : (r : Step) → None ≡ span_of r → (r ≡ nothing_left) ⊎ (r ≡ cut_short)
unfolding span_of
no-span nothing_left e = inl refl
no-span cut_short e = inr refl
no-span (field_here t start n next) e = cc

module _ (s : List ℕ) (p : ℕ) (at : None ≡ field_from s p) where
  pub no-step : (step_at s p ≡ nothing_left) ⊎ (step_at s p ≡ cut_short)
  no-step = no-span (step_at s p) at

  -- where bytes are left, it is cut
  pub cut-here : p < length s → step_at s p ≡ cut_short
  cut-here h = ending p no-step h
    where
      ending : (q : ℕ) → (step_at s q ≡ nothing_left) ⊎ (step_at s q ≡ cut_short) → q < length s → step_at s q ≡ cut_short
      ending q (inl e) k = absurd (cursor.never-end s q k e)
      ending q (inr e) k = e

  pub no-field : (fields (drop p s) ≡ end) ⊎ (fields (drop p s) ≡ cut)
  no-field = go no-step
    where
      go : (step_at s p ≡ nothing_left) ⊎ (step_at s p ≡ cut_short) → (fields (drop p s) ≡ end) ⊎ (fields (drop p s) ≡ cut)
      go (inl e) = inl (cursor.fields-at s p ∙ ap (fields_of s) e)
      go (inr e) = inr (cursor.fields-at s p ∙ ap (fields_of s) e)

  -- so what is alike for both ends holds of the fields from there on
  pub at-none : (P : FieldList → Type 0) → P end → P cut → P (fields (drop p s))
  at-none P a b = go no-field
    where
      go : (fields (drop p s) ≡ end) ⊎ (fields (drop p s) ≡ cut) → P (fields (drop p s))
      go (inl e) = rw e a
      go (inr e) = rw e b

-- ---- a turn of a loop that counts the fields of a tag: n are counted, and m are to be counted in all

module _ (s : List ℕ) (tag p n m : ℕ) (inv : m ≡ n + length (payloads tag (whole_fields (fields (drop p s))))) where
  pub count-none : None ≡ field_from s p → n ≡ m
  unfolding whole_fields payloads
  count-none at = go (no-field s p at)
    where
      go : (fields (drop p s) ≡ end) ⊎ (fields (drop p s) ≡ cut) → n ≡ m
      go (inl e) = let here = rw e at inv in omega arith
      go (inr e) = let here = rw e at inv in omega arith

  module _ (f : FieldSpan) (at : Some f ≡ field_from s p) where
    pub count-one : f.tag ≡ tag → m ≡ n + 1 + length (payloads tag (whole_fields (fields (drop f.next s))))
    unfolding whole_fields payloads
    count-one h = let here = rw (fields-field s p f at, eq-eqb f.tag tag h) at inv in omega arith

    pub count-other : (f.tag ≡ tag → ⊥) → m ≡ n + length (payloads tag (whole_fields (fields (drop f.next s))))
    unfolding whole_fields payloads
    count-other h = rw (fields-field s p f at, ne_eqb f.tag tag h) at inv
