-- How many fields 1f stand from a place on before the next unit: a step of the count, the loop that counts them, and the unit's own number.
use mathlib.Core.Path.{◌≡◌, refl}
use mathlib.Core.List.{List}
use Prim.Native.Nat.{ℕ, suc, ◌+◌, ◌≤◌}
use native.Mathlib.Omega.{arith}
use borrow.Author.Tests.{eq-eqb, ne_eqb}
use lib.ListN.{length}
use Rattle.std.specs.Prelude.{Some, None}
use Rattle.tlv.specs.declared.fields.FieldSpan.{FieldSpan}
use Rattle.tlv.specs.Lists.{take_while}
use Rattle.tlv.specs.Fields.{FieldList, whole_fields, payloads}
use Rattle.tlv.specs.Model.{unit_of}
use Rattle.tlv.specs.Cursor.{Step, field_here, step_at, field_from}
use Rattle.tlv.proofs.CursorLaws.{fields-field}
use Rattle.tlv.proofs.FieldLaws.{is-step, at-none, next-counts}
use Rattle.access.specs.Places.{unit_fields, unit_here, lists_from}

module _ (s : List ℕ) (p : ℕ) (r : Step) (at : r ≡ step_at s p) where
  module _ (t start len next : ℕ) (e : r ≡ field_here t start len next) where
    pub lists-unit : t ≡ 0x10 → lists_from s p ≡ 0
    unfolding lists_from unit_fields take_while whole_fields payloads
    lists-unit h = rw (fields-field s p r t start len next at e, eq-eqb t 0x10 h)

    pub lists-one : (t ≡ 0x10 → ⊥) → t ≡ 0x1f → lists_from s p ≡ suc (lists_from s next)
    unfolding lists_from unit_fields take_while whole_fields payloads
    lists-one h k = rw (fields-field s p r t start len next at e, ne_eqb t 0x10 h, eq-eqb t 0x1f k)

    pub lists-other : (t ≡ 0x10 → ⊥) → (t ≡ 0x1f → ⊥) → lists_from s p ≡ lists_from s next
    unfolding lists_from unit_fields take_while whole_fields payloads
    lists-other h k = rw (fields-field s p r t start len next at e, ne_eqb t 0x10 h, ne_eqb t 0x1f k)

    -- the unit at p has those behind its field 10
    pub unit-lists : (unit_here s p).lists ≡ lists_from s next
    unfolding unit_here unit_of lists_from
    unit-lists = rw (fields-field s p r t start len next at e)

-- ---- the loop: n are counted, and those from p on are left

pub record CountingLists (s : List ℕ) (p₀ p n : ℕ) : Type 0 where
  pub whole : n + lists_from s p ≡ lists_from s p₀
  pub few : n ≤ p

module _ {s : List ℕ} {p₀ p n : ℕ} (C : CountingLists s p₀ p n) where
  counted-all : lists_from s p ≡ 0 → n ≡ lists_from s p₀
  counted-all z = let w = C.whole in omega arith

  pub counted-end : None ≡ field_from s p → n ≡ lists_from s p₀
  unfolding lists_from unit_fields take_while whole_fields payloads
  counted-end at = counted-all (at-none s p at (λ (fs : FieldList). length (payloads 0x1f (unit_fields fs)) ≡ 0) (omega arith) (omega arith))

  module _ (f : FieldSpan) (at : Some f ≡ field_from s p) where
    pub counted-unit : f.tag ≡ 0x10 → n ≡ lists_from s p₀
    counted-unit h = counted-all (lists-unit s p (step_at s p) refl f.tag f.start f.len f.next (is-step s p f at) h)

    pub count-below : n + 1 ≤ f.next
    count-below = next-counts s p f at n C.few

    pub counting_one : (f.tag ≡ 0x10 → ⊥) → f.tag ≡ 0x1f → CountingLists s p₀ f.next (n + 1)
    counting_one h k = record { whole = omega (arith, lists-one s p (step_at s p) refl f.tag f.start f.len f.next (is-step s p f at) h k, C.whole); few = count-below }

    pub counting-other : (f.tag ≡ 0x10 → ⊥) → (f.tag ≡ 0x1f → ⊥) → CountingLists s p₀ f.next n
    counting-other h k = record { whole = omega (arith, lists-other s p (step_at s p) refl f.tag f.start f.len f.next (is-step s p f at) h k, C.whole); few = omega (arith, count-below) }
