-- The places of an accepted sheet: its start is one, the next of one is one, and the field at one passes and may follow the one before it.
use mathlib.Core.Path.{◌≡◌, refl}
use mathlib.Core.Bool.{Bool, true, false≢true}
use mathlib.Core.Logic.{◌⊎◌, inl, inr}
use mathlib.Core.List.{List, [], ◌∷◌}
use Prim.Native.Nat.{ℕ, suc, ◌+◌, ◌<◌}
use native.Mathlib.Omega.{arith}
use lib.Dec.{eqb}
use lib.ListN.{length, drop, get_or}
use mir.Syntax.{w8}
use mir.Val.{Fits}
use borrow.Author.Tests.{eqb-true}
use Rattle.tlv.specs.declared.grammar.Context.{Context}
use Rattle.tlv.specs.Outcome.{done}
use Rattle.tlv.specs.Lists.{Any, exists}
use Rattle.tlv.specs.Bytes.{Bytes}
use Rattle.tlv.specs.Fields.{Field, FieldList, end, cut, more, fields, whole_fields}
use Rattle.tlv.specs.Cursor.{Step, field_here, cut_short, step_at}
use Rattle.tlv.specs.Grammar.{start, after, may_follow, shaped, limited, next, check_from, check_input}
use Rattle.tlv.specs.Checked.{Accepts, field_in, Placed}
use Rattle.tlv.proofs.TestLaws.{by_test}
use Rattle.tlv.proofs.ListLaws.{all_drop}
use Rattle.tlv.proofs.OutcomeLaws.{done-is, refused-not}
use Rattle.tlv.proofs.CursorLaws.{fields-at, fields-field, next-within}
use Rattle.tlv.proofs.AcceptedFields.{AllPassed}
use Rattle.tlv.proofs.AcceptedGroups.{passed-both, fields-bytes, checked-passed}
use Rattle.tlv.proofs.AcceptedCounts.{next-count}

-- ---- an accepted sheet

-- the fields that are checked are counted
counted : (c : Context) (fs : FieldList) (n : ℕ) → check_from c fs ≡ done n → n ≡ c.count + length (whole_fields fs)
unfolding check_from whole_fields
counted c end n e = let k = done-is e in omega arith
counted c cut n e = refused-not e
counted c (more f fs) n e =
    let both = passed-both (shaped c f) (limited c f) (check_from (next c f) fs) n e in
    let rest = counted (next c f) fs n both.2 in
    omega (arith, next-count c f)

-- an accepted sheet of n fields has n whole fields
pub accepted-count : (s : List ℕ) (n : ℕ) → Accepts s n → n ≡ length (whole_fields (fields s))
unfolding check_input
accepted-count s n e = let k = counted (start e.program) (fields s) n e.passes in omega arith

-- what is known of a slice of bytes, as a statement on its list
pub slice-bytes : (s : List ℕ) → ((i : ℕ) → Fits w8 (get_or s i 0)) → Bytes s
slice-bytes [] h = tt
slice-bytes (b ∷ s) h = ((h 0).fits, slice-bytes s (λ i. h (suc i)))

-- ---- its places

-- the start is one
pub placed-start : (s : List ℕ) (n : ℕ) → Accepts s n → Placed s 0
unfolding check_input
placed-start s n e = record { context = start e.program; count = n; passes = e.passes; within = omega arith }

-- the fields from a place on pass, one after the other
pub placed-passed : (s : List ℕ) (p : ℕ) → Bytes s → (h : Placed s p) → AllPassed h.context (whole_fields (fields (drop p s)))
placed-passed s p b h = checked-passed h.context (fields (drop p s)) h.count (fields-bytes 0 (drop p s) (all_drop (λ x. x < 256) p s b)) h.passes

-- no field is cut off there
pub placed-whole : (s : List ℕ) (p : ℕ) (r : Step) → Placed s p → r ≡ step_at s p → r ≡ cut_short → ⊥
unfolding check_from
placed-whole s p r h at e = refused-not (rw (fields-at s p, ← at, e) at h.passes)

-- ---- what may follow

one_of : (u : ℕ) (xs : List ℕ) → exists (eqb u) xs ≡ true → Any (λ x. u ≡ x) xs
unfolding exists
one_of u [] e = absurd (false≢true e)
one_of u (x ∷ xs) e =
    by_test (λ (b : Bool). b ≡ true → (u ≡ x) ⊎ Any (λ x. u ≡ x) xs) (eqb u x) {x = true} {y = exists (eqb u) xs}
    (λ is k. inl (eqb-true u x is)) (λ is k. inr (one_of u xs k)) e

-- a tag that may follow is one of the list
pub follows : (t u : ℕ) → may_follow t u ≡ true → Any (λ x. u ≡ x) (after t)
unfolding may_follow
follows t u e = one_of u (after t) e

pub next-previous : (c : Context) (f : Field) → (next c f).previous ≡ f.tag
unfolding next
next-previous c f = by_test Last (eqb f.tag 0x10) (λ e. refl) (λ e. by_test Last (eqb f.tag 0x17) (λ e. refl) (λ e. refl))
  where
    Last : Context → Type 0
    Last x = x.previous ≡ f.tag

-- ---- the field at a place

module _ (s : List ℕ) (p : ℕ) (r : Step) (t start len past : ℕ) (h : Placed s p) (at : r ≡ step_at s p) (e : r ≡ field_here t start len past) where
  both : (shaped h.context (field_in s t start len) ≡ true) × (limited h.context (field_in s t start len) ≡ true)
      × (check_from (next h.context (field_in s t start len)) (fields (drop past s)) ≡ done h.count)
  unfolding check_from
  both = passed-both _ _ _ _ (rw (fields-field s p r t start len past at e) at h.passes)

  -- it passes, and its next place is a place
  pub placed-shaped : shaped h.context (field_in s t start len) ≡ true
  placed-shaped = both.0

  pub placed-limited : limited h.context (field_in s t start len) ≡ true
  placed-limited = both.1

  -- the fields behind it pass
  pub placed-rest : check_from (next h.context (field_in s t start len)) (fields (drop past s)) ≡ done h.count
  placed-rest = both.2

  pub placed-next : Placed s past
  placed-next = record {
    context = next h.context (field_in s t start len);
    count = h.count;
    passes = placed-rest;
    within = next-within s p r t start len past at e;
  }

-- ---- two fields, one after the other: the second may follow the first
