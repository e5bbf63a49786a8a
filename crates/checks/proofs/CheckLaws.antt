-- Refusals 1 to 5.
use mathlib.Core.Path.{◌≡◌, refl, sym, ap, ◌∙◌}
use mathlib.Core.Bool.{Bool, true, false, not, ◌&&◌, ◌||◌, true≢false}
use mathlib.Core.List.{List, [], ◌∷◌}
use Prim.Native.Nat.{ℕ, ◌+◌, ◌*◌, ◌≤◌}
use native.Mathlib.Omega.{arith}
use lib.Dec.{ltb, eqb}
use lib.ListN.{length}
use borrow.Author.Tests.{ltb-false}
use Rattle.std.specs.Prelude.{Ok, Err, Option as Maybe, Some, None}
use Rattle.tlv.specs.declared.refusal.Refusal.{Refusal}
use Rattle.tlv.specs.Outcome.{refused, done, ◌>>=◌}
use Rattle.tlv.specs.Refusals.{number_of}
use Rattle.tlv.specs.Lists.{at, map_option, is_empty}
use Rattle.tlv.specs.Limits.{input_limit, program_limit, list_limit, field_limit, work_of_field, work_besides}
use Rattle.tlv.specs.Fields.{fields}
use Rattle.tlv.specs.Grammar.{check_input}
use Rattle.tlv.specs.Checked.{Accepted}
use Rattle.tlv.proofs.PlaceFacts.{accepted-count}
use Rattle.access.specs.Places.{unit_here, unit_places}
use Rattle.access.specs.Access.{place_of}
use Rattle.access.proofs.UnitFacts.{unit_of-place}
use Rattle.checks.specs.declared.options.Options.{Options}
use Rattle.checks.specs.Checks.{oversize_of, NotOversize, BothAccepted, ChecksBoth, missing_of, missing_unit, short_of, WorkEnough}
use Rattle.checks.proofs.CountLaws.{accepted-few}

-- ---- refusal 1

neither : (a b c d e : Bool) → (a || b || c || d || e) ≡ false → (a ≡ false) × (b ≡ false) × (c ≡ false) × (d ≡ false) × (e ≡ false)
neither true b c d e h = absurd (true≢false h)
neither false true c d e h = absurd (true≢false h)
neither false false true d e h = absurd (true≢false h)
neither false false false true e h = absurd (true≢false h)
neither false false false false true h = absurd (true≢false h)
neither false false false false false h = (refl, refl, refl, refl, refl)

pub not-oversize : (main supplementary program lists addresses : List ℕ) {b : Bool} → b ≡ oversize_of main supplementary program lists addresses → b ≡ false → NotOversize main supplementary program lists
not-oversize main supplementary program lists addresses e is =
    let n = neither (ltb input_limit (length main)) (ltb input_limit (length supplementary)) (ltb program_limit (length program)) (ltb list_limit (length lists))
    (ltb list_limit (length addresses)) (sym e ∙ is) in
    record {
      main-within = ltb-false input_limit (length main) n.0;
      supplementary-within = ltb-false input_limit (length supplementary) n.1;
      program-within = ltb-false program_limit (length program) n.2;
      lists-within = ltb-false list_limit (length lists) n.3;
    }

-- ---- refusals 2 and 3

pub both-few : {main supplementary : List ℕ} {size n : ℕ} → BothAccepted main supplementary size n → n ≤ field_limit + field_limit
both-few {main} {supplementary} {size} B =
    omega (
      arith,
      B.sum,
      accepted-few main B.main-fields (record { program = size; passes = B.main-accepted }),
      accepted-few supplementary B.supplementary-fields (record { program = size; passes = B.supplementary-accepted }),
    )

module _ {main supplementary : List ℕ} {size : ℕ} where
  pub both-first : {e : Refusal} → refused (number_of e) ≡ check_input size main → ChecksBoth main supplementary size (Err e)
  unfolding ◌>>=◌
  both-first e = record { is = λ f. rw (← e) }

  module _ {m : ℕ} (em : done m ≡ check_input size main) where
    pub both-second : {e : Refusal} → refused (number_of e) ≡ check_input size supplementary → ChecksBoth main supplementary size (Err e)
    unfolding ◌>>=◌
    both-second e = record { is = λ f. rw (← em, ← e) }

    pub both-done : {n : ℕ} → done n ≡ check_input size supplementary → ChecksBoth main supplementary size (Ok (m + n))
    both-done {n} e = record {
      is = record { main-fields = m; supplementary-fields = n; main-accepted = sym em; supplementary-accepted = sym e; sum = refl };
    }

pub checked-few : (s : List ℕ) (size : ℕ) {n : ℕ} → done n ≡ check_input size s → n ≤ field_limit
checked-few s size {n} e = accepted-few s n (record { program = size; passes = sym e })

module _ {main supplementary : List ℕ} {size n : ℕ} (B : BothAccepted main supplementary size n) where
  pub accepted-both : (Accepted main) × (Accepted supplementary)
  accepted-both = (
    record { number = B.main-fields; is = record { program = size; passes = B.main-accepted } },
    record { number = B.supplementary-fields; is = record { program = size; passes = B.supplementary-accepted } },
  )

-- ---- refusal 4

empty-length : (xs : List ℕ) → length xs ≡ 0 → is_empty xs ≡ true
empty-length [] e = refl
empty-length (x ∷ xs) e = absurd (omega arith)

filled-length : (xs : List ℕ) → (length xs ≡ 0 → ⊥) → is_empty xs ≡ false
filled-length [] h = absurd (h refl)
filled-length (x ∷ xs) h = refl

module _ (main : List ℕ) (o : Options) where
  pub missing-all : o.ordinal ≡ None → false ≡ missing_of main o
  unfolding missing_of
  missing-all e = sym (rw e)

  module _ {n : ℕ} (one : o.ordinal ≡ Some n) where
    -- the unit is the one at the place
    by_place : (p : Maybe ℕ) → place_of p ≡ at (unit_places 0 (fields main)) n
        → missing_of main o ≡ missing_unit main n (map_option (unit_here main) (place_of p))
    unfolding missing_of
    by_place p e = rw one (ap (missing_unit main n) (unit_of-place main n p e))

    pub missing-found : {q : ℕ} → place_of (Some q) ≡ at (unit_places 0 (fields main)) n → false ≡ missing_of main o
    unfolding map_option
    missing-found {q} e = sym (by_place (Some q) e)

    module _ (e : place_of None ≡ at (unit_places 0 (fields main)) n) where
      none-there : missing_of main o ≡ not (is_empty main && eqb n 0)
      unfolding map_option
      none-there = by_place None e

      pub missing-filled : (length main ≡ 0 → ⊥) → true ≡ missing_of main o
      missing-filled h = sym (none-there ∙ rw (filled-length main h))

      pub missing-bare : length main ≡ 0 → not (eqb n 0) ≡ missing_of main o
      missing-bare z = sym (none-there ∙ rw (empty-length main z))

-- ---- refusal 5

module _ {main supplementary : List ℕ} {size n : ℕ} (B : BothAccepted main supplementary size n) where
  pub work-enough : (w : List ℕ) (most : ℕ) {b : Bool} → b ≡ short_of w n most → b ≡ false → WorkEnough main supplementary (length w) most
  work-enough w most tested h = record {
    long = λ m k am ak.
        let a = accepted-count main m am in
        let b = accepted-count supplementary k ak in
        let c = accepted-count main B.main-fields (record { program = size; passes = B.main-accepted }) in
        let d = accepted-count supplementary B.supplementary-fields (record { program = size; passes = B.supplementary-accepted }) in
        omega (arith, B.sum, ltb-false (length w) (work_of_field * n + most + work_besides) (sym tested ∙ h));
  }
