-- Passing over operands: what a place and its outcome promise, and one law for each way through a function.
use mathlib.Core.Path.{◌≡◌, refl, sym, ap, ◌∙◌}
use mathlib.Core.Bool.{Bool, true, false}
use mathlib.Core.List.{List, [], ◌∷◌}
use Prim.Native.Nat.{ℕ, zero, suc, ◌+◌, ◌-◌, ◌%◌, ◌≤◌, ◌<◌}
use native.Mathlib.Omega.{arith}
use borrow.Author.Tests.{lt-ltb, le-ltb, eq-eqb}
use lib.ListN.{length, get_or, drop, replicate, drop_of_length-le}
use Rattle.tlv.specs.Outcome.{Outcome, refused, done, ◌>>=◌}
use Rattle.std.specs.Prelude.{Result, Ok, Err}
use Rattle.line_program.specs.declared.operand.Skipped.{Skipped}
use Rattle.line_program.specs.Standard.{unsigned, signed, Passed}
use Rattle.line_program.specs.Program.{counted_kinds, skip_operand, skip_operands}
use Rattle.tlv.specs.declared.refusal.Refusal.{Refusal}
use Rattle.line_program.specs.Passing.{pass_within}
use Rattle.line_program.specs.Scan.{over, Passes, SkipsTo}
use Rattle.line_program.proofs.UlebLaws.{drop_at}

-- the same of another outcome that is the same
pub passes-as : {s : List ℕ} {p : ℕ} {r : Result Skipped Refusal} {o u : Outcome Passed} → u ≡ o → Passes s p r o → Passes s p r u
passes-as e P = record { is = P.is ∙ sym e; within = P.within }

pub skips-as : {s : List ℕ} {p : ℕ} {r : Result ℕ Refusal} {o u : Outcome (List ℕ)} → u ≡ o → SkipsTo s p r o → SkipsTo s p r u
skips-as e P = record { is = P.is ∙ sym e; within = P.within }

-- what is passed over ends no sequence
pub over-skip : {s : List ℕ} {p n : ℕ} {o : Outcome (List ℕ)} → SkipsTo s p (Ok n) o → Passes s p (Ok (Skipped.To n)) (over o)
unfolding ◌>>=◌
over-skip Q = record { is = rw (← Q.is); within = Q.within }

pub over-err : {s : List ℕ} {p q : ℕ} {f : Refusal} {o : Outcome (List ℕ)} → SkipsTo s p (Err f) o → Passes s q (Err f) (over o)
unfolding ◌>>=◌
over-err Q = record { is = rw (← Q.is); within = tt }

-- ---- n operands

-- k unsigned operands
abbrev pub unsigned_ones : ℕ → List ℕ → Outcome (List ℕ)
unsigned_ones k l = skip_operands (replicate k unsigned) l

-- from p on, k operands are left
pub record Going (s : List ℕ) (at p : ℕ) (o : Outcome (List ℕ)) (k : ℕ) : Type 0 where
  pub goes : o ≡ unsigned_ones k (drop p s)
  pub from : at ≤ p
  pub within : p ≤ length s

pub going_start : (s : List ℕ) (at k : ℕ) → at ≤ length s → Going s at at (unsigned_ones k (drop at s)) k
going_start s at k h = record { goes = refl; from = omega arith; within = h }

going_on : (k : ℕ) (l : List ℕ) → 0 < k → unsigned_ones k l ≡ (skip_operand unsigned l >>= unsigned_ones (k - 1))
unfolding skip_operands
going_on k l h = let z : k ≡ suc (k - 1) = omega arith in ap (λ (x : ℕ). unsigned_ones x l) z

module _ {s : List ℕ} {at p : ℕ} {o : Outcome (List ℕ)} {k : ℕ} where
  pub going_done : Going s at p o k → k ≤ 0 → SkipsTo s at (Ok p) o
  unfolding skip_operands
  going_done G h =
      let z : k ≡ 0 = omega arith in
      record { is = sym (G.goes ∙ ap (λ (x : ℕ). unsigned_ones x (drop p s)) z); within = (G.from, G.within) }

module _ {s : List ℕ} {at p : ℕ} {o : Outcome (List ℕ)} {k : ℕ} (G : Going s at p o k) (h : 0 < k) where
  pub going_err : {f : Refusal} → SkipsTo s p (Err f) (skip_operand unsigned (drop p s)) → SkipsTo s at (Err f) o
  unfolding ◌>>=◌
  going_err Q = record { is = sym (G.goes ∙ going_on k (drop p s) h ∙ ap (λ (x : Outcome (List ℕ)). x >>= unsigned_ones (k - 1)) (sym Q.is)); within = tt }

  pub going_next : {n : ℕ} → SkipsTo s p (Ok n) (skip_operand unsigned (drop p s)) → Going s at n o (k - 1)
  unfolding ◌>>=◌
  going_next Q = record {
    goes = G.goes ∙ going_on k (drop p s) h ∙ ap (λ (x : Outcome (List ℕ)). x >>= unsigned_ones (k - 1)) (sym Q.is);
    from = omega (arith, G.from, Q.within.0);
    within = Q.within.1;
  }

-- ---- one operand

-- from p on, k + 1 bytes may be left of an operand at `at`
pub record Passing (fits : ℕ → Bool) (o : Outcome (List ℕ)) (s : List ℕ) (at k p : ℕ) : Type 0 where
  pub goes : o ≡ pass_within fits k (drop p s)
  pub from : at ≤ p

pub passing-start : (fits : ℕ → Bool) (o : List ℕ → Outcome (List ℕ)) (s : List ℕ) (at : ℕ) → ((l : List ℕ) → o l ≡ pass_within fits 9 l)
    → Passing fits (o (drop at s)) s at 9 at
passing-start fits o s at e = record { goes = e (drop at s); from = omega arith }

cut-any : (fits : ℕ → Bool) (k : ℕ) → pass_within fits k [] ≡ refused 7
unfolding pass_within
cut-any fits zero = refl
cut-any fits (suc k) = refl

module _ (fits : ℕ → Bool) (o : Outcome (List ℕ)) (s : List ℕ) (at k p : ℕ) (R : Passing fits o s at k p) where
  pub passing-cut : length s ≤ p → SkipsTo s at (Err Refusal.Cut) o
  unfolding ◌>>=◌
  passing-cut h = record
      { is = sym (R.goes ∙ ap (λ (l : List ℕ). pass_within fits k l) (drop_of_length-le s {i = p} h) ∙ cut-any fits k); within = tt }

  module _ (h : p < length s) where
    at_byte : (j : ℕ) → k ≡ j → o ≡ pass_within fits j (get_or s p 0 ∷ drop (p + 1) s)
    at_byte j z = R.goes ∙ (λ i. pass_within fits (z i) (drop_at s p (get_or s p 0) h refl i))

    passed-byte : (j : ℕ) → k ≡ j → pass_within fits j (get_or s p 0 ∷ drop (p + 1) s) ≡ done (drop (p + 1) s) → SkipsTo s at (Ok (p + 1)) o
    unfolding ◌>>=◌
    passed-byte j z f = record { is = sym (at_byte j z ∙ f); within = (omega (arith, R.from), omega arith) }

    pub passing-overflow : k ≡ 0 → fits (get_or s p 0 % 128) ≡ false → SkipsTo s at (Err Refusal.Overflowing) o
    unfolding pass_within ◌>>=◌
    passing-overflow z g = record { is = sym (rw g at (at_byte 0 z)); within = tt }

    pub passing-tenth : k ≡ 0 → fits (get_or s p 0 % 128) ≡ true → get_or s p 0 < 128 → SkipsTo s at (Ok (p + 1)) o
    unfolding pass_within
    passing-tenth z g l = passed-byte 0 z (rw (g, lt-ltb (get_or s p 0) 128 l))

    pub passing-overlong : k ≡ 0 → fits (get_or s p 0 % 128) ≡ true → 128 ≤ get_or s p 0 → SkipsTo s at (Err Refusal.Overlong) o
    unfolding pass_within ◌>>=◌
    passing-overlong z g l = record { is = sym (rw (g, le-ltb (get_or s p 0) 128 l) at (at_byte 0 z)); within = tt }

    pub passing-end : (k ≡ 0 → ⊥) → get_or s p 0 < 128 → SkipsTo s at (Ok (p + 1)) o
    unfolding pass_within
    passing-end n l = let z : k ≡ suc (k - 1) = omega arith in passed-byte (suc (k - 1)) z (rw (lt-ltb (get_or s p 0) 128 l))

    pub passing-more : (k ≡ 0 → ⊥) → 128 ≤ get_or s p 0 → Passing fits o s at (k - 1) (p + 1)
    unfolding pass_within
    passing-more n l =
        let z : k ≡ suc (k - 1) = omega arith in
        record { goes = rw (le-ltb (get_or s p 0) 128 l) at (at_byte (suc (k - 1)) z); from = omega (arith, R.from) }

-- ---- the operands that a header counts

bind_done : (x : Outcome (List ℕ)) → (x >>= λ t. done t) ≡ x
unfolding ◌>>=◌
bind_done (refused n) = refl
bind_done (done t) = refl

module _ (s : List ℕ) (o n at : ℕ) (r : Result ℕ Refusal) where
  pub counted-signed : o ≡ 3 → n ≡ 1 → SkipsTo s at r (skip_operand signed (drop at s))
      → SkipsTo s at r (skip_operands (counted_kinds o n) (drop at s))
  unfolding skip_operands
  counted-signed h k P = skips-as (rw (eq-eqb o 3 h, eq-eqb n 1 k) (bind_done (skip_operand signed (drop at s)))) P
