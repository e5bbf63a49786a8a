-- Passing over operands and over one instruction, beside the Standard's.
use mathlib.Core.Path.{◌≡◌, refl, ap}
use mathlib.Core.Bool.{Bool, true, false, cond}
use mathlib.Core.List.{List, [], ◌∷◌}
use mathlib.Core.Option.{none, some}
use Prim.Native.Nat.{ℕ, ◌+◌, ◌-◌, ◌^◌, ◌<◌}
use native.Mathlib.Omega.{arith}
use borrow.Author.Tests.{ltb-true, eqb-true, eqb-false, ne_eqb}
use lib.Dec.{leb, ltb, eqb}
use lib.ListN.{length, drop, replicate}
use Rattle.tlv.specs.Outcome.{Outcome, refused, done, ◌>>=◌}
use Rattle.line_program.specs.Standard.{and_then, Operand, leb128, SignedOperand, sleb128, OperandKind, unsigned, signed, half, standard_operands, Opcodes}
use Rattle.line_program.specs.Standard.{declared, operands_of}
use Rattle.line_program.specs.Standard.{after_operand, after_operands, Passed, extended_body as standard_body, extended_of, instruction}
use Rattle.line_program.specs.Program.{uleb, sleb, counted_kinds, operand_kinds, skip_operand, skip_operands, place_of, take_line_bytes, extended_body, extended, skip}
use Rattle.line_program.specs.Conforms.{DeclaresCount, DeclaresStandard, Beside}
use Rattle.line_program.proofs.Operands.{Answer, ended, wide, long, answer}
use Rattle.line_program.proofs.SignedOperands.{Answer as SignedAnswer, ended as signed-ended, wide as signed-wide, long as signed-long, answer as signed-answer}
use Rattle.line_program.proofs.Beside.{beside_none, beside-limit, beside_if, beside_then, beside_map}

-- ---- operands

pub beside_uleb : (s : List ℕ) → Beside (uleb s) (leb128 s)
beside_uleb s = go (uleb s) (answer s)
  where
    go : (r : Outcome Operand) → Answer 9 s r → Beside r (leb128 s)
    go (done o) a = a.is
    go (refused n) (ended e f l) = rw f (beside_none n (omega arith) (omega arith))
    go (refused n) (wide e c l g) = beside-limit n (leb128 s) (omega arith) (omega arith)
    go (refused n) (long e c g) = beside-limit n (leb128 s) (omega arith) (omega arith)

pub beside_sleb : (s : List ℕ) → Beside (sleb s) (sleb128 s)
beside_sleb s = go (sleb s) (signed-answer s)
  where
    go : (r : Outcome SignedOperand) → SignedAnswer 9 s r → Beside r (sleb128 s)
    go (done o) a = a.is
    go (refused n) (signed-ended e f l) = rw f (beside_none n (omega arith) (omega arith))
    go (refused n) (signed-wide e c l g) = beside-limit n (sleb128 s) (omega arith) (omega arith)
    go (refused n) (signed-long e c g) = beside-limit n (sleb128 s) (omega arith) (omega arith)

pub beside_operand : (k : OperandKind) (s : List ℕ) → Beside (skip_operand k s) (after_operand k s)
unfolding skip_operand after_operand
beside_operand unsigned s = beside_map (uleb s) (leb128 s) (λ o. o.rest) (beside_uleb s)
beside_operand signed s = beside_map (sleb s) (sleb128 s) (λ o. o.rest) (beside_sleb s)
beside_operand half s = beside_if (leb 2 (length s)) (done (drop 2 s)) (refused 7) (some (drop 2 s)) none (λ e. refl) (λ e. beside_none 7 (omega arith) (omega arith))

pub beside_operands : (ks : List OperandKind) (s : List ℕ) → Beside (skip_operands ks s) (after_operands ks s)
unfolding skip_operands after_operands
beside_operands [] s = refl
beside_operands (k ∷ ks) s = beside_then (skip_operand k s) (after_operand k s) (skip_operands ks) (after_operands ks) (beside_operand k s) (λ t. beside_operands ks t)

-- ---- the operands of an opcode

module _ (P : ℕ → Type 0) (o : ℕ) where
  -- what holds of i and of every other number holds
  unless : (i : ℕ) → P i → ((o ≡ i → ⊥) → P o) → P o
  unless i p f = go (eqb o i) refl
    where
      go : (t : Bool) → eqb o i ≡ t → P o
      go true e = rw (eqb-true o i e) p
      go false e = f (eqb-false o i e)

module _ (h : Opcodes) (s : List ℕ) where
  abbrev Skips : ℕ → Type 0
  Skips o = DeclaresCount h o → skip_operands (operand_kinds h o) s ≡ skip_operands (operands_of h o) s

  -- where the Standard's number of operands is declared, or does not matter, they are skipped as the Standard's kinds are
  pub same_operands : (o : ℕ) → Skips o
  unfolding standard_operands operand_kinds operands_of skip_operands skip_operand
  same_operands o =
      unless Skips o 1 (λ d. refl) λ n1.
      unless Skips o 2 (λ d. counted 2 (d refl (λ e. omega arith))) λ n2.
      unless Skips o 3 (λ d. single (d refl (λ e. omega arith))) λ n3.
      unless Skips o 4 (λ d. counted 4 (d refl (λ e. omega arith))) λ n4.
      unless Skips o 5 (λ d. counted 5 (d refl (λ e. omega arith))) λ n5.
      unless Skips o 6 (λ d. refl) λ n6.
      unless Skips o 7 (λ d. refl) λ n7.
      unless Skips o 8 (λ d. refl) λ n8.
      unless Skips o 9 (λ d. refl) λ n9.
      unless Skips o 10 (λ d. refl) λ n10.
      unless Skips o 11 (λ d. refl) λ n11.
      unless Skips o 12 (λ d. counted 12 (d refl (λ e. omega arith))) λ n12 d.
      rw (ne_eqb o 1 n1, ne_eqb o 2 n2, ne_eqb o 3 n3, ne_eqb o 4 n4, ne_eqb o 5 n5, ne_eqb o 6 n6)
      (rw (ne_eqb o 7 n7, ne_eqb o 8 n8, ne_eqb o 9 n9, ne_eqb o 10 n10, ne_eqb o 11 n11, ne_eqb o 12 n12))
    where
      single : declared h 3 ≡ 1 → skip_operands (counted_kinds 3 (declared h 3)) s ≡ skip_operands (signed ∷ []) s
      single d = ap (λ (n : ℕ). skip_operands (counted_kinds 3 n) s) d

      counted : (i : ℕ) → declared h i ≡ 1 → skip_operands (replicate (declared h i) unsigned) s ≡ skip_operands (unsigned ∷ []) s
      counted i d = ap (λ (n : ℕ). skip_operands (replicate n unsigned) s) d

-- ---- an extended instruction

abbrev passed : Bool → List ℕ → Passed
passed ends rest = record { ends = ends; rest = rest }

-- the bytes of an instruction that has n
beside_body : (whole n : ℕ) (s : List ℕ) → Beside (extended_body whole n s) (standard_body (n - 1) s)
unfolding extended_body take_line_bytes ◌>>=◌
beside_body whole n [] = beside_none 8 (omega arith) (omega arith)
beside_body whole n (b ∷ s) = go (leb (n - 1) (length s)) (ltb (place_of whole s + (n - 1)) (2 ^ 64))
  where
    go : (t u : Bool) → Beside (cond t (done (drop (n - 1) s)) (cond u (refused 7) (refused 12)) >>= λ rest. done (passed (eqb b 1) rest))
        (cond t (some (passed (eqb b 1) (drop (n - 1) s))) none)
    go true u = refl
    go false true = beside_none 7 (omega arith) (omega arith)
    go false false = beside-limit 12 none (omega arith) (omega arith)

beside-extended : (whole : ℕ) (s : List ℕ) → Beside (extended whole s) (and_then (leb128 s) extended_of)
unfolding extended
beside-extended whole s = beside_then (uleb s) (leb128 s) _ extended_of (beside_uleb s) (λ o.
    beside_if (eqb o.value 0) (refused 9) (extended_body whole o.value o.rest) none (standard_body (o.value - 1) o.rest)
    (λ e. beside_none 9 (omega arith) (omega arith)) (λ e. beside_body whole o.value o.rest))

-- ---- any instruction

module _ (h : Opcodes) (d : DeclaresStandard h) (whole o : ℕ) (s : List ℕ) where
  beside-standard : o < h.base → Beside (skip_operands (operand_kinds h o) s) (after_operands (operands_of h o) s)
  beside-standard l = rw (same_operands h s o (d o l)) (beside_operands (operands_of h o) s)

  pub beside_skip : Beside (skip h whole o s) (instruction h o s)
  unfolding skip instruction
  beside_skip =
      beside_if (eqb o 0) _ _ _ _ (λ e. beside-extended whole s) (λ e.
      beside_if (ltb o h.base) _ _ _ _
      (λ l. beside_map (skip_operands (operand_kinds h o) s) (after_operands (operands_of h o) s) (passed false) (beside-standard (ltb-true o h.base l))) (λ l. refl))
