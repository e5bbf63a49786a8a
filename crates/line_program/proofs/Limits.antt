-- Where passing over operands, an instruction and a whole program is the Standard's: exactly within the limits.
use mathlib.Core.Path.{◌≡◌, refl, ap, ◌∙◌}
use mathlib.Core.Bool.{Bool, true, false, cond}
use mathlib.Core.List.{List, [], ◌∷◌}
use mathlib.Core.Option.{Option, none, some}
use Prim.Native.Nat.{ℕ, zero, suc, ◌+◌, ◌-◌, ◌^◌, ◌<◌}
use native.Mathlib.Omega.{arith}
use borrow.Author.Tests.{ltb-true, ltb-false, eqb-true, eqb-false, lt-ltb, eq-eqb, ne_eqb}
use lib.Dec.{leb, ltb, eqb}
use lib.ListN.{length, drop}
use Rattle.tlv.specs.Outcome.{Outcome, refused, done, ◌>>=◌}
use Rattle.tlv.specs.Lists.{map_option}
use Rattle.line_program.specs.Standard.{and_then, Operand, leb128, SignedOperand, sleb128, OperandKind, unsigned, signed, half, standard_operands, Opcodes}
use Rattle.line_program.specs.Standard.{operands_of, after_operand, after_operands, Passed, extended_body as standard_body, extended_of, instruction}
use Rattle.line_program.specs.Standard.{sequences_within as standard_within}
use Rattle.line_program.specs.Program.{uleb, sleb, operand_kinds, skip_operand, skip_operands, place_of, take_line_bytes, extended_body, extended, skip}
use Rattle.line_program.specs.Program.{sequences_within}
use Rattle.line_program.specs.Conforms.{DeclaresCount, DeclaresStandard, AdvanceLine, Short, ShortSigned, Narrow, NarrowOperands, NarrowInstruction}
use Rattle.line_program.specs.Conforms.{EachWithin, EndBelow, Agrees}
use Rattle.line_program.proofs.Leb128.{taken_more, value-more}
use Rattle.line_program.proofs.Operands.{Answer, ended, wide, long, answer}
use Rattle.line_program.proofs.SignedOperands.{Answer as SignedAnswer, ended as signed-ended, wide as signed-wide, long as signed-long}
use Rattle.line_program.proofs.SignedOperands.{answer as signed-answer, signed_operands}
use Rattle.line_program.proofs.Instructions.{same_operands}
use Rattle.line_program.proofs.Agrees.{agrees-done, agrees-refused, agrees-none, agrees-when, agrees_if, agrees-wider, agrees-then, agrees-map}

-- ---- operands

agrees-uleb : (s : List ℕ) → Agrees 11 (uleb s) (leb128 s) (Short s)
agrees-uleb s = go (uleb s) (answer s)
  where
    go : (r : Outcome Operand) → Answer 9 s r → Agrees 11 r (leb128 s) (Short s)
    go (done o) a = agrees-done 11 o a.is (λ p e. let q : p ≡ o = cc (a.is, e) in rw q (a.bytes, a.bits))
    go (refused n) (ended e f l) = rw f (agrees-none 11 n)
    go (refused n) (wide e c l g) = agrees-refused 11 n (λ o f. (omega arith, omega arith, λ k. omega (arith, value-more 9 s o c l g f, (k o f).1)))
    go (refused n) (long e c g) = agrees-refused 11 n (λ o f. (omega arith, omega arith, λ k. omega (arith, taken_more 10 s o c f, (k o f).0)))

agrees-sleb : (s : List ℕ) → Agrees 11 (sleb s) (sleb128 s) (ShortSigned s)
agrees-sleb s = go (sleb s) refl (signed-answer s)
  where
    go : (r : Outcome SignedOperand) → sleb s ≡ r → SignedAnswer 9 s r → Agrees 11 r (sleb128 s) (ShortSigned s)
    go (done o) q a =
        let (e, l, m) = ((signed_operands s).read o).0 q in
        agrees-done 11 o e (λ p f. let z : p ≡ o = cc in rw z (l, m))
    go (refused n) q (signed-ended e f l) = rw f (agrees-none 11 n)
    go (refused n) q (signed-wide e c l g) =
        agrees-refused 11 n (λ o f. (omega arith, omega arith, λ k. (signed_operands s).past-bits (q ∙ ap refused e) o f (k o f).1))
    go (refused n) q (signed-long e c g) =
        agrees-refused 11 n (λ o f. (omega arith, omega arith, λ k. omega (arith, (signed_operands s).past_bytes (q ∙ ap refused e) o f, (k o f).0)))

agrees-operand : (k : OperandKind) (s : List ℕ) → Agrees 11 (skip_operand k s) (after_operand k s) (Narrow k s)
unfolding skip_operand after_operand
agrees-operand unsigned s = agrees-map 11 (uleb s) (leb128 s) (λ o. o.rest) (agrees-uleb s)
agrees-operand signed s = agrees-map 11 (sleb s) (sleb128 s) (λ o. o.rest) (agrees-sleb s)
agrees-operand half s = go (leb 2 (length s))
  where
    go : (t : Bool) → Agrees 11 (cond t (done (drop 2 s)) (refused 7)) (cond t (some (drop 2 s)) none) (Unit {0})
    go true = agrees-done 11 (drop 2 s) refl tt
    go false = agrees-none 11 7

pub agrees-operands : (ks : List OperandKind) (s : List ℕ) → Agrees 11 (skip_operands ks s) (after_operands ks s) (NarrowOperands ks s)
unfolding skip_operands after_operands
agrees-operands [] s = agrees-done 11 s refl tt
agrees-operands (k ∷ ks) s =
    agrees-then 11 (skip_operand k s) (after_operand k s) (skip_operands ks) (after_operands ks) (agrees-operand k s) (λ t. agrees-operands ks t)

-- ---- an extended instruction

abbrev passed : Bool → List ℕ → Passed
passed ends rest = record { ends = ends; rest = rest }

-- its bytes have no limit
agrees-body : (whole n : ℕ) (s : List ℕ) → Agrees 11 (extended_body whole n s) (standard_body (n - 1) s) (Unit {0})
unfolding extended_body take_line_bytes ◌>>=◌
agrees-body whole n [] = agrees-none 11 8
agrees-body whole n (b ∷ s) = go (leb (n - 1) (length s)) (ltb (place_of whole s + (n - 1)) (2 ^ 64))
  where
    go : (t u : Bool) → Agrees 11 (cond t (done (drop (n - 1) s)) (cond u (refused 7) (refused 12)) >>= λ rest. done (passed (eqb b 1) rest))
        (cond t (some (passed (eqb b 1) (drop (n - 1) s))) none) (Unit {0})
    go true u = agrees-done 11 (passed (eqb b 1) (drop (n - 1) s)) refl tt
    go false true = agrees-none 11 7
    go false false = agrees-none 11 12

agrees-extended : (whole : ℕ) (s : List ℕ) → Agrees 11 (extended whole s) (and_then (leb128 s) extended_of) (Short s)
unfolding extended
agrees-extended whole s =
    agrees-when 11 (agrees-then 11 (uleb s) (leb128 s) _ extended_of (agrees-uleb s) (λ o.
    agrees_if 11 (eqb o.value 0) (λ e. agrees-none 11 9 {N = Unit {0}}) (λ e. agrees-body whole o.value o.rest)))
    (λ k. k.0) (λ k. (k, λ o e. (λ z. tt, λ z. tt)))

-- ---- any instruction

module _ (h : Opcodes) (whole o : ℕ) (s : List ℕ) (d : o < h.base → DeclaresCount h o) where
  agrees-standard : o < h.base → Agrees 11 (skip_operands (operand_kinds h o) s) (after_operands (operands_of h o) s) (NarrowOperands (operands_of h o) s)
  agrees-standard l = rw (same_operands h s o (d l)) (agrees-operands (operands_of h o) s)

  pub agrees-skip : Agrees 11 (skip h whole o s) (instruction h o s) (NarrowInstruction h o s)
  unfolding skip instruction
  agrees-skip =
      agrees-when 11 (agrees_if 11 (eqb o 0) (λ e. agrees-extended whole s) (λ e.
      agrees_if 11 (ltb o h.base)
      (λ l. agrees-map 11 (skip_operands (operand_kinds h o) s) (after_operands (operands_of h o) s) (passed false) (agrees-standard (ltb-true o h.base l)))
      (λ l. agrees-done 11 (passed false s) {N = Unit {0}} refl tt)))
      (λ k. record { extended = λ z. k.0 (eq-eqb o 0 z); standard = λ z l. (k.1 (ne_eqb o 0 z)).0 (lt-ltb o h.base l) })
      (λ k. (λ z. k.extended (eqb-true o 0 z), λ z. (λ l. k.standard (eqb-false o 0 z) (ltb-true o h.base l), λ l. tt)))

-- the single operand of opcode 3
pub advance-line : AdvanceLine
unfolding standard_operands operands_of
advance-line h l d whole s =
    agrees-when 11 (agrees-skip h whole 3 s (λ b c e. d)) (λ k. (k.standard (λ e. omega arith) l).0)
    (λ k. record { extended = λ e. absurd (omega arith); standard = λ e b. (k, λ rest f. tt) })

-- ---- a program

-- what holds on both sides of a test
kept : (t : Bool) {P K : Type 0} → (t ≡ true → P × K) × (t ≡ false → K) → K
kept true q = (q.0 refl).1
kept false q = q.1 refl

module _ (h : Opcodes) (d : DeclaresStandard h) (base whole : ℕ) where
  abbrev Keeps : ℕ → List ℕ → Type 0
  Keeps k s = EachWithin k h (NarrowInstruction h) s × EachWithin k h (EndBelow h base whole) s

  -- a sequence that ends: its place, and those after it
  agrees-end : (here from : ℕ) (x : Outcome (List ℕ)) (y : Option (List ℕ)) {N : Type 0} → Agrees 12 x y N
      → Agrees 12 (cond (ltb here (2 ^ 64)) (x >>= λ l. done (from ∷ l)) (refused 12)) (map_option (λ l. from ∷ l) y) ((here < 2 ^ 64) × N)
  agrees-end here from x y {N} g = go (ltb here (2 ^ 64)) refl
    where
      go : (t : Bool) → ltb here (2 ^ 64) ≡ t → Agrees 12 (cond t (x >>= λ l. done (from ∷ l)) (refused 12)) (map_option (λ l. from ∷ l) y) ((here < 2 ^ 64) × N)
      go true e = agrees-when 12 (agrees-map 12 x y (λ l. from ∷ l) g) (λ k. (ltb-true here (2 ^ 64) e, k)) (λ k. k.1)
      go false e = agrees-refused 12 12 (λ l f. (omega arith, omega arith, λ k. omega (arith, ltb-false here (2 ^ 64) e, k.0)))

  pub agrees-sequences : (k from : ℕ) (s : List ℕ) → Agrees 12 (sequences_within k h base whole from s) (standard_within k h base whole from s) (Keeps k s)
  unfolding sequences_within standard_within
  agrees-sequences zero from s = agrees-done 12 [] refl (tt, tt)
  agrees-sequences (suc k) from [] = agrees-done 12 [] refl (tt, tt)
  agrees-sequences (suc k) from (o ∷ s) =
      agrees-when 12 (agrees-then 12 (skip h whole o s) (instruction h o s) _ _ (agrees-wider (omega arith) (agrees-skip h whole o s (d o))) (λ t.
      let here = base + place_of whole t.rest in
      agrees_if 12 t.ends (λ e. agrees-end here from _ _ (agrees-sequences k here t.rest)) (λ e. agrees-sequences k from t.rest)))
      (λ q. ((q.0, λ t e. (kept t.ends (q.1 t e)).0), (λ t e f. ((q.1 t e).0 f).0, λ t e. (kept t.ends (q.1 t e)).1)))
      (λ q. (q.0.0, λ t e. let later : Keeps k t.rest = (q.0.1 t e, q.1.1 t e) in (λ f. (q.1.0 t e f, later), λ f. later)))

  -- where the whole program lies below 2^64, its sequences end there
  pub ends-below : base + whole < 2 ^ 64 → (k : ℕ) (s : List ℕ) → EachWithin k h (EndBelow h base whole) s
  ends-below l zero s = tt
  ends-below l (suc k) [] = tt
  ends-below l (suc k) (o ∷ s) = (λ t e f. omega arith, λ t e. ends-below l k t.rest)
