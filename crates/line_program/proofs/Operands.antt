-- Reading an operand is the Standard's LEB128 within ten bytes and 64 bits, and each refusal says why not.
use mathlib.Core.Path.{◌≡◌, refl, ap, ◌∙◌, sym}
use mathlib.Core.Bool.{Bool, true, false, cond}
use mathlib.Core.Logic.{◌⊎◌, inl, inr}
use mathlib.Core.List.{List, [], ◌∷◌}
use mathlib.Core.Option.{none, some, none-ne-some}
use Prim.Native.Nat.{ℕ, zero, suc, ◌+◌, ◌*◌, ◌%◌, ◌^◌, ◌≤◌, ◌<◌}
use native.Mathlib.Nat.{one-le-pow}
use native.Mathlib.Omega.{arith}
use borrow.Author.Tests.{ltb-true, ltb-false}
use lib.Dec.{ltb}
use lib.ListN.{length, get_or}
use Rattle.tlv.specs.Outcome.{Outcome, refused, done, ◌>>=◌}
use Rattle.tlv.specs.Lists.{map_option}
use Rattle.line_program.specs.Standard.{Operand, leb128}
use Rattle.line_program.specs.Program.{uleb_within, uleb}
use Rattle.line_program.specs.Conforms.{taken, Continues, Operands}
use Rattle.line_program.proofs.Leb128.{more, leb_last, leb_more, shorter, continues-length, taken_more, value-more}

-- what an answer says of the bytes, where k + 1 of them may be read
pub record Whole (k : ℕ) (s : List ℕ) (o : Operand) : Type 0 where
  pub is : leb128 s ≡ some o
  pub bytes : taken s o ≤ k + 1
  pub bits : o.value < 2 * 128 ^ k

pub data Refusal (k : ℕ) (s : List ℕ) (n : ℕ) : Type 0 where
  ended : n ≡ 7 → leb128 s ≡ none → length s < k + 1 → Refusal k s n
  wide : n ≡ 10 → Continues k s → k < length s → 1 < get_or s k 0 % 128 → Refusal k s n
  long : n ≡ 11 → Continues (suc k) s → get_or s k 0 % 128 ≤ 1 → Refusal k s n

abbrev pub Answer : ℕ → List ℕ → Outcome Operand → Type 0
Answer k s (done o) = Whole k s o
Answer k s (refused n) = Refusal k s n

module _ (b : ℕ) (s : List ℕ) where
  -- a number of one byte
  single : (k : ℕ) → b < 128 → b < 2 * 128 ^ k → Whole k (b ∷ s) (record { value = b; rest = s })
  single k h g = record { is = leb_last b s h; bytes = omega arith; bits = g }

  tenth : Answer 0 (b ∷ s) (uleb_within 0 (b ∷ s))
  unfolding uleb_within
  tenth = go (ltb 1 (b % 128)) refl (ltb b 128) refl
    where
      go : (t : Bool) → ltb 1 (b % 128) ≡ t → (u : Bool) → ltb b 128 ≡ u
          → Answer 0 (b ∷ s) (cond t (refused 10) (cond u (done (record { value = b; rest = s })) (refused 11)))
      go true e u f = wide refl tt (omega arith) (ltb-true 1 (b % 128) e)
      go false e true f =
          let g = ltb-false 1 (b % 128) e in
          let h = ltb-true b 128 f in
          single 0 h (omega arith)
      go false e false f = long refl (ltb-false b 128 f, tt) (ltb-false 1 (b % 128) e)

  -- one byte more, which goes on
  onward : (k : ℕ) → 128 ≤ b → (r : Outcome Operand) → Answer k s r → Answer (suc k) (b ∷ s) (r >>= λ o. done (more b o))
  unfolding ◌>>=◌ map_option
  onward k h (done o) a = record {
    is = leb_more b s h ∙ ap (map_option (more b)) a.is;
    bytes = omega (arith, a.bytes, shorter s o a.is);
    bits = omega (arith, a.bits);
  }
  onward k h (refused n) (ended e f l) = ended e (leb_more b s h ∙ ap (map_option (more b)) f) (omega arith)
  onward k h (refused n) (wide e c l g) = wide e (h, c) (omega arith) g
  onward k h (refused n) (long e c g) = long e (h, c) g

pub answers : (k : ℕ) (s : List ℕ) → Answer k s (uleb_within k s)
unfolding uleb_within leb128
answers zero [] = ended refl refl (omega arith)
answers zero (b ∷ s) = tenth b s
answers (suc k) [] = ended refl refl (omega arith)
answers (suc k) (b ∷ s) = go (answers k s) (ltb b 128) refl
  where
    go : Answer k s (uleb_within k s) → (t : Bool) → ltb b 128 ≡ t
        → Answer (suc k) (b ∷ s) (cond t (done (record { value = b; rest = s })) (uleb_within k s >>= λ o. done (more b o)))
    go a true e =
        let h = ltb-true b 128 e in
        let p = one-le-pow k 128 (omega arith) in
        single b s (suc k) h (omega arith)
    go a false e = onward b s k (ltb-false b 128 e) (uleb_within k s) a

-- ---- what is known of the bytes gives the answer

module _ (k : ℕ) (s : List ℕ) where
  whole_is : (o : Operand) (r : Outcome Operand) → Answer k s r → Whole k s o → r ≡ done o
  whole_is o (done p) a w = let e : p ≡ o = cc (a.is, w.is) in ap done e
  whole_is o (refused n) (ended e f l) w = absurd (none-ne-some o (sym f ∙ w.is))
  whole_is o (refused n) (wide e c l g) w = absurd (omega (arith, value-more k s o c l g w.is, w.bits))
  whole_is o (refused n) (long e c g) w = absurd (omega (arith, taken_more (suc k) s o c w.is, w.bytes))

  ended_is : (r : Outcome Operand) → Answer k s r → leb128 s ≡ none → length s < k + 1 → r ≡ refused 7
  ended_is (done p) a f l = absurd (none-ne-some p (sym f ∙ a.is))
  ended_is (refused n) (ended e f' l') f l = ap refused e
  ended_is (refused n) (wide e c l' g) f l = absurd (omega arith)
  ended_is (refused n) (long e c g) f l = absurd (omega (arith, continues-length (suc k) s c))

  wide_is : (r : Outcome Operand) → Answer k s r → Continues k s → k < length s → 1 < get_or s k 0 % 128 → r ≡ refused 10
  wide_is (done p) a c l g = absurd (omega (arith, value-more k s p c l g a.is, a.bits))
  wide_is (refused n) (ended e f l') c l g = absurd (omega arith)
  wide_is (refused n) (wide e c' l' g') c l g = ap refused e
  wide_is (refused n) (long e c' g') c l g = absurd (omega arith)

  long-is : (r : Outcome Operand) → Answer k s r → Continues (suc k) s → get_or s k 0 % 128 ≤ 1 → r ≡ refused 11
  long-is (done p) a c g = absurd (omega (arith, taken_more (suc k) s p c a.is, a.bytes))
  long-is (refused n) (ended e f l') c g = absurd (omega (arith, continues-length (suc k) s c))
  long-is (refused n) (wide e c' l' g') c g = absurd (omega arith)
  long-is (refused n) (long e c' g') c g = ap refused e

-- ---- what a refusal of a number tells

module _ (k : ℕ) (s : List ℕ) where
  seven : Refusal k s 7 → (leb128 s ≡ none) × (length s < k + 1)
  seven (ended e f l) = (f, l)
  seven (wide e c l g) = absurd (omega arith)
  seven (long e c g) = absurd (omega arith)

  ten : Refusal k s 10 → Continues k s × (k < length s) × (1 < get_or s k 0 % 128)
  ten (ended e f l) = absurd (omega arith)
  ten (wide e c l g) = (c, l, g)
  ten (long e c g) = absurd (omega arith)

  eleven : Refusal k s 11 → Continues (suc k) s × (get_or s k 0 % 128 ≤ 1)
  eleven (ended e f l) = absurd (omega arith)
  eleven (wide e c l g) = absurd (omega arith)
  eleven (long e c g) = (c, g)

  three : (n : ℕ) → Refusal k s n → (n ≡ 7) ⊎ (n ≡ 10) ⊎ (n ≡ 11)
  three n (ended e f l) = inl e
  three n (wide e c l g) = inr (inl e)
  three n (long e c g) = inr (inr e)

pub answer : (s : List ℕ) → Answer 9 s (uleb s)
unfolding uleb
answer s = answers 9 s

module _ (s : List ℕ) where
  -- the answer, where it is known
  pub answer-is : (r : Outcome Operand) → uleb s ≡ r → Answer 9 s r
  answer-is r e = rw e at (answer s)

pub operands : Operands
operands s = record {
  read = λ o. (λ e. let a = answer-is s (done o) e in (a.is, a.bytes, a.bits), λ h. whole_is 9 s o (uleb s) (answer s) (record { is = h.0; bytes = h.1; bits = h.2 }));
  cut = (λ e. seven 9 s (answer-is s (refused 7) e), λ h. ended_is 9 s (uleb s) (answer s) h.0 h.1);
  overflowing = (λ e. ten 9 s (answer-is s (refused 10) e), λ h. wide_is 9 s (uleb s) (answer s) h.0 h.1 h.2);
  past-bits = λ e o f. let t = ten 9 s (answer-is s (refused 10) e) in value-more 9 s o t.0 t.1 t.2 f;
  overlong = (λ e. eleven 9 s (answer-is s (refused 11) e), λ h. long-is 9 s (uleb s) (answer s) h.0 h.1);
  past_bytes = λ e o f. taken_more 10 s o (eleven 9 s (answer-is s (refused 11) e)).0 f;
  only = λ n e. three 9 s n (answer-is s (refused n) e);
}
