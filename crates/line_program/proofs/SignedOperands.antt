-- Reading a signed operand is the Standard's signed LEB128 within ten bytes and 64 bits, and each refusal says why not.
use mathlib.Core.Path.{◌≡◌, refl, sym, ap, ◌∙◌}
use mathlib.Core.Bool.{Bool, true, false, cond, ◌||◌}
use mathlib.Core.Logic.{◌⊎◌, inl, inr}
use mathlib.Core.List.{List, [], ◌∷◌}
use mathlib.Core.Option.{none, some, none-ne-some}
use Prim.Native.Nat.{ℕ, zero, suc, ◌+◌, ◌*◌, ◌%◌, ◌^◌, ◌≤◌, ◌<◌}
use native.Mathlib.Nat.{one-le-pow}
use native.Mathlib.Omega.{arith}
use borrow.Author.Tests.{ltb-true, ltb-false, lt-ltb, le-ltb, leb-true, leb-false, eqb-true, eqb-false}
use lib.Dec.{ltb, leb, eqb}
use lib.ListN.{length, get_or}
use Rattle.tlv.specs.Outcome.{Outcome, refused, done, ◌>>=◌}
use Rattle.tlv.specs.Lists.{map_option}
use Rattle.tlv.proofs.ListLaws.{mapped, mapped-twice}
use Rattle.line_program.specs.Standard.{Operand, leb128, SignedOperand, sleb128}
use Rattle.line_program.specs.Program.{is_sign, signed_byte, sleb_within, sleb}
use Rattle.line_program.specs.Conforms.{taken_signed, Continues, Signed64, SignedOperands}
use Rattle.line_program.proofs.Leb128.{continues-length, shorter, taken_more}

-- ---- the Standard's signed LEB128

-- it takes the bytes that unsigned LEB128 takes
pub signed_rest : (s : List ℕ) → map_option (λ (o : SignedOperand). o.rest) (sleb128 s) ≡ map_option (λ (o : Operand). o.rest) (leb128 s)
unfolding sleb128 leb128 map_option
signed_rest [] = refl
signed_rest (b ∷ s) = go (signed_rest s) (ltb b 128) refl
  where
    go : map_option (λ (o : SignedOperand). o.rest) (sleb128 s) ≡ map_option (λ (o : Operand). o.rest) (leb128 s) → (t : Bool) → ltb b 128 ≡ t
        → map_option (λ (o : SignedOperand). o.rest) (sleb128 (b ∷ s)) ≡ map_option (λ (o : Operand). o.rest) (leb128 (b ∷ s))
    go ih true e = rw e
    go ih false e = rw e (simp mapped-twice ih)

-- the unsigned number of the same bytes
unsigned_of : (s : List ℕ) (o : SignedOperand) → sleb128 s ≡ some o → (p : Operand) × (leb128 s ≡ some p) × (p.rest ≡ o.rest)
unfolding map_option
unsigned_of s o e =
    let f : map_option (λ (p : Operand). p.rest) (leb128 s) ≡ some o.rest = sym (signed_rest s) ∙ ap (map_option (λ (p : SignedOperand). p.rest)) e in
    mapped (λ (p : Operand). p.rest) (leb128 s) o.rest f

pub signed_shorter : (s : List ℕ) (o : SignedOperand) → sleb128 s ≡ some o → length o.rest < length s
signed_shorter s o e = let (p, f, r) = unsigned_of s o e in omega (arith, shorter s p f, ap length r)

signed-taken : (n : ℕ) (s : List ℕ) (o : SignedOperand) → Continues n s → sleb128 s ≡ some o → n < taken_signed s o
signed-taken n s o c e = let (p, f, r) = unsigned_of s o e in omega (arith, taken_more n s p c f, ap length r)

abbrev more : ℕ → SignedOperand → SignedOperand
more b o = record { up = b % 128 + 128 * o.up; down = 128 * o.down; rest = o.rest }

sleb-last : (b : ℕ) (s : List ℕ) → b < 128 → sleb128 (b ∷ s) ≡ some (signed_byte b s)
unfolding sleb128
sleb-last b s h = rw (lt-ltb b 128 h)

sleb-more : (b : ℕ) (s : List ℕ) → 128 ≤ b → sleb128 (b ∷ s) ≡ map_option (more b) (sleb128 s)
unfolding sleb128
sleb-more b s h = rw (le-ltb b 128 h)

-- the two ways in which a number begins
data Begins (b : ℕ) (s : List ℕ) (o : SignedOperand) : Type 0 where
  last : b < 128 → o ≡ signed_byte b s → Begins b s o
  goes : (p : SignedOperand) → 128 ≤ b → sleb128 s ≡ some p → o ≡ more b p → Begins b s o

begins : (b : ℕ) (s : List ℕ) (o : SignedOperand) → sleb128 (b ∷ s) ≡ some o → Begins b s o
begins b s o e = go (ltb b 128) refl
  where
    go : (t : Bool) → ltb b 128 ≡ t → Begins b s o
    go true q =
        let h = ltb-true b 128 q in
        let f : ◌≡◌ {A = SignedOperand} (signed_byte b s) o = cc (sleb-last b s h) in
        last h (sym f)
    go false q =
        let h = ltb-false b 128 q in
        let m = mapped (more b) (sleb128 s) o (sym (sleb-more b s h) ∙ e) in
        goes m.0 h m.1 (sym m.2)

both : true ≡ false → ⊥
both q = let z : ◌≡◌ {A = ℕ} 0 1 = ap (λ (t : Bool). cond t 0 1) q in omega arith

-- what a byte that is no sign may be
odd-bits : (d : ℕ) → is_sign d ≡ false → (d ≡ 0 → ⊥) × (d ≡ 0x7f → ⊥)
odd-bits d e = go (eqb d 0) refl (eqb d 0x7f) refl e
  where
    go : (t : Bool) → eqb d 0 ≡ t → (u : Bool) → eqb d 0x7f ≡ u → (t || u) ≡ false → (d ≡ 0 → ⊥) × (d ≡ 0x7f → ⊥)
    go true p u q f = absurd (both f)
    go false p true q f = absurd (both f)
    go false p false q f = (eqb-false d 0 p, eqb-false d 0x7f q)

even_bits : (d : ℕ) → is_sign d ≡ true → (d ≡ 0) ⊎ (d ≡ 0x7f)
even_bits d e = go (eqb d 0) refl (eqb d 0x7f) refl e
  where
    go : (t : Bool) → eqb d 0 ≡ t → (u : Bool) → eqb d 0x7f ≡ u → (t || u) ≡ true → (d ≡ 0) ⊎ (d ≡ 0x7f)
    go true p u q f = inl (eqb-true d 0 p)
    go false p true q f = inr (eqb-true d 0x7f q)
    go false p false q f = absurd (both (sym f))

-- how much a number of k + 1 bytes can be, of which the last is a sign
pub record Fits (k : ℕ) (o : SignedOperand) : Type 0 where
  pub above : o.down ≤ o.up + 128 ^ k
  pub below : o.up < o.down + 128 ^ k

-- after k bytes that go on, a byte that is no sign makes a number past all that fits
past_all : (k : ℕ) (s : List ℕ) (o : SignedOperand) → Continues k s → k < length s → is_sign (get_or s k 0 % 128) ≡ false → sleb128 s ≡ some o
    → (o.down + 128 ^ k ≤ o.up) ⊎ (o.up + 128 ^ k < o.down)
past_all zero [] o c l h e = absurd (omega arith)
past_all zero (b ∷ s) o c l h e = go (begins b s o e) (odd-bits (b % 128) h)
  where
    byte : (t : Bool) → leb 64 b ≡ t → b < 128 → (b % 128 ≡ 0 → ⊥) → (b % 128 ≡ 0x7f → ⊥) → o.up ≡ b → o.down ≡ cond t 128 0
        → (o.down + 128 ^ 0 ≤ o.up) ⊎ (o.up + 128 ^ 0 < o.down)
    byte true q g m n u d = inr (omega (arith, leb-true 64 b q))
    byte false q g m n u d = inl (omega (arith, leb-false 64 b q))

    side : (p : SignedOperand) (t : Bool) → leb p.down p.up ≡ t → (b % 128 ≡ 0 → ⊥) → (b % 128 ≡ 0x7f → ⊥)
        → o.up ≡ b % 128 + 128 * p.up → o.down ≡ 128 * p.down
        → (o.down + 128 ^ 0 ≤ o.up) ⊎ (o.up + 128 ^ 0 < o.down)
    side p true q m n u d = inl (omega (arith, leb-true p.down p.up q))
    side p false q m n u d = inr (omega (arith, leb-false p.down p.up q))

    go : Begins b s o → (b % 128 ≡ 0 → ⊥) × (b % 128 ≡ 0x7f → ⊥) → (o.down + 128 ^ 0 ≤ o.up) ⊎ (o.up + 128 ^ 0 < o.down)
    go (last g q) (m, n) = byte (leb 64 b) refl g m n (ap (λ (x : SignedOperand). x.up) q) (ap (λ (x : SignedOperand). x.down) q)
    go (goes p g f q) (m, n) = side p (leb p.down p.up) refl m n (ap (λ (x : SignedOperand). x.up) q) (ap (λ (x : SignedOperand). x.down) q)
past_all (suc k) [] o c l h e = absurd c
past_all (suc k) (b ∷ s) o c l h e = go (λ p f. past_all k s p c.1 (omega arith) h f) (begins b s o e)
  where
    wider : (p : SignedOperand) → o.up ≡ b % 128 + 128 * p.up → o.down ≡ 128 * p.down → (p.down + 128 ^ k ≤ p.up) ⊎ (p.up + 128 ^ k < p.down)
        → (o.down + 128 ^ suc k ≤ o.up) ⊎ (o.up + 128 ^ suc k < o.down)
    wider p u d (inl x) = inl (omega arith)
    wider p u d (inr x) = inr (omega arith)

    go : ((p : SignedOperand) → sleb128 s ≡ some p → (p.down + 128 ^ k ≤ p.up) ⊎ (p.up + 128 ^ k < p.down)) → Begins b s o
        → (o.down + 128 ^ suc k ≤ o.up) ⊎ (o.up + 128 ^ suc k < o.down)
    go ih (last g q) = absurd (omega (arith, c.0))
    go ih (goes p g f q) = wider p (ap (λ (x : SignedOperand). x.up) q) (ap (λ (x : SignedOperand). x.down) q) (ih p f)

past-fit : (k : ℕ) (o : SignedOperand) → (o.down + 128 ^ k ≤ o.up) ⊎ (o.up + 128 ^ k < o.down) → Fits k o → ⊥
past-fit k o (inl x) f = omega (arith, f.below)
past-fit k o (inr x) f = omega (arith, f.above)

-- ---- what an answer says of the bytes, where k + 1 of them may be read

pub record Whole (k : ℕ) (s : List ℕ) (o : SignedOperand) : Type 0 where
  pub is : sleb128 s ≡ some o
  pub bytes : taken_signed s o ≤ k + 1
  pub bits : Fits k o

pub data Refusal (k : ℕ) (s : List ℕ) (n : ℕ) : Type 0 where
  ended : n ≡ 7 → sleb128 s ≡ none → length s < k + 1 → Refusal k s n
  wide : n ≡ 10 → Continues k s → k < length s → is_sign (get_or s k 0 % 128) ≡ false → Refusal k s n
  long : n ≡ 11 → Continues (suc k) s → is_sign (get_or s k 0 % 128) ≡ true → Refusal k s n

abbrev pub Answer : ℕ → List ℕ → Outcome SignedOperand → Type 0
Answer k s (done o) = Whole k s o
Answer k s (refused n) = Refusal k s n

module _ (b : ℕ) (s : List ℕ) where
  single : (k : ℕ) → b < 128 → Fits k (signed_byte b s) → Whole k (b ∷ s) (signed_byte b s)
  single k h g = record { is = sleb-last b s h; bytes = omega arith; bits = g }

  -- a last byte by itself: from - 64 to 63
  small : (k : ℕ) → b < 128 → 64 ≤ 128 ^ k → Fits k (signed_byte b s)
  small k h g = go (leb 64 b) refl
    where
      go : (t : Bool) → leb 64 b ≡ t → Fits k (record { up = b; down = cond t 128 0; rest = s })
      go true q = record { above = omega (arith, leb-true 64 b q); below = omega arith }
      go false q = record { above = omega arith; below = omega (arith, leb-false 64 b q) }

  -- a tenth byte that is a sign: 0 or - 1
  sign : b < 128 → is_sign (b % 128) ≡ true → Fits 0 (signed_byte b s)
  sign h e = go (leb 64 b) refl (even_bits (b % 128) e)
    where
      go : (t : Bool) → leb 64 b ≡ t → (b % 128 ≡ 0) ⊎ (b % 128 ≡ 0x7f) → Fits 0 (record { up = b; down = cond t 128 0; rest = s })
      go true q (inl z) = absurd (omega (arith, leb-true 64 b q))
      go true q (inr z) = record { above = omega arith; below = omega arith }
      go false q (inl z) = record { above = omega arith; below = omega arith }
      go false q (inr z) = absurd (omega (arith, leb-false 64 b q))

  tenth : Answer 0 (b ∷ s) (sleb_within 0 (b ∷ s))
  unfolding sleb_within
  tenth = go (is_sign (b % 128)) refl (ltb b 128) refl
    where
      go : (t : Bool) → is_sign (b % 128) ≡ t → (u : Bool) → ltb b 128 ≡ u
          → Answer 0 (b ∷ s) (cond t (cond u (done (signed_byte b s)) (refused 11)) (refused 10))
      go false e u f = wide refl tt (omega arith) e
      go true e true f = let h = ltb-true b 128 f in single 0 h (sign h e)
      go true e false f = long refl (ltb-false b 128 f, tt) e

  -- one byte more, which goes on
  onward : (k : ℕ) → 128 ≤ b → (r : Outcome SignedOperand) → Answer k s r → Answer (suc k) (b ∷ s) (r >>= λ o. done (more b o))
  unfolding ◌>>=◌ map_option
  onward k h (done o) a = record {
    is = sleb-more b s h ∙ ap (map_option (more b)) a.is;
    bytes = omega (arith, a.bytes, signed_shorter s o a.is);
    bits = record { above = omega (arith, a.bits.above); below = omega (arith, a.bits.below) };
  }
  onward k h (refused n) (ended e f l) = ended e (sleb-more b s h ∙ ap (map_option (more b)) f) (omega arith)
  onward k h (refused n) (wide e c l g) = wide e (h, c) (omega arith) g
  onward k h (refused n) (long e c g) = long e (h, c) g

pub answers : (k : ℕ) (s : List ℕ) → Answer k s (sleb_within k s)
unfolding sleb_within sleb128
answers zero [] = ended refl refl (omega arith)
answers zero (b ∷ s) = tenth b s
answers (suc k) [] = ended refl refl (omega arith)
answers (suc k) (b ∷ s) = go (answers k s) (ltb b 128) refl
  where
    go : Answer k s (sleb_within k s) → (t : Bool) → ltb b 128 ≡ t
        → Answer (suc k) (b ∷ s) (cond t (done (signed_byte b s)) (sleb_within k s >>= λ o. done (more b o)))
    go a true e =
        let h = ltb-true b 128 e in
        let p = one-le-pow k 128 (omega arith) in
        single b s (suc k) h (small b s (suc k) h (omega arith))
    go a false e = onward b s k (ltb-false b 128 e) (sleb_within k s) a

-- ---- what is known of the bytes gives the answer

module _ (k : ℕ) (s : List ℕ) where
  whole_is : (o : SignedOperand) (r : Outcome SignedOperand) → Answer k s r → Whole k s o → r ≡ done o
  whole_is o (done p) a w = let e : p ≡ o = cc (a.is, w.is) in ap done e
  whole_is o (refused n) (ended e f l) w = absurd (none-ne-some o (sym f ∙ w.is))
  whole_is o (refused n) (wide e c l g) w = absurd (past-fit k o (past_all k s o c l g w.is) w.bits)
  whole_is o (refused n) (long e c g) w = absurd (omega (arith, signed-taken (suc k) s o c w.is, w.bytes))

  ended_is : (r : Outcome SignedOperand) → Answer k s r → sleb128 s ≡ none → length s < k + 1 → r ≡ refused 7
  ended_is (done p) a f l = absurd (none-ne-some p (sym f ∙ a.is))
  ended_is (refused n) (ended e f' l') f l = ap refused e
  ended_is (refused n) (wide e c l' g) f l = absurd (omega arith)
  ended_is (refused n) (long e c g) f l = absurd (omega (arith, continues-length (suc k) s c))

  wide_is : (r : Outcome SignedOperand) → Answer k s r → Continues k s → k < length s → is_sign (get_or s k 0 % 128) ≡ false → r ≡ refused 10
  wide_is (done p) a c l g = absurd (past-fit k p (past_all k s p c l g a.is) a.bits)
  wide_is (refused n) (ended e f l') c l g = absurd (omega arith)
  wide_is (refused n) (wide e c' l' g') c l g = ap refused e
  wide_is (refused n) (long e c' g') c l g = absurd (both (sym g' ∙ g))

  long-is : (r : Outcome SignedOperand) → Answer k s r → Continues (suc k) s → is_sign (get_or s k 0 % 128) ≡ true → r ≡ refused 11
  long-is (done p) a c g = absurd (omega (arith, signed-taken (suc k) s p c a.is, a.bytes))
  long-is (refused n) (ended e f l') c g = absurd (omega (arith, continues-length (suc k) s c))
  long-is (refused n) (wide e c' l' g') c g = absurd (both (sym g ∙ g'))
  long-is (refused n) (long e c' g') c g = ap refused e

  seven : Refusal k s 7 → (sleb128 s ≡ none) × (length s < k + 1)
  seven (ended e f l) = (f, l)
  seven (wide e c l g) = absurd (omega arith)
  seven (long e c g) = absurd (omega arith)

  ten : Refusal k s 10 → Continues k s × (k < length s) × (is_sign (get_or s k 0 % 128) ≡ false)
  ten (ended e f l) = absurd (omega arith)
  ten (wide e c l g) = (c, l, g)
  ten (long e c g) = absurd (omega arith)

  eleven : Refusal k s 11 → Continues (suc k) s × (is_sign (get_or s k 0 % 128) ≡ true)
  eleven (ended e f l) = absurd (omega arith)
  eleven (wide e c l g) = absurd (omega arith)
  eleven (long e c g) = (c, g)

  three : (n : ℕ) → Refusal k s n → (n ≡ 7) ⊎ (n ≡ 10) ⊎ (n ≡ 11)
  three n (ended e f l) = inl e
  three n (wide e c l g) = inr (inl e)
  three n (long e c g) = inr (inr e)

pub answer : (s : List ℕ) → Answer 9 s (sleb s)
unfolding sleb
answer s = answers 9 s

module _ (s : List ℕ) where
  answer-is : (r : Outcome SignedOperand) → sleb s ≡ r → Answer 9 s r
  answer-is r e = rw e at (answer s)

fits-64 : (o : SignedOperand) → Fits 9 o → Signed64 o
fits-64 o f = record { above = f.above; below = f.below }

64-fits : (o : SignedOperand) → Signed64 o → Fits 9 o
64-fits o f = record { above = f.above; below = f.below }

pub signed_operands : SignedOperands
signed_operands s = record {
  read = λ o. (
    λ e. let a = answer-is s (done o) e in (a.is, a.bytes, fits-64 o a.bits),
    λ h. whole_is 9 s o (sleb s) (answer s) (record { is = h.0; bytes = h.1; bits = 64-fits o h.2 }),
  );
  cut = (λ e. seven 9 s (answer-is s (refused 7) e), λ h. ended_is 9 s (sleb s) (answer s) h.0 h.1);
  overflowing = (λ e. ten 9 s (answer-is s (refused 10) e), λ h. wide_is 9 s (sleb s) (answer s) h.0 h.1 h.2);
  past-bits = λ e o f g. let t = ten 9 s (answer-is s (refused 10) e) in past-fit 9 o (past_all 9 s o t.0 t.1 t.2 f) (64-fits o g);
  overlong = (λ e. eleven 9 s (answer-is s (refused 11) e), λ h. long-is 9 s (sleb s) (answer s) h.0 h.1);
  past_bytes = λ e o f. signed-taken 10 s o (eleven 9 s (answer-is s (refused 11) e)).0 f;
  only = λ n e. three 9 s n (answer-is s (refused n) e);
}
