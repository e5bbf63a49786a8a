-- The Standard's LEB128: what the first byte tells of a number, and what bytes that go on tell of its value and of how many bytes it takes.
use mathlib.Core.Path.{◌≡◌, refl, sym, ap, ◌∙◌}
use mathlib.Core.Bool.{Bool, true, false}
use mathlib.Core.List.{List, [], ◌∷◌}
use mathlib.Core.Option.{some, none-ne-some}
use Prim.Native.Nat.{ℕ, zero, suc, ◌+◌, ◌*◌, ◌%◌, ◌^◌, ◌≤◌, ◌<◌}
use native.Mathlib.Omega.{arith}
use borrow.Author.Tests.{ltb-true, ltb-false, lt-ltb, le-ltb}
use lib.Dec.{ltb}
use lib.ListN.{length, get_or}
use Rattle.tlv.specs.Lists.{map_option}
use Rattle.tlv.proofs.ListLaws.{mapped}
use Rattle.line_program.specs.Standard.{Operand, leb128}
use Rattle.line_program.specs.Conforms.{taken, Continues}

-- the number of a byte that goes on and of the number after it
abbrev pub more : ℕ → Operand → Operand
more b o = record { value = b % 128 + 128 * o.value; rest = o.rest }

pub leb_last : (b : ℕ) (s : List ℕ) → b < 128 → leb128 (b ∷ s) ≡ some (record { value = b; rest = s })
unfolding leb128
leb_last b s h = rw (lt-ltb b 128 h)

pub leb_more : (b : ℕ) (s : List ℕ) → 128 ≤ b → leb128 (b ∷ s) ≡ map_option (more b) (leb128 s)
unfolding leb128
leb_more b s h = rw (le-ltb b 128 h)

-- the two ways in which a number begins
pub data Begins (b : ℕ) (s : List ℕ) (o : Operand) : Type 0 where
  last : b < 128 → o.value ≡ b → o.rest ≡ s → Begins b s o
  goes : (p : Operand) → 128 ≤ b → leb128 s ≡ some p → o.value ≡ b % 128 + 128 * p.value → o.rest ≡ p.rest → Begins b s o

pub begins : (b : ℕ) (s : List ℕ) (o : Operand) → leb128 (b ∷ s) ≡ some o → Begins b s o
begins b s o e = go (ltb b 128) refl
  where
    go : (t : Bool) → ltb b 128 ≡ t → Begins b s o
    go true q =
        let h = ltb-true b 128 q in
        let f : ◌≡◌ {A = Operand} (record { value = b; rest = s }) o = cc (leb_last b s h) in
        last h (ap (λ (x : Operand). x.value) (sym f)) (ap (λ (x : Operand). x.rest) (sym f))
    go false q =
        let h = ltb-false b 128 q in
        let m = mapped (more b) (leb128 s) o (sym (leb_more b s h) ∙ e) in
        goes m.0 h m.1 (ap (λ (x : Operand). x.value) (sym m.2)) (ap (λ (x : Operand). x.rest) (sym m.2))

-- a number takes a byte at the least
pub shorter : (s : List ℕ) (o : Operand) → leb128 s ≡ some o → length o.rest < length s
unfolding leb128
shorter [] o e = absurd (none-ne-some o e)
shorter (b ∷ s) o e = go (λ p. shorter s p) (begins b s o e)
  where
    go : ((p : Operand) → leb128 s ≡ some p → length p.rest < length s) → Begins b s o → length o.rest < length (b ∷ s)
    go ih (last h v r) = omega (arith, ap length r)
    go ih (goes p h f v r) = omega (arith, ih p f, ap length r)

pub continues-length : (n : ℕ) (s : List ℕ) → Continues n s → n ≤ length s
continues-length zero s c = omega arith
continues-length (suc n) [] c = absurd c
continues-length (suc n) (b ∷ s) c = omega (arith, continues-length n s c.1)

-- after n bytes that go on there is one more
pub taken_more : (n : ℕ) (s : List ℕ) (o : Operand) → Continues n s → leb128 s ≡ some o → n < taken s o
taken_more zero s o c e = omega (arith, shorter s o e)
taken_more (suc n) [] o c e = absurd c
taken_more (suc n) (b ∷ s) o c e = go (λ p f. taken_more n s p c.1 f) (begins b s o e)
  where
    go : ((p : Operand) → leb128 s ≡ some p → n < taken s p) → Begins b s o → suc n < taken (b ∷ s) o
    go ih (last h v r) = absurd (omega (arith, c.0))
    go ih (goes p h f v r) = omega (arith, ih p f, shorter s p f, ap length r)

-- after k bytes that go on, seven bits each, more than one bit makes a number past all that fits
pub value-more : (k : ℕ) (s : List ℕ) (o : Operand) → Continues k s → k < length s → 1 < get_or s k 0 % 128 → leb128 s ≡ some o → 2 * 128 ^ k ≤ o.value
value-more zero [] o c l h e = absurd (omega arith)
value-more zero (b ∷ s) o c l h e = go (begins b s o e)
  where
    go : Begins b s o → 2 * 128 ^ 0 ≤ o.value
    go (last g v r) = omega arith
    go (goes p g f v r) = omega arith
value-more (suc k) [] o c l h e = absurd c
value-more (suc k) (b ∷ s) o c l h e = go (λ p f. value-more k s p c.1 (omega arith) h f) (begins b s o e)
  where
    go : ((p : Operand) → leb128 s ≡ some p → 2 * 128 ^ k ≤ p.value) → Begins b s o → 2 * 128 ^ suc k ≤ o.value
    go ih (last g v r) = absurd (omega (arith, c.0))
    go ih (goes p g f v r) = omega (arith, ih p f)
