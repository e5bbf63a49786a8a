-- Theorem. An operand that is passed over is the one that would be read: the law of the trait TenthByte, with its proof, which an impl cites.
use mathlib.Core.Path.{◌≡◌, refl}
use mathlib.Core.Bool.{Bool, true, false, cond}
use mathlib.Core.List.{List, [], ◌∷◌}
use Prim.Native.Nat.{ℕ, zero, suc, ◌+◌, ◌*◌, ◌%◌}
use borrow.Author.Tests.{lt-leb, le-leb, ltb-true, ltb-false}
use lib.Dec.{leb, ltb}
use Rattle.tlv.specs.Outcome.{Outcome, refused, done, ◌>>=◌}
use Rattle.line_program.specs.Standard.{Operand as Number, SignedOperand, unsigned, signed}
use Rattle.line_program.specs.Program.{uleb_within, uleb, is_sign, signed_byte, sleb_within, sleb, skip_operand}
use Rattle.line_program.specs.Passing.{pass_within, fits_unsigned}

unsigned-within : (k : ℕ) (s : List ℕ) → (uleb_within k s >>= λ o. done o.rest) ≡ pass_within fits_unsigned k s
unfolding pass_within uleb_within ◌>>=◌
unsigned-within zero [] = refl
unsigned-within zero (b ∷ s) = go (ltb 1 (b % 128)) refl (ltb b 128)
  where
    go : (t : Bool) → ltb 1 (b % 128) ≡ t → (u : Bool)
        → (cond t (refused 10) (cond u (done (record { value = b; rest = s })) (refused 11)) >>= λ (o : Number). done o.rest)
        ≡ cond (leb (b % 128) 1) (cond u (done s) (refused 11)) (refused 10)
    go true e u = rw (lt-leb (b % 128) 1 (ltb-true 1 (b % 128) e))
    go false e true = rw (le-leb (b % 128) 1 (ltb-false 1 (b % 128) e))
    go false e false = rw (le-leb (b % 128) 1 (ltb-false 1 (b % 128) e))
unsigned-within (suc k) [] = refl
unsigned-within (suc k) (b ∷ s) = go (ltb b 128) (uleb_within k s) (unsigned-within k s)
  where
    go : (t : Bool) (o : Outcome Number) {r : Outcome (List ℕ)} → (o >>= λ u. done u.rest) ≡ r
        → (cond t (done (record { value = b; rest = s })) (o >>= λ u. done (record { value = b % 128 + 128 * u.value; rest = u.rest }))
        >>= λ (u : Number). done u.rest)
        ≡ cond t (done s) r
    go true o e = refl
    go false (refused n) e = e
    go false (done u) e = e

signed-within : (k : ℕ) (s : List ℕ) → (sleb_within k s >>= λ o. done o.rest) ≡ pass_within is_sign k s
unfolding pass_within sleb_within ◌>>=◌
signed-within zero [] = refl
signed-within zero (b ∷ s) = go (is_sign (b % 128)) (ltb b 128)
  where
    go : (t u : Bool)
        → (cond t (cond u (done (signed_byte b s)) (refused 11)) (refused 10) >>= λ o. done o.rest) ≡ cond t (cond u (done s) (refused 11)) (refused 10)
    go true true = refl
    go true false = refl
    go false u = refl
signed-within (suc k) [] = refl
signed-within (suc k) (b ∷ s) = go (ltb b 128) (sleb_within k s) (signed-within k s)
  where
    go : (t : Bool) (o : Outcome SignedOperand) {r : Outcome (List ℕ)} → (o >>= λ u. done u.rest) ≡ r
        → (cond t (done (signed_byte b s)) (o >>= λ u. done (record { up = b % 128 + 128 * u.up; down = 128 * u.down; rest = u.rest }))
        >>= λ (u : SignedOperand). done u.rest)
        ≡ cond t (done s) r
    go true o e = refl
    go false (refused n) e = e
    go false (done u) e = e

pub unsigned_passes : (s : List ℕ) → skip_operand unsigned s ≡ pass_within fits_unsigned 9 s
unfolding skip_operand uleb
unsigned_passes s = unsigned-within 9 s

pub signed_passes : (s : List ℕ) → skip_operand signed s ≡ pass_within is_sign 9 s
unfolding skip_operand sleb
signed_passes s = signed-within 9 s
