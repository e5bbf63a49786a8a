-- The loop of read_line_uleb: what is read so far, and what is left.
use mathlib.Core.Path.{◌≡◌, refl, sym, ap, ◌∙◌}
use mathlib.Core.Bool.{cond}
use mathlib.Core.List.{List, [], ◌∷◌}
use Prim.Native.Nat.{ℕ, zero, suc, ◌+◌, ◌-◌, ◌*◌, ◌%◌, ◌^◌, ◌≤◌, ◌<◌}
use native.Mathlib.Nat.{mul-add, mul_comm, mul_assoc, pow-suc, one-le-pow, mul-le-mul_left, mul-le-mul_right}
use native.Mathlib.Numerals.{add-one}
use native.Mathlib.Omega.{arith}
use borrow.Author.Tests.{lt-ltb, le-ltb}
use lib.Dec.{ltb}
use lib.ListN.{length, get_or, drop, drop_of_length-le}
use lib.Seq.{drop-cons}
use Rattle.tlv.specs.Outcome.{Outcome, refused, done, ◌>>=◌}
use Rattle.std.specs.Prelude.{Ok, Err}
use Rattle.tlv.specs.declared.refusal.Refusal.{Refusal}
use Rattle.line_program.specs.Program.{uleb_within, uleb}
use Rattle.line_program.specs.Standard.{Operand as Number}
use Rattle.line_program.specs.Scan.{Reads}

-- the byte at a place, and what follows it
pub drop_at : (s : List ℕ) (p b : ℕ) → p < length s → b ≡ get_or s p 0 → drop p s ≡ b ∷ drop (p + 1) s
drop_at s p b h e = drop-cons s p 0 h ∙ (λ i. sym e i ∷ drop (sym (add-one p) i) s)

-- what is left of an operand, put after the bits v that were read, of which there is room for m values
abbrev pub shifted : ℕ → ℕ → Outcome Number → Outcome Number
shifted v m (refused n) = refused n
shifted v m (done o) = done (record { value = v + m * o.value; rest = o.rest })

pub record Reading (s : List ℕ) (at v m k p : ℕ) : Type 0 where
  pub goes : uleb (drop at s) ≡ shifted v m (uleb_within k (drop p s))
  pub scaled : m * 128 ^ k ≡ 2 ^ 63
  pub below : v < m
  pub from : at ≤ p

shifted_none : (o : Outcome Number) → o ≡ shifted 0 1 o
shifted_none (refused n) = refl
shifted_none (done o) =
    let e : o.value ≡ 0 + 1 * o.value = omega arith in
    ap (λ (x : ℕ). done (record { value = x; rest = o.rest })) e

pub reading-start : (s : List ℕ) (at : ℕ) → Reading s at 0 1 9 at
unfolding uleb
reading-start s at = record { goes = shifted_none (uleb_within 9 (drop at s)); scaled = refl; below = omega arith; from = omega arith }

shifted_more : (v m b : ℕ) (o : Outcome Number)
    → shifted v m (o >>= (λ u. done (record { value = b + 128 * u.value; rest = u.rest }))) ≡ shifted (v + b * m) (m * 128) o
unfolding ◌>>=◌
shifted_more v m b (refused n) = refl
shifted_more v m b (done u) =
    let e : v + m * (b + 128 * u.value) ≡ v + b * m + m * 128 * u.value
    = omega (arith, mul-add m b (128 * u.value), mul_comm m b, mul_assoc m 128 u.value) in
    ap (λ (x : ℕ). done (record { value = x; rest = u.rest })) e

cut-any : (k : ℕ) → uleb_within k [] ≡ refused 7
unfolding uleb_within
cut-any zero = refl
cut-any (suc k) = refl

pub turn-cut : {s : List ℕ} {at v m k p : ℕ} → Reading s at v m k p → length s ≤ p → Reads s at (Err Refusal.Cut)
turn-cut {s} {at} {v} {m} {k} {p} R h = record {
  is = sym (R.goes ∙ ap (λ (l : List ℕ). shifted v m (uleb_within k l)) (drop_of_length-le s {i = p} h) ∙ ap (shifted v m) (cut-any k));
  within = tt;
}

tenth : (b : ℕ) (t : List ℕ) → uleb_within 0 (b ∷ t) ≡ cond (ltb 1 (b % 128)) (refused 10) (cond (ltb b 128) (done (record { value = b; rest = t })) (refused 11))
unfolding uleb_within
tenth b t = refl

-- there is room for seven more bits before the tenth byte
pub roomy : (m k : ℕ) → m * 128 ^ k ≡ 2 ^ 63 → (k ≡ 0 → ⊥) → m * 128 ≤ 2 ^ 63
roomy m zero e n = absurd (n refl)
roomy m (suc k) e n =
    let a : m * 128 ^ k * 128 ≡ 2 ^ 63 = mul_assoc m (128 ^ k) 128 ∙ ap (λ (x : ℕ). m * x) (sym (pow-suc 128 k)) ∙ e in
    let l : m * 1 ≤ m * 128 ^ k = mul-le-mul_left m (one-le-pow k 128 (omega arith)) in
    omega arith

pub fits_more : (v m k b : ℕ) → m * 128 ^ k ≡ 2 ^ 63 → v < m → (k ≡ 0 → ⊥) → b < 128 → v + b * m < 2 ^ 63
fits_more v m k b e l n h =
    let r = roomy m k e n in
    let t : b * m ≤ 127 * m = mul-le-mul_right m (omega arith) in
    omega arith

pub fits_last : (v m k b : ℕ) → m * 128 ^ k ≡ 2 ^ 63 → v < m → k ≡ 0 → b % 128 ≤ 1 → b < 128 → v + b * m < 2 ^ 64
fits_last v m k b e l n g h =
    let f : m * 128 ^ 0 ≡ 2 ^ 63 = ap (λ (x : ℕ). m * 128 ^ x) (sym n) ∙ e in
    let t : b * m ≤ 1 * m = mul-le-mul_right m (omega arith) in
    omega arith

module _ (s : List ℕ) (at v m k p b : ℕ) (R : Reading s at v m k p) (h : p < length s) (e : b ≡ get_or s p 0) where
  here : (j : ℕ) → k ≡ j → uleb (drop at s) ≡ shifted v m (uleb_within j (b ∷ drop (p + 1) s))
  here j z = R.goes ∙ (λ i. shifted v m (uleb_within (z i) (drop_at s p b h e i)))

  value_read : (j : ℕ) → k ≡ j → uleb_within j (b ∷ drop (p + 1) s) ≡ done (record { value = b; rest = drop (p + 1) s })
      → Reads s at (Ok (record { value = v + b * m; next = p + 1 }))
  value_read j z f = record {
    is =
        let q : v + b * m ≡ v + m * b = omega (arith, mul_comm b m) in
        ap (λ (x : ℕ). done (record { value = x; rest = drop (p + 1) s })) q ∙ sym (here j z ∙ ap (shifted v m) f);
    within = (omega (arith, R.from), omega arith);
  }

  pub turn-overflow : k ≡ 0 → 1 < b % 128 → Reads s at (Err Refusal.Overflowing)
  unfolding uleb_within
  turn-overflow z g = record { is = sym (rw (lt-ltb 1 (b % 128) g) at (here 0 z)); within = tt }

  pub turn-tenth : k ≡ 0 → b % 128 ≤ 1 → b < 128 → Reads s at (Ok (record { value = v + b * m; next = p + 1 }))
  unfolding uleb_within
  turn-tenth z g l = value_read 0 z (rw (le-ltb 1 (b % 128) g, lt-ltb b 128 l))

  pub turn-overlong : k ≡ 0 → b % 128 ≤ 1 → 128 ≤ b → Reads s at (Err Refusal.Overlong)
  unfolding uleb_within
  turn-overlong z g l = record { is = sym (rw (le-ltb 1 (b % 128) g, le-ltb b 128 l) at (here 0 z)); within = tt }

  pub turn_end : (k ≡ 0 → ⊥) → b < 128 → Reads s at (Ok (record { value = v + b * m; next = p + 1 }))
  unfolding uleb_within
  turn_end n l =
      let z : k ≡ suc (k - 1) = omega arith in
      value_read (suc (k - 1)) z (rw (lt-ltb b 128 l))

  pub turn_more : (k ≡ 0 → ⊥) → 128 ≤ b → Reading s at (v + b % 128 * m) (m * 128) (k - 1) (p + 1)
  unfolding uleb_within
  turn_more n l =
      let z : k ≡ suc (k - 1) = omega arith in
      let a : m * 128 * 128 ^ (k - 1) ≡ 2 ^ 63
      = mul_assoc m 128 (128 ^ (k - 1)) ∙ ap (λ (x : ℕ). m * x) (mul_comm 128 (128 ^ (k - 1)) ∙ sym (pow-suc 128 (k - 1))
      ∙ ap (λ (x : ℕ). 128 ^ x) (sym z)) ∙ R.scaled in
      let t : b % 128 * m ≤ 127 * m = mul-le-mul_right m (omega arith) in
      record {
        goes = (rw (le-ltb b 128 l) at (here (suc (k - 1)) z)) ∙ shifted_more v m (b % 128) (uleb_within (k - 1) (drop (p + 1) s));
        scaled = a;
        below = omega (arith, R.below);
        from = omega (arith, R.from);
      }
