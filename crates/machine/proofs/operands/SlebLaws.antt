-- The loop of read_line_sleb: what is read so far, and what is left.
use Rattle.std.proofs.Common.{Ok, Err, ◌⊎◌, inl, inr, ◌≡◌, ℕ, zero, suc, ◌+◌, ◌-◌, ◌*◌, ◌%◌, ◌^◌, ◌<◌, ◌≤◌, cond, leb, List, [], ◌∷◌, length, get_or, drop, sym, refl, ap, ◌∙◌, mul-le-mul_right, mod-eq_of_lt, mul_assoc, mul_comm, pow-suc, mul-add, arith, drop_of_length-le, le-ltb, lt-ltb, ne_eqb, le-leb}
use native.Mathlib.Nat.{add-mul-mod_self_left}
use Rattle.tlv.specs.Outcome.{Outcome, refused, done, ◌>>=◌}
use Rattle.tlv.specs.declared.refusal.Refusal.{Refusal}
use Rattle.line_program.specs.Standard.{Operand as Number, SignedOperand}
use Rattle.line_program.specs.Program.{sleb_within, sleb}
use Rattle.line_program.proofs.UlebLaws.{drop_at, roomy}
use Rattle.machine.specs.Steps.{signed_value, ReadsSigned}

-- what is left of an operand, put after the bits v that were read, of which there is room for m values
abbrev pub shifted : ℕ → ℕ → Outcome SignedOperand → Outcome Number
shifted v m (refused n) = refused n
shifted v m (done o) = done (record { value = (v + m * o.up + (2 ^ 70 - m * o.down)) % 2 ^ 64; rest = o.rest })

pub record ReadingSigned (s : List ℕ) (at v m k p : ℕ) : Type 0 where
  pub goes : (sleb (drop at s) >>= λ n. done (record { value = signed_value n; rest = n.rest })) ≡ shifted v m (sleb_within k (drop p s))
  pub scaled : m * 128 ^ k ≡ 2 ^ 63
  pub below : v < m
  pub from : at ≤ p

shifted_none : (o : Outcome SignedOperand) → (o >>= λ n. done (record { value = signed_value n; rest = n.rest })) ≡ shifted 0 1 o
unfolding ◌>>=◌
shifted_none (refused n) = refl
shifted_none (done o) =
    let e : (o.up + (2 ^ 70 - o.down)) % 2 ^ 64 ≡ (0 + 1 * o.up + (2 ^ 70 - 1 * o.down)) % 2 ^ 64 = omega arith in
    ap (λ (x : ℕ). done (record { value = x; rest = o.rest })) e

pub signed-start : (s : List ℕ) (at : ℕ) → ReadingSigned s at 0 1 9 at
unfolding sleb
signed-start s at = record { goes = shifted_none (sleb_within 9 (drop at s)); scaled = refl; below = omega arith; from = omega arith }

shifted_more : (v m b : ℕ) (o : Outcome SignedOperand)
    → shifted v m (o >>= (λ u. done (record { up = b + 128 * u.up; down = 128 * u.down; rest = u.rest }))) ≡ shifted (v + b * m) (m * 128) o
unfolding ◌>>=◌
shifted_more v m b (refused n) = refl
shifted_more v m b (done u) =
    let d : m * (128 * u.down) ≡ m * 128 * u.down = sym (mul_assoc m 128 u.down) in
    let e : v + m * (b + 128 * u.up) ≡ v + b * m + m * 128 * u.up
    = omega (arith, mul-add m b (128 * u.up), mul_comm m b, mul_assoc m 128 u.up) in
    (λ i. done (record { value = (e i + (2 ^ 70 - d i)) % 2 ^ 64; rest = u.rest }))

cut-any : (k : ℕ) → sleb_within k [] ≡ refused 7
unfolding sleb_within
cut-any zero = refl
cut-any (suc k) = refl

pub signed_cut : {s : List ℕ} {at v m k p : ℕ} → ReadingSigned s at v m k p → length s ≤ p → ReadsSigned s at (Err Refusal.Cut)
signed_cut {s} {at} {v} {m} {k} {p} R h = record {
  is = sym (R.goes ∙ ap (λ (l : List ℕ). shifted v m (sleb_within k l)) (drop_of_length-le s {i = p} h) ∙ ap (shifted v m) (cut-any k));
  within = tt;
}

-- the value of a last byte
pub value-high : (v m b : ℕ) → 64 ≤ b → v + b * m < m * 128 → m * 128 ≤ 2 ^ 63 → 18446744073709551615 - (m * 128 - (v + b * m) - 1)
    ≡ (v + m * b + (2 ^ 70 - m * cond (leb 64 b) 128 0)) % 2 ^ 64
value-high v m b h f g = rw (le-leb 64 b h) (omega (arith, mul_comm b m))

-- a byte below 128 adds less than its room
pub byte-below : (v m b : ℕ) → v < m → b < 128 → v + b * m < m * 128
byte-below v m b h k = let t : b * m ≤ 127 * m = mul-le-mul_right m (omega arith) in omega arith

module _ (s : List ℕ) (at v m k p b : ℕ) (R : ReadingSigned s at v m k p) (h : p < length s) (e : b ≡ get_or s p 0) where
  here : (j : ℕ) → k ≡ j → (sleb (drop at s) >>= λ n. done (record { value = signed_value n; rest = n.rest }))
      ≡ shifted v m (sleb_within j (b ∷ drop (p + 1) s))
  here j z = R.goes ∙ (λ i. shifted v m (sleb_within (z i) (drop_at s p b h e i)))

  -- before the tenth byte
  pub signed-room : (k ≡ 0 → ⊥) → m * 128 ≤ 2 ^ 63
  signed-room n = roomy m k R.scaled n

  pub signed-end : (r : ℕ) → (k ≡ 0 → ⊥) → b < 128 → r ≡ (v + m * b + (2 ^ 70 - m * cond (leb 64 b) 128 0)) % 2 ^ 64
      → ReadsSigned s at (Ok (record { value = r; next = p + 1 }))
  unfolding sleb_within
  signed-end r n l is =
      let z : k ≡ suc (k - 1) = omega arith in
      record {
        is = ap (λ (x : ℕ). done (record { value = x; rest = drop (p + 1) s })) is ∙ sym (rw (lt-ltb b 128 l) at (here (suc (k - 1)) z));
        within = (omega (arith, R.from), omega arith);
      }

  pub signed-more : (k ≡ 0 → ⊥) → 128 ≤ b → ReadingSigned s at (v + b % 128 * m) (m * 128) (k - 1) (p + 1)
  unfolding sleb_within
  signed-more n l =
      let z : k ≡ suc (k - 1) = omega arith in
      let a : m * 128 * 128 ^ (k - 1) ≡ 2 ^ 63
      = mul_assoc m 128 (128 ^ (k - 1)) ∙ ap (λ (x : ℕ). m * x) (mul_comm 128 (128 ^ (k - 1)) ∙ sym (pow-suc 128 (k - 1)) ∙ ap (λ (x : ℕ). 128 ^ x) (sym z))
      ∙ R.scaled in
      let t : b % 128 * m ≤ 127 * m = mul-le-mul_right m (omega arith) in
      record {
        goes = (rw (le-ltb b 128 l) at (here (suc (k - 1)) z)) ∙ shifted_more v m (b % 128) (sleb_within (k - 1) (drop (p + 1) s));
        scaled = a;
        below = omega (arith, R.below);
        from = omega (arith, R.from);
      }

  -- the tenth byte
  module _ (z : k ≡ 0) where
    scale-is : m ≡ 2 ^ 63
    scale-is = let f : m * 128 ^ 0 ≡ 2 ^ 63 = ap (λ (x : ℕ). m * 128 ^ x) (sym z) ∙ R.scaled in omega arith

    pub signed-tenth-fits : v + m < 2 ^ 64
    signed-tenth-fits = omega (arith, scale-is, R.below)

    pub signed-zero : b ≡ 0 → ReadsSigned s at (Ok (record { value = v; next = p + 1 }))
    unfolding sleb_within
    signed-zero y =
        let q : v ≡ (v + m * 0 + (2 ^ 70 - m * 0)) % 2 ^ 64 = omega (arith, scale-is, R.below) in
        record {
          is = ap (λ (x : ℕ). done (record { value = x; rest = drop (p + 1) s })) q ∙ sym (rw y at (here 0 z));
          within = (omega (arith, R.from), omega arith);
        }

    pub signed-minus : b ≡ 127 → ReadsSigned s at (Ok (record { value = v + m; next = p + 1 }))
    unfolding sleb_within
    signed-minus y =
        let x : v + m * 127 + (2 ^ 70 - m * 128) ≡ v + m + 2 ^ 64 * 63 = omega (arith, scale-is) in
        let q : v + m ≡ (v + m * 127 + (2 ^ 70 - m * 128)) % 2 ^ 64
        = sym (ap (λ (y : ℕ). y % 2 ^ 64) x ∙ add-mul-mod_self_left (v + m) (2 ^ 64) 63 ∙ mod-eq_of_lt (signed-tenth-fits)) in
        record {
          is = ap (λ (x : ℕ). done (record { value = x; rest = drop (p + 1) s })) q ∙ sym (rw y at (here 0 z));
          within = (omega (arith, R.from), omega arith);
        }

    pub signed-long : (b ≡ 128) ⊎ (b ≡ 255) → ReadsSigned s at (Err Refusal.Overlong)
    unfolding sleb_within
    signed-long (inl y) = record { is = sym (rw y at (here 0 z)); within = tt }
    signed-long (inr y) = record { is = sym (rw y at (here 0 z)); within = tt }

    pub signed-overflow : b < 256 → (b ≡ 0 → ⊥) → (b ≡ 127 → ⊥) → (b ≡ 128 → ⊥) → (b ≡ 255 → ⊥) → ReadsSigned s at (Err Refusal.Overflowing)
    unfolding sleb_within
    signed-overflow small n0 n127 n128 n255 =
        record { is = sym (rw (ne_eqb (b % 128) 0 (λ q. go q), ne_eqb (b % 128) 127 (λ q. gone q)) at (here 0 z)); within = tt }
      where
        go : b % 128 ≡ 0 → ⊥
        go q = n128 (omega (arith, n0))

        gone : b % 128 ≡ 127 → ⊥
        gone q = n255 (omega arith)
