-- The loop of address_operand, which has passed the n highest bytes.
use Rattle.std.proofs.Common.{◌≡◌, ℕ, zero, suc, ◌+◌, ◌-◌, ◌*◌, ◌<◌, ◌≤◌, List, [], ◌∷◌, length, get_or, reverse, drop, sym, ap, ◌∙◌, subst, arith, drop-cons}
use Rattle.std.proofs.lemmas.List.{get_or-reverse, length-reverse}
use Rattle.tlv.specs.Bytes.{le}

-- the number of these bytes
abbrev pub highest : List ℕ → ℕ → ℕ
highest s n = le (drop (length s - n) s)

le-drop : (s : List ℕ) (k : ℕ) → le (drop k s) ≤ le s
le-drop s zero = omega arith
le-drop [] (suc k) = omega arith
le-drop (b ∷ s) (suc k) = omega (arith, le-drop s k)

-- b is the byte at which the loop is
module _ (s : List ℕ) {n b : ℕ} (turn : (n < length (reverse s)) × (b ≡ get_or (reverse s) n b)) where
  pub highest_more : highest s (n + 1) ≡ b + 256 * highest s n
  highest_more =
      let few : n < length s = subst (λ (k : ℕ). n < k) (length-reverse s) turn.0 in
      let here : length s - 1 - n ≡ length s - (n + 1) = omega arith in
      let above : suc (length s - (n + 1)) ≡ length s - n = omega arith in
      let byte : b ≡ get_or s (length s - (n + 1)) b = turn.1 ∙ get_or-reverse s n b few ∙ ap (λ (k : ℕ). get_or s k b) here in
      ap le (drop-cons s (length s - (n + 1)) b (omega arith))
      ∙ ap (λ (k : ℕ). get_or s (length s - (n + 1)) b + 256 * le (drop k s)) above
      ∙ ap (λ (k : ℕ). k + 256 * highest s n) (sym byte)

  pub highest_past : 256 * highest s n ≤ le s
  highest_past = omega (arith, highest_more, le-drop s (length s - (n + 1)))
