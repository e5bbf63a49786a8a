-- The numbers of the kept entries, ascending.
use mathlib.Core.Path.{◌≡◌, refl, sym, ◌∙◌}
use mathlib.Core.Logic.{◌⊎◌, inl, inr, ◌≢◌}
use mathlib.Core.List.{List, [], ◌∷◌, cons≢nil}
use Prim.Native.Nat.{ℕ, zero, suc, ◌+◌, ◌≤◌, ◌<◌}
use native.Mathlib.Omega.{arith}
use native.Mathlib.Nat.{eq-or-lt_of_le}
use lib.ListN.{length, get_or}
use Rattle.tlv.specs.declared.model.AddressRange.{AddressRange}
use Rattle.tlv.specs.Lists.{All}
use Rattle.tlv.proofs.ListLaws.{all_map}
use Rattle.tlv.proofs.PlaceLaws.{all_get_or}

-- entry n in front, where it has merged ranges
abbrev pub number_if : ℕ → List AddressRange → List ℕ → List ℕ
number_if n [] is = is
number_if n (m ∷ ms) is = n ∷ is

-- the kept among m numbers from n on
module _ (merged : ℕ → List AddressRange) where
  unfoldable pub kept_from : ℕ → ℕ → List ℕ
  kept_from n zero = []
  kept_from n (suc m) = number_if n (merged n) (kept_from (suc n) m)

  pub kept-among : (n m : ℕ) → All (λ i. (n ≤ i) × (i < n + m) × (merged i ≢ [])) (kept_from n m)
  unfolding kept_from
  kept-among n zero = tt
  kept-among n (suc m) = go (merged n) refl (all_map (kept_from (suc n) m) (λ i h. (omega arith, omega arith, h.2)) (kept-among (suc n) m))
    where
      go : (ms : List AddressRange) → merged n ≡ ms → All (λ i. (n ≤ i) × (i < n + suc m) × (merged i ≢ [])) (kept_from (suc n) m) → All (λ i. (n ≤ i) × (i < n + suc m) × (merged i ≢ [])) (number_if n ms (kept_from (suc n) m))
      go [] e h = h
      go (x ∷ ms) e h = ((omega arith, omega arith, λ z. cons≢nil (sym e ∙ z)), h)

  pub kept-ascending : (n m j k : ℕ) → j < k → k < length (kept_from n m) → get_or (kept_from n m) j 0 < get_or (kept_from n m) k 0
  unfolding kept_from
  kept-ascending n zero j k h l = absurd (omega arith)
  kept-ascending n (suc m) j k h l = go (merged n) j k h l (λ x y. kept-ascending (suc n) m x y)
    where
      go : (ms : List AddressRange) (j k : ℕ) → j < k → k < length (number_if n ms (kept_from (suc n) m)) → ((x y : ℕ) → x < y → y < length (kept_from (suc n) m) → get_or (kept_from (suc n) m) x 0 < get_or (kept_from (suc n) m) y 0) →
          get_or (number_if n ms (kept_from (suc n) m)) j 0 < get_or (number_if n ms (kept_from (suc n) m)) k 0
      go [] j k h l ih = ih j k h l
      go (x ∷ ms) j zero h l ih = absurd (omega arith)
      go (x ∷ ms) zero (suc k) h l ih = omega (arith, all_get_or (λ i. (suc n ≤ i) × (i < suc n + m) × (merged i ≢ [])) (kept_from (suc n) m) k 0 (kept-among (suc n) m) (omega arith))
      go (x ∷ ms) (suc j) (suc k) h l ih = ih j k (omega arith) (omega arith)

  pub kept-onto : (n m i : ℕ) → n ≤ i → i < n + m → merged i ≢ [] → (j : ℕ) × (j < length (kept_from n m)) × (get_or (kept_from n m) j 0 ≡ i)
  unfolding kept_from
  kept-onto n zero i h l k = absurd (omega arith)
  kept-onto n (suc m) i h l k = go (eq-or-lt_of_le h) (merged n) refl (λ g. kept-onto (suc n) m i g (omega arith) k)
    where
      go : (n ≡ i) ⊎ (n < i) → (ms : List AddressRange) → merged n ≡ ms → (n < i → (j : ℕ) × (j < length (kept_from (suc n) m)) × (get_or (kept_from (suc n) m) j 0 ≡ i)) →
          (j : ℕ) × (j < length (number_if n ms (kept_from (suc n) m))) × (get_or (number_if n ms (kept_from (suc n) m)) j 0 ≡ i)
      go (inl e) [] q ih = absurd (k (rw e at q))
      go (inl e) (x ∷ ms) q ih = (0, omega arith, e)
      go (inr g) [] q ih = ih g
      go (inr g) (x ∷ ms) q ih = let t = ih g in (suc t.0, omega arith, t.2)
