-- Things that are all different and all stand in a list are no more than the list has.
use mathlib.Core.Path.{◌≡◌, sym, ◌∙◌}
use mathlib.Core.Logic.{inl, inr}
use mathlib.Core.List.{List, ◌∷◌}
use Prim.Native.Nat.{ℕ, zero, suc, ◌≤◌, ◌<◌}
use native.Mathlib.Omega.{arith}
use lib.ListN.{length}
use Rattle.tlv.specs.Lists.{Any}

module _ {A : Type 0} where
  -- a list without an element that stands in it
  without : (x : A) (l : List A) → Any (λ y. x ≡ y) l → List A
  without x mathlib.Core.List.[] x'' = elim x'' [ ]
  without x (y ∷ l) (inl e) = l
  without x (y ∷ l) (inr k) = y ∷ without x l k

  without-length : (x : A) (l : List A) (k : Any (λ y. x ≡ y) l) → length l ≡ suc (length (without x l k))
  unfolding without
  without-length x mathlib.Core.List.[] k = elim k [ ]
  without-length x (y ∷ l) (inl e) = omega arith
  without-length x (y ∷ l) (inr k) = let ih = without-length x l k in omega arith

  -- every other one still stands in it
  without_other : (x z : A) (l : List A) (k : Any (λ y. x ≡ y) l) → (z ≡ x → ⊥) → Any (λ y. z ≡ y) l → Any (λ y. z ≡ y) (without x l k)
  unfolding without
  without_other x z mathlib.Core.List.[] k ne _ = elim k [ ]
  without_other x z (y ∷ l) (inl e) ne (inl f) = absurd (ne (f ∙ sym e))
  without_other x z (y ∷ l) (inl e) ne (inr m) = m
  without_other x z (y ∷ l) (inr k) ne (inl f) = inl f
  without_other x z (y ∷ l) (inr k) ne (inr m) = inr (without_other x z l k ne m)

  -- n different ones of a list
  pub pigeons : (n : ℕ) (f : ℕ → A) (l : List A) → ((i j : ℕ) → i < j → j < n → f i ≡ f j → ⊥) → ((i : ℕ) → i < n → Any (λ y. f i ≡ y) l) → n ≤ length l
  pigeons zero f l d m = omega arith
  pigeons (suc n) f l d m =
      let k = m n (omega arith) in
      let ih = pigeons n f (without (f n) l k) (λ i j h g. d i j h (omega arith)) (λ i h. without_other (f n) (f i) l k (d i n h (omega arith)) (m i (omega arith))) in
      omega (arith, without-length (f n) l k)

  -- and one that is none of them
  pub one_more : (n : ℕ) (f : ℕ → A) (x : A) (l : List A) → ((i j : ℕ) → i < j → j < n → f i ≡ f j → ⊥) → ((i : ℕ) → i < n → Any (λ y. f i ≡ y) l)
      → ((i : ℕ) → i < n → f i ≡ x → ⊥) → Any (λ y. x ≡ y) l → n < length l
  one_more n f x l d m ne k =
      let few = pigeons n f (without x l k) d (λ i h. without_other x (f i) l k (ne i h) (m i h)) in
      omega (arith, without-length x l k)
