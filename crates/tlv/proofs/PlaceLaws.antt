-- The elements of a list by their numbers: after a map, at the front of what is left, and before the first that fails a test.
use mathlib.Core.Path.{◌≡◌, refl, sym, ap, ◌∙◌}
use mathlib.Core.Bool.{Bool, true, false, cond}
use mathlib.Core.Logic.{inl, inr}
use mathlib.Core.List.{List, [], ◌∷◌, map}
use Prim.Native.Nat.{ℕ, zero, suc, ◌≤◌, ◌<◌}
use native.Mathlib.Nat.{add-zero}
use native.Mathlib.Numerals.{add-one}
use native.Mathlib.Omega.{arith}
use lib.ListN.{length, get_or, drop, length-drop}
use lib.Seq.{get_or-drop, drop-drop}
use Rattle.tlv.specs.Lists.{All, Any, take_while, drop_while}
use Rattle.tlv.proofs.TestLaws.{by_test}

module _ {A : Type 0} (P : A → Type 0) where
  pub all_get_or : (xs : List A) (n : ℕ) (d : A) → All P xs → n < length xs → P (get_or xs n d)
  all_get_or [] n d h l = absurd (omega arith)
  all_get_or (x ∷ xs) zero d h l = h.0
  all_get_or (x ∷ xs) (suc n) d h l = all_get_or xs n d h.1 (omega arith)

  pub any_get_or : (xs : List A) (d : A) → Any P xs → (n : ℕ) × (n < length xs) × P (get_or xs n d)
  any_get_or [] d x' = elim x' [ ]
  any_get_or (x ∷ xs) d (inl p) = (0, omega arith, p)
  any_get_or (x ∷ xs) d (inr p) = let t = any_get_or xs d p in (suc t.0, omega arith, t.2)

module _ {A B : Type 0} (f : A → B) where
  pub get_or_image : (xs : List A) (n : ℕ) (d : A) (e : B) → n < length xs → get_or (map f xs) n e ≡ f (get_or xs n d)
  get_or_image [] n d e l = absurd (omega arith)
  get_or_image (x ∷ xs) zero d e l = refl
  get_or_image (x ∷ xs) (suc n) d e l = get_or_image xs n d e (omega arith)

  pub drop_image : (n : ℕ) (xs : List A) → drop n (map f xs) ≡ map f (drop n xs)
  drop_image zero xs = refl
  drop_image (suc n) [] = refl
  drop_image (suc n) (x ∷ xs) = drop_image n xs

-- ---- what is left from number n on

module _ {A : Type 0} (n : ℕ) (xs : List A) (x : A) (rest : List A) (p : drop n xs ≡ x ∷ rest) where
  -- n is a number of the list
  pub front-among : n < length xs
  front-among = omega (arith, length-drop n xs, ap length p)

  -- x stands there, whatever the default
  pub front_is : (d : A) → get_or xs n d ≡ x
  front_is d = sym (get_or-drop n xs 0 d ∙ ap (λ (k : ℕ). get_or xs k d) (add-zero n)) ∙ ap (λ (l : List A). get_or l 0 d) p

  pub front_next : drop (suc n) xs ≡ rest
  front_next = sym (drop-drop 1 n xs ∙ ap (λ (k : ℕ). drop k xs) (add-one n)) ∙ ap (λ (l : List A). drop 1 l) p

-- ---- the elements before the first that fails a test

module _ {A : Type 0} (t : A → Bool) where
  pub while-length : (xs : List A) → length (take_while t xs) ≤ length xs
  unfolding take_while
  while-length [] = omega arith
  while-length (x ∷ xs) = by_test (λ l. length l ≤ suc (length xs)) (t x) {x = x ∷ take_while t xs} {y = []} (λ e. omega (arith, while-length xs)) (λ e. omega arith)

  module _ (d : A) where
    -- each is the list's own, and passes
    pub while_at : (xs : List A) (n : ℕ) → n < length (take_while t xs) → (get_or (take_while t xs) n d ≡ get_or xs n d) × (t (get_or xs n d) ≡ true)
    unfolding take_while
    while_at [] n l = absurd (omega arith)
    while_at (x ∷ xs) n l = go (t x) refl n l (while_at xs)
      where
        go : (b : Bool) → t x ≡ b → (n : ℕ) → n < length (cond b (x ∷ take_while t xs) [])
            → ((n : ℕ) → n < length (take_while t xs) → (get_or (take_while t xs) n d ≡ get_or xs n d) × (t (get_or xs n d) ≡ true))
            → (get_or (cond b (x ∷ take_while t xs) []) n d ≡ get_or (x ∷ xs) n d) × (t (get_or (x ∷ xs) n d) ≡ true)
        go true e zero l ih = (refl, e)
        go true e (suc n) l ih = ih n (omega arith)
        go false e n l ih = absurd (omega arith)

    -- the next one fails
    pub while_stop : (xs : List A) → length (take_while t xs) < length xs → t (get_or xs (length (take_while t xs)) d) ≡ false
    unfolding take_while
    while_stop [] l = absurd (omega arith)
    while_stop (x ∷ xs) l = go (t x) refl l (while_stop xs)
      where
        go : (b : Bool) → t x ≡ b → length (cond b (x ∷ take_while t xs) []) < suc (length xs) → (length (take_while t xs) < length xs → t (get_or xs (length (take_while t xs)) d) ≡ false)
            → t (get_or (x ∷ xs) (length (cond b (x ∷ take_while t xs) [])) d) ≡ false
        go true e l ih = ih (omega arith)
        go false e l ih = e

  pub drop_while-length : (xs : List A) → length (drop_while t xs) ≤ length xs
  unfolding drop_while
  drop_while-length [] = omega arith
  drop_while-length (x ∷ xs) = by_test (λ l. length l ≤ suc (length xs)) (t x) {x = drop_while t xs} {y = x ∷ xs} (λ e. omega (arith, drop_while-length xs)) (λ e. omega arith)

module _ {A B : Type 0} (f : A → B) (t : B → Bool) where
  pub while_image : (xs : List A) → map f (take_while (λ x. t (f x)) xs) ≡ take_while t (map f xs)
  unfolding take_while
  while_image [] = refl
  while_image (x ∷ xs) = go (t (f x)) (while_image xs)
    where
      go : (b : Bool) → map f (take_while (λ x. t (f x)) xs) ≡ take_while t (map f xs)
          → map f (cond b (x ∷ take_while (λ x. t (f x)) xs) []) ≡ cond b (f x ∷ take_while t (map f xs)) []
      go true ih = ap (λ (l : List B). f x ∷ l) ih
      go false ih = refl
