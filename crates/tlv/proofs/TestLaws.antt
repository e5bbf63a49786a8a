-- The cases of a test, and what tests say: of two that both hold, of one of two, of a list that is not empty, of byte strings that are the same.
use mathlib.Core.Path.{◌≡◌, refl}
use mathlib.Core.Bool.{Bool, true, false, cond, ◌&&◌, ◌||◌, true≢false, false≢true}
use mathlib.Core.Logic.{◌⊎◌, inl, inr, ◌≢◌}
use mathlib.Core.List.{List, [], ◌∷◌, cons≢nil}
use Prim.Native.Nat.{ℕ, ◌≤◌, ◌<◌}
use borrow.Author.Tests.{ltb-true, ltb-false, eqb-true}
use lib.Dec.{ltb, eqb}
use Rattle.tlv.specs.Lists.{is_empty, same}

-- what is so of both is so of the one that a test takes
pub by_test : {A : Type 0} (P : A → Type 0) (b : Bool) {x y : A} → (b ≡ true → P x) → (b ≡ false → P y) → P (cond b x y)
by_test P true f g = f refl
by_test P false f g = g refl

-- one number is below another, or not
pub by_less : (C : Type 0) (m n : ℕ) → (m < n → C) → (n ≤ m → C) → C
by_less C m n f g = go (ltb m n) refl
  where
    go : (b : Bool) → ltb m n ≡ b → C
    go true e = f (ltb-true m n e)
    go false e = g (ltb-false m n e)

pub and_left : (a b : Bool) → (a && b) ≡ true → a ≡ true
and_left true b e = refl
and_left false b e = e

pub and_right : (a b : Bool) → (a && b) ≡ true → b ≡ true
and_right true b e = e
and_right false b e = absurd (false≢true e)

pub or_either : (a b : Bool) → (a || b) ≡ true → (a ≡ true) ⊎ (b ≡ true)
or_either true b e = inl refl
or_either false b e = inr e

pub or_neither : (a b : Bool) → (a || b) ≡ false → b ≡ false
or_neither true b e = absurd (true≢false e)
or_neither false b e = e

module _ {A : Type 0} where
  pub filled-empty : (xs : List A) → xs ≢ [] → is_empty xs ≡ false
  filled-empty [] h = absurd (h refl)
  filled-empty (x ∷ xs) h = refl

  pub empty-filled : (xs : List A) → is_empty xs ≡ false → xs ≢ []
  empty-filled [] e = absurd (true≢false e)
  empty-filled (x ∷ xs) e = cons≢nil

-- byte strings that test the same are the same
pub same_true : (x y : List ℕ) → same x y ≡ true → x ≡ y
unfolding same
same_true [] [] e = refl
same_true [] (b ∷ y) e = absurd (false≢true e)
same_true (a ∷ x) [] e = absurd (false≢true e)
same_true (a ∷ x) (b ∷ y) e = rw (eqb-true a b (and_left (eqb a b) (same x y) e), same_true x y (and_right (eqb a b) (same x y) e))
