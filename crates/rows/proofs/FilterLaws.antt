-- What is kept of a list, and the first, the last and some element that pass a test: of lists put together, and where no element passes.
use mathlib.Core.Path.{◌≡◌, refl, sym, ap, ◌∙◌}
use mathlib.Core.Bool.{Bool, false, cond}
use mathlib.Core.List.{List, [], ◌∷◌, ◌++◌}
use mathlib.Core.Option.{Option, none, some}
use Prim.Native.Nat.{ℕ}
use lib.ListN.{take, drop, take-append-drop}
use Rattle.tlv.specs.Lists.{All, filter, last, or_else}

pub or_else-assoc : {A : Type 0} (o p q : Option A) → or_else (or_else o p) q ≡ or_else o (or_else p q)
unfolding or_else
or_else-assoc none p q = refl
or_else-assoc (some a) p q = refl

pub or_else_none : {A : Type 0} (o : Option A) → or_else o none ≡ o
unfolding or_else
or_else_none none = refl
or_else_none (some a) = refl

module _ {A : Type 0} where
  module _ (p : A → Bool) where
    pub filter_none : (xs : List A) → All (λ x. p x ≡ false) xs → filter p xs ≡ []
    unfolding filter
    filter_none [] h = refl
    filter_none (x ∷ xs) h = rw h.0 (filter_none xs h.1)

    pub last-append : (xs ys : List A) → last p (xs ++ ys) ≡ or_else (last p ys) (last p xs)
    unfolding last
    last-append [] ys = sym (or_else_none (last p ys))
    last-append (x ∷ xs) ys = rw (last-append xs ys) (or_else-assoc (last p ys) (last p xs) (cond (p x) (some x) none))

    pub last_none : (xs : List A) → All (λ x. p x ≡ false) xs → last p xs ≡ none
    unfolding last or_else
    last_none [] h = refl
    last_none (x ∷ xs) h = rw (h.0, last_none xs h.1)

    pub last-take : (i : ℕ) (xs : List A) → All (λ x. p x ≡ false) (drop i xs) → last p xs ≡ last p (take i xs)
    unfolding or_else
    last-take i xs h = ap (last p) (sym (take-append-drop i xs)) ∙ last-append (take i xs) (drop i xs) ∙ rw (last_none (drop i xs) h)
