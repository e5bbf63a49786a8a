-- What holds of every element of a list, or of one of them, and of the lists and options made from it.
use mathlib.Core.Path.{◌≡◌, refl, subst, sym, ◌∙◌}
use mathlib.Core.Bool.{Bool, true, false, cond, true≢false}
use mathlib.Core.Logic.{inl, inr, ◌≢◌, ◌↔◌}
use mathlib.Core.List.{List, [], ◌∷◌, ◌++◌, map, cons≢nil}
use mathlib.Core.Option.{Option, none, some, none-ne-some}
use Prim.Native.Nat.{ℕ, zero, suc}
use lib.ListN.{take, drop, set}
use Rattle.tlv.specs.Lists.{All, Any, filter, take_while, drop_while, first, last, or_else, at, map_option}
use Rattle.tlv.specs.Accepted.{Given}
use Rattle.tlv.proofs.TestLaws.{by_test}

-- ---- from each element to all

module _ {A : Type 0} where
  pub all_map : {P Q : A → Type 0} (xs : List A) → ((x : A) → P x → Q x) → All P xs → All Q xs
  all_map [] f h = tt
  all_map (x ∷ xs) f h = (f x h.0, all_map xs f h.1)

  pub all-each : {Q : A → Type 0} (xs : List A) → ((x : A) → Q x) → All Q xs
  all-each [] f = tt
  all-each (x ∷ xs) f = (f x, all-each xs f)

  pub any_map : {P Q : A → Type 0} (xs : List A) → ((x : A) → P x → Q x) → Any P xs → Any Q xs
  any_map {P = P} {Q = Q} [] f x'' = elim x'' [ ]
  any_map (x ∷ xs) f (inl p) = inl (f x p)
  any_map (x ∷ xs) f (inr p) = inr (any_map xs f p)

  -- what follows of the one that is so, where another thing holds of all
  pub any_one : {C : Type 0} {P Q : A → Type 0} (xs : List A) → ((x : A) → P x → Q x → C) → All P xs → Any Q xs → C
  any_one {C = C} {P = P} {Q = Q} [] f h x3 = elim x3 [ ]
  any_one (x ∷ xs) f h (inl q) = f x h.0 q
  any_one (x ∷ xs) f h (inr q) = any_one xs f h.1 q

  -- what reads each back reads all back
  pub map_back : {B : Type 0} {P : A → Type 0} (f : B → A) (g : A → B) (xs : List A) → ((x : A) → P x → f (g x) ≡ x) → All P xs → map f (map g xs) ≡ xs
  map_back f g [] e h = refl
  map_back f g (x ∷ xs) e h = rw (e x h.0, map_back f g xs e h.1)

-- ---- the lists made from a list

module _ {A : Type 0} (P : A → Type 0) where
  pub all_append : (xs ys : List A) → All P xs → All P ys → All P (xs ++ ys)
  all_append [] ys h k = k
  all_append (x ∷ xs) ys h k = (h.0, all_append xs ys h.1 k)

  pub all_take : (n : ℕ) (xs : List A) → All P xs → All P (take n xs)
  all_take zero xs h = tt
  all_take (suc n) [] h = tt
  all_take (suc n) (x ∷ xs) h = (h.0, all_take n xs h.1)

  pub all_drop : (n : ℕ) (xs : List A) → All P xs → All P (drop n xs)
  all_drop zero xs h = h
  all_drop (suc n) [] h = tt
  all_drop (suc n) (x ∷ xs) h = all_drop n xs h.1

  pub all_set : (xs : List A) (n : ℕ) (x : A) → P x → All P xs → All P (set xs n x)
  all_set [] n x p h = tt
  all_set (y ∷ ys) zero x p h = (p, h.1)
  all_set (y ∷ ys) (suc n) x p h = (h.0, all_set ys n x p h.1)

  pub any_some : (xs : List A) → Any P xs → xs ≢ []
  any_some [] h = elim h [ ]
  any_some (x ∷ xs) h = cons≢nil

  pub some-any : (xs : List A) → All P xs → xs ≢ [] → Any P xs
  some-any [] h k = absurd (k refl)
  some-any (x ∷ xs) h k = inl h.0

  module _ (t : A → Bool) where
    -- what is kept passes the test too
    pub all_filter : (xs : List A) → All P xs → All (λ x. P x × (t x ≡ true)) (filter t xs)
    unfolding filter
    all_filter [] h = tt
    all_filter (x ∷ xs) h = by_test (All (λ x. P x × (t x ≡ true))) (t x) (λ e. ((h.0, e), all_filter xs h.1)) (λ e. all_filter xs h.1)

    pub any-filter : (xs : List A) → Any P (filter t xs) ↔ Any (λ x. P x × (t x ≡ true)) xs
    unfolding filter
    any-filter [] = (λ p. p, λ p. p)
    any-filter (x ∷ xs) = go (t x) refl (any-filter xs)
      where
        go : (b : Bool) → t x ≡ b → Any P (filter t xs) ↔ Any (λ x. P x × (t x ≡ true)) xs → Any P (cond b (x ∷ filter t xs) (filter t xs)) ↔ Any (λ x. P x × (t x ≡ true)) (x ∷ xs)
        go true e ih = (elim [ inl p ↦ inl (p, e) | inr p ↦ inr (ih.0 p) ], elim [ inl p ↦ inl p.0 | inr p ↦ inr (ih.1 p) ])
        go false e ih = (λ p. inr (ih.0 p), elim [ inl p ↦ absurd (true≢false (sym p.1 ∙ e)) | inr p ↦ ih.1 p ])

    pub all-take_while : (xs : List A) → All P xs → All P (take_while t xs)
    unfolding take_while
    all-take_while [] h = tt
    all-take_while (x ∷ xs) h = by_test (All P) (t x) (λ e. (h.0, all-take_while xs h.1)) (λ e. tt)

    pub all-drop_while : (xs : List A) → All P xs → All P (drop_while t xs)
    unfolding drop_while
    all-drop_while [] h = tt
    all-drop_while (x ∷ xs) h = by_test (All P) (t x) (λ e. all-drop_while xs h.1) (λ e. h)

    -- ---- an element of a list

    pub all_first : (xs : List A) → All P xs → Given P (first t xs)
    unfolding first
    all_first [] h = tt
    all_first (x ∷ xs) h = by_test (Given P) (t x) (λ e. h.0) (λ e. all_first xs h.1)

    pub all-last : (xs : List A) → All P xs → Given P (last t xs)
    unfolding last or_else
    all-last [] h = tt
    all-last (x ∷ xs) h = go (last t xs) (t x) (all-last xs h.1)
      where
        go : (o : Option A) (b : Bool) → Given P o → Given P (or_else o (cond b (some x) none))
        go none true ih = h.0
        go none false ih = tt
        go (some y) b ih = ih

  pub all-at : (xs : List A) (n : ℕ) → All P xs → Given P (at xs n)
  unfolding at
  all-at [] n h = tt
  all-at (x ∷ xs) zero h = h.0
  all-at (x ∷ xs) (suc n) h = all-at xs n h.1

  pub given-some : (o : Option A) (a : A) → Given P o → o ≡ some a → P a
  given-some o a h e = subst (Given P) e h

-- ---- images

module _ {A B : Type 0} (P : B → Type 0) (f : A → B) where
  pub all-image : (xs : List A) → All (λ x. P (f x)) xs → All P (map f xs)
  all-image [] h = tt
  all-image (x ∷ xs) h = (h.0, all-image xs h.1)

  pub given-image : (o : Option A) → Given (λ a. P (f a)) o → Given P (map_option f o)
  unfolding map_option
  given-image none h = tt
  given-image (some a) h = h

module _ {A B : Type 0} (f : A → B) where
  pub at-image : (xs : List A) (n : ℕ) → at (map f xs) n ≡ map_option f (at xs n)
  unfolding at map_option
  at-image [] n = refl
  at-image (x ∷ xs) zero = refl
  at-image (x ∷ xs) (suc n) = at-image xs n

  -- what is mapped to something is something
  pub mapped : (o : Option A) (b : B) → map_option f o ≡ some b → (a : A) × (o ≡ some a) × (f a ≡ b)
  unfolding map_option
  mapped none b e = absurd (none-ne-some b e)
  mapped (some a) b e = (a, refl, cc)

  pub mapped-twice : {C : Type 0} (g : B → C) (o : Option A) → map_option g (map_option f o) ≡ map_option (λ a. g (f a)) o
  unfolding map_option
  mapped-twice g none = refl
  mapped-twice g (some a) = refl
