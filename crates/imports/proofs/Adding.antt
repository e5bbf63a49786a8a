-- Lists that answer each other, and what a run of steps adds to a list, each step for the next of the things that it answers for.
use mathlib.Core.Path.{◌≡◌}
use mathlib.Core.List.{List, [], ◌∷◌, ◌++◌, append-nil, append_assoc}
use Rattle.imports.specs.Demand.{Pointwise}

module _ {A B : Type 0} (R : A → B → Type 0) where
  pub pointwise_append : (xs : List A) (ys : List B) (vs : List A) (ws : List B) → Pointwise R xs ys → Pointwise R vs ws → Pointwise R (xs ++ vs) (ys ++ ws)
  pointwise_append [] [] vs ws p q = q
  pointwise_append [] (y ∷ ys) vs ws p q = absurd p
  pointwise_append (x ∷ xs) [] vs ws p q = absurd p
  pointwise_append (x ∷ xs) (y ∷ ys) vs ws p q = (p.0, pointwise_append xs ys vs ws p.1 q)

  pub pointwise_map : (S : A → B → Type 0) → ((x : A) (y : B) → R x y → S x y) → (xs : List A) (ys : List B) → Pointwise R xs ys → Pointwise S xs ys
  pointwise_map S f [] [] p = tt
  pointwise_map S f [] (y ∷ ys) p = absurd p
  pointwise_map S f (x ∷ xs) [] p = absurd p
  pointwise_map S f (x ∷ xs) (y ∷ ys) p = (f x y p.0, pointwise_map S f xs ys p.1)

-- ys is xs and new ones after it, which answer for ks
pub record Adds {A B : Type 0} (R : A → B → Type 0) (ks : List A) (xs ys : List B) : Type 0 where
  pub new : List B
  pub added : ys ≡ xs ++ new
  pub agree : Pointwise R ks new

module _ {A B : Type 0} (R : A → B → Type 0) where
  pub adds_none : {xs ys : List B} → ys ≡ xs → Adds R [] xs ys
  adds_none {xs} e = record { new = []; added = rw append-nil e; agree = tt }

  pub adds_one : {xs ys : List B} (k : A) (y : B) → ys ≡ xs ++ (y ∷ []) → R k y → Adds R (k ∷ []) xs ys
  adds_one k y e r = record { new = y ∷ []; added = e; agree = (r, tt) }

  pub adds_then : {ks ls : List A} {xs ys zs : List B} → Adds R ks xs ys → Adds R ls ys zs → Adds R (ks ++ ls) xs zs
  adds_then {ks} {ls} {xs} p q = record {
    new = p.new ++ q.new;
    added = rw (← (append_assoc xs p.new q.new), ← p.added) q.added;
    agree = pointwise_append R ks p.new ls q.new p.agree q.agree;
  }
