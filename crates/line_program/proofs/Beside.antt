-- Answers beside the Standard's go through `◌>>=◌`, a test and a map.
use mathlib.Core.Path.{◌≡◌, refl, ap}
use mathlib.Core.Bool.{Bool, true, false, cond}
use mathlib.Core.Logic.{inl, inr}
use mathlib.Core.Option.{Option, none}
use Prim.Native.Nat.{ℕ, ◌≤◌}
use Rattle.tlv.specs.Outcome.{Outcome, refused, done, ◌>>=◌}
use Rattle.tlv.specs.Lists.{map_option}
use Rattle.line_program.specs.Standard.{and_then}
use Rattle.line_program.specs.Conforms.{Beside}

module _ {A : Type 0} where
  -- a refusal that the Standard shares
  pub beside_none : (n : ℕ) → 7 ≤ n → n ≤ 9 → Beside {A = A} (refused n) none
  beside_none n l m = inl (l, m, refl)

  -- a limit that the Standard does not have
  pub beside-limit : (n : ℕ) (y : Option A) → 10 ≤ n → n ≤ 12 → Beside (refused n) y
  beside-limit n y l m = inr (l, m)

  -- the same test on both sides
  pub beside_if : (t : Bool) (x x' : Outcome A) (y y' : Option A) → (t ≡ true → Beside x y) → (t ≡ false → Beside x' y') → Beside (cond t x x') (cond t y y')
  beside_if true x x' y y' b b' = b refl
  beside_if false x x' y y' b b' = b' refl

module _ {A B : Type 0} where
  -- first one thing, then another
  pub beside_then : (x : Outcome A) (y : Option A) (f : A → Outcome B) (g : A → Option B) → Beside x y → ((a : A) → Beside (f a) (g a))
      → Beside (x >>= f) (and_then y g)
  unfolding ◌>>=◌ and_then
  beside_then (done a) y f g b h = rw b (h a)
  beside_then (refused n) y f g (inl p) h = inl (p.0, p.1, ap (λ (o : Option A). and_then o g) p.2)
  beside_then (refused n) y f g (inr p) h = inr p

  pub beside_map : (x : Outcome A) (y : Option A) (f : A → B) → Beside x y → Beside (x >>= λ a. done (f a)) (map_option f y)
  unfolding ◌>>=◌ map_option
  beside_map (done a) y f b = ap (map_option f) b
  beside_map (refused n) y f (inl p) = inl (p.0, p.1, ap (map_option f) p.2)
  beside_map (refused n) y f (inr p) = inr p
