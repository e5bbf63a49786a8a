-- How outcomes end: what a step that is done was done with, and what is so of every value that an outcome can be done with.
use mathlib.Core.Path.{◌≡◌, refl, subst}
use mathlib.Core.Bool.{Bool, true, false, cond}
use Prim.Native.Nat.{ℕ}
use native.Mathlib.Omega.{arith}
use Rattle.tlv.specs.Outcome.{Outcome, refused, done, ◌>>=◌}
use Rattle.tlv.proofs.TestLaws.{by_test}

-- ---- an outcome that is done

-- one value
pub done-is : {A : Type 0} {a b : A} → done a ≡ done b → a ≡ b
done-is e = cc

-- a refusal is no value
pub refused-not : {A B : Type 0} {n : ℕ} {a : A} → refused n ≡ done a → B
refused-not e = let z : ◌≡◌ {A = ℕ} 0 1 = cc in absurd (omega arith)

module _ {A B : Type 0} where
  -- two steps are done: the first is, and the second is from its value
  pub with_done : (x : Outcome A) (f : A → Outcome B) {c : B} {P : Type 0} → (x >>= f) ≡ done c → ((a : A) → x ≡ done a → f a ≡ done c → P) → P
  unfolding ◌>>=◌
  with_done (refused n) f e p = refused-not e
  with_done (done a) f e p = p a refl e

abbrev pub Done : {A : Type 0} → Outcome A → Type 0
Done {A} x = (a : A) × (x ≡ done a)

pub done-bind : {A B : Type 0} (x : Outcome A) (f : A → Outcome B) → Done x → ((a : A) → Done (f a)) → Done (x >>= f)
unfolding ◌>>=◌
done-bind (refused n) f h k = refused-not h.1
done-bind (done a) f h k = k a

-- ---- what an outcome is done with, where it is

-- a refusal, or a value that is so
pub data Gives {A : Type 0} (P : A → Type 0) : Outcome A → Type 0 where
  gives_none : {n : ℕ} → Gives P (refused n)
  gives : {a : A} → P a → Gives P (done a)

module _ {A : Type 0} {P : A → Type 0} where
  pub gives-cond : (b : Bool) {x y : Outcome A} → (b ≡ true → Gives P x) → (b ≡ false → Gives P y) → Gives P (cond b x y)
  gives-cond = by_test (Gives P)

  -- what the predicate says, and how to show it
  pub given : {x : Outcome A} {a : A} → Gives P x → x ≡ done a → P a
  given gives_none e = refused-not e
  given (gives p) e = subst P (done-is e) p

  pub gives_of : (x : Outcome A) → ((a : A) → x ≡ done a → P a) → Gives P x
  gives_of (refused n) f = gives_none
  gives_of (done a) f = gives (f a refl)

pub gives-map : {A : Type 0} {P Q : A → Type 0} {x : Outcome A} → ((a : A) → P a → Q a) → Gives P x → Gives Q x
gives-map f gives_none = gives_none
gives-map f (gives {a} p) = gives (f a p)

module _ {A B : Type 0} {P : A → Type 0} {Q : B → Type 0} where
  pub gives-bind : {x : Outcome A} {f : A → Outcome B} → Gives P x → ((a : A) → P a → Gives Q (f a)) → Gives Q (x >>= f)
  unfolding ◌>>=◌
  gives-bind gives_none g = gives_none
  gives-bind (gives {a} p) g = g a p
