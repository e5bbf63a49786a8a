-- Which numbers a refusal can have, where they are no interval: the predicate, and its laws for `>>=` and `cond`.
use Rattle.std.proofs.Common.{◌≡◌, ℕ, ◌≤◌, Bool, true, false, cond, sym, subst}
use Rattle.tlv.specs.Outcome.{Outcome, refused, done, ◌>>=◌}
use Rattle.tlv.proofs.OutcomeLaws.{refused-not}
use Rattle.tlv.proofs.RefusalLaws.{RefusesIn, number, never}

-- an outcome that is done, or a refusal by a number that is so
pub data Refuses {A : Type 0} (P : ℕ → Type 0) : Outcome A → Type 0 where
  by_number : {n : ℕ} → P n → Refuses P (refused n)
  not-refused : {a : A} → Refuses P (done a)

module _ {A : Type 0} {P : ℕ → Type 0} where
  pub number-cond : (b : Bool) {x y : Outcome A} → Refuses P x → Refuses P y → Refuses P (cond b x y)
  number-cond true r s = r
  number-cond false r s = s

  -- what the predicate says
  pub number_of : {n : ℕ} {x : Outcome A} → Refuses P x → x ≡ refused n → P n
  number_of {n = n} (by_number {n = m} p) e = let k : m ≡ n = cc in subst P k p
  number_of not-refused e = refused-not (sym e)

  -- numbers of an interval
  pub number_in : (lo hi : ℕ) {x : Outcome A} → ((n : ℕ) → lo ≤ n → n ≤ hi → P n) → RefusesIn lo hi x → Refuses P x
  number_in lo hi f (number {n} p q) = by_number (f n p q)
  number_in lo hi f never = not-refused

module _ {A : Type 0} {P Q : ℕ → Type 0} where
  -- among more numbers
  pub number-among : {x : Outcome A} → ((n : ℕ) → P n → Q n) → Refuses P x → Refuses Q x
  number-among f (by_number {n} p) = by_number (f n p)
  number-among f not-refused = not-refused

module _ {A B : Type 0} {P : ℕ → Type 0} where
  pub number-bind : {x : Outcome A} {f : A → Outcome B} → Refuses P x → ((a : A) → Refuses P (f a)) → Refuses P (x >>= f)
  unfolding ◌>>=◌
  number-bind (by_number p) g = by_number p
  number-bind (not-refused {a}) g = g a
