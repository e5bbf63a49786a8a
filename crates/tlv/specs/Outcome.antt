-- Definition. An answer that can be a refusal.
use Rattle.std.specs.Prelude.{ℕ}

-- a value, or a refusal by its number in document 01's table
pub data Outcome (A : Type 0) : Type 0 where
  refused : ℕ → Outcome A
  done : A → Outcome A

module _ {A B : Type 0} where
  infixl 20 ◌>>=◌
  -- the Rust's `?`: the first refusal is the answer
  unfoldable pub ◌>>=◌ : Outcome A → (A → Outcome B) → Outcome B
  refused n >>= f = refused n
  done a >>= f = f a
