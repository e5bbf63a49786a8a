-- Contract. Numbers that may be missing, in a list of bytes: a byte 1 and the number, or another byte.
use Rattle.std.specs.Prelude.{ℕ, ◌+◌, ◌≡◌, cond, List, eqb, Option as Maybe, Some, None}
use Rattle.std.proofs.Math.Option.{Option, none, some}
use Rattle.tlv.specs.Bytes.{le_at}
use Rattle.buffers.specs.Table.{Kept}

-- what the code's Option says, in the definitions' own, each number by its value
abbrev pub numbers_of : {A : Type 0} → (A → ℕ) → Maybe A → Option ℕ
numbers_of value (Some n) = some (value n)
numbers_of value None = none

-- the number of k bytes behind the byte at p
unfoldable pub option_at : ℕ → List ℕ → ℕ → Option ℕ
option_at k w p = cond (eqb (le_at 1 w p) 1) (some (le_at k w (p + 1))) none

-- a number of k bytes, or none, was written at p
pub record PutOption (w w' : List ℕ) (p k : ℕ) (o : Option ℕ) : Type 0 where
  pub value : option_at k w' p ≡ o
  pub rest : Kept w w' p (1 + k)
