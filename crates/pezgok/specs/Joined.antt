-- Contract. What the join of symbols for callers from C promises: the same as that of `symbols`, with the answer as numbers.
use Rattle.std.specs.Prelude.{◌≡◌, List, ℕ, length, replicate}
use Rattle.lookup.specs.Window.{ListAfter}
use Rattle.symbols.specs.Symbols.{join_symbols}

-- the answer that a refusal's number and a length stand for
abbrev pub join_in : ℕ → ℕ → List ℕ → ListAfter
join_in n size result = record { refusal = n; size = size; lent = result }

pub record ExportsJoin (tray list result result' work work' : List ℕ) (size r : ℕ) : Type 0 where
  pub is : join_in r size result' ≡ join_symbols tray list result
  pub zeros : work' ≡ replicate (length work) 0
