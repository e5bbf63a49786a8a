-- Contract. What the functions that join paths in a work slice promise.
use Rattle.std.specs.Prelude.{ℕ, ◌≡◌, List, length}
use Rattle.buffers.specs.Table.{chunk, Kept}

-- the r bytes at `at` are the path l, and nothing else was written
pub record Laid (w w' : List ℕ) (at r : ℕ) (l : List ℕ) : Type 0 where
  pub path : chunk w' at r ≡ l
  pub size : r ≡ length l
  pub rest : Kept w w' at r
