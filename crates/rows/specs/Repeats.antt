-- Contract. Neighbours that repeat one another dropped from a table of records of any size: what the test says, and what is left.
use Rattle.std.specs.Prelude.{ℕ, ◌+◌, ◌*◌, ◌≤◌, ◌≡◌, Bool, List, length}
use denote.Ref.{Bor}
use Rattle.buffers.specs.Table.{chunk, records, Kept}
use Rattle.lines.specs.Lines.{drop_neighbours}

-- the test may be made of any two records of a slice
abbrev pub MayTest : ℕ → (Bor (List ℕ) → ℕ → ℕ → Type 0) → Type 0
MayTest size pre = (w : Bor (List ℕ)) (p q : ℕ) → p + size ≤ length w.now → q + size ≤ length w.now → pre w p q

-- it says of them what `equal` says of their bytes
abbrev pub TestsBy : ℕ → (List ℕ → List ℕ → Bool) → (Bor (List ℕ) → ℕ → ℕ → Bool → Type 0) → Type 0
TestsBy size equal post = (w : Bor (List ℕ)) (p q : ℕ) (r : Bool) → p + size ≤ length w.now → q + size ≤ length w.now → post w p q r
    → r ≡ equal (chunk w.now p size) (chunk w.now q size)

-- of the n records at base, those that repeat their neighbour went: r are left
pub record Dropped {A : Type 0} (f : List ℕ → A) (size : ℕ) (equal : A → A → Bool) (w w' : List ℕ) (base n r : ℕ) : Type 0 where
  pub within : r ≤ n
  pub rows : records f size w' base r ≡ drop_neighbours equal (records f size w base n)
  pub rest : Kept w w' base (n * size)
