-- The loop from the front on small tables, in order and not.
use Prim.Native.Nat.{ℕ}
use mathlib.Core.Path.{◌≡◌, refl}
use mathlib.Core.List.{List, [], ◌∷◌}
use mathlib.Core.Option.{none, some}
use Rattle.tlv.specs.declared.model.AddressRange.{AddressRange}
use Rattle.tlv.specs.declared.model.LineEntry.{LineEntry}
use Rattle.lines.specs.Lines.{SequencedLine}
use Rattle.lines.specs.Rows.{contains}
use Rattle.rows.specs.Front.{FrontRows, front_rows}

abbrev row : ℕ → LineEntry
row a = record { address = a; file = record { 0 = 1 }; line = a; column = 0 }

-- a row of the sequence at 44
abbrev of : ℕ → SequencedLine
of a = record { entry = row a; statement_sequence = some 44 }

abbrev range : ℕ → ℕ → AddressRange
range s e = record { start = s; end = e }

abbrev answer : List LineEntry → ℕ → FrontRows
answer rows past = record { rows = rows; past = past }

-- the loop ends at 20; what stands behind it, here a row of the range, is not looked at
ends : front_rows (range 8 20) none (of 4 ∷ of 10 ∷ of 20 ∷ of 12 ∷ []) ≡ answer (row 10 ∷ []) 2
unfolding front_rows contains
ends = refl

-- two tables alike before the row that ends the loop, and not through it: the answers differ
ends-at_20 : front_rows (range 8 20) none (of 4 ∷ of 20 ∷ []) ≡ answer [] 1
unfolding front_rows contains
ends-at_20 = refl

goes_on_at_12 : front_rows (range 8 20) none (of 4 ∷ of 12 ∷ []) ≡ answer (row 12 ∷ []) 2
unfolding front_rows contains
goes_on_at_12 = refl

-- no row is at or past the end: the table's length
none-past : front_rows (range 8 21) none (of 4 ∷ of 10 ∷ of 20 ∷ of 12 ∷ []) ≡ answer (row 10 ∷ row 20 ∷ row 12 ∷ []) 4
unfolding front_rows contains
none-past = refl

empty-table : front_rows (range 8 20) none [] ≡ answer [] 0
unfolding front_rows contains
empty-table = refl

-- the first row ends it
first : front_rows (range 8 20) none (of 20 ∷ of 10 ∷ []) ≡ answer [] 0
unfolding front_rows contains
first = refl

-- a row of another sequence ends it too, and is none of its own
other-sequence : front_rows (range 8 20) (some 45) (of 10 ∷ of 20 ∷ []) ≡ answer [] 1
unfolding front_rows contains
other-sequence = refl

-- an empty range has no rows; its place is that of the first row at or past its end
empty-range : front_rows (range 10 10) none (of 4 ∷ of 10 ∷ of 12 ∷ []) ≡ answer [] 1
unfolding front_rows contains
empty-range = refl
