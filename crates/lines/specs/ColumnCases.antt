-- Theorem. E7 by cases: rows of a unit as (address, line, column), all of file 1 and of no known sequence, and what a function takes of them.
use Rattle.std.specs.Prelude.{ℕ, ◌≡◌, List, [], ◌∷◌, map}
use Rattle.std.proofs.Math.Option.{none}
use Rattle.tlv.specs.declared.model.LineEntry.{LineEntry}
use Rattle.tlv.specs.Lists.{All}
use Rattle.lines.specs.Lines.{UnitLines, sort_rows, same_row, drop_neighbours}
use Rattle.lines.specs.Rows.{for_range}

pub record Row : Type 0 where
  pub address : ℕ
  pub line : ℕ
  pub column : ℕ

abbrev pub entry : Row → LineEntry
entry r = record { address = r.address; file = record { 0 = 1 }; line = r.line; column = r.column }

-- the rows, sorted, exact neighbours dropped, in a sequence from 1000 to 1010 hex
abbrev pub unit_of : List Row → UnitLines
unit_of rs = record {
  entries = drop_neighbours same_row (sort_rows (map (λ r. record { entry = entry r; statement_sequence = none }) rs));
  files = [];
  sequences = record { range = record { start = 0x1000; end = 0x1010 }; statement_sequence = none } ∷ [];
}

pub record ColumnCase : Type 0 where
  pub rows : List Row
  pub start : ℕ
  pub gives : List Row

abbrev pub row : ℕ → ℕ → ℕ → Row
row a l c = record { address = a; line = l; column = c }

abbrev pub column_cases : List ColumnCase
column_cases =
    -- two calls on one line, another line between, are told apart
    record {
      rows = row 0x1000 10 3 ∷ row 0x1002 11 1 ∷ row 0x1004 10 9 ∷ [];
      start = 0x1000;
      gives = row 0x1000 10 3 ∷ row 0x1002 11 1 ∷ row 0x1004 10 9 ∷ [];
    }
    -- without one between they merge, "the first one kept"
    ∷ record { rows = row 0x1000 10 3 ∷ row 0x1004 10 9 ∷ []; start = 0x1000; gives = row 0x1000 10 3 ∷ [] }
    -- "A row moved to a function's start brings its column"
    ∷ record { rows = row 0x1000 10 3 ∷ row 0x1008 11 4 ∷ []; start = 0x1004; gives = row 0x1004 10 3 ∷ row 0x1008 11 4 ∷ [] }
    -- the last earlier row is moved: of rows at two addresses the second
    ∷ record { rows = row 0x1000 10 3 ∷ row 0x1002 10 9 ∷ []; start = 0x1004; gives = row 0x1004 10 9 ∷ [] }
    -- of exact neighbours the first alone is left, "whatever their columns", so it is the one that is moved
    ∷ record { rows = row 0x1000 10 3 ∷ row 0x1000 10 9 ∷ []; start = 0x1004; gives = row 0x1004 10 3 ∷ [] }
    -- a moved row and the function's first with its file and line merge: the moved one's column
    ∷ record { rows = row 0x1000 10 3 ∷ row 0x1008 10 9 ∷ []; start = 0x1004; gives = row 0x1004 10 3 ∷ [] }
    -- rows of one address keep their order, whatever their columns
    ∷ record { rows = row 0x1000 11 9 ∷ row 0x1000 10 3 ∷ []; start = 0x1000; gives = row 0x1000 11 9 ∷ row 0x1000 10 3 ∷ [] }
    ∷ []

abbrev pub ColumnCases : Type 0
ColumnCases = All (λ c. (for_range (unit_of c.rows) (record { start = c.start; end = 0x1010 }) none).rows ≡ map entry c.gives) column_cases
