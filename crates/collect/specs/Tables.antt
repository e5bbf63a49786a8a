-- Contract. The rows of a line program as a table in the work slice: each stands there as the payload of a row field does.
use Rattle.std.specs.Prelude.{ℕ, ◌*◌, ◌≤◌, ◌≡◌, List, Result, Ok, Err}
use Rattle.tlv.specs.declared.refusal.Refusal.{Refusal}
use Rattle.tlv.specs.Refusals.{number_of}
use Rattle.tlv.specs.Outcome.{Outcome, refused, done}
use Rattle.tlv.specs.Grammar.{row_field_size}
use Rattle.tlv.specs.Model.{LineRow, row_of}
use Rattle.buffers.specs.Table.{chunk, records, Kept}
use Rattle.buffers.specs.declared.table.Stored.{Stored}
use Rattle.collect.specs.declared.convert.Row.{Row}
use Rattle.collect.specs.declared.program.ProgramRows.{ProgramRows}
use Rattle.collect.specs.Passes.{count_all, RowsCounted}

-- the n rows that stand in w from a place on
abbrev pub table_rows : List ℕ → ℕ → ℕ → List LineRow
table_rows w at n = records row_of row_field_size w at n

-- a row was written at p
pub record RowPut (w w' : List ℕ) (p : ℕ) (row : LineRow) : Type 0 where
  pub is : row_of (chunk w' p row_field_size) ≡ row
  pub rest : Kept w w' p row_field_size

-- the rows x are those of a table that stands in w at a place, and they were counted
pub record TableGathered (x : Outcome (List LineRow)) (w : List ℕ) (at n m most : ℕ) (rows : Stored Row) : Type 0 where
  pub from : rows.base ≡ at
  pub is : x ≡ done (table_rows w rows.base rows.count)
  pub counted : RowsCounted (table_rows w rows.base rows.count) n m
  pub few : rows.count ≤ most

abbrev pub GathersBy : Outcome (List LineRow) → List ℕ → ℕ → ℕ → Result ProgramRows Refusal → Type 0
GathersBy x w at most (Ok r) = TableGathered x w at r.counted.lines r.counted.sequences most r.rows
GathersBy x w at most (Err e) = count_all x ≡ refused (number_of e)

-- the rows x, `most` of them at most, were written from a place on, up to their fault
pub record GathersRows (x : Outcome (List LineRow)) (w w' : List ℕ) (at most : ℕ) (r : Result ProgramRows Refusal) : Type 0 where
  pub is : GathersBy x w' at most r
  pub rest : Kept w w' at (most * row_field_size)
