-- Contract. One step of a walk over the rows of a unit.
use Rattle.std.specs.Prelude.{ℕ, ◌+◌, ◌≤◌, ◌<◌, ◌≡◌, List, [], ◌∷◌, eqb, length, Option, Some, None}
use Rattle.tlv.specs.Bytes.{le_at}
use Rattle.tlv.specs.Grammar.{row_field_size, row_kind_at}
use Rattle.tlv.specs.Model.{LineRow, row_of}
use Rattle.buffers.specs.Table.{chunk}
use Rattle.lines.specs.Lines.{raw_line}
use Rattle.collect.specs.declared.unit_rows.UnitRows.{UnitRows}
use Rattle.collect.specs.declared.unit_rows.FoundRow.{FoundRow}
use Rattle.collect.specs.Converts.{raw_of}
use Rattle.collect.specs.Sources.{rows_here, RowsReady}

-- the row that was read at a place
pub record FoundAt (s : List ℕ) (start n : ℕ) (rest : UnitRows) (r : FoundRow) : Type 0 where
  pub raw : raw_of r.row ≡ raw_line (row_of (chunk s start row_field_size)) n
  pub ends : r.ends ≡ eqb (le_at 1 s (start + row_kind_at)) 1
  pub rest_is : r.rest ≡ rest

-- where the rows that are left begin
abbrev pub begin_at : UnitRows → ℕ
begin_at (UnitRows.Fields p) = p
begin_at (UnitRows.Table r) = r.base

-- a row of sequence n, and the rows behind it, which can be walked over as all can
pub record RowFound (main w : List ℕ) (rows : UnitRows) (n : ℕ) (r : FoundRow) : Type 0 where
  pub row : LineRow
  pub is : rows_here main w rows ≡ row ∷ rows_here main w r.rest
  pub raw : raw_of r.row ≡ raw_line row n
  pub ends : r.ends ≡ eqb row.kind 1
  pub ready : (low : ℕ) → RowsReady main w low rows → RowsReady main w low r.rest
  pub behind : begin_at rows < begin_at r.rest
  pub within : begin_at r.rest ≤ length main + length w

abbrev pub FindsRow : List ℕ → List ℕ → UnitRows → ℕ → Option FoundRow → Type 0
FindsRow main w rows n (Some r) = RowFound main w rows n r
FindsRow main w rows n None = rows_here main w rows ≡ []
