-- Contract. What the conversion of a row promises: the file of a row, its line and its sequence.
use Rattle.std.specs.Prelude.{ℕ, ◌+◌, ◌*◌, ◌^◌, ◌≤◌, ◌≡◌, Bool, true, false, cond, ◌⊎◌, List, [], ◌∷◌, leb, ltb, eqb, length}
use Rattle.std.specs.Prelude.{Option as Maybe, Some, None, Result, Ok, Err}
use Rattle.std.proofs.Math.Option.{none, some}
use Rattle.tlv.specs.Tags.{file_zero_tag, unit_whole}
use Rattle.tlv.specs.declared.model.FileIndex.{FileIndex}
use Rattle.tlv.specs.declared.model.DebugSource.{DebugSource}
use Rattle.tlv.specs.declared.refusal.Refusal.{Refusal}
use Rattle.tlv.specs.Refusals.{number_of}
use Rattle.tlv.specs.Outcome.{refused, done}
use Rattle.tlv.specs.Model.{CompilationUnit, LineHeader, HeaderFile, LineRow}
use Rattle.buffers.specs.Buffer.{Put}
use Rattle.buffers.specs.Table.{Kept, KeptBut}
use Rattle.buffers.specs.Output.{Warning, warnings_bytes}
use Rattle.tlv.specs.declared.fields.FieldSpan.{FieldSpan}
use Rattle.access.specs.Access.{NextOwn}
use Rattle.access.specs.Places.{unit_here}
use Rattle.line_program.specs.Scan.{offset_record, offsets_at}
use Rattle.paths.specs.Paths.{file_entry}
use Rattle.lines.specs.Files.{FileTable, FileIndices, get, header_file}
use Rattle.lines.specs.Lines.{RawLine, Converted, convert_line, convert_row}
use Rattle.files.specs.Pieces.{header_here, UnitPlaced, FileUnitIn}
use Rattle.files.specs.Store.{extent, table_of, FilesIn, Grown}
use Rattle.files.specs.Indices.{indices_in, index_record}
use Rattle.files.specs.Interns.{Listed}
use Rattle.rows.specs.Sizes.{line_size}
use Rattle.rows.specs.Stored.{lines_of}
use Rattle.collect.specs.declared.convert.Conversion.{Conversion}
use Rattle.collect.specs.declared.convert.Converting.{Converting}
use Rattle.collect.specs.declared.convert.Row.{Row}
use Rattle.collect.specs.declared.sought.SoughtFile.{SoughtFile}
use Rattle.collect.specs.Passes.{convert_from}

abbrev pub unit_at : List ℕ → Conversion → CompilationUnit
unit_at main c = unit_here main c.unit.place

abbrev pub header_in : List ℕ → Conversion → LineHeader
header_in main c = header_here main c.unit.place

-- the offsets of the unit's sequences
abbrev pub offsets_of : List ℕ → Conversion → List ℕ
offsets_of w c = offsets_at w c.offsets.base c.offsets.count

-- where a number of the header has no number of the table, its file has no path; but for file 0 before version 5, which may not have been looked at
pub record Unnamed (u : CompilationUnit) (h : LineHeader) (is : FileIndices) : Type 0 where
  pub unnamed : (n : ℕ) (f : HeaderFile) → get is n ≡ none → header_file u h n ≡ some f → ((n ≡ 0) × (leb h.version 4 ≡ true))
      ⊎ (file_entry u h f ≡ done none)

-- what has become of the rows so far stands in w, without the warnings
unfoldable pub converted_in : List ℕ → List ℕ → List ℕ → Conversion → Converting → List Warning → Converted
converted_in main supplementary w c st warnings = record {
  table = table_of main supplementary w st.table;
  indices = indices_in w c.indices;
  lines = lines_of w c.lines st.count;
  warnings = warnings;
}

-- the file table, the sequences' offsets, the directories' spans, the unit's map and its lines stand one above the other in w, and the unit is described there
-- Stays a clause: it speaks of the work slice, which each write changes.
pub record ConversionIn (main supplementary w : List ℕ) (c : Conversion) (st : Converting) : Type 0 where
  pub placed : UnitPlaced main c.unit.place
  pub files : FilesIn main supplementary w st.table
  pub source : c.unit.source ≡ DebugSource.Main
  pub unit : FileUnitIn main w c.unit
  pub listed : Listed main supplementary (unit_at main c) (header_in main c)
  pub zero : NextOwn main (c.unit.place + unit_whole) file_zero_tag c.zero
  pub unnamed : Unnamed (unit_at main c) (header_in main c) (indices_in w c.indices)
  pub all : c.indices.count ≡ cond (leb (header_in main c).version 4) 1 0 + length (unit_at main c).files
  pub table : st.table.base + extent st.table ≤ c.offsets.base
  pub offsets : c.offsets.base + c.offsets.count * offset_record ≤ c.unit.directories.base
  pub directories : c.unit.directories.base + c.unit.directories.count * 8 ≤ c.indices.base
  pub indices : c.indices.base + c.indices.count * index_record ≤ c.lines
  pub lines : c.lines + st.count * line_size ≤ length w

-- a row with the number of its sequence
abbrev pub raw_of : Row → RawLine
raw_of r = record { address = r.address; file = r.file.0; line = r.line; column = r.column; sequence = r.sequence }

-- ---- the file of a row that the unit's map has no number for

-- what the field of file 0 before version 5 says
abbrev pub zero_of : Maybe FieldSpan → SoughtFile
zero_of (Some f) = SoughtFile.Zero (record { start = f.start; len = f.len })
zero_of None = SoughtFile.Missing

-- a number of the map is one that the header lists
abbrev pub listed_of : ℕ → ℕ → SoughtFile
listed_of count n = cond (ltb n count) SoughtFile.Unnamed SoughtFile.Missing

unfoldable pub sought_of : Conversion → ℕ → SoughtFile
sought_of c n = cond (leb c.unit.version 4) (cond (eqb n 0) (zero_of c.zero) (listed_of c.indices.count n)) (listed_of c.indices.count n)

-- ---- a row whose file has a number

-- the lines so far with a table and a map, and the warnings
abbrev pub lined_in : List ℕ → Conversion → ℕ → FileTable → FileIndices → List Warning → Converted
lined_in w c count table indices warnings = record { table = table; indices = indices; lines = lines_of w c.lines count; warnings = warnings }

-- the row's line stands behind the others, and there is nothing to warn of
pub record LineAppended (w w' : List ℕ) (c : Conversion) (r : Row) (file : FileIndex) (count : ℕ) : Type 0 where
  pub is : (table : FileTable) (indices : FileIndices) → convert_line (offsets_of w c) (raw_of r) file (lined_in w c count table indices [])
      ≡ lined_in w' c (count + 1) table indices []
  pub rest : Kept w w' (c.lines + count * line_size) line_size

-- where its line is past 32 bits, nothing is written
abbrev pub AppendsLine : List ℕ → List ℕ → Conversion → Row → FileIndex → ℕ → Bool → Type 0
AppendsLine w w' c r file count true = LineAppended w w' c r file count
AppendsLine w w' c r file count false = (w' ≡ w) × (2 ^ 32 ≤ r.line)

pub record LineConverted (w w' warnings warnings' : List ℕ) (c : Conversion) (st : Converting) (r : Row) (file : FileIndex)
    (st' : Converting) : Type 0 where
  pub new : List Warning
  pub is : (table : FileTable) (indices : FileIndices) → convert_line (offsets_of w c) (raw_of r) file (lined_in w c st.count table indices [])
      ≡ lined_in w' c st'.count table indices new
  pub put : Put st.warned (warnings_bytes new) warnings warnings' st'.warned
  pub table_same : st'.table ≡ st.table
  pub more : (st.count ≤ st'.count) × (st'.count ≤ st.count + 1)
  pub rest : Kept w w' (c.lines + st.count * line_size) line_size

-- the line of a row whose file has a number in the unit's map
pub record KnownConverted (w w' : List ℕ) (c : Conversion) (r : Row) (count : ℕ) : Type 0 where
  pub file : FileIndex
  pub known : get (indices_in w c.indices) r.file.0 ≡ some file
  pub line : LineAppended w w' c r file count

-- where the answer is false, nothing is written
abbrev pub ConvertsKnown : List ℕ → List ℕ → Conversion → Row → ℕ → Bool → Type 0
ConvertsKnown w w' c r count true = KnownConverted w w' c r count
ConvertsKnown w w' c r count false = w' ≡ w

-- ---- a row

-- the state after a row, with its warnings written
pub record RowConverted (main supplementary w w' files files' warnings warnings' : List ℕ) (c : Conversion) (st : Converting) (r : Row)
    (st' : Converting) : Type 0 where
  pub new : List Warning
  pub is : convert_row (unit_at main c) (header_in main c) (offsets_of w c) (raw_of r) (converted_in main supplementary w c st [])
      ≡ done (converted_in main supplementary w' c st' new)
  pub grown : Grown main supplementary w w' files files' st.table st'.table
  pub put : Put st.warned (warnings_bytes new) warnings warnings' st'.warned
  pub holds : ConversionIn main supplementary w' c st'
  pub more : (st.count ≤ st'.count) × (st'.count ≤ st.count + 1)

abbrev pub ConvertsRow : List ℕ → List ℕ → List ℕ → List ℕ → List ℕ → List ℕ → List ℕ → List ℕ → Conversion → Converting
    → Row → Result Converting Refusal → Type 0
ConvertsRow main supplementary w w' files files' warnings warnings' c st r (Err e) =
    convert_row (unit_at main c) (header_in main c) (offsets_of w c) (raw_of r) (converted_in main supplementary w c st []) ≡ refused (number_of e)
ConvertsRow main supplementary w w' files files' warnings warnings' c st r (Ok st') =
    RowConverted main supplementary w w' files files' warnings warnings' c st r st'

-- a refusal too keeps what lies outside the file table, the unit's map and the place of the next line
pub record RowConverts (main supplementary w w' files files' warnings warnings' : List ℕ) (c : Conversion) (st : Converting) (row : Row)
    (r : Result Converting Refusal) : Type 0 where
  pub is : ConvertsRow main supplementary w w' files files' warnings warnings' c st row r
  pub rest : KeptBut w w' ((st.table.base, extent st.table) ∷ (c.indices.base, c.indices.count * index_record)
      ∷ (c.lines + st.count * line_size, line_size) ∷ [])

-- the same of `left` of the unit's rows, from the first on
pub record RowsConverted (rows : List LineRow) (main supplementary w w' files files' warnings warnings' : List ℕ) (c : Conversion) (st : Converting)
    (left : ℕ) (st' : Converting) : Type 0 where
  pub new : List Warning
  pub is : convert_from (unit_at main c) (header_in main c) (offsets_of w c) rows 0 left (converted_in main supplementary w c st [])
      ≡ done (converted_in main supplementary w' c st' new)
  pub grown : Grown main supplementary w w' files files' st.table st'.table
  pub put : Put st.warned (warnings_bytes new) warnings warnings' st'.warned
  pub holds : ConversionIn main supplementary w' c st'
  pub more : st'.count ≤ st.count + left

abbrev pub ConvertsRows : List LineRow → List ℕ → List ℕ → List ℕ → List ℕ → List ℕ → List ℕ → List ℕ → List ℕ → Conversion
    → Converting → ℕ → Result Converting Refusal → Type 0
ConvertsRows rows main supplementary w w' files files' warnings warnings' c st left (Err e) =
    convert_from (unit_at main c) (header_in main c) (offsets_of w c) rows 0 left (converted_in main supplementary w c st []) ≡ refused (number_of e)
ConvertsRows rows main supplementary w w' files files' warnings warnings' c st left (Ok st') =
    RowsConverted rows main supplementary w w' files files' warnings warnings' c st left st'

-- a refusal too keeps what lies outside the file table, the unit's map and the places of the next lines
pub record RowsConvert (rows : List LineRow) (main supplementary w w' files files' warnings warnings' : List ℕ) (c : Conversion) (st : Converting)
    (left : ℕ) (r : Result Converting Refusal) : Type 0 where
  pub is : ConvertsRows rows main supplementary w w' files files' warnings warnings' c st left r
  pub rest : KeptBut w w' ((st.table.base, extent st.table) ∷ (c.indices.base, c.indices.count * index_record)
      ∷ (c.lines + st.count * line_size, left * line_size) ∷ [])
