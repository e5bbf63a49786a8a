-- Contract. What the steps of collect_lines promise, each of what stands in the work slice before and after it.
use Rattle.std.specs.Prelude.{ℕ, ◌+◌, ◌*◌, ◌≤◌, ◌≡◌, List, [], ◌∷◌, map, length, Result, Ok, Err}
use Rattle.std.proofs.Math.Option.{none, some}
use Rattle.tlv.specs.Tags.{file_zero_tag, unit_whole}
use Rattle.tlv.specs.declared.refusal.Refusal.{Refusal}
use Rattle.tlv.specs.declared.model.DebugSource.{DebugSource}
use Rattle.tlv.specs.Refusals.{number_of}
use Rattle.tlv.specs.Outcome.{Outcome, refused, done, ◌>>=◌}
use Rattle.tlv.specs.Checked.{Placed}
use Rattle.tlv.specs.Model.{CompilationUnit, LineHeader, LineRow, header_of}
use Rattle.buffers.specs.declared.table.Stored.{Stored}
use Rattle.buffers.specs.Buffer.{Put}
use Rattle.buffers.specs.Table.{Kept, KeptBut}
use Rattle.buffers.specs.Output.{Warning, warnings_bytes}
use Rattle.access.specs.Access.{NextOwn}
use Rattle.access.specs.Places.{unit_here}
use Rattle.line_program.specs.Scan.{offsets_at}
use Rattle.lines.specs.Files.{FileTable, FileIndices, Indexed, intern_header_files}
use Rattle.lines.specs.Lines.{Run, run_rows, convert_rows, sort_rows, same_row, drop_neighbours, Collected, mismatch, unit_lines}
use Rattle.tlv.specs.declared.model.FileIndex.{FileIndex}
use Rattle.files.specs.declared.spans.FileUnit.{FileUnit}
use Rattle.files.specs.declared.sheets.Sheets.{Sheets}
use Rattle.files.specs.declared.store.StoredFiles.{StoredFiles}
use Rattle.files.specs.Pieces.{header_here, FileUnitIn}
use Rattle.files.specs.Store.{extent, table_of, FilesIn, Grown}
use Rattle.files.specs.Indices.{indices_in, index_record}
use Rattle.files.specs.Interns.{map_extent}
use Rattle.rows.specs.declared.unit_lines.StoredLines.{StoredLines}
use Rattle.rows.specs.Sizes.{entry_size, line_size, sequence_range_size, row_room}
use Rattle.rows.specs.Stored.{lines_of, ranges_of}
use Rattle.rows.specs.Selects.{RowsIn}
use Rattle.collect.specs.declared.collect.CollectedLines.{CollectedLines}
use Rattle.collect.specs.declared.interned.InternedUnit.{InternedUnit}
use Rattle.collect.specs.declared.convert.Conversion.{Conversion}
use Rattle.collect.specs.Passes.{sequences_from, with_offset}
use Rattle.collect.specs.Converts.{unit_at, header_in, offsets_of}
use Rattle.collect.specs.Collects.{UnitIn, LinesRoom, lines_in}

-- ---- the header

-- the unit at place p has a header, and this is its payload
pub record HeaderIn (s : List ℕ) (p : ℕ) (payload : List ℕ) : Type 0 where
  pub is : (unit_here s p).header ≡ some (header_of payload)

-- a unit with a header, the file table, and room for the unit's lines
pub record UnitFound (main supplementary program w : List ℕ) (t : StoredFiles) (p : ℕ) (payload : List ℕ) (free : ℕ) : Type 0 where
  pub placed : Placed main 0
  pub unit : UnitIn main p
  pub header : HeaderIn main p payload
  pub files : FilesIn main supplementary w t
  pub room : LinesRoom main w program t p free

-- ---- the unit's files

-- the file table stands below base, and the unit's directories and its map have room from there on
pub record UnitRoom (main w : List ℕ) (t : StoredFiles) (p base : ℕ) : Type 0 where
  pub table : t.base + extent t ≤ base
  pub room : base + map_extent main p ≤ length w

abbrev pub interned_of : List ℕ → List ℕ → List ℕ → Result InternedUnit Refusal → Outcome Indexed
interned_of main supplementary w (Ok r) = done (record { table = table_of main supplementary w r.table; indices = indices_in w r.indices })
interned_of main supplementary w (Err e) = refused (number_of e)

-- the unit at p is described at base, and its map stands behind its directories
pub record UnitInterned (main supplementary w w' files files' : List ℕ) (p : ℕ) (t : StoredFiles) (base : ℕ) (unit : FileUnit)
    (indices : Stored FileIndex) (t' : StoredFiles) : Type 0 where
  pub grown : Grown main supplementary w w' files files' t t'
  pub described : FileUnitIn main w' unit
  pub source : unit.source ≡ DebugSource.Main
  pub place : unit.place ≡ p
  pub directories : unit.directories.base ≡ base
  pub count : unit.directories.count ≡ length (unit_here main p).directories
  pub map : indices.base ≡ base + unit.directories.count * 8
  pub few : indices.count ≤ 1 + length (unit_here main p).files

abbrev pub InternedAfter : List ℕ → List ℕ → List ℕ → List ℕ → List ℕ → List ℕ → ℕ → StoredFiles → ℕ → Result InternedUnit Refusal → Type 0
InternedAfter main supplementary w w' files files' p t base (Ok r) =
    UnitInterned main supplementary w w' files files' p t base r.unit r.indices r.table
InternedAfter main supplementary w w' files files' p t base (Err e) = Unit

pub record InternsUnit (main supplementary w w' files files' : List ℕ) (p : ℕ) (t : StoredFiles) (base : ℕ) (r : Result InternedUnit Refusal) : Type 0 where
  pub is : interned_of main supplementary w' r ≡ intern_header_files (unit_here main p) (header_here main p) (table_of main supplementary w t)
  pub after : InternedAfter main supplementary w w' files files' p t base r
  pub rest : KeptBut w w' ((t.base, extent t) ∷ (base, map_extent main p) ∷ [])

-- ---- the unit's rows

-- a unit's conversion, with its lines behind its map
pub record ConversionOf (sheets : Sheets) (unit : FileUnit) (indices : Stored FileIndex) (offsets : Stored ℕ) (r : Conversion) : Type 0 where
  pub is : r ≡ record {
    sheets = sheets;
    unit = unit;
    zero = r.zero;
    indices = indices;
    offsets = offsets;
    lines = indices.base + indices.count * index_record;
  }
  pub zero : NextOwn sheets.main.now (unit.place + unit_whole) file_zero_tag r.zero

-- the sequences of a unit's rows were written behind its `count` lines, and these sorted and freed of equal neighbours
pub record StoresLines (given : List LineRow) (w w' : List ℕ) (offsets n lines count : ℕ) (r : StoredLines) : Type 0 where
  pub from : r.lines.base ≡ lines
  pub entries : lines_of w' r.lines.base r.lines.count ≡ drop_neighbours same_row (sort_rows (lines_of w lines count))
  pub ranges : ranges_of w' r.sequences.base r.sequences.count ≡ map (with_offset (offsets_at w offsets n)) (sequences_from given 0 none)
  pub rows : RowsIn w' r
  pub sequences : r.lines.base + r.lines.count * line_size ≤ r.sequences.base
  pub within : r.buffer + entry_size + r.lines.count * entry_size
      ≤ lines + count * row_room + sequence_range_size * length (sequences_from given 0 none) + entry_size
  pub rest : Kept w w' lines (count * row_room + sequence_range_size * length (sequences_from given 0 none) + entry_size)

-- what collect_header makes of a run, with the sequences' offsets, the file table and the unit's map
abbrev pub finish_run : CompilationUnit → LineHeader → List ℕ → FileTable → FileIndices → Run → Outcome Collected
finish_run u h offsets table indices run =
    convert_rows u h offsets run.lines (record { table = table; indices = indices; lines = []; warnings = mismatch run.count (length offsets) }) >>= λ c.
    done (record { table = c.table; lines = unit_lines offsets run c; warnings = c.warnings })

abbrev pub finish_from : List ℕ → List ℕ → List ℕ → Conversion → StoredFiles → Run → Outcome Collected
finish_from main supplementary w c t =
    finish_run (unit_at main c) (header_in main c) (offsets_of w c) (table_of main supplementary w t) (indices_in w c.indices)

-- the same of rows that may be refused
abbrev pub finish_rows : Outcome (List LineRow) → List ℕ → List ℕ → List ℕ → Conversion → StoredFiles → Outcome Collected
finish_rows x main supplementary w c t = x >>= λ rows. run_rows rows 0 [] >>= finish_from main supplementary w c t

pub record Finished (x : Outcome (List LineRow)) (most : ℕ) (main supplementary w w' files files' warnings warnings' : List ℕ) (c : Conversion)
    (t : StoredFiles) (warned : ℕ) (l : StoredLines) (is : Stored FileIndex) (t' : StoredFiles) (warned' : ℕ) : Type 0 where
  pub new : List Warning
  pub finished : finish_rows x main supplementary w c t
      ≡ done (record { table = table_of main supplementary w' t'; lines = lines_in w' l is; warnings = new })
  pub grown : Grown main supplementary w w' files files' t t'
  pub put : Put warned (warnings_bytes new) warnings warnings' warned'
  pub rows : RowsIn w' l
  pub map : is ≡ c.indices
  pub from : l.lines.base ≡ c.lines
  pub sequences : l.lines.base + l.lines.count * line_size ≤ l.sequences.base
  pub within : l.buffer + entry_size + l.lines.count * entry_size ≤ c.lines + row_room * most + entry_size

abbrev pub FinishesBy : Outcome (List LineRow) → ℕ → List ℕ → List ℕ → List ℕ → List ℕ → List ℕ → List ℕ → List ℕ → List ℕ
    → Conversion → StoredFiles → ℕ → Result CollectedLines Refusal → Type 0
FinishesBy x most main supplementary w w' files files' warnings warnings' c t warned (Err e) =
    finish_rows x main supplementary w c t ≡ refused (number_of e)
FinishesBy x most main supplementary w w' files files' warnings warnings' c t warned (Ok r) =
    Finished x most main supplementary w w' files files' warnings warnings' c t warned r.lines r.indices r.table r.warned

-- the unit's rows, `most` of them at most, were converted, and its lines and sequences stored; a refusal too keeps what lies outside the file table, the
-- unit's map and the room behind it
pub record FinishesLines (x : Outcome (List LineRow)) (most : ℕ) (main supplementary w w' files files' warnings warnings' : List ℕ) (c : Conversion)
    (t : StoredFiles) (warned : ℕ) (r : Result CollectedLines Refusal) : Type 0 where
  pub is : FinishesBy x most main supplementary w w' files files' warnings warnings' c t warned r
  pub rest : KeptBut w w' ((t.base, extent t) ∷ (c.indices.base, c.indices.count * index_record) ∷ (c.lines, row_room * most + entry_size) ∷ [])
