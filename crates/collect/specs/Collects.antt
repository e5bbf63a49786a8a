-- Contract. What collect_lines promises: the unit's lines, map and sequences in the work slice, its files and warnings in their trays.
use Rattle.std.specs.Prelude.{ℕ, ◌+◌, ◌*◌, ◌/◌, ◌≤◌, ◌≡◌, List, [], ◌∷◌, length, Result, Ok, Err}
use Rattle.std.proofs.Math.Option.{some}
use Rattle.tlv.specs.declared.refusal.Refusal.{Refusal}
use Rattle.tlv.specs.Refusals.{number_of}
use Rattle.tlv.specs.Outcome.{refused, done}
use Rattle.tlv.specs.Lists.{at}
use Rattle.tlv.specs.Fields.{fields}
use Rattle.buffers.specs.declared.table.Stored.{Stored}
use Rattle.buffers.specs.Buffer.{Put}
use Rattle.buffers.specs.Table.{KeptBut}
use Rattle.buffers.specs.Output.{Warning, warnings_bytes}
use Rattle.access.specs.Places.{unit_here, unit_places}
use Rattle.line_program.specs.Scan.{offset_record, sequence_least}
use Rattle.lines.specs.Lines.{UnitLines}
use Rattle.files.specs.declared.store.StoredFiles.{StoredFiles}
use Rattle.tlv.specs.declared.model.FileIndex.{FileIndex}
use Rattle.files.specs.Store.{extent, table_of, Grown}
use Rattle.files.specs.Indices.{indices_in, index_record}
use Rattle.files.specs.Interns.{map_extent}
use Rattle.rows.specs.declared.unit_lines.StoredLines.{StoredLines}
use Rattle.rows.specs.Sizes.{entry_size, line_size, row_room}
use Rattle.rows.specs.Stored.{lines_of, ranges_of}
use Rattle.rows.specs.Selects.{RowsIn}
use Rattle.machine.specs.LineRows.{rows_most, collect_lines}
use Rattle.collect.specs.declared.collect.CollectedLines.{CollectedLines}

-- a unit stands at a place
-- Stays a clause: it holds the unit's number, and that there is one such number alone would be shown for a ghost field only.
pub record UnitIn (s : List ℕ) (p : ℕ) : Type 0 where
  pub number : ℕ
  pub is : at (unit_places 0 (fields s)) number ≡ some p

-- the unit's lines that stand in w
unfoldable pub lines_in : List ℕ → StoredLines → Stored FileIndex → UnitLines
lines_in w l is = record {
  entries = lines_of w l.lines.base l.lines.count;
  files = indices_in w is;
  sequences = ranges_of w l.sequences.base l.sequences.count;
}

-- how many bytes the lines of the unit at a place may take
unfoldable pub lines_extent : List ℕ → ℕ → List ℕ → ℕ
lines_extent main p program =
    length program / sequence_least * offset_record + map_extent main p
    + row_room * rows_most (unit_here main p) program + entry_size

-- the file table stands below the first free place, and the lines have room from there on
pub record LinesRoom (main w program : List ℕ) (t : StoredFiles) (p free : ℕ) : Type 0 where
  pub table : t.base + extent t ≤ free
  pub room : free + lines_extent main p program ≤ length w

pub record CollectedIn (main supplementary program w w' files files' warnings warnings' : List ℕ) (p : ℕ) (t : StoredFiles) (warned free : ℕ)
    (l : StoredLines) (is : Stored FileIndex) (t' : StoredFiles) (warned' : ℕ) : Type 0 where
  pub new : List Warning
  pub collected : collect_lines (unit_here main p) program (table_of main supplementary w t)
      ≡ done (record { table = table_of main supplementary w' t'; lines = lines_in w' l is; warnings = new })
  pub grown : Grown main supplementary w w' files files' t t'
  pub put : Put warned (warnings_bytes new) warnings warnings' warned'
  pub rows : RowsIn w' l
  pub from : free ≤ is.base
  pub indices : is.base + is.count * index_record ≤ l.lines.base
  pub sequences : l.lines.base + l.lines.count * line_size ≤ l.sequences.base
  pub within : l.buffer + entry_size + l.lines.count * entry_size ≤ free + lines_extent main p program
  pub rest : KeptBut w w' ((t.base, extent t) ∷ (free, lines_extent main p program) ∷ [])

abbrev pub CollectsBy : List ℕ → List ℕ → List ℕ → List ℕ → List ℕ → List ℕ → List ℕ → List ℕ → List ℕ → ℕ → StoredFiles
    → ℕ → ℕ → Result CollectedLines Refusal → Type 0
CollectsBy main supplementary program w w' files files' warnings warnings' p t warned free (Err e) =
    collect_lines (unit_here main p) program (table_of main supplementary w t) ≡ refused (number_of e)
CollectsBy main supplementary program w w' files files' warnings warnings' p t warned free (Ok r) =
    CollectedIn main supplementary program w w' files files' warnings warnings' p t warned free r.lines r.indices r.table r.warned

-- a refusal too keeps what lies outside the file table and the lines' room
pub record CollectsLines (main supplementary program w w' files files' warnings warnings' : List ℕ) (p : ℕ) (t : StoredFiles) (warned free : ℕ)
    (r : Result CollectedLines Refusal) : Type 0 where
  pub is : CollectsBy main supplementary program w w' files files' warnings warnings' p t warned free r
  pub rest : KeptBut w w' ((t.base, extent t) ∷ (free, lines_extent main p program) ∷ [])
