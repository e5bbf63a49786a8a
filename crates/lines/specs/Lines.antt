-- Definition. A unit's line rows, its files and its sequences (the Rust's convert/dwarf/lines.rs, collect_lines).
use Rattle.std.specs.Prelude.{ℕ, suc, ◌^◌, Bool, true, false, cond, ◌&&◌, List, [], ◌∷◌, ◌++◌, map, length, leb, ltb, eqb}
use Rattle.std.proofs.Math.Option.{Option, none, some}
use Rattle.tlv.specs.declared.model.AddressRange.{AddressRange}
use Rattle.tlv.specs.declared.model.FileIndex.{FileIndex}
use Rattle.tlv.specs.declared.model.LineEntry.{LineEntry}
use Rattle.tlv.specs.Outcome.{Outcome, refused, done, ◌>>=◌}
use Rattle.tlv.specs.Lists.{at}
use Rattle.tlv.specs.Model.{CompilationUnit, LineHeader, HeaderFile, LineRow}
use Rattle.buffers.specs.Output.{Warning, about, line_sequence_mismatch, missing_line_file, unrepresentable_line}
use Rattle.line_program.specs.Program.{line_sequence_offsets}
use Rattle.lines.specs.Files.{FileTable, intern_file, FileIndices, intern_header_files, get, insert_index, header_file}

-- ---- the run over the rows: an end of sequence closes the rows since the last one

-- a row, with the number of its sequence
pub record RawLine : Type 0 where
  pub address : ℕ
  pub file : ℕ
  pub line : ℕ
  pub column : ℕ
  pub sequence : ℕ

-- a sequence's addresses and its number
pub record RawSequence : Type 0 where
  pub range : AddressRange
  pub sequence : ℕ

pub record Run : Type 0 where
  pub lines : List RawLine
  pub sequences : List RawSequence
  pub count : ℕ  -- of sequences

abbrev pub raw_line : LineRow → ℕ → RawLine
raw_line r n = record { address = r.address; file = r.file; line = r.line; column = r.column; sequence = n }

-- a sequence starts at its first row; an end row alone makes one from 0
abbrev pub start_of : List RawLine → ℕ
start_of [] = 0
start_of (x ∷ xs) = x.address

-- the rows of the open sequence, number n, that ends at `end` are closed; a sequence exists only where it starts below its end
abbrev pub close_sequence : List RawLine → ℕ → ℕ → Run → Run
close_sequence opened end n run =
    record {
      lines = opened ++ run.lines;
      sequences =
          cond (ltb (start_of opened) end) (record { range = record { start = start_of opened; end = end }; sequence = n } ∷ run.sequences) run.sequences;
      count = run.count;
    }

-- `opened` are the rows of the open sequence; rows after the last end of sequence are dropped
unfoldable pub run_rows : List LineRow → ℕ → List RawLine → Outcome Run
run_rows [] n opened = done (record { lines = []; sequences = []; count = n })
run_rows (r ∷ rs) n opened =
    cond (eqb r.kind 2) (refused 6)
    (cond (eqb r.kind 1) (run_rows rs (suc n) [] >>= λ run. done (close_sequence opened r.address n run))
    (run_rows rs n (opened ++ (raw_line r n ∷ []))))

-- ---- lines

pub record SequencedLine : Type 0 where
  pub entry : LineEntry
  pub statement_sequence : Option ℕ  -- the offset of its sequence, where that is known

pub record LineSequenceRange : Type 0 where
  pub range : AddressRange
  pub statement_sequence : Option ℕ

pub record UnitLines : Type 0 where
  pub entries : List SequencedLine
  pub files : FileIndices
  pub sequences : List LineSequenceRange

-- what the rows so far have become
pub record Converted : Type 0 where
  pub table : FileTable
  pub indices : FileIndices
  pub lines : List SequencedLine
  pub warnings : List Warning

abbrev pub with_warning : Converted → Warning → Converted
with_warning c w = record { table = c.table; indices = c.indices; lines = c.lines; warnings = c.warnings ++ (w ∷ []) }

abbrev pub with_line : Converted → SequencedLine → Converted
with_line c l = record { table = c.table; indices = c.indices; lines = c.lines ++ (l ∷ []); warnings = c.warnings }

-- a row whose file has a number; a line past 32 bits warns
unfoldable pub convert_line : List ℕ → RawLine → FileIndex → Converted → Converted
convert_line offsets r file c =
    cond (ltb r.line (2 ^ 32))
    (with_line c (record {
      entry = record { address = r.address; file = file; line = r.line; column = r.column };
      statement_sequence = at offsets r.sequence;
    }))
    (with_warning c (about unrepresentable_line r.address r.line))

-- a file that was looked up for a row; one with no path drops the row silently
abbrev pub convert_interned : List ℕ → RawLine → Converted → FileTable → Option FileIndex → Converted
convert_interned offsets r c table none = c
convert_interned offsets r c table (some file) =
    convert_line offsets r file (record { table = table; indices = insert_index c.indices r.file file; lines = c.lines; warnings = c.warnings })

-- a row whose file has no number yet: it is looked up in the header; "A missing file warns"
abbrev pub convert_looked_up : CompilationUnit → LineHeader → List ℕ → RawLine → Converted → Option HeaderFile → Outcome Converted
convert_looked_up u h offsets r c none = done (with_warning c (about missing_line_file r.address r.file))
convert_looked_up u h offsets r c (some f) =
    intern_file u h c.table f >>= λ i. done (convert_interned offsets r c i.table i.number)

abbrev pub convert_known : CompilationUnit → LineHeader → List ℕ → RawLine → Converted → Option FileIndex → Outcome Converted
convert_known u h offsets r c none = convert_looked_up u h offsets r c (header_file u h r.file)
convert_known u h offsets r c (some file) = done (convert_line offsets r file c)

unfoldable pub convert_row : CompilationUnit → LineHeader → List ℕ → RawLine → Converted → Outcome Converted
convert_row u h offsets r c = convert_known u h offsets r c (get c.indices r.file)

unfoldable pub convert_rows : CompilationUnit → LineHeader → List ℕ → List RawLine → Converted → Outcome Converted
convert_rows u h offsets [] c = done c
convert_rows u h offsets (r ∷ rs) c = convert_row u h offsets r c >>= convert_rows u h offsets rs

-- ---- "Rows sort stably by address, then exact neighbours drop"

unfoldable pub insert_row : SequencedLine → List SequencedLine → List SequencedLine
insert_row x [] = x ∷ []
insert_row x (y ∷ ys) = cond (leb x.entry.address y.entry.address) (x ∷ y ∷ ys) (y ∷ insert_row x ys)

-- by address; rows of one address keep their order
unfoldable pub sort_rows : List SequencedLine → List SequencedLine
sort_rows [] = []
sort_rows (x ∷ xs) = insert_row x (sort_rows xs)

abbrev pub same_sequence : Option ℕ → Option ℕ → Bool
same_sequence none none = true
same_sequence none (some b) = false
same_sequence (some a) none = false
same_sequence (some a) (some b) = eqb a b

-- E7: neighbours drop and merge "as before, whatever their columns, the first one kept"
abbrev pub same_line : LineEntry → LineEntry → Bool
same_line x y = eqb x.file.0 y.file.0 && eqb x.line y.line

abbrev pub same_row : SequencedLine → SequencedLine → Bool
same_row x y = eqb x.entry.address y.entry.address && same_line x.entry y.entry && same_sequence x.statement_sequence y.statement_sequence

module _ {A : Type 0} (equal : A → A → Bool) where
  -- without what equals the one kept before it
  unfoldable pub drop_after : A → List A → List A
  drop_after x [] = []
  drop_after x (y ∷ ys) = cond (equal x y) (drop_after x ys) (y ∷ drop_after y ys)

  -- the Rust's dedup_by
  unfoldable pub drop_neighbours : List A → List A
  drop_neighbours [] = []
  drop_neighbours (x ∷ xs) = x ∷ drop_after x xs

-- ---- collect_lines, of a unit with a header and the rows that were read for it: failed rows before program faults before file paths

pub record Collected : Type 0 where
  pub table : FileTable
  pub lines : UnitLines
  pub warnings : List Warning

abbrev pub no_lines : UnitLines
no_lines = record { entries = []; files = []; sequences = [] }

abbrev pub mismatch : ℕ → ℕ → List Warning
mismatch sequences offsets = cond (eqb offsets sequences) [] (about line_sequence_mismatch sequences offsets ∷ [])

abbrev pub unit_lines : List ℕ → Run → Converted → UnitLines
unit_lines offsets run c = record {
  entries = drop_neighbours same_row (sort_rows c.lines);
  files = c.indices;
  sequences = map (λ s. record { range = s.range; statement_sequence = at offsets s.sequence }) run.sequences;
}

unfoldable pub collect_header : CompilationUnit → LineHeader → List ℕ → List LineRow → FileTable → Outcome Collected
collect_header u h program rows t =
    run_rows rows 0 [] >>= λ run.
    line_sequence_offsets h program >>= λ offsets.
    intern_header_files u h t >>= λ i.
    convert_rows u h offsets run.lines
    (record { table = i.table; indices = i.indices; lines = []; warnings = mismatch run.count (length offsets) }) >>= λ c.
    done (record { table = c.table; lines = unit_lines offsets run c; warnings = c.warnings })
