-- Contract. Where the rows of a unit come from: its row fields, or the line program (document 02, E8).
use Rattle.std.specs.Prelude.{ℕ, ◌+◌, ◌*◌, ◌≤◌, ◌≡◌, List, length, drop, eqb, Option, Some, None, Result, Ok, Err}
use Rattle.tlv.specs.declared.refusal.Refusal.{Refusal}
use Rattle.tlv.specs.Refusals.{number_of}
use Rattle.tlv.specs.Outcome.{Outcome, refused, done}
use Rattle.tlv.specs.Lists.{map_option}
use Rattle.tlv.specs.Bytes.{le_at}
use Rattle.tlv.specs.Fields.{fields, payload_of}
use Rattle.tlv.specs.Grammar.{encoding_flag_at, row_field_size}
use Rattle.tlv.specs.Tags.{encoding_tag}
use Rattle.tlv.specs.Model.{CompilationUnit, LineRow, header_of, encoding_of}
use Rattle.tlv.specs.Checked.{Placed}
use Rattle.buffers.specs.Table.{Kept}
use Rattle.access.specs.Places.{own_fields}
use Rattle.rows.specs.Sizes.{line_size, row_room}
use Rattle.machine.specs.declared.registers.Encoding.{Encoding}
use Rattle.machine.specs.Machine.{program_rows}
use Rattle.machine.specs.Steps.{line_encoding, opcodes_with}
use Rattle.machine.specs.LineRows.{line_rows, rows_most}
use Rattle.collect.specs.declared.source.UnitProgram.{UnitProgram}
use Rattle.collect.specs.declared.unit_rows.UnitRows.{UnitRows}
use Rattle.collect.specs.declared.source.GatheredRows.{GatheredRows}
use Rattle.collect.specs.Passes.{Counted, rows_from, count_all, RowsCounted}
use Rattle.collect.specs.Tables.{table_rows}

-- the rows of a program, with the opcode lengths of its header
unfoldable pub program_in : Encoding → List ℕ → List ℕ → Outcome (List LineRow)
program_in e lengths program = program_rows (line_encoding e) (opcodes_with e lengths) program

-- the rows of the unit whose fields follow place p
abbrev pub source_rows : List ℕ → ℕ → Option UnitProgram → Outcome (List LineRow)
source_rows main p None = done (rows_from main p)
source_rows main p (Some u) = program_in u.encoding u.lengths.now u.program.now

-- how many rows there can be, for the room of their tables
abbrev pub most_rows : List ℕ → ℕ → Option UnitProgram → ℕ
most_rows main p None = length (rows_from main p)
most_rows main p (Some u) = length u.program.now

-- the rows, and how many there can be, were another program lent
abbrev pub rows_with : List ℕ → ℕ → Option UnitProgram → List ℕ → Outcome (List LineRow)
rows_with main p None other = done (rows_from main p)
rows_with main p (Some u) other = program_in u.encoding u.lengths.now other

abbrev pub most_with : List ℕ → ℕ → Option UnitProgram → List ℕ → ℕ
most_with main p None other = length (rows_from main p)
most_with main p (Some u) other = length other

-- the program is the one that is lent
abbrev pub ProgramLent : Option UnitProgram → List ℕ → Type 0
ProgramLent None program = Unit {0}
ProgramLent (Some u) program = u.program.now ≡ program

-- the numbers of the encoding whose payload starts at a place
pub record EncodingRead (s : List ℕ) (start base : ℕ) (e : Encoding) : Type 0 where
  pub minimum : e.minimum_instruction_length ≡ le_at 1 s start
  pub operations : e.maximum_operations ≡ le_at 1 s (start + 1)
  pub statement : e.default_is_stmt ≡ eqb (le_at 1 s (start + encoding_flag_at)) 1
  pub line-base : e.line_base ≡ le_at 1 s (start + 3)
  pub line-range : e.line_range ≡ le_at 1 s (start + 4)
  pub opcode_base-is : e.opcode_base ≡ base

-- the source of the rows, and how many there can be, of any unit whose fields follow p, with its header's payload and any program; it has the one that is lent
pub record SourceFound (main : List ℕ) (p : ℕ) (payload program : List ℕ) (source : Option UnitProgram) : Type 0 where
  pub is : (u : CompilationUnit) (other : List ℕ) → u.encoding ≡ map_option encoding_of (payload_of encoding_tag (own_fields (fields (drop p main))))
      → u.rows ≡ rows_from main p → rows_with main p source other ≡ line_rows u (header_of payload) other
  pub most : (u : CompilationUnit) (other : List ℕ) → u.encoding ≡ map_option encoding_of (payload_of encoding_tag (own_fields (fields (drop p main))))
      → u.rows ≡ rows_from main p → most_with main p source other ≡ rows_most u other
  pub lent : ProgramLent source program

-- ---- the rows that were gathered

abbrev pub rows_here : List ℕ → List ℕ → UnitRows → List LineRow
rows_here main w (UnitRows.Fields p) = rows_from main p
rows_here main w (UnitRows.Table r) = table_rows w r.base r.count

-- fields of an accepted sheet are left, or a table stands in w, and not below a place
abbrev pub ReadyBy : List ℕ → List ℕ → ℕ → UnitRows → Type 0
ReadyBy main w low (UnitRows.Fields p) = Placed main p
ReadyBy main w low (UnitRows.Table r) = (low ≤ r.base) × (r.base + r.count * row_field_size ≤ length w)

-- they can be walked over while the bytes below a place are written
-- Stays a clause: it speaks of the work slice, which each write changes.
pub record RowsReady (main w : List ℕ) (low : ℕ) (rows : UnitRows) : Type 0 where
  pub is : ReadyBy main w low rows

-- they were counted, and stand above the lines that they can become
pub record UnitGathered (x : Outcome (List LineRow)) (main w : List ℕ) (lines most n m : ℕ) (rows : UnitRows) : Type 0 where
  pub is : x ≡ done (rows_here main w rows)
  pub counted : RowsCounted (rows_here main w rows) n m
  pub few : length (rows_here main w rows) ≤ most
  pub ready : RowsReady main w (lines + line_size * length (rows_here main w rows)) rows

abbrev pub GathersUnitBy : Outcome (List LineRow) → List ℕ → List ℕ → ℕ → ℕ → Result GatheredRows Refusal → Type 0
GathersUnitBy x main w lines most (Ok r) = UnitGathered x main w lines most r.counted.lines r.counted.sequences r.rows
GathersUnitBy x main w lines most (Err e) = count_all x ≡ refused (number_of e)

-- there are `most` of them at most; a fault too keeps what lies outside the room of the lines
pub record GathersUnit (x : Outcome (List LineRow)) (main w w' : List ℕ) (lines most : ℕ) (r : Result GatheredRows Refusal) : Type 0 where
  pub is : GathersUnitBy x main w' lines most r
  pub rest : Kept w w' lines (row_room * most)

-- the fault of rows, or else a later one
abbrev pub first_fault : Outcome Counted → ℕ → ℕ
first_fault (refused f) later = f
first_fault (done k) later = later

-- the number of a fault that was found, or else a later one
abbrev pub fault_or : Option Refusal → ℕ → ℕ
fault_or (Some e) later = number_of e
fault_or None later = later

pub record FindsFault (x : Outcome (List LineRow)) (w w' : List ℕ) (free most : ℕ) (f : Option Refusal) : Type 0 where
  pub is : (later : ℕ) → fault_or f later ≡ first_fault (count_all x) later
  pub rest : Kept w w' free (row_room * most)
