-- Definition. The rows of a unit, and its lines from them (the Rust's convert/dwarf/lines.rs, collect_lines; document 02, E8).
use Rattle.std.specs.Prelude.{ℕ, List, [], length}
use Rattle.std.proofs.Math.Option.{Option, none, some}
use Rattle.tlv.specs.Outcome.{Outcome, done, ◌>>=◌}
use Rattle.tlv.specs.Model.{CompilationUnit, LineHeader, LineEncoding, LineRow}
use Rattle.line_program.specs.Program.{opcodes_of}
use Rattle.lines.specs.Files.{FileTable}
use Rattle.lines.specs.Lines.{Collected, no_lines, collect_header}
use Rattle.machine.specs.Machine.{program_rows}

-- ---- its rows

abbrev pub rows_by : CompilationUnit → LineHeader → List ℕ → Option LineEncoding → Outcome (List LineRow)
rows_by u h program none = done u.rows
rows_by u h program (some e) = program_rows e (opcodes_of h) program

-- what the decoder has read, the row fields; with field 1d, the rows of the line program
unfoldable pub line_rows : CompilationUnit → LineHeader → List ℕ → Outcome (List LineRow)
line_rows u h program = rows_by u h program u.encoding

abbrev pub most_by : CompilationUnit → List ℕ → Option LineEncoding → ℕ
most_by u program none = length u.rows
most_by u program (some e) = length program

-- how many rows it can have, for the room of their tables
unfoldable pub rows_most : CompilationUnit → List ℕ → ℕ
rows_most u program = most_by u program u.encoding

-- ---- its lines

-- without field 13 there are no lines, and the program is not read
abbrev pub collect_from : CompilationUnit → List ℕ → FileTable → Option LineHeader → Outcome Collected
collect_from u program t none = done (record { table = t; lines = no_lines; warnings = [] })
collect_from u program t (some h) = line_rows u h program >>= λ rows. collect_header u h program rows t

unfoldable pub collect_lines : CompilationUnit → List ℕ → FileTable → Outcome Collected
collect_lines u program t = collect_from u program t u.header
