-- Theorem. What holds between the row machine, the Standard's instructions and sequences (lines, Standard), and the sequence scan.
use Rattle.std.specs.Prelude.{◌≡◌, ℕ, Bool, true, false, List, length, nat_eq}
use Rattle.std.proofs.Math.Option.{some}
use Rattle.tlv.specs.Outcome.{done, ◌>>=◌}
use Rattle.tlv.specs.Lists.{filter}
use Rattle.tlv.specs.Model.{LineHeader, LineEncoding, LineRow}
use Rattle.line_program.specs.Standard.{Opcodes, Passed, instruction, sequences}
use Rattle.line_program.specs.Conforms.{DeclaresStandard, Beside}
use Rattle.line_program.specs.Program.{opcodes_of, line_sequence_offsets}
use Rattle.machine.specs.Machine.{Instruction, special, copy, advance_pc, advance_line, set_file, set_column, const_add_pc, fixed_advance_pc, end_sequence}
use Rattle.machine.specs.Machine.{set_address, other, Machine, Read, read_instruction, program_rows}

abbrev pub ends : Instruction → Bool
ends (special n) = false
ends copy = false
ends (advance_pc n) = false
ends (advance_line up down) = false
ends (set_file n) = false
ends (set_column n) = false
ends const_add_pc = false
ends (fixed_advance_pc n) = false
ends end_sequence = true
ends (set_address a) = false
ends other = false

-- an instruction that was read, as one that was passed over
abbrev pub as_passed : Read → Passed
as_passed i = record { ends = ends i.instruction; rest = i.rest }

-- instructions begin, end and close sequences as the Standard's do, whatever operand counts the header declares
abbrev pub Instructions : Type 0
Instructions = (m : Machine) (o : ℕ) (s : List ℕ) → Beside (read_instruction m o s >>= λ i. done (as_passed i)) (instruction m.opcodes o s)

-- how many sequences rows end
unfoldable pub end_rows : List LineRow → ℕ
end_rows rows = length (filter (λ r. nat_eq r.kind 1) rows)

-- a program that has rows is one of whole instructions, and has as many sequences as they end
abbrev pub Sequences : Type 0
Sequences = (e : LineEncoding) (h : Opcodes) (base : ℕ) (program : List ℕ) (rows : List LineRow) → program_rows e h program ≡ done rows
    → (l : List ℕ) × (sequences h base program ≡ some l) × (length l ≡ end_rows rows)

-- where the header declares the Standard's operand counts, the scan finds as many: a row of sequence k has the k-th offset, and no warning 5 comes
abbrev pub Offsets : Type 0
Offsets = (e : LineEncoding) (h : LineHeader) (program : List ℕ) (rows : List LineRow) (offsets : List ℕ) → DeclaresStandard (opcodes_of h)
    → program_rows e (opcodes_of h) program ≡ done rows → line_sequence_offsets h program ≡ done offsets → length offsets ≡ end_rows rows

pub record MachineConforms : Type 0 where
  pub instructions : Instructions
  pub sequences : Sequences
  pub offsets : Offsets
