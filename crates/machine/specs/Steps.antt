-- Contract. What the functions of the row machine promise.
use Rattle.std.specs.Prelude.{Result, Ok, Err, Option, Some, None, ◌≡◌, ℕ, ◌+◌, ◌-◌, ◌%◌, ◌^◌, ◌<◌, ◌≤◌, List}
use Rattle.std.specs.Prelude.{[], ◌∷◌, length, drop, replicate, slice_index}
use Rattle.tlv.specs.Outcome.{Outcome, refused, done, ◌>>=◌}
use Rattle.tlv.specs.Model.{LineEncoding, LineRow}
use Rattle.tlv.specs.declared.refusal.Refusal.{Refusal}
use Rattle.tlv.specs.Refusals.{number_of}
use Rattle.line_program.specs.declared.operand.Operand.{Operand}
use Rattle.line_program.specs.Standard.{SignedOperand, unsigned, Opcodes}
use Rattle.line_program.specs.Scan.{operand_of, OperandWithin}
use Rattle.line_program.specs.Program.{skip_operands, sleb}
use Rattle.machine.specs.declared.registers.Encoding.{Encoding}
use Rattle.machine.specs.declared.registers.Registers.{Registers}
use Rattle.machine.specs.declared.steps.Stepped.{Stepped}
use Rattle.machine.specs.declared.machine.Emitted.{Emitted}
use Rattle.machine.specs.Machine.{Machine, initial, appended_row, Instruction, other, Read, read_instruction, execute, rest_rows}

abbrev pub line_encoding : Encoding → LineEncoding
line_encoding e = record {
  minimum_instruction_length = e.minimum_instruction_length;
  maximum_operations = e.maximum_operations;
  default_is_stmt = e.default_is_stmt;
  line_base = e.line_base;
  line_range = e.line_range;
}

abbrev pub opcodes_with : Encoding → List ℕ → Opcodes
opcodes_with e lengths = record { base = e.opcode_base; lengths = lengths }

abbrev pub machine_of : Encoding → List ℕ → ℕ → Machine
machine_of e lengths whole = record { opcodes = opcodes_with e lengths; encoding = line_encoding e; whole = whole }

-- ---- operands

-- a signed number modulo 2^64
abbrev pub signed_value : SignedOperand → ℕ
signed_value n = (n.up + (2 ^ 70 - n.down)) % 2 ^ 64

pub record ReadsSigned (s : List ℕ) (at : ℕ) (r : Result Operand Refusal) : Type 0 where
  pub is : operand_of s r ≡ (sleb (drop at s) >>= λ n. done (record { value = signed_value n; rest = n.rest }))
  pub within : OperandWithin s at r

-- ---- one instruction

-- the registers after an instruction, the rows that it appends, and the bytes that follow it
pub record Turn : Type 0 where
  pub registers : Registers
  pub rows : List LineRow
  pub rest : List ℕ

-- an instruction that was read is executed
unfoldable pub turn : Encoding → Registers → Outcome Read → Outcome Turn
turn e r x =
    x >>= λ i.
    execute (line_encoding e) e.opcode_base i.instruction r >>= λ y.
    done (record { registers = y.registers; rows = y.rows; rest = i.rest })

-- what an instruction that the code hands out means
abbrev pub turn_of : List ℕ → Result Stepped Refusal → Outcome Turn
turn_of s (Ok (Stepped.Quiet r next)) = done (record { registers = r; rows = []; rest = drop next s })
turn_of s (Ok (Stepped.Row (Emitted.Plain r next))) = done (record { registers = r; rows = appended_row r 0 ∷ []; rest = drop next s })
turn_of s (Ok (Stepped.Row (Emitted.Ended r next))) = done (record { registers = initial; rows = appended_row r 1 ∷ []; rest = drop next s })
turn_of s (Err e) = refused (number_of e)

abbrev pub TurnWithin : List ℕ → ℕ → Result Stepped Refusal → Type 0
TurnWithin s at (Ok (Stepped.Quiet r next)) = (at ≤ next) × (next ≤ length s)
TurnWithin s at (Ok (Stepped.Row (Emitted.Plain r next))) = (at ≤ next) × (next ≤ length s)
TurnWithin s at (Ok (Stepped.Row (Emitted.Ended r next))) = (at ≤ next) × (next ≤ length s)
TurnWithin s at (Err e) = Unit {0}

-- q is what executing x does, x being read from the bytes of s from `at` on
pub record Turns (e : Encoding) (r : Registers) (s : List ℕ) (at : ℕ) (q : Result Stepped Refusal) (x : Outcome Read) : Type 0 where
  pub is : turn_of s q ≡ turn e r x
  pub within : TurnWithin s at q

-- q is what executing the instruction i does, which ends at `next` of any program
pub record Executes (e : Encoding) (r : Registers) (i : Instruction) (next : ℕ) (q : Result Stepped Refusal) : Type 0 where
  pub turns : (s : List ℕ) → next ≤ length s → Turns e r s next q (done (record { instruction = i; rest = drop next s }))

-- the instruction at a place
abbrev pub read_at : Encoding → List ℕ → List ℕ → ℕ → Outcome Read
read_at e lengths s at = read_instruction (machine_of e lengths (length s)) (slice_index s at) (drop (at + 1) s)

-- n unsigned operands that nothing is done with
abbrev pub read_over : ℕ → List ℕ → Outcome Read
read_over n s = skip_operands (replicate n unsigned) s >>= λ rest. done (record { instruction = other; rest = rest })

-- ---- one row

-- the rows that an answer begins
abbrev pub emitted_of : Machine → List ℕ → Result (Option Emitted) Refusal → Outcome (List LineRow)
emitted_of m s (Ok (Some (Emitted.Plain r next))) = rest_rows m r (drop next s) >>= λ later. done (appended_row r 0 ∷ later)
emitted_of m s (Ok (Some (Emitted.Ended r next))) = rest_rows m initial (drop next s) >>= λ later. done (appended_row r 1 ∷ later)
emitted_of m s (Ok None) = done []
emitted_of m s (Err e) = refused (number_of e)

abbrev pub EmittedWithin : List ℕ → ℕ → Result (Option Emitted) Refusal → Type 0
EmittedWithin s at (Ok (Some (Emitted.Plain r next))) = (at < next) × (next ≤ length s)
EmittedWithin s at (Ok (Some (Emitted.Ended r next))) = (at < next) × (next ≤ length s)
EmittedWithin s at (Ok None) = Unit {0}
EmittedWithin s at (Err e) = Unit {0}

-- q begins the rows of the program s from place `at` and the registers r on
pub record Emits (m : Machine) (s : List ℕ) (r : Registers) (at : ℕ) (q : Result (Option Emitted) Refusal) : Type 0 where
  pub is : emitted_of m s q ≡ rest_rows m r (drop at s)
  pub within : EmittedWithin s at q
