-- Definition. The line number state machine of the Standard (6.2.2 and 6.2.5, versions 2 to 5): the rows of a program. Operand faults are document 01's 7 to
-- 12, as the sequence scan has them; 21 and 22 are document 02's (E8).
use Rattle.std.specs.Prelude.{ℕ, zero, suc, ◌+◌, ◌-◌, ◌*◌, ◌/◌, ◌%◌, ◌^◌, min, Bool, cond, not, ◌&&◌, ◌||◌, List, [], ◌∷◌, ◌++◌, length}
use Rattle.std.specs.Prelude.{take, drop, ◌==◌, nat_le, nat_lt}
use Rattle.tlv.specs.Outcome.{Outcome, refused, done, ◌>>=◌}
use Rattle.tlv.specs.Bytes.{le}
use Rattle.tlv.specs.Model.{LineEncoding, LineRow}
use Rattle.line_program.specs.Standard.{Opcodes, operands_of}
use Rattle.line_program.specs.Program.{uleb, skip_operands, take_line_bytes, sleb}
use Rattle.machine.specs.declared.registers.Registers.{Registers}

-- what stays the same while a program of `whole` bytes runs
pub record Machine : Type 0 where
  pub opcodes : Opcodes
  pub encoding : LineEncoding
  pub whole : ℕ

-- ---- 6.2.2, the registers that a row shows. op_index is always 0 (6.2.5.1: where an instruction has one operation)

-- "At the beginning of each sequence"
abbrev pub initial : Registers
initial = record { address = 0; file = 1; line = 1; column = 0 }

-- a row of the matrix. E7: "a larger column is written 65,535"
abbrev pub appended_row : Registers → ℕ → LineRow
appended_row r kind = record { address = r.address; file = r.file; line = r.line; column = min r.column 65535; kind = kind }

-- ---- 6.2.5, an instruction with its operands

pub data Instruction : Type 0 where
  special : ℕ → Instruction  -- 6.2.5.1, by its adjusted opcode
  copy : Instruction  -- 6.2.5.2
  advance_pc : ℕ → Instruction
  advance_line : ℕ → ℕ → Instruction  -- by a number less another
  set_file : ℕ → Instruction
  set_column : ℕ → Instruction
  const_add_pc : Instruction
  fixed_advance_pc : ℕ → Instruction
  end_sequence : Instruction  -- 6.2.5.3
  set_address : ℕ → Instruction
  other : Instruction  -- any that changes no register that a row shows

-- an instruction that was read, and the bytes that follow it
pub record Read : Type 0 where
  pub instruction : Instruction
  pub rest : List ℕ

-- one unsigned operand
abbrev pub read_unsigned : (ℕ → Instruction) → List ℕ → Outcome Read
read_unsigned f s = uleb s >>= λ n. done (record { instruction = f n.value; rest = n.rest })

-- "opcode 3 is always read signed, by E2's rule"
abbrev pub read_signed : List ℕ → Outcome Read
read_signed s = sleb s >>= λ n. done (record { instruction = advance_line n.up n.down; rest = n.rest })

-- a uhalf, lowest byte first
abbrev pub read_half : List ℕ → Outcome Read
read_half s = cond (nat_le 2 (length s)) (done (record { instruction = fixed_advance_pc (le (take 2 s)); rest = drop 2 s })) (refused 7)

-- 6.2.5.2, below the opcode base. negate_stmt, set_basic_block, set_prologue_end, set_epilogue_begin and set_isa change nothing that a row shows;
-- "Header lengths serve unknown opcodes only"
unfoldable pub read_standard : Opcodes → ℕ → List ℕ → Outcome Read
read_standard h o s =
    cond (o == 1) (done (record { instruction = copy; rest = s }))
    (cond (o == 2) (read_unsigned advance_pc s)
    (cond (o == 3) (read_signed s)
    (cond (o == 4) (read_unsigned set_file s)
    (cond (o == 5) (read_unsigned set_column s)
    (cond (o == 8) (done (record { instruction = const_add_pc; rest = s }))
    (cond (o == 9) (read_half s)
    (skip_operands (operands_of h o) s >>= λ rest. done (record { instruction = other; rest = rest }))))))))

-- 6.2.5.3: "Set address reads all its operand bytes, lowest first"; "others but end sequence do nothing"
unfoldable pub extended_instruction : ℕ → List ℕ → Instruction
extended_instruction o operands = cond (o == 1) end_sequence (cond (o == 2) (set_address (le operands)) other)

-- "Every extended opcode .. ends where its length says": n bytes, of which the first is the opcode
unfoldable pub read_extended_body : ℕ → ℕ → List ℕ → Outcome Read
read_extended_body whole n [] = refused 8
read_extended_body whole n (o ∷ s) =
    take_line_bytes whole (n - 1) s >>= λ rest. done (record { instruction = extended_instruction o (take (n - 1) s); rest = rest })

unfoldable pub read_extended : ℕ → List ℕ → Outcome Read
read_extended whole s = uleb s >>= λ n. cond (n.value == 0) (refused 9) (read_extended_body whole n.value n.rest)

-- the instruction of opcode o, which s follows: "byte 0 at any base" is extended, and from the base on every opcode is special
unfoldable pub read_instruction : Machine → ℕ → List ℕ → Outcome Read
read_instruction m o s =
    let base = m.opcodes.base in
    cond (o == 0) (read_extended m.whole s)
    (cond (nat_lt o base) (read_standard m.opcodes o s)
    (done (record { instruction = special (o - base); rest = s })))

-- ---- what an instruction does

-- the registers after an instruction, and the rows that it appends: none or one
pub record Executed : Type 0 where
  pub registers : Registers
  pub rows : List LineRow

-- 22: "an address register that falls within a sequence or passes 2^64 − 1, at that instruction"
unfoldable pub move_to : ℕ → Registers → Outcome Registers
move_to a r = cond (nat_le r.address a && nat_lt a (2 ^ 64)) (done (record { address = a; file = r.file; line = r.line; column = r.column })) (refused 22)

-- 6.2.5.1, step 2: the address is advanced by so many operations
unfoldable pub advance : LineEncoding → ℕ → Registers → Outcome Registers
advance e n r = move_to (r.address + e.minimum_instruction_length * n) r

-- "Lines wrap modulo 2^64": the line with `up` added and `down` taken off, which is at most 2^70, a multiple of 2^64
unfoldable pub add_line : ℕ → ℕ → Registers → Registers
add_line up down r = record { address = r.address; file = r.file; line = (r.line + up + (2 ^ 70 - down)) % 2 ^ 64; column = r.column }

-- 6.2.5.1, step 1: line base + adjusted opcode % line range, the line base a signed byte
unfoldable pub add_special_line : LineEncoding → ℕ → Registers → Registers
add_special_line e n r = add_line (e.line_base + n % e.line_range) (cond (nat_le 128 e.line_base) 256 0) r

-- it appends no row
abbrev pub quiet : Registers → Outcome Executed
quiet r = done (record { registers = r; rows = [] })

-- it appends a row
abbrev pub appends : Registers → Outcome Executed
appends r = done (record { registers = r; rows = appended_row r 0 ∷ [] })

-- with the encoding e and this opcode base; const_add_pc advances as special opcode 255 does
unfoldable pub execute : LineEncoding → ℕ → Instruction → Registers → Outcome Executed
execute e base (special n) r = advance e (n / e.line_range) (add_special_line e n r) >>= appends
execute e base copy r = appends r
execute e base (advance_pc n) r = advance e n r >>= quiet
execute e base (advance_line up down) r = quiet (add_line up down r)
execute e base (set_file n) r = quiet (record { address = r.address; file = n; line = r.line; column = r.column })
execute e base (set_column n) r = quiet (record { address = r.address; file = r.file; line = r.line; column = n })
execute e base const_add_pc r = advance e ((255 - base) / e.line_range) r >>= quiet
execute e base (fixed_advance_pc n) r = move_to (r.address + n) r >>= quiet
execute e base end_sequence r = done (record { registers = initial; rows = appended_row r 1 ∷ [] })
execute e base (set_address a) r = move_to a r >>= quiet
execute e base other r = quiet r

-- ---- the program

-- the rows of what is left of a program, s, whose instructions are at most k, from these registers on
unfoldable pub rows_within : ℕ → Machine → Registers → List ℕ → Outcome (List LineRow)
rows_within zero m r s = done []
rows_within (suc k) m r [] = done []
rows_within (suc k) m r (o ∷ s) =
    read_instruction m o s >>= λ i.
    execute m.encoding m.opcodes.base i.instruction r >>= λ x.
    rows_within k m x.registers i.rest >>= λ later.
    done (x.rows ++ later)

-- each instruction takes a byte at least
unfoldable pub rest_rows : Machine → Registers → List ℕ → Outcome (List LineRow)
rest_rows m r s = rows_within (length s) m r s

-- 21: "line range 0 or operations other than 1, before any instruction"
unfoldable pub unsupported : LineEncoding → Bool
unsupported e = e.line_range == 0 || not (e.maximum_operations == 1)

unfoldable pub program_rows : LineEncoding → Opcodes → List ℕ → Outcome (List LineRow)
program_rows e h program =
    cond (unsupported e) (refused 21) (rest_rows (record { opcodes = h; encoding = e; whole = length program }) initial program)
