-- The numbers that a program is refused with: 7 to 12 for operands and instructions, 21 for its encoding, 22 for its addresses.
use Rattle.std.proofs.Common.{ℕ, zero, suc, ◌≤◌, ◌⊎◌, List, [], ◌∷◌, length, inl, inr, arith}
use Rattle.tlv.specs.Model.{LineEncoding}
use Rattle.tlv.proofs.RefusalLaws.{RefusesIn, never, refusing}
use Rattle.line_program.specs.Standard.{Opcodes}
use Rattle.lines.proofs.Refusals.{refuses-uleb, refuses-sleb, refuses-operands, refuses-take}
use Rattle.machine.specs.declared.registers.Registers.{Registers}
use Rattle.machine.specs.Machine.{Machine, initial, Instruction, special, copy, advance_pc, advance_line, set_file, set_column, const_add_pc}
use Rattle.machine.specs.Machine.{fixed_advance_pc, end_sequence, set_address, other, read_standard, read_extended_body, read_extended, read_instruction}
use Rattle.machine.specs.Machine.{move_to, advance, execute, rows_within, rest_rows, unsupported, program_rows}
use Rattle.machine.proofs.NumberLaws.{Refuses, by_number, not-refused, number-cond, number_in, number-bind}

-- ---- an instruction: 7 to 12

refuses-standard : (h : Opcodes) (o : ℕ) (s : List ℕ) → RefusesIn 7 12 (read_standard h o s)
unfolding read_standard
refuses-standard h o s = search (refusing, refuses-uleb, refuses-sleb, refuses-operands) depth 12

refuses-body : (whole n : ℕ) (s : List ℕ) → RefusesIn 7 12 (read_extended_body whole n s)
unfolding read_extended_body
refuses-body whole n [] = search refusing
refuses-body whole n (o ∷ s) = search (refusing, refuses-take)

refuses-extended : (whole : ℕ) (s : List ℕ) → RefusesIn 7 12 (read_extended whole s)
unfolding read_extended
refuses-extended whole s = search (refusing, refuses-uleb, refuses-body)

refuses-read : (m : Machine) (o : ℕ) (s : List ℕ) → RefusesIn 7 12 (read_instruction m o s)
unfolding read_instruction
refuses-read m o s = search (refusing, refuses-extended, refuses-standard)

-- ---- what it does: 22

refuses-move : (a : ℕ) (r : Registers) → RefusesIn 22 22 (move_to a r)
unfolding move_to
refuses-move a r = search refusing

refuses-advance : (e : LineEncoding) (n : ℕ) (r : Registers) → RefusesIn 22 22 (advance e n r)
unfolding advance
refuses-advance e n r = refuses-move _ r

refuses-execute : (e : LineEncoding) (base : ℕ) (i : Instruction) (r : Registers) → RefusesIn 22 22 (execute e base i r)
unfolding execute
refuses-execute e base (special n) r = search (refusing, refuses-advance)
refuses-execute e base copy r = never
refuses-execute e base (advance_pc n) r = search (refusing, refuses-advance)
refuses-execute e base (advance_line up down) r = never
refuses-execute e base (set_file n) r = never
refuses-execute e base (set_column n) r = never
refuses-execute e base const_add_pc r = search (refusing, refuses-advance)
refuses-execute e base (fixed_advance_pc n) r = search (refusing, refuses-move)
refuses-execute e base end_sequence r = never
refuses-execute e base (set_address a) r = search (refusing, refuses-move)
refuses-execute e base other r = never

-- ---- the program: both, and 21

abbrev Numbers : ℕ → Type 0
Numbers n = ((7 ≤ n) × (n ≤ 12)) ⊎ ((21 ≤ n) × (n ≤ 22))

refuses-rows : (k : ℕ) (m : Machine) (r : Registers) (s : List ℕ) → Refuses Numbers (rows_within k m r s)
unfolding rows_within
refuses-rows zero m r s = not-refused
refuses-rows (suc k) m r [] = not-refused
refuses-rows (suc k) m r (o ∷ s) =
    let later = refuses-rows k m in
    number-bind (number_in 7 12 (λ n p q. inl (p, q)) (refuses-read m o s)) λ i.
    number-bind (number_in 22 22 (λ n p q. inr (omega arith, omega arith)) (refuses-execute m.encoding m.opcodes.base i.instruction r)) λ x.
    number-bind (later x.registers i.rest) λ l. not-refused

pub refuses-program_rows : (e : LineEncoding) (h : Opcodes) (program : List ℕ) → Refuses Numbers (program_rows e h program)
unfolding program_rows rest_rows
refuses-program_rows e h program = number-cond (unsupported e) (by_number (inr (omega arith, omega arith)))
    (refuses-rows (length program) (record { opcodes = h; encoding = e; whole = length program }) initial program)
