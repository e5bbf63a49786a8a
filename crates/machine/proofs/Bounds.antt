-- The rows of a program are few, fit their fields and rise within each sequence; and a program is refused by 7 to 12, 21 or 22.
use Rattle.std.proofs.Common.{◌≡◌, ℕ, zero, suc, ◌+◌, ◌-◌, ◌/◌, ◌^◌, ◌<◌, ◌≤◌, ◌&&◌, eqb, ltb, leb, List, [], ◌∷◌, ◌++◌, length, take, refl, arith, ltb-true, leb-true}
use Rattle.tlv.specs.Outcome.{Outcome}
use Rattle.tlv.specs.Lists.{All}
use Rattle.tlv.specs.Model.{LineEncoding, LineRow}
use Rattle.tlv.proofs.TestLaws.{by_test, and_left, and_right}
use Rattle.tlv.proofs.ListLaws.{all_append}
use Rattle.tlv.proofs.OutcomeLaws.{Gives, gives, gives_none, gives-cond, gives_of, gives-map, gives-bind, given}
use Rattle.line_program.specs.Standard.{Opcodes, operands_of}
use Rattle.line_program.specs.Program.{uleb, skip_operands, take_line_bytes, sleb}
use Rattle.line_program.proofs.Operands.{operands}
use Rattle.machine.specs.declared.registers.Registers.{Registers}
use Rattle.machine.specs.Machine.{Machine, initial, appended_row, Instruction, special, copy, advance_pc, advance_line, set_file}
use Rattle.machine.specs.Machine.{set_column, const_add_pc, fixed_advance_pc, end_sequence, set_address, other, Read, read_standard, extended_instruction}
use Rattle.machine.specs.Machine.{read_extended_body, read_extended, read_instruction, Executed, move_to, advance, add_line, add_special_line, execute}
use Rattle.machine.specs.Machine.{rows_within, rest_rows, unsupported, program_rows}
use Rattle.machine.specs.Bounds.{RowFits, Rising, RowsBounded, Bounds}
use Rattle.machine.proofs.NumberLaws.{number_of}
use Rattle.machine.proofs.Refusals.{refuses-program_rows}

-- ---- an instruction: a file number has 64 bits

abbrev InstructionFits : Instruction → Type 0
InstructionFits (special n) = Unit {0}
InstructionFits copy = Unit {0}
InstructionFits (advance_pc n) = Unit {0}
InstructionFits (advance_line up down) = Unit {0}
InstructionFits (set_file n) = n < 2 ^ 64
InstructionFits (set_column n) = Unit {0}
InstructionFits const_add_pc = Unit {0}
InstructionFits (fixed_advance_pc n) = Unit {0}
InstructionFits end_sequence = Unit {0}
InstructionFits (set_address a) = Unit {0}
InstructionFits other = Unit {0}

abbrev ReadFits : Read → Type 0
ReadFits i = InstructionFits i.instruction

any : {A : Type 0} (x : Outcome A) → Gives (λ a. Unit {0}) x
any x = gives_of x λ a e. tt

uleb-fits : (s : List ℕ) → Gives (λ o. o.value < 2 ^ 64) (uleb s)
uleb-fits s = gives_of (uleb s) λ o e. (((operands s).read o).0 e).2

standard-fits : (h : Opcodes) (o : ℕ) (s : List ℕ) → Gives ReadFits (read_standard h o s)
unfolding read_standard
standard-fits h o s =
    gives-cond (eqb o 1) (λ _. gives tt) λ _.
    gives-cond (eqb o 2) (λ _. gives-bind (any (uleb s)) λ n _. gives tt) λ _.
    gives-cond (eqb o 3) (λ _. gives-bind (any (sleb s)) λ n _. gives tt) λ _.
    gives-cond (eqb o 4) (λ _. gives-bind (uleb-fits s) λ n f. gives f) λ _.
    gives-cond (eqb o 5) (λ _. gives-bind (any (uleb s)) λ n _. gives tt) λ _.
    gives-cond (eqb o 8) (λ _. gives tt) λ _.
    gives-cond (eqb o 9) (λ _. gives-cond (leb 2 (length s)) (λ _. gives tt) λ _. gives_none) λ _.
    gives-bind (any (skip_operands (operands_of h o) s)) λ rest _. gives tt

extended_instruction-fits : (o : ℕ) (s : List ℕ) → InstructionFits (extended_instruction o s)
unfolding extended_instruction
extended_instruction-fits o s = by_test InstructionFits (eqb o 1) (λ _. tt) (λ _. by_test InstructionFits (eqb o 2) (λ _. tt) (λ _. tt))

body_fits : (whole n : ℕ) (s : List ℕ) → Gives ReadFits (read_extended_body whole n s)
unfolding read_extended_body
body_fits whole n [] = gives_none
body_fits whole n (o ∷ s) = gives-bind (any (take_line_bytes whole (n - 1) s)) λ rest _. gives (extended_instruction-fits o (take (n - 1) s))

extended_fits : (whole : ℕ) (s : List ℕ) → Gives ReadFits (read_extended whole s)
unfolding read_extended
extended_fits whole s = gives-bind (any (uleb s)) λ n _. gives-cond (eqb n.value 0) (λ _. gives_none) λ _. body_fits whole n.value n.rest

read_fits : (m : Machine) (o : ℕ) (s : List ℕ) → Gives ReadFits (read_instruction m o s)
unfolding read_instruction
read_fits m o s =
    gives-cond (eqb o 0) (λ _. extended_fits m.whole s) λ _.
    gives-cond (ltb o m.opcodes.base) (λ _. standard-fits m.opcodes o s) λ _. gives tt

-- ---- what it does

record RegistersFit (r : Registers) : Type 0 where
  address : r.address < 2 ^ 64
  file : r.file < 2 ^ 64
  line : r.line < 2 ^ 64

-- registers that fit, at an address that is not below a
record Moved (a : ℕ) (r : Registers) : Type 0 where
  fit : RegistersFit r
  up : a ≤ r.address

record ExecutedFits (a : ℕ) (x : Executed) : Type 0 where
  registers : RegistersFit x.registers
  few : length x.rows ≤ 1
  rows : All RowFits x.rows
  rising : (later : List LineRow) → Rising x.registers.address later → Rising a (x.rows ++ later)

row_fits : (r : Registers) (kind : ℕ) → kind ≤ 1 → RegistersFit r → RowFits (appended_row r kind)
row_fits r kind k f = record { address = f.address; file = f.file; line = f.line; column = omega arith; kind = k }

-- addresses that rise from b rise from a lower one too
rising-from : (a b : ℕ) (rows : List LineRow) → a ≤ b → Rising b rows → Rising a rows
rising-from a b [] h g = tt
rising-from a b (r ∷ rs) h g = (omega (arith, g.0), g.1)

move_fits : (a : ℕ) (r : Registers) → RegistersFit r → Gives (Moved r.address) (move_to a r)
unfolding move_to
move_fits a r f =
    gives-cond (leb r.address a && ltb a (2 ^ 64))
    (λ e. gives (record {
      fit = record { address = ltb-true a (2 ^ 64) (and_right (leb r.address a) (ltb a (2 ^ 64)) e); file = f.file; line = f.line };
      up = leb-true r.address a (and_left (leb r.address a) (ltb a (2 ^ 64)) e);
    }))
    (λ _. gives_none)

advance-fits : (e : LineEncoding) (n : ℕ) (r : Registers) → RegistersFit r → Gives (Moved r.address) (advance e n r)
unfolding advance
advance-fits e n r f = move_fits _ r f

line-fits : (up down : ℕ) (r : Registers) → RegistersFit r → RegistersFit (add_line up down r)
unfolding add_line
line-fits up down r f = record { address = f.address; file = f.file; line = omega arith }

line_same : (up down : ℕ) (r : Registers) → r.address ≤ (add_line up down r).address
unfolding add_line
line_same up down r = omega arith

special-line_fits : (e : LineEncoding) (n : ℕ) (r : Registers) → RegistersFit r → RegistersFit (add_special_line e n r)
unfolding add_special_line
special-line_fits e n r f = line-fits _ _ r f

special-line_same : (e : LineEncoding) (n : ℕ) (r : Registers) → (add_special_line e n r).address ≡ r.address
unfolding add_special_line add_line
special-line_same e n r = refl

quiet-fits : (a : ℕ) (r : Registers) → Moved a r → ExecutedFits a (record { registers = r; rows = [] })
quiet-fits a r m = record { registers = m.fit; few = omega arith; rows = tt; rising = λ later g. rising-from a r.address later m.up g }

appends-fits : (a : ℕ) (r : Registers) → Moved a r → ExecutedFits a (record { registers = r; rows = appended_row r 0 ∷ [] })
appends-fits a r m = record { registers = m.fit; few = omega arith; rows = (row_fits r 0 (omega arith) m.fit, tt); rising = λ later g. (m.up, g) }

ended-fits : (r : Registers) → RegistersFit r → ExecutedFits r.address (record { registers = initial; rows = appended_row r 1 ∷ [] })
ended-fits r f = record {
  registers = record { address = omega arith; file = omega arith; line = omega arith };
  few = omega arith;
  rows = (row_fits r 1 (omega arith) f, tt);
  rising = λ later g. (omega arith, g);
}

stays : (r : Registers) → RegistersFit r → Moved r.address r
stays r f = record { fit = f; up = omega arith }

execute-fits : (e : LineEncoding) (base : ℕ) (i : Instruction) (r : Registers) → RegistersFit r → InstructionFits i
    → Gives (ExecutedFits r.address) (execute e base i r)
unfolding execute
execute-fits e base (special n) r f h =
    gives-bind (advance-fits e (n / e.line_range) (add_special_line e n r) (special-line_fits e n r f)) λ q g.
    gives (appends-fits r.address q (rw (special-line_same e n r) at g))
execute-fits e base copy r f h = gives (appends-fits r.address r (stays r f))
execute-fits e base (advance_pc n) r f h = gives-bind (advance-fits e n r f) λ q g. gives (quiet-fits r.address q g)
execute-fits e base (advance_line up down) r f h =
    gives (quiet-fits r.address (add_line up down r) (record { fit = line-fits up down r f; up = line_same up down r }))
execute-fits e base (set_file n) r f h =
    gives (quiet-fits r.address (record { address = r.address; file = n; line = r.line; column = r.column })
    (record { fit = record { address = f.address; file = h; line = f.line }; up = omega arith }))
execute-fits e base (set_column n) r f h =
    gives (quiet-fits r.address (record { address = r.address; file = r.file; line = r.line; column = n })
    (record { fit = record { address = f.address; file = f.file; line = f.line }; up = omega arith }))
execute-fits e base const_add_pc r f h = gives-bind (advance-fits e _ r f) λ q g. gives (quiet-fits r.address q g)
execute-fits e base (fixed_advance_pc n) r f h = gives-bind (move_fits (r.address + n) r f) λ q g. gives (quiet-fits r.address q g)
execute-fits e base end_sequence r f h = gives (ended-fits r f)
execute-fits e base (set_address a) r f h = gives-bind (move_fits a r f) λ q g. gives (quiet-fits r.address q g)
execute-fits e base other r f h = gives (quiet-fits r.address r (stays r f))

-- ---- the program

record Few (k a : ℕ) (rows : List LineRow) : Type 0 where
  few : length rows ≤ k
  fit : All RowFits rows
  rising : Rising a rows

joined : (k a : ℕ) (x : Executed) (later : List LineRow) → ExecutedFits a x → Few k x.registers.address later → Few (suc k) a (x.rows ++ later)
joined k a x later e f = record {
  few = shorter x.rows e.few;
  fit = all_append RowFits x.rows later e.rows f.fit;
  rising = e.rising later f.rising;
}
  where
    shorter : (rows : List LineRow) → length rows ≤ 1 → length (rows ++ later) ≤ suc k
    shorter [] h = omega (arith, f.few)
    shorter (r ∷ []) h = omega (arith, f.few)
    shorter (r ∷ q ∷ rs) h = absurd (omega arith)

rows_fit : (k : ℕ) (m : Machine) (r : Registers) (s : List ℕ) → RegistersFit r → Gives (Few k r.address) (rows_within k m r s)
unfolding rows_within
rows_fit zero m r s f = gives {a = []} (record { few = omega arith; fit = tt; rising = tt })
rows_fit (suc k) m r [] f = gives {a = []} (record { few = omega arith; fit = tt; rising = tt })
rows_fit (suc k) m r (o ∷ s) f =
    let after = rows_fit k m in
    gives-bind (read_fits m o s) λ i g.
    gives-bind (execute-fits m.encoding m.opcodes.base i.instruction r f g) λ x h.
    gives-bind (after x.registers i.rest h.registers) λ later l.
    gives (joined k r.address x later h l)

program-fits : (e : LineEncoding) (h : Opcodes) (program : List ℕ) → Gives (RowsBounded program) (program_rows e h program)
unfolding program_rows rest_rows
program-fits e h program =
    gives-cond (unsupported e) (λ _. gives_none) λ _.
    gives-map (λ rows f. record { few = f.few; fit = f.fit; rising = f.rising })
    (rows_fit (length program) (record { opcodes = h; encoding = e; whole = length program }) initial program
    (record { address = omega arith; file = omega arith; line = omega arith }))

pub bounds : Bounds
bounds e h program = record { rows = λ rows. given (program-fits e h program); refusals = λ n. number_of (refuses-program_rows e h program) }
