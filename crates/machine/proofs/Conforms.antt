-- Reading an instruction beside the Standard's, and a program's rows beside its sequences.
use Rattle.std.proofs.Common.{◌≡◌, ℕ, zero, suc, ◌+◌, ◌-◌, ◌/◌, ◌^◌, Bool, true, false, cond, eqb, ltb, leb, List, [], ◌∷◌, ◌++◌, length, take, drop, sym, refl, ap, ◌∙◌, inl, inr, arith, ne_eqb, eqb-true}
use mathlib.Core.Option.{Option, none, some}
use borrow.Author.Tests.{eqb-false}
use Rattle.tlv.specs.Outcome.{Outcome, refused, done, ◌>>=◌}
use Rattle.tlv.specs.Bytes.{le}
use Rattle.tlv.specs.Lists.{map_option, filter}
use Rattle.tlv.specs.Model.{LineHeader, LineEncoding, LineRow}
use Rattle.tlv.proofs.OutcomeLaws.{done-is, refused-not, with_done, Gives, gives, gives_of, gives-bind, given}
use Rattle.line_program.specs.Standard.{and_then, Operand, leb128, sleb128, standard_operands, Opcodes, operands_of, after_operand, after_operands, Passed}
use Rattle.line_program.specs.Standard.{extended_body, extended_of, instruction, sequences_within, sequences}
use Rattle.line_program.specs.Conforms.{Beside, DeclaresStandard}
use Rattle.line_program.specs.Program.{uleb, skip_operands, place_of, take_line_bytes, opcodes_of, program_offset, scan_line_sequence_offsets, line_sequence_offsets, sleb}
use Rattle.line_program.proofs.Beside.{beside_none, beside-limit}
use Rattle.line_program.proofs.Instructions.{beside_uleb, beside_sleb, beside_operands}
use Rattle.line_program.proofs.Programs.{programs}
use Rattle.machine.specs.declared.registers.Registers.{Registers}
use Rattle.machine.specs.Machine.{Machine, initial, Instruction, special, copy, advance_pc, advance_line, set_file, set_column, const_add_pc}
use Rattle.machine.specs.Machine.{fixed_advance_pc, end_sequence, set_address, other, Read, read_standard, extended_instruction, read_extended_body}
use Rattle.machine.specs.Machine.{read_extended, read_instruction, Executed, move_to, advance, add_special_line, execute, rows_within, rest_rows}
use Rattle.machine.specs.Machine.{unsupported, program_rows}
use Rattle.machine.specs.Conforms.{ends, as_passed, end_rows, MachineConforms}

abbrev passed : Bool → List ℕ → Passed
passed e rest = record { ends = e; rest = rest }

abbrev over : Outcome Read → Outcome Passed
over x = x >>= λ i. done (as_passed i)

-- ---- operands

-- one operand, and what follows it
beside_one : {A : Type 0} (x : Outcome A) (y : Option A) (f : A → Read) (rest : A → List ℕ) → Beside x y → ((a : A) → as_passed (f a) ≡ passed false (rest a))
    → Beside (over (x >>= λ a. done (f a))) (map_option (passed false) (and_then (map_option rest y) (after_operands [])))
unfolding ◌>>=◌ map_option and_then after_operands
beside_one (done a) y f rest b e = rw (b, e a)
beside_one (refused n) y f rest (inl p) e = rw p.2 (inl (p.0, p.1, refl))
beside_one (refused n) y f rest (inr p) e = inr p

-- operands that are passed over
beside-passed : {A : Type 0} (x : Outcome A) (y : Option A) (f : A → Read) (g : A → Passed) → Beside x y → ((a : A) → as_passed (f a) ≡ g a)
    → Beside (over (x >>= λ a. done (f a))) (map_option g y)
unfolding ◌>>=◌ map_option
beside-passed (done a) y f g b e = rw (b, e a)
beside-passed (refused n) y f g (inl p) e = rw p.2 (inl (p.0, p.1, refl))
beside-passed (refused n) y f g (inr p) e = inr p

-- ---- a standard opcode

module _ (P : ℕ → Type 0) (o : ℕ) where
  unless : (i : ℕ) → P i → ((o ≡ i → ⊥) → P o) → P o
  unless i p f = go (eqb o i) refl
    where
      go : (t : Bool) → eqb o i ≡ t → P o
      go true e = rw (eqb-true o i e) p
      go false e = f (eqb-false o i e)

module _ (h : Opcodes) (s : List ℕ) where
  abbrev Standard : ℕ → Type 0
  Standard o = Beside (over (read_standard h o s)) (map_option (passed false) (after_operands (operands_of h o) s))

  -- any other is passed over
  rest_of : (o : ℕ) → (o ≡ 1 → ⊥) → (o ≡ 2 → ⊥) → (o ≡ 3 → ⊥) → (o ≡ 4 → ⊥) → (o ≡ 5 → ⊥) → (o ≡ 8 → ⊥) → (o ≡ 9 → ⊥) → Standard o
  unfolding read_standard
  rest_of o n1 n2 n3 n4 n5 n8 n9 =
      rw (ne_eqb o 1 n1, ne_eqb o 2 n2, ne_eqb o 3 n3, ne_eqb o 4 n4, ne_eqb o 5 n5, ne_eqb o 8 n8, ne_eqb o 9 n9)
      (beside-passed (skip_operands (operands_of h o) s) (after_operands (operands_of h o) s) (λ rest. record { instruction = other; rest = rest })
      (passed false) (beside_operands (operands_of h o) s) (λ rest. refl))

  -- a uhalf of any value
  beside_half : (n : ℕ) → Beside (over (cond (leb 2 (length s)) (done (record { instruction = fixed_advance_pc n; rest = drop 2 s })) (refused 7)))
      (map_option (passed false) (and_then (cond (leb 2 (length s)) (some (drop 2 s)) none) (after_operands [])))
  unfolding ◌>>=◌ map_option and_then after_operands
  beside_half n = go (leb 2 (length s))
    where
      go : (t : Bool) → Beside (over (cond t (done (record { instruction = fixed_advance_pc n; rest = drop 2 s })) (refused 7)))
          (map_option (passed false) (and_then (cond t (some (drop 2 s)) none) (after_operands [])))
      go true = refl
      go false = beside_none 7 (omega arith) (omega arith)

  beside-standard : (o : ℕ) → Standard o
  unfolding read_standard standard_operands operands_of after_operands after_operand ◌>>=◌ map_option
  beside-standard o =
      unless Standard o 1 refl λ n1.
      unless Standard o 2 (beside_one (uleb s) (leb128 s) (λ n. record { instruction = advance_pc n.value; rest = n.rest }) (λ n. n.rest)
      (beside_uleb s) (λ n. refl)) λ n2.
      unless Standard o 3 (beside_one (sleb s) (sleb128 s) (λ n. record { instruction = advance_line n.up n.down; rest = n.rest }) (λ n. n.rest)
      (beside_sleb s) (λ n. refl)) λ n3.
      unless Standard o 4 (beside_one (uleb s) (leb128 s) (λ n. record { instruction = set_file n.value; rest = n.rest }) (λ n. n.rest) (beside_uleb s)
      (λ n. refl)) λ n4.
      unless Standard o 5 (beside_one (uleb s) (leb128 s) (λ n. record { instruction = set_column n.value; rest = n.rest }) (λ n. n.rest)
      (beside_uleb s) (λ n. refl)) λ n5.
      unless Standard o 8 refl λ n8.
      unless Standard o 9 (beside_half (le (take 2 s))) λ n9.
      rest_of o n1 n2 n3 n4 n5 n8 n9

-- ---- an extended opcode

extended-ends : (o : ℕ) (s : List ℕ) → ends (extended_instruction o s) ≡ eqb o 1
unfolding extended_instruction
extended-ends o s = go (eqb o 1) (eqb o 2)
  where
    go : (t u : Bool) → ends (cond t end_sequence (cond u (set_address (le s)) other)) ≡ t
    go true u = refl
    go false true = refl
    go false false = refl

beside_body : (whole n : ℕ) (s : List ℕ) → Beside (over (read_extended_body whole n s)) (extended_body (n - 1) s)
unfolding read_extended_body take_line_bytes ◌>>=◌
beside_body whole n [] = beside_none 8 (omega arith) (omega arith)
beside_body whole n (o ∷ s) = go (leb (n - 1) (length s)) (ltb (place_of whole s + (n - 1)) (2 ^ 64))
  where
    go : (t u : Bool) → Beside (over (cond t (done (drop (n - 1) s)) (cond u (refused 7) (refused 12))
        >>= λ rest. done (record { instruction = extended_instruction o (take (n - 1) s); rest = rest })))
        (cond t (some (passed (eqb o 1) (drop (n - 1) s))) none)
    go true u = rw (extended-ends o (take (n - 1) s))
    go false true = beside_none 7 (omega arith) (omega arith)
    go false false = beside-limit 12 none (omega arith) (omega arith)

over-if : (t : Bool) (x x' : Outcome Read) (y y' : Option Passed) → Beside (over x) y → Beside (over x') y' → Beside (over (cond t x x')) (cond t y y')
over-if true x x' y y' b b' = b
over-if false x x' y y' b b' = b'

beside_nonzero : (whole : ℕ) (n : Operand) → Beside (over (cond (eqb n.value 0) (refused 9) (read_extended_body whole n.value n.rest))) (extended_of n)
unfolding ◌>>=◌
beside_nonzero whole n = over-if (eqb n.value 0) (refused 9) _ none _ (beside_none 9 (omega arith) (omega arith)) (beside_body whole n.value n.rest)

beside-follow : (whole : ℕ) (x : Outcome Operand) (y : Option Operand) → Beside x y
    → Beside (over (x >>= λ n. cond (eqb n.value 0) (refused 9) (read_extended_body whole n.value n.rest))) (and_then y extended_of)
unfolding ◌>>=◌ and_then
beside-follow whole (done n) y b = rw b (beside_nonzero whole n)
beside-follow whole (refused k) y (inl p) = rw p.2 (inl (p.0, p.1, refl))
beside-follow whole (refused k) y (inr p) = inr p

special-read : (n : ℕ) (s : List ℕ) → Beside (over (done (record { instruction = special n; rest = s }))) (some (passed false s))
unfolding ◌>>=◌
special-read n s = refl

beside-extended : (whole : ℕ) (s : List ℕ) → Beside (over (read_extended whole s)) (and_then (leb128 s) extended_of)
unfolding read_extended
beside-extended whole s = beside-follow whole (uleb s) (leb128 s) (beside_uleb s)

-- ---- any instruction

pub beside_read : (m : Machine) (o : ℕ) (s : List ℕ) → Beside (over (read_instruction m o s)) (instruction m.opcodes o s)
unfolding read_instruction instruction
beside_read m o s =
    over-if (eqb o 0) (read_extended m.whole s) _ _ _ (beside-extended m.whole s)
    (over-if (ltb o m.opcodes.base) (read_standard m.opcodes o s) _ _ _ (beside-standard m.opcodes s o) (special-read (o - m.opcodes.base) s))

-- ---- the program

-- an instruction that was read is the Standard's
instruction-is : (m : Machine) (o : ℕ) (s : List ℕ) (i : Read) → read_instruction m o s ≡ done i → instruction m.opcodes o s ≡ some (as_passed i)
unfolding ◌>>=◌
instruction-is m o s i e = rw e at (beside_read m o s)

-- what an instruction appends ends a sequence where it does
abbrev Ends : Instruction → Executed → Type 0
Ends i x = (later : List LineRow) → end_rows (x.rows ++ later) ≡ cond (ends i) (suc (end_rows later)) (end_rows later)

any : {A : Type 0} (x : Outcome A) → Gives (λ a. Unit {0}) x
any x = gives_of x λ a e. tt

appended : (e : LineEncoding) (base : ℕ) (i : Instruction) (r : Registers) → Gives (Ends i) (execute e base i r)
unfolding execute end_rows filter
appended e base (special n) r = gives-bind (any (advance e (n / e.line_range) (add_special_line e n r))) λ q _. gives (λ later. refl)
appended e base copy r = gives (λ later. refl)
appended e base (advance_pc n) r = gives-bind (any (advance e n r)) λ q _. gives (λ later. refl)
appended e base (advance_line up down) r = gives (λ later. refl)
appended e base (set_file n) r = gives (λ later. refl)
appended e base (set_column n) r = gives (λ later. refl)
appended e base const_add_pc r = gives-bind (any (advance e ((255 - base) / e.line_range) r)) λ q _. gives (λ later. refl)
appended e base (fixed_advance_pc n) r = gives-bind (any (move_to (r.address + n) r)) λ q _. gives (λ later. refl)
appended e base end_sequence r = gives (λ later. refl)
appended e base (set_address a) r = gives-bind (any (move_to a r)) λ q _. gives (λ later. refl)
appended e base other r = gives (λ later. refl)

-- the Standard's sequences, as many as there are ends
abbrev Counted : Option (List ℕ) → ℕ → Type 0
Counted y n = (l : List ℕ) × (y ≡ some l) × (length l ≡ n)

counted-by : (t : Bool) (y y' : Option (List ℕ)) (from n : ℕ) → Counted y n → Counted y' n
    → Counted (cond t (map_option (λ l. from ∷ l) y) y') (cond t (suc n) n)
unfolding map_option
counted-by true y y' from n c d = (from ∷ c.0, rw c.1, ap suc c.2)
counted-by false y y' from n c d = d

rows-counted : (k : ℕ) (m : Machine) (r : Registers) (base whole from : ℕ) (s : List ℕ) (rows : List LineRow) → rows_within k m r s ≡ done rows
    → Counted (sequences_within k m.opcodes base whole from s) (end_rows rows)
unfolding rows_within sequences_within end_rows filter and_then
rows-counted zero m r base whole from s rows e = ([], refl, rw (← done-is e))
rows-counted (suc k) m r base whole from [] rows e = ([], refl, rw (← done-is e))
rows-counted (suc k) m r base whole from (o ∷ s) rows e =
    let after = rows-counted k m in
    with_done (read_instruction m o s) _ e λ i read e₁.
    with_done (execute m.encoding m.opcodes.base i.instruction r) _ e₁ λ x ran e₂.
    with_done (rows_within k m x.registers i.rest) _ e₂ λ later more e₃.
    rw (instruction-is m o s i read, ← done-is e₃, given (appended m.encoding m.opcodes.base i.instruction r) ran later)
    (counted-by (ends i.instruction) _ _ from (end_rows later)
    (after x.registers base whole (base + (whole - length i.rest)) i.rest later more) (after x.registers base whole from i.rest later more))

program-counted : (e : LineEncoding) (h : Opcodes) (base : ℕ) (program : List ℕ) (rows : List LineRow) → program_rows e h program ≡ done rows
    → Counted (sequences h base program) (end_rows rows)
unfolding program_rows rest_rows sequences
program-counted e h base program rows q = go (unsupported e) q
  where
    m : Machine
    m = record { opcodes = h; encoding = e; whole = length program }

    go : (b : Bool) → cond b (refused 21) (rows_within (length program) m initial program) ≡ done rows
        → Counted (sequences_within (length program) h base (length program) base program) (end_rows rows)
    go true q = refused-not q
    go false q = rows-counted (length program) m initial base (length program) base program rows q

offsets-counted : (e : LineEncoding) (h : LineHeader) (program : List ℕ) (rows : List LineRow) (offsets : List ℕ) → DeclaresStandard (opcodes_of h)
    → program_rows e (opcodes_of h) program ≡ done rows → line_sequence_offsets h program ≡ done offsets → length offsets ≡ end_rows rows
unfolding line_sequence_offsets
offsets-counted e h program rows offsets d q o = go (ltb (program_offset h) (2 ^ 64)) o
  where
    go : (b : Bool) → cond b (scan_line_sequence_offsets (opcodes_of h) (program_offset h) program) (refused 12) ≡ done offsets → length offsets ≡ end_rows rows
    go true o =
        let c = program-counted e (opcodes_of h) (program_offset h) program rows q in
        let b = rw o at ((programs (opcodes_of h) d).programs (program_offset h) program) in
        let z : c.0 ≡ offsets = cc (c.1, b) in
        ap length (sym z) ∙ c.2
    go false o = refused-not o

pub conforms : MachineConforms
conforms = record { instructions = beside_read; sequences = program-counted; offsets = offsets-counted }
