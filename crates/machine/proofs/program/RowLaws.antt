-- The rows of a program, one after the other: the bound on instructions does not matter, and one instruction after the other gives them.
use Rattle.std.proofs.Common.{Result, Ok, Err, Some, None, ◌≡◌, ℕ, zero, suc, ◌+◌, ◌-◌, ◌^◌, ◌<◌, ◌≤◌, eqb, ltb, leb, List, [], ◌∷◌, ◌++◌, length, get_or, take, drop, sym, refl, ap, ◌∙◌, arith, length-drop, drop_of_length-le}
use Rattle.tlv.specs.Bytes.{le}
use Rattle.tlv.specs.Outcome.{Outcome, refused, done, ◌>>=◌}
use Rattle.tlv.specs.Model.{LineRow}
use Rattle.tlv.specs.declared.refusal.Refusal.{Refusal}
use Rattle.tlv.proofs.OutcomeLaws.{Gives, gives, gives_none, gives-cond, gives_of, gives-map, gives-bind}
use Rattle.line_program.specs.Standard.{OperandKind, unsigned, signed, half, Opcodes, operands_of}
use Rattle.line_program.specs.Program.{uleb, sleb, skip_operand, skip_operands, place_of, take_line_bytes}
use Rattle.line_program.proofs.Leb128.{shorter}
use Rattle.line_program.proofs.Operands.{operands}
use Rattle.line_program.proofs.SignedOperands.{signed_shorter, signed_operands}
use Rattle.line_program.proofs.UlebLaws.{drop_at}
use Rattle.machine.specs.declared.registers.Encoding.{Encoding}
use Rattle.machine.specs.declared.registers.Registers.{Registers}
use Rattle.machine.specs.declared.steps.Stepped.{Stepped}
use Rattle.machine.specs.declared.machine.Emitted.{Emitted}
use Rattle.machine.specs.Machine.{Machine, special, copy, const_add_pc, fixed_advance_pc, Read, Executed, read_standard, extended_instruction}
use Rattle.machine.specs.Machine.{read_extended_body, read_extended, read_instruction, execute, rows_within, rest_rows}
use Rattle.machine.specs.Steps.{machine_of, Turn, turn, turn_of, Turns, Emits}

-- ---- an instruction is followed by no more than it was read from

abbrev Less : ℕ → Read → Type 0
Less n i = length i.rest ≤ n

uleb-less : (s : List ℕ) → Gives (λ o. length o.rest ≤ length s) (uleb s)
uleb-less s = gives_of (uleb s) λ o e. let k = shorter s o (((operands s).read o).0 e).0 in omega arith

sleb-less : (s : List ℕ) → Gives (λ o. length o.rest ≤ length s) (sleb s)
sleb-less s = gives_of (sleb s) λ o e. let k = signed_shorter s o (((signed_operands s).read o).0 e).0 in omega arith

operand-less : (k : OperandKind) (s : List ℕ) → Gives (λ t. length t ≤ length s) (skip_operand k s)
unfolding skip_operand
operand-less unsigned s = gives-bind (uleb-less s) λ o l. gives {a = o.rest} l
operand-less signed s = gives-bind (sleb-less s) λ o l. gives {a = o.rest} l
operand-less half s = gives-cond (leb 2 (length s)) (λ _. gives {a = drop 2 s} (omega (arith, length-drop 2 s))) λ _. gives_none

operands-less : (ks : List OperandKind) (s : List ℕ) → Gives (λ t. length t ≤ length s) (skip_operands ks s)
unfolding skip_operands
operands-less [] s = gives {a = s} (omega arith)
operands-less (k ∷ ks) s = let later = operands-less ks in gives-bind (operand-less k s) λ t l. gives-map (λ u m. omega arith) (later t)

take_less : (whole n : ℕ) (s : List ℕ) → Gives (λ t. length t ≤ length s) (take_line_bytes whole n s)
unfolding take_line_bytes
take_less whole n s =
    gives-cond (leb n (length s)) (λ _. gives {a = drop n s} (omega (arith, length-drop n s))) λ _.
    gives-cond (ltb (place_of whole s + n) (2 ^ 64)) (λ _. gives_none) λ _. gives_none

standard-less : (h : Opcodes) (o : ℕ) (s : List ℕ) → Gives (Less (length s)) (read_standard h o s)
unfolding read_standard
standard-less h o s =
    gives-cond (eqb o 1) (λ _. gives {a = record { instruction = copy; rest = s }} (omega arith)) λ _.
    gives-cond (eqb o 2) (λ _. gives-bind (uleb-less s) λ n l. gives l) λ _.
    gives-cond (eqb o 3) (λ _. gives-bind (sleb-less s) λ n l. gives l) λ _.
    gives-cond (eqb o 4) (λ _. gives-bind (uleb-less s) λ n l. gives l) λ _.
    gives-cond (eqb o 5) (λ _. gives-bind (uleb-less s) λ n l. gives l) λ _.
    gives-cond (eqb o 8) (λ _. gives {a = record { instruction = const_add_pc; rest = s }} (omega arith)) λ _.
    gives-cond (eqb o 9) (λ _. gives-cond (leb 2 (length s))
    (λ _. gives {a = record { instruction = fixed_advance_pc (le (take 2 s)); rest = drop 2 s }} (omega (arith, length-drop 2 s))) λ _. gives_none) λ _.
    gives-bind (operands-less (operands_of h o) s) λ rest l. gives l

body_less : (whole n : ℕ) (s : List ℕ) → Gives (Less (length s)) (read_extended_body whole n s)
unfolding read_extended_body
body_less whole n [] = gives_none
body_less whole n (o ∷ s) = gives-bind (take_less whole (n - 1) s) λ rest l.
    gives {a = record { instruction = extended_instruction o (take (n - 1) s); rest = rest }} (omega arith)

extended-less : (whole : ℕ) (s : List ℕ) → Gives (Less (length s)) (read_extended whole s)
unfolding read_extended
extended-less whole s = gives-bind (uleb-less s) λ n l. gives-cond (eqb n.value 0) (λ _. gives_none) λ _.
    gives-map (λ i k. omega arith) (body_less whole n.value n.rest)

read-less : (m : Machine) (o : ℕ) (s : List ℕ) → Gives (Less (length s)) (read_instruction m o s)
unfolding read_instruction
read-less m o s =
    gives-cond (eqb o 0) (λ _. extended-less m.whole s) λ _.
    gives-cond (ltb o m.opcodes.base) (λ _. standard-less m.opcodes o s) λ _.
    gives {a = record { instruction = special (o - m.opcodes.base); rest = s }} (omega arith)

-- ---- the bound does not matter, where it is large enough

then_same : {A B : Type 0} {P : A → Type 0} {x : Outcome A} {f g : A → Outcome B} → Gives P x → ((a : A) → P a → f a ≡ g a) → (x >>= f) ≡ (x >>= g)
unfolding ◌>>=◌
then_same gives_none h = refl
then_same (gives {a} p) h = h a p

any : {A : Type 0} (x : Outcome A) → Gives (λ a. Unit {0}) x
any x = gives_of x λ a e. tt

same_rows : (j k : ℕ) (m : Machine) (r : Registers) (s : List ℕ) → length s ≤ j → length s ≤ k → rows_within j m r s ≡ rows_within k m r s
unfolding rows_within
same_rows zero zero m r s h g = refl
same_rows zero (suc k) m r [] h g = refl
same_rows zero (suc k) m r (o ∷ s) h g = absurd (omega arith)
same_rows (suc j) zero m r [] h g = refl
same_rows (suc j) zero m r (o ∷ s) h g = absurd (omega arith)
same_rows (suc j) (suc k) m r [] h g = refl
same_rows (suc j) (suc k) m r (o ∷ s) h g =
    let by = same_rows j in
    then_same (read-less m o s) λ i l.
    then_same (any (execute m.encoding m.opcodes.base i.instruction r)) λ x _.
    ap (λ (y : Outcome (List LineRow)). y >>= λ later. done (x.rows ++ later)) (by k m x.registers i.rest (omega arith) (omega arith))

-- ---- one instruction, and the rows after it

abbrev onward : Machine → Turn → Outcome (List LineRow)
onward m t = rest_rows m t.registers t.rest >>= λ later. done (t.rows ++ later)

-- three steps, or two and the last
bind-turn : {A : Type 0} (x : Outcome Read) (f : Read → Outcome Executed) (g : Read → Executed → Outcome A) (t : Turn → Outcome A)
    → ((i : Read) (y : Executed) → g i y ≡ t (record { registers = y.registers; rows = y.rows; rest = i.rest }))
    → (x >>= λ i. f i >>= g i) ≡ ((x >>= λ i. f i >>= λ y. done (record { registers = y.registers; rows = y.rows; rest = i.rest })) >>= t)
unfolding ◌>>=◌
bind-turn (refused n) f g t h = refl
bind-turn (done i) f g t h = go (f i)
  where
    go : (y : Outcome Executed) → (y >>= g i) ≡ ((y >>= λ y. done (record { registers = y.registers; rows = y.rows; rest = i.rest })) >>= t)
    go (refused n) = refl
    go (done y) = h i y

rows-turn : (e : Encoding) (ls : List ℕ) (whole : ℕ) (r : Registers) (o : ℕ) (s : List ℕ)
    → rest_rows (machine_of e ls whole) r (o ∷ s) ≡ (turn e r (read_instruction (machine_of e ls whole) o s) >>= onward (machine_of e ls whole))
unfolding rest_rows rows_within turn
rows-turn e ls whole r o s =
    let m = machine_of e ls whole in
    then_same (read-less m o s) (λ i l. then_same (any (execute m.encoding m.opcodes.base i.instruction r)) λ x _.
    ap (λ (y : Outcome (List LineRow)). y >>= λ later. done (x.rows ++ later))
    (same_rows (length s) (length i.rest) m x.registers i.rest l (omega arith)))
    ∙ bind-turn (read_instruction m o s) (λ i. execute m.encoding m.opcodes.base i.instruction r)
    (λ i x. rows_within (length i.rest) m x.registers i.rest >>= λ later. done (x.rows ++ later)) (onward m) (λ i y. refl)

-- ---- the loop

-- the rows from place p and these registers on are those that were asked for
pub record Running (m : Machine) (s : List ℕ) (r : Registers) (at : ℕ) (q : Registers) (p : ℕ) : Type 0 where
  pub same : rest_rows m q (drop p s) ≡ rest_rows m r (drop at s)
  pub from : at ≤ p
  pub within : p ≤ length s

pub running-start : (m : Machine) (s : List ℕ) (r : Registers) (at : ℕ) → at ≤ length s → Running m s r at r at
running-start m s r at h = record { same = refl; from = omega arith; within = h }

none_before : (x : Outcome (List LineRow)) → (x >>= λ later. done ([] ++ later)) ≡ x
unfolding ◌>>=◌
none_before (refused n) = refl
none_before (done l) = refl

module _ {e : Encoding} {ls s : List ℕ} {r : Registers} {at : ℕ} {q : Registers} {p : ℕ} (R : Running (machine_of e ls (length s)) s r at q p) where
  pub running-end : length s ≤ p → Emits (machine_of e ls (length s)) s r at (Ok None)
  unfolding rest_rows rows_within
  running-end h = record { is = (rw (drop_of_length-le s {i = p} h) at R.same); within = tt }

  module _ (h : p < length s) where
    -- what the instruction at p does
    abbrev Does : Result Stepped Refusal → Type 0
    Does k = Turns e q s (p + 1) k (read_instruction (machine_of e ls (length s)) (get_or s p 0) (drop (p + 1) s))

    turned : {k : Result Stepped Refusal} → Does k
        → (turn_of s k >>= onward (machine_of e ls (length s))) ≡ rest_rows (machine_of e ls (length s)) r (drop at s)
    turned T =
        ap (λ (y : Outcome Turn). y >>= onward (machine_of e ls (length s))) T.is
        ∙ sym (rows-turn e ls (length s) q (get_or s p 0) (drop (p + 1) s))
        ∙ ap (rest_rows (machine_of e ls (length s)) q) (sym (drop_at s p (get_or s p 0) h refl))
        ∙ R.same

    pub running-quiet : {v : Registers} {next : ℕ} → Does (Ok (Stepped.Quiet v next)) → Running (machine_of e ls (length s)) s r at v next
    unfolding ◌>>=◌
    running-quiet {v} {next} T = record {
      same = sym (none_before (rest_rows (machine_of e ls (length s)) v (drop next s))) ∙ turned T;
      from = omega (arith, R.from, T.within.0);
      within = T.within.1;
    }

    pub running-less : {v : Registers} {next : ℕ} → Does (Ok (Stepped.Quiet v next)) → length s - next < length s - p
    running-less T = omega (arith, T.within.0)

    pub running-row : (w : Emitted) → Does (Ok (Stepped.Row w)) → Emits (machine_of e ls (length s)) s r at (Ok (Some w))
    unfolding ◌>>=◌
    running-row (Emitted.Plain v next) T = record { is = turned T; within = (omega (arith, R.from, T.within.0), T.within.1) }
    running-row (Emitted.Ended v next) T = record { is = turned T; within = (omega (arith, R.from, T.within.0), T.within.1) }

    pub running-fault : {f : Refusal} → Does (Err f) → Emits (machine_of e ls (length s)) s r at (Err f)
    unfolding ◌>>=◌
    running-fault T = record { is = turned T; within = tt }
