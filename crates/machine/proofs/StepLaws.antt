-- One instruction: one law for each way through a function.
use Rattle.std.proofs.Common.{Result, Ok, Err, ◌≡◌, ℕ, ◌+◌, ◌-◌, ◌/◌, ◌%◌, ◌^◌, ◌<◌, ◌≤◌, List, [], length, drop, replicate, sym, refl, ap, ◌∙◌, arith, length-drop, drop-drop, le-leb}
use borrow.Author.Tests.{lt-leb}
use Rattle.tlv.specs.Outcome.{Outcome, refused, done, ◌>>=◌}
use Rattle.tlv.specs.Bytes.{le_at}
use Rattle.tlv.specs.declared.refusal.Refusal.{Refusal}
use Rattle.tlv.specs.Refusals.{number_of, as_outcome}
use Rattle.tlv.proofs.OutcomeLaws.{done-is, refused-not}
use Rattle.line_program.specs.declared.operand.Operand.{Operand}
use Rattle.line_program.specs.Standard.{Operand as Number, SignedOperand, unsigned}
use Rattle.line_program.specs.Scan.{Reads, SkipsTo}
use Rattle.line_program.specs.Program.{skip_operands, sleb}
use Rattle.machine.specs.declared.registers.Encoding.{Encoding}
use Rattle.machine.specs.declared.registers.Registers.{Registers}
use Rattle.machine.specs.declared.steps.Stepped.{Stepped}
use Rattle.machine.specs.declared.machine.Emitted.{Emitted}
use Rattle.machine.specs.Machine.{Instruction, special, advance_pc, advance_line, set_file, set_column, const_add_pc, Read, read_unsigned}
use Rattle.machine.specs.Machine.{read_signed, read_half, Executed, move_to, advance, add_line, add_special_line, quiet, appends, execute}
use Rattle.machine.specs.Steps.{line_encoding, signed_value, ReadsSigned, Turn, turn, turn_of, TurnWithin, Turns, Executes}
use Rattle.machine.specs.Steps.{read_over}

-- ---- a move, and what the code makes of it: an instruction that appends no row, or one

abbrev pub quiet_of : Result Registers Refusal → ℕ → Result Stepped Refusal
quiet_of (Ok r) next = Ok (Stepped.Quiet r next)
quiet_of (Err f) next = Err f

abbrev pub plain_of : Result Registers Refusal → ℕ → Result Stepped Refusal
plain_of (Ok r) next = Ok (Stepped.Row (Emitted.Plain r next))
plain_of (Err f) next = Err f

abbrev turned : List ℕ → Executed → Outcome Turn
turned rest y = done (record { registers = y.registers; rows = y.rows; rest = rest })

module _ (s : List ℕ) (next : ℕ) where
  pub quiet-turn : (m : Result Registers Refusal) → turn_of s (quiet_of m next) ≡ ((as_outcome m >>= quiet) >>= turned (drop next s))
  unfolding ◌>>=◌
  quiet-turn (Ok r) = refl
  quiet-turn (Err f) = refl

  plain-is : (m : Result Registers Refusal) → turn_of s (plain_of m next) ≡ ((as_outcome m >>= appends) >>= turned (drop next s))
  unfolding ◌>>=◌
  plain-is (Ok r) = refl
  plain-is (Err f) = refl

  pub quiet-within : (at : ℕ) (m : Result Registers Refusal) → at ≤ next → next ≤ length s → TurnWithin s at (quiet_of m next)
  quiet-within at (Ok r) h k = (h, k)
  quiet-within at (Err f) h k = tt

  plain-within : (at : ℕ) (m : Result Registers Refusal) → at ≤ next → next ≤ length s → TurnWithin s at (plain_of m next)
  plain-within at (Ok r) h k = (h, k)
  plain-within at (Err f) h k = tt

-- ---- instructions without an operand of the program

module _ {e : Encoding} {r : Registers} {next : ℕ} where
  pub special-steps : {n : ℕ} {l : Registers} (m : Result Registers Refusal) → l ≡ add_special_line (line_encoding e) n r
      → as_outcome m ≡ advance (line_encoding e) (n / e.line_range) l → Executes e r (special n) next (plain_of m next)
  unfolding turn execute ◌>>=◌
  special-steps m line moves = record {
    turns = λ s h. record {
      is = plain-is s next m ∙ rw (moves, line);
      within = plain-within s next next m (omega arith) h;
    };
  }

  pub const_steps : (m : Result Registers Refusal) → as_outcome m ≡ advance (line_encoding e) ((255 - e.opcode_base) / e.line_range) r
      → Executes e r const_add_pc next (quiet_of m next)
  unfolding turn execute ◌>>=◌
  const_steps m moves = record {
    turns = λ s h. record {
      is = quiet-turn s next m ∙ rw moves;
      within = quiet-within s next next m (omega arith) h;
    };
  }

-- ---- one unsigned operand

module _ {e : Encoding} {r : Registers} {s : List ℕ} {at : ℕ} where
  pub unsigned-fault : (F : ℕ → Instruction) {f : Refusal} → Reads s at (Err f) → Turns e r s at (Err f) (read_unsigned F (drop at s))
  unfolding turn ◌>>=◌
  unsigned-fault F R = record { is = rw (← R.is); within = tt }

  module _ {o : Operand} (R : Reads s at (Ok o)) where
    pub advance-steps : (m : Result Registers Refusal) → as_outcome m ≡ advance (line_encoding e) o.value r
        → Turns e r s at (quiet_of m o.next) (read_unsigned advance_pc (drop at s))
    unfolding turn execute ◌>>=◌
    advance-steps m moves = record {
      is = quiet-turn s o.next m ∙ rw (moves, ← R.is);
      within = quiet-within s o.next at m (omega (arith, R.within.0)) R.within.1;
    }

    pub file-steps : Turns e r s at (Ok (Stepped.Quiet (record { address = r.address; file = o.value; line = r.line; column = r.column }) o.next))
        (read_unsigned set_file (drop at s))
    unfolding turn execute ◌>>=◌
    file-steps = record { is = rw (← R.is); within = (omega (arith, R.within.0), R.within.1) }

    pub column-steps : Turns e r s at (Ok (Stepped.Quiet (record { address = r.address; file = r.file; line = r.line; column = o.value }) o.next))
        (read_unsigned set_column (drop at s))
    unfolding turn execute ◌>>=◌
    column-steps = record { is = rw (← R.is); within = (omega (arith, R.within.0), R.within.1) }

-- ---- the signed operand

-- what was read of it
abbrev signed_of : Outcome SignedOperand → Outcome Number
signed_of x = x >>= λ n. done (record { value = signed_value n; rest = n.rest })

abbrev lined : Outcome SignedOperand → Outcome Read
lined x = x >>= λ n. done (record { instruction = advance_line n.up n.down; rest = n.rest })

signed-refused : (e : Encoding) (r : Registers) (x : Outcome SignedOperand) (f : ℕ) → refused f ≡ signed_of x → refused f ≡ turn e r (lined x)
unfolding turn ◌>>=◌
signed-refused e r (refused n) f is = let k : f ≡ n = cc in ap refused k
signed-refused e r (done n) f is = refused-not is

signed_done : (e : Encoding) (r : Registers) (x : Outcome SignedOperand) (v : ℕ) (rest : List ℕ) → done (record { value = v; rest = rest }) ≡ signed_of x
    → done (record {
      registers = record { address = r.address; file = r.file; line = (r.line + v) % 2 ^ 64; column = r.column };
      rows = [];
      rest =
          rest;
    }) ≡ turn e r (lined x)
unfolding turn execute add_line ◌>>=◌
signed_done e r (refused n) v rest is = refused-not (sym is)
signed_done e r (done n) v rest is =
    let k = done-is is in
    let f : v ≡ signed_value n = ap (λ (y : Number). y.value) k in
    let g : rest ≡ n.rest = ap (λ (y : Number). y.rest) k in
    let l : (r.line + v) % 2 ^ 64 ≡ (r.line + n.up + (2 ^ 70 - n.down)) % 2 ^ 64 = omega arith in
    (λ i. done (record { registers = record { address = r.address; file = r.file; line = l i; column = r.column }; rows = []; rest = g i }))

module _ {e : Encoding} {r : Registers} {s : List ℕ} {at : ℕ} where
  pub line-fault : {f : Refusal} → ReadsSigned s at (Err f) → Turns e r s at (Err f) (read_signed (drop at s))
  line-fault {f} R = record { is = signed-refused e r (sleb (drop at s)) (number_of f) R.is; within = tt }

  pub line-steps : {o : Operand} {q : Registers} → ReadsSigned s at (Ok o)
      → q ≡ record { address = r.address; file = r.file; line = (r.line + o.value) % 2 ^ 64; column = r.column }
      → Turns e r s at (Ok (Stepped.Quiet q o.next)) (read_signed (drop at s))
  line-steps {o} R k = rw k (record { is = signed_done e r (sleb (drop at s)) o.value (drop o.next s) R.is; within = (omega (arith, R.within.0), R.within.1) })

-- ---- a uhalf

module _ {e : Encoding} {r : Registers} {s : List ℕ} {at : ℕ} where
  pub half_cut : length s - at < 2 → Turns e r s at (Err Refusal.Cut) (read_half (drop at s))
  unfolding turn ◌>>=◌
  half_cut h = record { is = rw (length-drop at s, lt-leb 2 (length s - at) h); within = tt }

  pub half_steps : {n : ℕ} (m : Result Registers Refusal) → at ≤ length s → 2 ≤ length s - at → n ≡ le_at 2 s at
      → as_outcome m ≡ move_to (r.address + n) r → Turns e r s at (quiet_of m (at + 2)) (read_half (drop at s))
  unfolding turn execute ◌>>=◌ le_at
  half_steps m h two value moves = record {
    is = quiet-turn s (at + 2) m ∙ rw (length-drop at s, le-leb 2 (length s - at) two, ← value, drop-drop 2 at s, moves);
    within = quiet-within s (at + 2) at m (omega arith) (omega arith);
  }

-- ---- operands that nothing is done with

module _ {e : Encoding} {r : Registers} {s : List ℕ} (n : ℕ) {at : ℕ} where
  pub over-fault : {f : Refusal} → SkipsTo s at (Err f) (skip_operands (replicate n unsigned) (drop at s)) → Turns e r s at (Err f) (read_over n (drop at s))
  unfolding turn ◌>>=◌
  over-fault P = record { is = rw (← P.is); within = tt }

  pub over-steps : {next : ℕ} → SkipsTo s at (Ok next) (skip_operands (replicate n unsigned) (drop at s))
      → Turns e r s at (Ok (Stepped.Quiet r next)) (read_over n (drop at s))
  unfolding turn execute ◌>>=◌
  over-steps P = record { is = rw (← P.is); within = P.within }
