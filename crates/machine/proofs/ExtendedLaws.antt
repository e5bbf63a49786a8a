-- Extended instructions, and any instruction: one law for each way through a function.
use Rattle.std.proofs.Common.{Result, Ok, Err, Some, None, ◌≡◌, ℕ, ◌-◌, ◌<◌, ◌≤◌, Bool, true, false, cond, eqb, List, [], ◌∷◌, length, take, drop, refl, ◌∙◌, arith, le-ltb, lt-ltb, eq-eqb, ne_eqb}
use Rattle.tlv.specs.Bytes.{le}
use Rattle.tlv.specs.Outcome.{Outcome, refused, done, ◌>>=◌}
use Rattle.tlv.specs.declared.refusal.Refusal.{Refusal}
use Rattle.tlv.specs.Refusals.{as_outcome}
use Rattle.line_program.specs.declared.lines.Extended.{Extended}
use Rattle.line_program.specs.Standard.{Operand as Number}
use Rattle.line_program.specs.Scan.{ReadsExtended, OffsetIs, ExtendedParts, extended_parts, read_extended as parts_in}
use Rattle.line_program.specs.Program.{uleb, take_line_bytes}
use Rattle.machine.specs.declared.registers.Encoding.{Encoding}
use Rattle.machine.specs.declared.registers.Registers.{Registers}
use Rattle.machine.specs.declared.steps.Stepped.{Stepped}
use Rattle.machine.specs.declared.machine.Emitted.{Emitted}
use Rattle.machine.specs.Machine.{special, set_address, Read, read_standard, extended_instruction, read_extended_body, read_extended, read_instruction}
use Rattle.machine.specs.Machine.{move_to, execute}
use Rattle.machine.specs.Steps.{opcodes_with, machine_of, turn, Turns, Executes}
use Rattle.machine.proofs.RegisterLaws.{move_past}
use Rattle.machine.proofs.StepLaws.{quiet_of, quiet-turn, quiet-within}

-- what follows a later place follows an earlier one
pub turns-earlier : {e : Encoding} {r : Registers} {s : List ℕ} {at : ℕ} {x : Outcome Read} (early : ℕ) (q : Result Stepped Refusal) → early ≤ at
    → Turns e r s at q x → Turns e r s early q x
turns-earlier early (Ok (Stepped.Quiet r next)) h T = record { is = T.is; within = (omega (arith, T.within.0), T.within.1) }
turns-earlier early (Ok (Stepped.Row (Emitted.Plain r next))) h T = record { is = T.is; within = (omega (arith, T.within.0), T.within.1) }
turns-earlier early (Ok (Stepped.Row (Emitted.Ended r next))) h T = record { is = T.is; within = (omega (arith, T.within.0), T.within.1) }
turns-earlier early (Err f) h T = record { is = T.is; within = tt }

-- ---- an address

module _ {e : Encoding} {r : Registers} {n next : ℕ} where
  pub address-past : OffsetIs None n → Executes e r (set_address n) next (Err Refusal.LineAddress)
  unfolding turn execute ◌>>=◌
  address-past past = record { turns = λ s h. record { is = rw (← move_past r n past); within = tt } }

  pub address-steps : {a : ℕ} (m : Result Registers Refusal) → OffsetIs (Some a) n → as_outcome m ≡ move_to a r
      → Executes e r (set_address n) next (quiet_of m next)
  unfolding turn execute ◌>>=◌
  address-steps m O moves = record {
    turns = λ s h. record {
      is = quiet-turn s next m ∙ rw (moves, O.0);
      within = quiet-within s next next m (omega arith) h;
    };
  }

-- ---- what follows a zero byte

abbrev read_of : ExtendedParts → Read
read_of x = record { instruction = extended_instruction x.opcode x.operand; rest = x.rest }

-- what is read is the instruction of the parts
extended-read : (whole : ℕ) (s : List ℕ) → read_extended whole s ≡ (parts_in whole s >>= λ x. done (read_of x))
unfolding read_extended parts_in read_extended_body extended_parts ◌>>=◌
extended-read whole s = from_length (uleb s)
  where
    from_bytes : (n : ℕ) (l : List ℕ) → read_extended_body whole n l ≡ (extended_parts whole n l >>= λ x. done (read_of x))
    from_bytes n [] = refl
    from_bytes n (b ∷ l) = go (take_line_bytes whole (n - 1) l)
      where
        go : (x : Outcome (List ℕ)) → (x >>= λ rest. done (record { instruction = extended_instruction b (take (n - 1) l); rest = rest }))
            ≡ ((x >>= λ rest. done (record { opcode = b; operand = take (n - 1) l; rest = rest })) >>= λ y. done (read_of y))
        go (refused k) = refl
        go (done rest) = refl

    from_length : (x : Outcome Number) → (x >>= λ o. cond (eqb o.value 0) (refused 9) (read_extended_body whole o.value o.rest))
        ≡ ((x >>= λ o. cond (eqb o.value 0) (refused 9) (extended_parts whole o.value o.rest)) >>= λ y. done (read_of y))
    from_length (refused k) = refl
    from_length (done o) = go (eqb o.value 0)
      where
        go : (b : Bool) → cond b (refused 9) (read_extended_body whole o.value o.rest) ≡ (cond b (refused 9) (extended_parts whole o.value o.rest) >>= λ y. done (read_of y))
        go true = refl
        go false = from_bytes o.value o.rest

abbrev Extends : Encoding → Registers → List ℕ → ℕ → Result Stepped Refusal → Type 0
Extends e r s at q = Turns e r s at q (read_extended (length s) (drop at s))

module _ {s : List ℕ} {at : ℕ} where
  pub extended-fault : {e : Encoding} {r : Registers} {f : Refusal} → ReadsExtended s at (Err f) → Extends e r s at (Err f)
  unfolding turn ◌>>=◌
  extended-fault R = record { is = rw (extended-read, ← R.is) refl; within = tt }

  module _ {x : Extended} (R : ReadsExtended s at (Ok x)) where
    read_is : read_extended (length s) (drop at s) ≡ done (record { instruction = extended_instruction x.opcode x.operand.now; rest = drop x.next s })
    unfolding ◌>>=◌
    read_is = rw (extended-read, ← R.is) refl

    within : (at ≤ x.next) × (x.next ≤ length s)
    within = (omega (arith, R.within.0), R.within.1)

    pub extended-end : {e : Encoding} {r : Registers} → x.opcode ≡ 1 → Extends e r s at (Ok (Stepped.Row (Emitted.Ended r x.next)))
    unfolding turn execute extended_instruction ◌>>=◌
    extended-end one = record { is = rw (read_is, one); within = within }

    pub extended-address : {e : Encoding} {r : Registers} {q : Result Stepped Refusal} → x.opcode ≡ 2
        → Executes e r (set_address (le x.operand.now)) x.next q → Extends e r s at q
    unfolding extended_instruction
    extended-address {e} {r} {q} two X = turns-earlier {at = x.next} at q (omega (arith, R.within.0)) (rw (read_is, two) (X.turns s R.within.1))

    pub extended-other : {e : Encoding} {r : Registers} → (x.opcode ≡ 1 → ⊥) → (x.opcode ≡ 2 → ⊥) → Extends e r s at (Ok (Stepped.Quiet r x.next))
    unfolding turn execute extended_instruction ◌>>=◌
    extended-other n1 n2 = record { is = rw (read_is, ne_eqb x.opcode 1 n1, ne_eqb x.opcode 2 n2); within = within }

-- ---- any instruction

module _ (e : Encoding) (r : Registers) (s ls : List ℕ) (whole o p : ℕ) (q : Result Stepped Refusal) where
  abbrev Any : Type 0
  Any = Turns e r s p q (read_instruction (machine_of e ls whole) o (drop p s))

  pub step-extended : o ≡ 0 → Turns e r s p q (read_extended whole (drop p s)) → Any
  unfolding read_instruction
  step-extended is T = rw (eq-eqb o 0 is) T

  pub step-standard : (o ≡ 0 → ⊥) → o < e.opcode_base → Turns e r s p q (read_standard (opcodes_with e ls) o (drop p s)) → Any
  unfolding read_instruction
  step-standard n h T = rw (ne_eqb o 0 n, lt-ltb o e.opcode_base h) T

  pub step-special : (o ≡ 0 → ⊥) → e.opcode_base ≤ o → p ≤ length s → Executes e r (special (o - e.opcode_base)) p q → Any
  unfolding read_instruction
  step-special n h k X = rw (ne_eqb o 0 n, le-ltb o e.opcode_base h) (X.turns s k)
