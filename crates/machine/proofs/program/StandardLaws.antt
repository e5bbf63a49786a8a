-- A standard opcode, by its number.
use Rattle.std.proofs.Common.{Result, Ok, ◌≡◌, ℕ, suc, ◌-◌, ◌<◌, ◌≤◌, Bool, true, false, eqb, List, length, get_or, drop, refl, arith, ne_eqb, eqb-true}
use borrow.Author.Tests.{eqb-false}
use Rattle.tlv.specs.Outcome.{◌>>=◌}
use Rattle.tlv.specs.declared.refusal.Refusal.{Refusal}
use Rattle.line_program.specs.Standard.{standard_operands, operands_of}
use Rattle.machine.specs.declared.registers.Encoding.{Encoding}
use Rattle.machine.specs.declared.registers.Registers.{Registers}
use Rattle.machine.specs.declared.steps.Stepped.{Stepped}
use Rattle.machine.specs.declared.machine.Emitted.{Emitted}
use Rattle.machine.specs.Machine.{advance_pc, set_file, set_column, const_add_pc, read_unsigned, read_signed, read_half, read_standard, execute}
use Rattle.machine.specs.Steps.{opcodes_with, turn, Turns, Executes, read_over}

pub above : (k o : ℕ) → k ≤ o → (o ≡ k → ⊥) → suc k ≤ o
above k o h n = omega arith

module _ (e : Encoding) (r : Registers) (s ls : List ℕ) (o at : ℕ) (q : Result Stepped Refusal) where
  abbrev pub Standard : Type 0
  Standard = Turns e r s at q (read_standard (opcodes_with e ls) o (drop at s))

  pub standard-advance : o ≡ 2 → Turns e r s at q (read_unsigned advance_pc (drop at s)) → Standard
  unfolding read_standard
  standard-advance is T = rw is T

  pub standard-line : o ≡ 3 → Turns e r s at q (read_signed (drop at s)) → Standard
  unfolding read_standard
  standard-line is T = rw is T

  pub standard-file : o ≡ 4 → Turns e r s at q (read_unsigned set_file (drop at s)) → Standard
  unfolding read_standard
  standard-file is T = rw is T

  pub standard-column : o ≡ 5 → Turns e r s at q (read_unsigned set_column (drop at s)) → Standard
  unfolding read_standard
  standard-column is T = rw is T

  pub standard-const : o ≡ 8 → at ≤ length s → Executes e r const_add_pc at q → Standard
  unfolding read_standard
  standard-const is h X = rw is (X.turns s h)

  pub standard-half : o ≡ 9 → Turns e r s at q (read_half (drop at s)) → Standard
  unfolding read_standard
  standard-half is T = rw is T

  pub standard-isa : o ≡ 12 → Turns e r s at q (read_over 1 (drop at s)) → Standard
  unfolding read_standard operands_of standard_operands
  standard-isa is T = rw is T

  by_number : {C : Type 0} (k : ℕ) → (o ≡ k → C) → ((o ≡ k → ⊥) → C) → C
  by_number {C} k f g = go (eqb o k) refl
    where
      go : (b : Bool) → eqb o k ≡ b → C
      go true z = f (eqb-true o k z)
      go false z = g (eqb-false o k z)

  bare-6 : o ≡ 6 → Turns e r s at q (read_over 0 (drop at s)) → Standard
  unfolding read_standard operands_of standard_operands
  bare-6 is T = rw is T

  bare-7 : o ≡ 7 → Turns e r s at q (read_over 0 (drop at s)) → Standard
  unfolding read_standard operands_of standard_operands
  bare-7 is T = rw is T

  bare-10 : o ≡ 10 → Turns e r s at q (read_over 0 (drop at s)) → Standard
  unfolding read_standard operands_of standard_operands
  bare-10 is T = rw is T

  bare-11 : o ≡ 11 → Turns e r s at q (read_over 0 (drop at s)) → Standard
  unfolding read_standard operands_of standard_operands
  bare-11 is T = rw is T

  -- 6, 7, 10 and 11
  pub standard-none : (o ≡ 8 → ⊥) → (o ≡ 9 → ⊥) → 6 ≤ o → o < 12 → Turns e r s at q (read_over 0 (drop at s)) → Standard
  standard-none n8 n9 low high T =
      by_number 6 (λ h. bare-6 h T) λ h6.
      by_number 7 (λ h. bare-7 h T) λ h7.
      by_number 10 (λ h. bare-10 h T) λ h10.
      let eleven : 11 ≤ o = above 10 o (above 9 o (above 8 o (above 7 o (above 6 o low h6) h7) n8) n9) h10 in
      let last : o ≡ 11 = omega arith in
      bare-11 last T

  -- an opcode that the Standard does not know
  pub standard-unknown : (n : ℕ) → n ≡ get_or ls (o - 1) 0 → 12 < o → Turns e r s at q (read_over n (drop at s)) → Standard
  unfolding read_standard operands_of standard_operands
  standard-unknown n is high T =
      rw (
        ne_eqb o 1 (λ z. omega arith),
        ne_eqb o 2 (λ z. omega arith),
        ne_eqb o 3 (λ z. omega arith),
        ne_eqb o 4 (λ z. omega arith),
        ne_eqb o 5 (λ z. omega arith),
        ne_eqb o 6 (λ z. omega arith),
      )
      (rw (
        ne_eqb o 7 (λ z. omega arith),
        ne_eqb o 8 (λ z. omega arith),
        ne_eqb o 9 (λ z. omega arith),
        ne_eqb o 10 (λ z. omega arith),
        ne_eqb o 11 (λ z. omega arith),
        ne_eqb o 12 (λ z. omega arith),
      )
      (rw is at T))

pub standard-copy : (e : Encoding) (r : Registers) (s ls : List ℕ) (o at : ℕ) → o ≡ 1 → at ≤ length s
    → Standard e r s ls o at (Ok (Stepped.Row (Emitted.Plain r at)))
unfolding read_standard turn execute ◌>>=◌
standard-copy e r s ls o at is h = rw is (record { is = refl; within = (omega arith, h) })
