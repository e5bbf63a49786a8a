-- Theorem. What holds between the definitions of this crate and the Standard's (Standard.antt). docs/DIFFERENCES.md lists what these statements leave out.
use Rattle.std.specs.Prelude.{ℕ, zero, suc, ◌+◌, ◌-◌, ◌%◌, ◌^◌, ◌≤◌, ◌<◌, ◌≡◌, ◌↔◌, ◌⊎◌, ◌≢◌, true, false, List, [], ◌∷◌, length, get_or}
use Rattle.std.proofs.Math.Option.{Option, none, some}
use Rattle.tlv.specs.Outcome.{Outcome, refused, done}
use Rattle.line_program.specs.Standard.{Operand, leb128, SignedOperand, sleb128, OperandKind, unsigned, signed, half, standard_operands}
use Rattle.line_program.specs.Standard.{Opcodes, declared, operands_of, after_operand, Passed, instruction, sequences}
use Rattle.line_program.specs.Program.{uleb, is_sign, sleb, bare, place_of, skip, scan_line_sequence_offsets}

-- ---- operands: read_line_uleb is the Standard's LEB128 within ten bytes and 64 bits

-- how many bytes an operand takes
abbrev pub taken : List ℕ → Operand → ℕ
taken s o = length s - length o.rest

-- the first n bytes are there, and each has its top bit set
abbrev pub Continues : ℕ → List ℕ → Type 0
Continues zero s = Unit {0}
Continues (suc n) [] = ⊥
Continues (suc n) (b ∷ s) = (128 ≤ b) × Continues n s

pub record OperandConforms (s : List ℕ) : Type 0 where
  -- read: exactly what the Standard reads, where it takes ten bytes at most and has 64 bits at most
  pub read : (o : Operand) → (uleb s ≡ done o) ↔ ((leb128 s ≡ some o) × (taken s o ≤ 10) × (o.value < 2 ^ 64))
  -- 7: the bytes end within the first ten, before the Standard's number does
  pub cut : (uleb s ≡ refused 7) ↔ ((leb128 s ≡ none) × (length s < 10))
  -- 10: nine bytes go on, and the tenth has more than one bit to give; a number that ends there or later has more than 64 bits
  pub overflowing : (uleb s ≡ refused 10) ↔ (Continues 9 s × (9 < length s) × (1 < get_or s 9 0 % 128))
  pub past-bits : uleb s ≡ refused 10 → (o : Operand) → leb128 s ≡ some o → 2 ^ 64 ≤ o.value
  -- 11: ten bytes go on; a number that ends later takes more than ten
  pub overlong : (uleb s ≡ refused 11) ↔ (Continues 10 s × (get_or s 9 0 % 128 ≤ 1))
  pub past_bytes : uleb s ≡ refused 11 → (o : Operand) → leb128 s ≡ some o → 10 < taken s o
  -- there is no other refusal
  pub only : (n : ℕ) → uleb s ≡ refused n → (n ≡ 7) ⊎ (n ≡ 10) ⊎ (n ≡ 11)

abbrev pub Operands : Type 0
Operands = (s : List ℕ) → OperandConforms s

-- ---- signed operands, as opcode 3 has one: the Standard's signed LEB128 within ten bytes and 64 bits

abbrev pub taken_signed : List ℕ → SignedOperand → ℕ
taken_signed s o = length s - length o.rest

-- a number of 64 bits with a sign: - 2^63 at least, and below 2^63
pub record Signed64 (o : SignedOperand) : Type 0 where
  pub above : o.down ≤ o.up + 2 ^ 63
  pub below : o.up < o.down + 2 ^ 63

pub record SignedConforms (s : List ℕ) : Type 0 where
  -- read: exactly what the Standard reads, where it takes ten bytes at most and has 64 bits at most
  pub read : (o : SignedOperand) → (sleb s ≡ done o) ↔ ((sleb128 s ≡ some o) × (taken_signed s o ≤ 10) × Signed64 o)
  -- 7: the bytes end within the first ten, before the Standard's number does
  pub cut : (sleb s ≡ refused 7) ↔ ((sleb128 s ≡ none) × (length s < 10))
  -- 10: nine bytes go on, and the tenth is no sign; a number that ends there or later has more than 64 bits
  pub overflowing : (sleb s ≡ refused 10) ↔ (Continues 9 s × (9 < length s) × (is_sign (get_or s 9 0 % 128) ≡ false))
  pub past-bits : sleb s ≡ refused 10 → (o : SignedOperand) → sleb128 s ≡ some o → ¬ Signed64 o
  -- 11: ten bytes go on; a number that ends later takes more than ten
  pub overlong : (sleb s ≡ refused 11) ↔ (Continues 10 s × (is_sign (get_or s 9 0 % 128) ≡ true))
  pub past_bytes : sleb s ≡ refused 11 → (o : SignedOperand) → sleb128 s ≡ some o → 10 < taken_signed s o
  -- there is no other refusal
  pub only : (n : ℕ) → sleb s ≡ refused n → (n ≡ 7) ⊎ (n ≡ 10) ⊎ (n ≡ 11)

abbrev pub SignedOperands : Type 0
SignedOperands = (s : List ℕ) → SignedConforms s

-- ---- instructions: skipping is the Standard's wherever the header declares the Standard's operand counts

abbrev pub CountIs : ℕ → Option (List OperandKind) → Type 0
CountIs n none = Unit {0}
CountIs n (some ks) = n ≡ length ks

-- an opcode that the Standard knows, and whose operands are not fixed, is declared with the Standard's number of operands
abbrev pub DeclaresCount : Opcodes → ℕ → Type 0
DeclaresCount h o = bare o ≡ false → o ≢ 9 → CountIs (declared h o) (standard_operands o)

-- so is each below the base
abbrev pub DeclaresStandard : Opcodes → Type 0
DeclaresStandard h = (o : ℕ) → o < h.base → DeclaresCount h o

-- the unsigned number that s begins with, where it ends, takes ten bytes and has 64 bits at most
abbrev pub Short : List ℕ → Type 0
Short s = (o : Operand) → leb128 s ≡ some o → (taken s o ≤ 10) × (o.value < 2 ^ 64)

-- and the signed one
abbrev pub ShortSigned : List ℕ → Type 0
ShortSigned s = (o : SignedOperand) → sleb128 s ≡ some o → (taken_signed s o ≤ 10) × Signed64 o

-- an operand within the limits of ten bytes and 64 bits, with a sign or without; two bytes have none
abbrev pub Narrow : OperandKind → List ℕ → Type 0
Narrow unsigned s = Short s
Narrow signed s = ShortSigned s
Narrow half s = Unit {0}

-- each of the operands that s begins with
abbrev pub NarrowOperands : List OperandKind → List ℕ → Type 0
NarrowOperands [] s = Unit {0}
NarrowOperands (k ∷ ks) s = Narrow k s × ((rest : List ℕ) → after_operand k s ≡ some rest → NarrowOperands ks rest)

-- the instruction of opcode o, which s follows: the length of an extended one, the operands of a standard one; a special one has none
pub record NarrowInstruction (h : Opcodes) (o : ℕ) (s : List ℕ) : Type 0 where
  pub extended : o ≡ 0 → Narrow unsigned s
  pub standard : o ≢ 0 → o < h.base → NarrowOperands (operands_of h o) s

-- P of each instruction of a program, by its opcode and what follows that, as the Standard walks the program; they are at most k
abbrev pub EachWithin : ℕ → Opcodes → (ℕ → List ℕ → Type 0) → List ℕ → Type 0
EachWithin zero h P s = Unit {0}
EachWithin (suc k) h P [] = Unit {0}
EachWithin (suc k) h P (o ∷ s) = P o s × ((t : Passed) → instruction h o s ≡ some t → EachWithin k h P t.rest)

abbrev pub Each : Opcodes → (ℕ → List ℕ → Type 0) → List ℕ → Type 0
Each h P program = EachWithin (length program) h P program

abbrev pub NarrowProgram : Opcodes → List ℕ → Type 0
NarrowProgram h program = Each h (NarrowInstruction h) program

-- where the instruction ends a sequence, that end's place is below 2^64; the program has `whole` bytes and begins at `base`
abbrev pub EndBelow : Opcodes → ℕ → ℕ → ℕ → List ℕ → Type 0
EndBelow h base whole o s = (t : Passed) → instruction h o s ≡ some t → t.ends ≡ true → base + place_of whole t.rest < 2 ^ 64

-- each sequence of the program ends below 2^64
abbrev pub EndsBelow : Opcodes → ℕ → List ℕ → Type 0
EndsBelow h base program = Each h (EndBelow h base (length program)) program

-- an answer beside the Standard's: done is the same, 7 to 9 are no whole program (or instruction) of the Standard;
-- 10 and 11 (an operand past 64 bits or ten bytes) and 12 (past 2^64 - 1) are limits that the Standard does not have. Where these lie is said by `Agrees`
abbrev pub Beside : {A : Type 0} → Outcome A → Option A → Type 0
Beside (done a) o = o ≡ some a
Beside (refused n) o = ((7 ≤ n) × (n ≤ 9) × (o ≡ none)) ⊎ ((10 ≤ n) × (n ≤ 12))

-- an answer is the Standard's exactly within the limits; what the Standard has beyond them is refused with a number from 10 to `last`
pub record Agrees {A : Type 0} (last : ℕ) (x : Outcome A) (o : Option A) (Limits : Type 0) : Type 0 where
  pub same : (a : A) → (x ≡ done a) ↔ ((o ≡ some a) × Limits)
  pub beyond : (a : A) (n : ℕ) → o ≡ some a → x ≡ refused n → (10 ≤ n) × (n ≤ last)

-- an instruction is passed where the Standard passes it and it is narrow; 12 is one that ends past the program, which the Standard has not.
-- A program is scanned where the Standard has its sequences, each instruction is narrow and each sequence ends below 2^64, as they do where the program does
pub record ProgramConforms (h : Opcodes) : Type 0 where
  pub instructions : (whole o : ℕ) (s : List ℕ) → Beside (skip h whole o s) (instruction h o s)
  pub programs : (base : ℕ) (program : List ℕ) → Beside (scan_line_sequence_offsets h base program) (sequences h base program)
  pub passed : (whole o : ℕ) (s : List ℕ) → Agrees 11 (skip h whole o s) (instruction h o s) (NarrowInstruction h o s)
  pub scanned : (base : ℕ) (program : List ℕ)
      → Agrees 12 (scan_line_sequence_offsets h base program) (sequences h base program) (NarrowProgram h program × EndsBelow h base program)
  pub ends : (base : ℕ) (program : List ℕ) → base + length program < 2 ^ 64 → EndsBelow h base program

abbrev pub Programs : Type 0
Programs = (h : Opcodes) → DeclaresStandard h → ProgramConforms h

-- E2: opcode 3 with a single declared operand is the Standard's within the limits of a signed one, whatever the header declares for other opcodes
abbrev pub AdvanceLine : Type 0
AdvanceLine = (h : Opcodes) → 3 < h.base → declared h 3 ≡ 1 → (whole : ℕ) (s : List ℕ)
    → Agrees 11 (skip h whole 3 s) (instruction h 3 s) (Narrow signed s)
