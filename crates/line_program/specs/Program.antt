-- Definition. Operands and instructions of a line program as document 01 ("Rules that bite", skipping; 7 to 12), document 02 (E2, the operand of opcode 3)
-- and the Rust's scan_line_sequence_offsets have them.
use Rattle.std.specs.Prelude.{ℕ, zero, suc, ◌+◌, ◌*◌, ◌-◌, ◌%◌, ◌^◌, Bool, false, cond, ◌&&◌, ◌||◌, List, [], ◌∷◌, length, drop, replicate, leb, ltb, eqb}
use Rattle.tlv.specs.Outcome.{Outcome, refused, done, ◌>>=◌}
use Rattle.tlv.specs.Model.{LineHeader}
use Rattle.line_program.specs.Standard.{Operand, SignedOperand, OperandKind, unsigned, signed, half, Opcodes, declared, Passed}

-- read_line_uleb: a number of 64 bits has ten bytes at most, of which k + 1 are left
unfoldable pub uleb_within : ℕ → List ℕ → Outcome Operand
uleb_within zero [] = refused 7
uleb_within zero (b ∷ s) = cond (ltb 1 (b % 128)) (refused 10) (cond (ltb b 128) (done (record { value = b; rest = s })) (refused 11))
uleb_within (suc k) [] = refused 7
uleb_within (suc k) (b ∷ s) =
    cond (ltb b 128) (done (record { value = b; rest = s }))
    (uleb_within k s >>= λ o. done (record { value = b % 128 + 128 * o.value; rest = o.rest }))

unfoldable pub uleb : List ℕ → Outcome Operand
uleb s = uleb_within 9 s

-- E2: "a tenth byte may have low seven bits 0 or 7f hex": they are bit 63 of the number and its sign above that, all alike
abbrev pub is_sign : ℕ → Bool
is_sign bits = eqb bits 0 || eqb bits 0x7f

-- 7.6, the last byte of a signed number: where its bit 6 is set, the number is less by 2 to the power of its bits
abbrev pub signed_byte : ℕ → List ℕ → SignedOperand
signed_byte b s = record { up = b; down = cond (leb 64 b) 128 0; rest = s }

-- a signed number of 64 bits has ten bytes at most, of which k + 1 are left. E2: ".. else 10; with its top bit set and those bits allowed, 11"
unfoldable pub sleb_within : ℕ → List ℕ → Outcome SignedOperand
sleb_within zero [] = refused 7
sleb_within zero (b ∷ s) = cond (is_sign (b % 128)) (cond (ltb b 128) (done (signed_byte b s)) (refused 11)) (refused 10)
sleb_within (suc k) [] = refused 7
sleb_within (suc k) (b ∷ s) =
    cond (ltb b 128) (done (signed_byte b s))
    (sleb_within k s >>= λ o. done (record { up = b % 128 + 128 * o.up; down = 128 * o.down; rest = o.rest }))

unfoldable pub sleb : List ℕ → Outcome SignedOperand
sleb s = sleb_within 9 s

-- ---- the operand rules

-- "opcodes 1, 6, 7, 8, 10, 11 take nothing"
abbrev pub bare : ℕ → Bool
bare o = eqb o 1 || eqb o 6 || eqb o 7 || eqb o 8 || eqb o 10 || eqb o 11

-- E2: "opcode 3's single declared operand is skipped as signed .. If the header declares another operand count for opcode 3, the old rule stays"
abbrev pub counted_kinds : ℕ → ℕ → List OperandKind
counted_kinds o n = cond (eqb o 3 && eqb n 1) (signed ∷ []) (replicate n unsigned)

-- ".. and 9 takes two bytes, whatever the header's lengths say; other opcodes below the base skip that many unsigned operands"
unfoldable pub operand_kinds : Opcodes → ℕ → List OperandKind
operand_kinds h o = cond (eqb o 9) (half ∷ []) (cond (bare o) [] (counted_kinds o (declared h o)))

unfoldable pub skip_operand : OperandKind → List ℕ → Outcome (List ℕ)
skip_operand unsigned s = uleb s >>= λ o. done o.rest
skip_operand signed s = sleb s >>= λ o. done o.rest
skip_operand half s = cond (leb 2 (length s)) (done (drop 2 s)) (refused 7)

unfoldable pub skip_operands : List OperandKind → List ℕ → Outcome (List ℕ)
skip_operands [] s = done s
skip_operands (k ∷ ks) s = skip_operand k s >>= skip_operands ks

-- ---- instructions

-- the place of what is left, in a program of `whole` bytes
abbrev pub place_of : ℕ → List ℕ → ℕ
place_of whole rest = whole - length rest

-- take_line_bytes: n bytes more; an end past 2^64 - 1 is told from one past the program
unfoldable pub take_line_bytes : ℕ → ℕ → List ℕ → Outcome (List ℕ)
take_line_bytes whole n s =
    cond (leb n (length s)) (done (drop n s))
    (cond (ltb (place_of whole s + n) (2 ^ 64)) (refused 7) (refused 12))

-- an extended instruction of n bytes, of which the first is the opcode; 1 ends the sequence
unfoldable pub extended_body : ℕ → ℕ → List ℕ → Outcome Passed
extended_body whole n [] = refused 8
extended_body whole n (b ∷ s) = take_line_bytes whole (n - 1) s >>= λ rest. done (record { ends = eqb b 1; rest = rest })

-- after the zero byte a length, then as many bytes
unfoldable pub extended : ℕ → List ℕ → Outcome Passed
extended whole s = uleb s >>= λ o. cond (eqb o.value 0) (refused 9) (extended_body whole o.value o.rest)

-- the instruction of opcode o, which s follows
unfoldable pub skip : Opcodes → ℕ → ℕ → List ℕ → Outcome Passed
skip h whole o s =
    cond (eqb o 0) (extended whole s)
    (cond (ltb o h.base) (skip_operands (operand_kinds h o) s >>= λ rest. done (record { ends = false; rest = rest }))
    (done (record { ends = false; rest = s })))

-- ---- sequences

-- where the sequences begin: the open one at `from`; s is what is left of a program of `whole` bytes at `base`, whose instructions are at most k
unfoldable pub sequences_within : ℕ → Opcodes → ℕ → ℕ → ℕ → List ℕ → Outcome (List ℕ)
sequences_within zero h base whole from s = done []
sequences_within (suc k) h base whole from [] = done []
sequences_within (suc k) h base whole from (o ∷ s) = skip h whole o s >>= λ t.
    let here = base + place_of whole t.rest in
    cond t.ends
    (cond (ltb here (2 ^ 64)) (sequences_within k h base whole here t.rest >>= λ l. done (from ∷ l)) (refused 12))
    (sequences_within k h base whole from t.rest)

-- scan_line_sequence_offsets: the sequences of a program that begins at `base`
unfoldable pub scan_line_sequence_offsets : Opcodes → ℕ → List ℕ → Outcome (List ℕ)
scan_line_sequence_offsets h base program = sequences_within (length program) h base (length program) base program

abbrev pub opcodes_of : LineHeader → Opcodes
opcodes_of h = record { base = h.opcode_base; lengths = h.opcode_lengths }

-- 7.4: how many bytes a header's own length takes; 6.2.4: the sizes of addresses and selectors stand in it from version 5 on
unfoldable pub initial_length : ℕ → ℕ
initial_length word_size = cond (eqb word_size 8) 12 4

unfoldable pub version_bytes : ℕ → ℕ
version_bytes version = cond (leb 5 version) 2 0

-- where the program begins, from the header's own place and length
unfoldable pub program_offset : LineHeader → ℕ
program_offset h = h.offset + (initial_length h.word_size + 2 + version_bytes h.version + h.word_size) + h.header_length

-- line_sequence_offsets
unfoldable pub line_sequence_offsets : LineHeader → List ℕ → Outcome (List ℕ)
line_sequence_offsets h program =
    cond (ltb (program_offset h) (2 ^ 64)) (scan_line_sequence_offsets (opcodes_of h) (program_offset h) program) (refused 12)
