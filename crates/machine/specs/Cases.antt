-- Theorem. E8 by cases: a program, and its rows or its refusal.
use Rattle.std.specs.Prelude.{◌≡◌, ℕ, ◌+◌, ◌-◌, ◌^◌, true, List, [], ◌∷◌, ◌++◌, replicate}
use Rattle.tlv.specs.Outcome.{Outcome, refused, done}
use Rattle.tlv.specs.Lists.{All}
use Rattle.tlv.specs.Model.{LineHeader, LineEncoding, LineRow}
use Rattle.line_program.specs.Standard.{Opcodes}
use Rattle.line_program.specs.Program.{opcodes_of, line_sequence_offsets}
use Rattle.machine.specs.Machine.{program_rows}

-- minimum instruction length, operations, line base, line range
abbrev pub encoding : ℕ → ℕ → ℕ → ℕ → LineEncoding
encoding length operations base range = record {
  minimum_instruction_length = length;
  maximum_operations = operations;
  default_is_stmt = true;
  line_base = base;
  line_range = range;
}

-- an opcode base with the Standard's operand counts
abbrev pub opcodes : ℕ → Opcodes
opcodes base = record { base = base; lengths = 0 ∷ 1 ∷ 1 ∷ 1 ∷ 1 ∷ 0 ∷ 0 ∷ 0 ∷ 1 ∷ 0 ∷ 0 ∷ 1 ∷ [] }

abbrev pub row : ℕ → ℕ → ℕ → ℕ → ℕ → LineRow
row address file line column kind = record { address = address; file = file; line = line; column = column; kind = kind }

pub data Case : Type 0 where
  runs : LineEncoding → Opcodes → List ℕ → Outcome (List LineRow) → Case

abbrev pub CaseHolds : Case → Type 0
CaseHolds (runs e h program o) = program_rows e h program ≡ o

-- gcc's encoding: 1, 1, -10 (f6), 242; clang's: 1, 1, -5 (fb), 14
abbrev pub gcc : LineEncoding
gcc = encoding 1 1 0xf6 242

abbrev pub clang : LineEncoding
clang = encoding 1 1 0xfb 14

abbrev pub end : List ℕ
end = 0x00 ∷ 0x01 ∷ 0x01 ∷ []

abbrev pub to1000 : List ℕ
to1000 = 0x00 ∷ 0x09 ∷ 0x02 ∷ 0x00 ∷ 0x10 ∷ 0x00 ∷ 0x00 ∷ 0x00 ∷ 0x00 ∷ 0x00 ∷ 0x00 ∷ []

abbrev pub cases : List Case
cases =
    -- 21: before any instruction, of an empty program too
    runs (encoding 1 1 0xf6 0) (opcodes 13) [] (refused 21)
    ∷ runs (encoding 1 4 0xf6 242) (opcodes 13) (0x00 ∷ []) (refused 21)
    ∷ runs (encoding 1 0 0xf6 242) (opcodes 13) [] (refused 21)
    ∷ runs gcc (opcodes 13) [] (done [])
    -- an end of sequence alone; a sequence that is not ended keeps its rows here; the registers begin anew
    ∷ runs gcc (opcodes 13) end (done (row 0 1 1 0 1 ∷ []))
    ∷ runs gcc (opcodes 13) (0x01 ∷ []) (done (row 0 1 1 0 0 ∷ []))
    ∷ runs gcc (opcodes 13) (to1000 ++ (0x05 ∷ 0x07 ∷ 0x04 ∷ 0x02 ∷ 0x03 ∷ 0x09 ∷ 0x01 ∷ []) ++ end ++ (0x01 ∷ []))
    (done (row 0x1000 2 10 7 0 ∷ row 0x1000 2 10 7 1 ∷ row 0 1 1 0 0 ∷ []))
    -- special opcodes: 0x75 of gcc's encoding is adjusted 104: line -10 + 104, address + 0; of clang's line -5 + 6, address + 7
    ∷ runs gcc (opcodes 13) (0x75 ∷ []) (done (row 0 1 95 0 0 ∷ []))
    ∷ runs clang (opcodes 13) (0x75 ∷ []) (done (row 7 1 2 0 0 ∷ []))
    -- minimum instruction length 4; fixed advance is not scaled; constant add is special opcode 255 without its line: 242 / 14 = 17
    ∷ runs (encoding 4 1 0xfb 14) (opcodes 13) (0x02 ∷ 0x03 ∷ 0x08 ∷ 0x09 ∷ 0x01 ∷ 0x01 ∷ 0x01 ∷ []) (done (row 337 1 1 0 0 ∷ []))
    -- "Lines wrap modulo 2^64": -10 + 0 at line 1, and advance line by -2 at line 1
    ∷ runs gcc (opcodes 13) (0x0d ∷ []) (done (row 0 1 (2 ^ 64 - 9) 0 0 ∷ []))
    ∷ runs gcc (opcodes 13) (0x03 ∷ 0x7e ∷ 0x01 ∷ []) (done (row 0 1 (2 ^ 64 - 1) 0 0 ∷ []))
    -- E2's operand of ten bytes: -1; its faults
    ∷ runs gcc (opcodes 13) ((0x03 ∷ replicate 9 0xff) ++ (0x7f ∷ 0x01 ∷ [])) (done (row 0 1 0 0 0 ∷ []))
    ∷ runs gcc (opcodes 13) ((0x03 ∷ replicate 9 0x80) ++ (0x7f ∷ 0x01 ∷ [])) (done (row 0 1 (2 ^ 63 + 1) 0 0 ∷ []))
    ∷ runs gcc (opcodes 13) ((0x03 ∷ replicate 9 0xff) ++ (0x01 ∷ [])) (refused 10)
    ∷ runs gcc (opcodes 13) ((0x03 ∷ replicate 9 0xff) ++ (0xff ∷ [])) (refused 11)
    -- E7's column: 65,536 is written 65,535
    ∷ runs gcc (opcodes 13) (0x05 ∷ 0x80 ∷ 0x80 ∷ 0x04 ∷ 0x01 ∷ []) (done (row 0 1 1 65535 0 ∷ []))
    -- set address: any number of operand bytes, lowest first; none is 0
    ∷ runs gcc (opcodes 13) (0x00 ∷ 0x03 ∷ 0x02 ∷ 0x34 ∷ 0x12 ∷ 0x01 ∷ []) (done (row 0x1234 1 1 0 0 ∷ []))
    ∷ runs gcc (opcodes 13) (0x00 ∷ 0x01 ∷ 0x02 ∷ 0x01 ∷ []) (done (row 0 1 1 0 0 ∷ []))
    ∷ runs gcc (opcodes 13) ((0x00 ∷ 0x0a ∷ 0x02 ∷ replicate 8 0xff) ++ (0x00 ∷ 0x01 ∷ [])) (done (row (2 ^ 64 - 1) 1 1 0 0 ∷ []))
    -- 22: past 2^64 - 1 by set address, advance, fixed advance, constant add and special opcode
    ∷ runs gcc (opcodes 13) ((0x00 ∷ 0x0a ∷ 0x02 ∷ replicate 8 0x00) ++ (0x01 ∷ [])) (refused 22)
    ∷ runs gcc (opcodes 13) ((0x00 ∷ 0x09 ∷ 0x02 ∷ replicate 8 0xff) ++ (0x02 ∷ 0x01 ∷ [])) (refused 22)
    ∷ runs (encoding 2 1 0xf6 242) (opcodes 13) ((0x02 ∷ replicate 9 0x80) ++ (0x01 ∷ [])) (refused 22)
    ∷ runs gcc (opcodes 13) ((0x00 ∷ 0x09 ∷ 0x02 ∷ replicate 8 0xff) ++ (0x09 ∷ 0x01 ∷ 0x00 ∷ [])) (refused 22)
    ∷ runs gcc (opcodes 13) ((0x00 ∷ 0x09 ∷ 0x02 ∷ replicate 8 0xff) ++ (0x08 ∷ [])) (refused 22)
    ∷ runs gcc (opcodes 13) ((0x00 ∷ 0x09 ∷ 0x02 ∷ replicate 8 0xff) ++ (0xff ∷ [])) (refused 22)
    -- 22: a fall, of the register and not of rows; the same address, the next sequence and a first address are none
    ∷ runs gcc (opcodes 13) (0x02 ∷ 0x05 ∷ 0x00 ∷ 0x02 ∷ 0x02 ∷ 0x04 ∷ []) (refused 22)
    ∷ runs gcc (opcodes 13) (0x02 ∷ 0x05 ∷ 0x00 ∷ 0x02 ∷ 0x02 ∷ 0x05 ∷ []) (done [])
    ∷ runs gcc (opcodes 13) (to1000 ++ end ++ (0x00 ∷ 0x02 ∷ 0x02 ∷ 0x04 ∷ 0x01 ∷ [])) (done (row 0x1000 1 1 0 1 ∷ row 4 1 1 0 0 ∷ []))
    -- the first fault decides
    ∷ runs gcc (opcodes 13) (0x02 ∷ 0x05 ∷ 0x00 ∷ 0x02 ∷ 0x02 ∷ 0x04 ∷ 0x00 ∷ []) (refused 22)
    ∷ runs gcc (opcodes 13) (0x02 ∷ 0x05 ∷ 0x00 ∷ 0x03 ∷ 0x02 ∷ 0x04 ∷ []) (refused 7)
    -- 7 to 9 and 12 of extended opcodes; a longer end of sequence; define file, discriminator and unknown ones do nothing, whatever their bytes
    ∷ runs gcc (opcodes 13) (0x00 ∷ []) (refused 7)
    ∷ runs gcc (opcodes 13) (0x00 ∷ 0x01 ∷ []) (refused 8)
    ∷ runs gcc (opcodes 13) (0x00 ∷ 0x00 ∷ []) (refused 9)
    ∷ runs gcc (opcodes 13) ((0x00 ∷ replicate 9 0xff) ++ (0x01 ∷ 0x01 ∷ [])) (refused 12)
    ∷ runs gcc (opcodes 13) (0x00 ∷ 0x03 ∷ 0x01 ∷ 0x55 ∷ 0x66 ∷ 0x01 ∷ []) (done (row 0 1 1 0 1 ∷ row 0 1 1 0 0 ∷ []))
    ∷ runs gcc (opcodes 13) (0x00 ∷ 0x02 ∷ 0x03 ∷ 0x41 ∷ 0x00 ∷ 0x02 ∷ 0x04 ∷ 0x80 ∷ 0x00 ∷ 0x01 ∷ 0x80 ∷ 0x01 ∷ [])
    (done (row 0 1 1 0 0 ∷ []))
    -- opcode base 0 and 1: byte 0 is extended, every other opcode special; base 10: 10 is special 0
    ∷ runs clang (opcodes 0) ((0x02 ∷ []) ++ end) (done (row 0 1 (2 ^ 64 - 2) 0 0 ∷ row 0 1 (2 ^ 64 - 2) 0 1 ∷ []))
    ∷ runs clang (opcodes 1) (0x02 ∷ []) (done (row 0 1 (2 ^ 64 - 3) 0 0 ∷ []))
    ∷ runs clang (opcodes 10) (0x0a ∷ []) (done (row 0 1 (2 ^ 64 - 4) 0 0 ∷ []))
    -- known opcodes take the Standard's operands whatever the header declares; an unknown one as many as declared, none past its table
    ∷ runs gcc (record { base = 13; lengths = [] }) (0x02 ∷ 0x05 ∷ 0x0c ∷ 0x01 ∷ 0x01 ∷ []) (done (row 5 1 1 0 0 ∷ []))
    ∷ runs gcc (record { base = 15; lengths = replicate 12 9 ++ (2 ∷ []) })
    (0x0d ∷ 0x81 ∷ 0x01 ∷ 0x01 ∷ 0x0e ∷ 0x06 ∷ 0x07 ∷ 0x0a ∷ 0x0b ∷ 0x01 ∷ []) (done (row 0 1 1 0 0 ∷ []))
    ∷ []

abbrev pub AllCases : Type 0
AllCases = All CaseHolds cases

abbrev pub header : ℕ → List ℕ → LineHeader
header offset lengths = record { offset = offset; header_length = 0; version = 4; word_size = 4; opcode_base = 13; opcode_lengths = lengths }

abbrev pub odd_header : LineHeader
odd_header = header 0 (0 ∷ 0 ∷ 1 ∷ 1 ∷ 1 ∷ 0 ∷ 0 ∷ 0 ∷ 1 ∷ 0 ∷ 0 ∷ 1 ∷ [])

abbrev pub late_header : LineHeader
late_header = header (2 ^ 64 - 4) []

-- the answers beside those of the base's scan
pub record BesideScan : Type 0 where
  -- where the header declares other operand counts, here none for opcode 2, the scan goes other ways than the machine: advance pc by 5 and an end of
  -- sequence; or set column 0 and two copies, so no sequence, and warning 5
  pub odd : (program_rows gcc (opcodes_of odd_header) (0x02 ∷ 0x05 ∷ end) ≡ done (row 5 1 1 0 1 ∷ []))
      × (line_sequence_offsets odd_header (0x02 ∷ 0x05 ∷ end) ≡ done [])
  -- "an instruction fault is met here before the sequence scan": 7 comes before the 12 of a program that begins past 2^64 - 1
  pub late : (program_rows gcc (opcodes_of late_header) (0x00 ∷ []) ≡ refused 7) × (line_sequence_offsets late_header (0x00 ∷ []) ≡ refused 12)
