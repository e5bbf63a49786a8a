-- Theorem. Document 01's proved cases (●, "Operands, paths and a printed import") as one table.
use Rattle.std.specs.Prelude.{◌≡◌, List, [], ◌∷◌, ◌++◌, ℕ, ◌^◌, replicate}
use Rattle.tlv.specs.declared.model.AddressRange.{AddressRange}
use Rattle.tlv.specs.Outcome.{Outcome, refused, done}
use Rattle.tlv.specs.Lists.{All}
use Rattle.tlv.specs.Model.{LineHeader}
use Rattle.line_program.specs.Standard.{Operand}
use Rattle.line_program.specs.Program.{uleb, line_sequence_offsets}
use Rattle.paths.specs.Paths.{directory_name, basename_of}
use Rattle.imports.specs.Ranges.{coalesce_ranges}

pub data Case : Type 0 where
  reads : List ℕ → Outcome Operand → Case  -- an operand's bytes
  begins : List ℕ → Outcome (List ℕ) → Case  -- a program, where its sequences begin
  merges : List AddressRange → List AddressRange → Case  -- ranges, merged
  splits : List ℕ → List ℕ → List ℕ → Case  -- a path, its directory and its basename

-- "program offset 44": a version 5 header of 32 bytes at 0, with the Standard's operand counts
abbrev pub header44 : LineHeader
header44 = record {
  offset = 0;
  header_length = 32;
  version = 5;
  word_size = 4;
  opcode_base = 13;
  opcode_lengths = 0 ∷ 1 ∷ 1 ∷ 1 ∷ 1 ∷ 0 ∷ 0 ∷ 0 ∷ 1 ∷ 0 ∷ 0 ∷ 1 ∷ [];
}

abbrev pub CaseHolds : Case → Type 0
CaseHolds (reads bytes o) = uleb bytes ≡ o
CaseHolds (begins program o) = line_sequence_offsets header44 program ≡ o
CaseHolds (merges rs ms) = coalesce_ranges rs ≡ ms
CaseHolds (splits path directory basename) = (directory_name path ≡ directory) × (basename_of path ≡ basename)

-- an operand with nothing after it
abbrev pub alone : ℕ → Outcome Operand
alone v = done (record { value = v; rest = [] })

abbrev pub nine80 : List ℕ
nine80 = replicate 9 0x80

abbrev pub range : ℕ → ℕ → AddressRange
range a b = record { start = a; end = b }

abbrev pub cases : List Case
cases =
    reads (0xe5 ∷ 0x8e ∷ 0x26 ∷ []) (alone 624485)  -- e5 8e 26 reads 624485
    ∷ reads (nine80 ++ (0x01 ∷ [])) (alone (2 ^ 63))  -- nine 80 then 01 reads 2^63
    ∷ reads (nine80 ++ (0x02 ∷ [])) (refused 10)  -- then 02: 10
    ∷ reads (nine80 ++ (0x80 ∷ [])) (refused 11)  -- then 80: 11
    ∷ begins (0x00 ∷ []) (refused 7)  -- 00: 7
    ∷ begins (0x00 ∷ 0x00 ∷ []) (refused 9)  -- 00 00: 9
    ∷ begins (0x00 ∷ 0x01 ∷ []) (refused 8)  -- 00 01: 8
    ∷ begins ((0x00 ∷ replicate 9 0xff) ++ (0x01 ∷ 0x01 ∷ [])) (refused 12)  -- 00, nine ff, 01, 01: 12
    ∷ begins (0x00 ∷ 0x01 ∷ 0x01 ∷ 0x01 ∷ 0x00 ∷ 0x01 ∷ 0x01 ∷ []) (done (44 ∷ 47 ∷ []))  -- 00 01 01 01 00 01 01: sequences 44, 47
    ∷ merges (range 4 8 ∷ range 8 10 ∷ range 20 30 ∷ []) (range 4 10 ∷ range 20 30 ∷ [])  -- ranges 4-8, 8-10, 20-30 merge to 4-10, 20-30
    ∷ splits (0x2f ∷ 0x61 ∷ 0x2e ∷ 0x63 ∷ []) (0x2f ∷ []) (0x61 ∷ 0x2e ∷ 0x63 ∷ [])  -- /a.c is "/", "a.c"
    -- E3: "C:\b.c becomes C:\ and b.c"
    ∷ splits (0x43 ∷ 0x3a ∷ 0x5c ∷ 0x62 ∷ 0x2e ∷ 0x63 ∷ []) (0x43 ∷ 0x3a ∷ 0x5c ∷ []) (0x62 ∷ 0x2e ∷ 0x63 ∷ [])
    ∷ []

abbrev pub AllCases : Type 0
AllCases = All CaseHolds cases
