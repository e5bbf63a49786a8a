-- Theorem. E2 by cases: what follows opcode 3, how many operands the header declares for it, and what is left after it or the fault.
use Rattle.std.specs.Prelude.{ℕ, ◌≡◌, false, List, [], ◌∷◌, ◌++◌, replicate}
use Rattle.tlv.specs.Outcome.{Outcome, refused, done}
use Rattle.tlv.specs.Lists.{All}
use Rattle.line_program.specs.Standard.{Opcodes, Passed}
use Rattle.line_program.specs.Program.{skip}

pub record SignedCase : Type 0 where
  pub header : Opcodes
  pub bytes : List ℕ
  pub answer : Outcome Passed

-- opcode base 13, with this many operands for opcode 3
abbrev pub declares : ℕ → Opcodes
declares n = record { base = 13; lengths = 0 ∷ 1 ∷ n ∷ 1 ∷ 1 ∷ 0 ∷ 0 ∷ 0 ∷ 1 ∷ 0 ∷ 0 ∷ 1 ∷ [] }

abbrev pub nine : ℕ → List ℕ → List ℕ
nine b s = replicate 9 b ++ s

abbrev pub leaves : List ℕ → Outcome Passed
leaves rest = done (record { ends = false; rest = rest })

abbrev pub signed_cases : List SignedCase
signed_cases =
    record { header = declares 1; bytes = 0x7f ∷ 0x05 ∷ []; answer = leaves (0x05 ∷ []) }  -- -1 in one byte
    -- -1 in ten bytes: "ends a small negative number"
    ∷ record { header = declares 1; bytes = nine 0xff (0x7f ∷ 0x05 ∷ []); answer = leaves (0x05 ∷ []) }
    ∷ record { header = declares 1; bytes = nine 0x80 (0x7f ∷ []); answer = leaves [] }  -- -2^63, the least that fits
    ∷ record { header = declares 1; bytes = nine 0xff (0x00 ∷ []); answer = leaves [] }  -- 2^63 - 1, the largest
    ∷ record { header = declares 1; bytes = nine 0x80 (0x00 ∷ []); answer = leaves [] }  -- 0 in ten bytes
    ∷ record { header = declares 1; bytes = nine 0x80 (0x01 ∷ []); answer = refused 10 }  -- passed as unsigned before
    ∷ record { header = declares 1; bytes = nine 0x80 (0x40 ∷ []); answer = refused 10 }
    ∷ record { header = declares 1; bytes = nine 0x80 (0x7e ∷ []); answer = refused 10 }
    ∷ record { header = declares 1; bytes = nine 0x80 (0x80 ∷ 0x00 ∷ []); answer = refused 11 }
    ∷ record { header = declares 1; bytes = nine 0x80 (0xff ∷ 0x7f ∷ []); answer = refused 11 }  -- 10 before
    ∷ record { header = declares 1; bytes = nine 0x80 (0x81 ∷ 0x00 ∷ []); answer = refused 10 }  -- 11 before
    ∷ record { header = declares 1; bytes = nine 0x80 []; answer = refused 7 }
    ∷ record { header = declares 1; bytes = []; answer = refused 7 }
    ∷ record { header = declares 0; bytes = nine 0xff (0x7f ∷ []); answer = leaves (nine 0xff (0x7f ∷ [])) }  -- no operand: "the old rule stays"
    ∷ record { header = declares 2; bytes = nine 0xff (0x7f ∷ 0x00 ∷ []); answer = refused 10 }  -- two: both unsigned
    ∷ record { header = declares 2; bytes = nine 0x80 (0x01 ∷ 0x05 ∷ 0x06 ∷ []); answer = leaves (0x06 ∷ []) }
    -- past the header's lengths: no operand
    ∷ record { header = record { base = 13; lengths = 0 ∷ 1 ∷ [] }; bytes = 0x05 ∷ []; answer = leaves (0x05 ∷ []) }
    ∷ record { header = record { base = 4; lengths = 0 ∷ 1 ∷ 1 ∷ [] }; bytes = nine 0xff (0x7f ∷ []); answer = leaves [] }  -- the last below the base
    ∷ record { header = record { base = 3; lengths = 0 ∷ 1 ∷ 1 ∷ [] }; bytes = 0x05 ∷ []; answer = leaves (0x05 ∷ []) }  -- at the base: special
    ∷ []

abbrev pub SignedCases : Type 0
SignedCases = All (λ c. skip c.header 20 3 c.bytes ≡ c.answer) signed_cases
