-- Theorem. E11 by cases: imports of two units of document 01's shape, in the same file, with a program of two sequences of three bytes.
use Rattle.std.specs.Prelude.{ℕ, ◌+◌, ◌-◌, ◌^◌, ◌≡◌, true, List, [], ◌∷◌, ◌++◌, map, replicate}
use Rattle.tlv.specs.Bytes.{bytes_of}
use Rattle.tlv.specs.Fields.{encode}
use Rattle.tlv.specs.Tags.{part_tag}
use Rattle.imports.specs.Answer.{Inputs, no_stats, Answer, after, after_dwarf}

-- ---- the sheets

-- 1e
abbrev pub part : ℕ → ℕ → List ℕ
part start length = encode part_tag (bytes_of 8 start ++ bytes_of 8 length)

-- 10 at a section offset, and 12: text of 1000 hex bytes
abbrev pub head : ℕ → ℕ → List ℕ
head offset a = encode 0x10 (bytes_of 8 offset ++ bytes_of 8 100 ++ (5 ∷ 4 ∷ [])) ++ encode 0x12 (bytes_of 8 a ++ bytes_of 8 (a + 0x1000))

-- 13
abbrev pub header : List ℕ
header = encode 0x13 (bytes_of 8 0 ++ bytes_of 8 32 ++ (5 ∷ 4 ∷ 13 ∷ 0 ∷ 1 ∷ 1 ∷ 1 ∷ 1 ∷ 0 ∷ 0 ∷ 0 ∷ 1 ∷ 0 ∷ 0 ∷ 1 ∷ []))

-- 14: the directory "/src"
abbrev pub directory : List ℕ
directory = encode 0x14 (0 ∷ 0x2f ∷ 0x73 ∷ 0x72 ∷ 0x63 ∷ [])

-- 15: a file of one letter in it
abbrev pub file : ℕ → List ℕ
file letter = encode 0x15 ((0 ∷ bytes_of 8 0) ++ (letter ∷ []))

-- 16: a row of line 10 in file 0
abbrev pub row : ℕ → ℕ → List ℕ
row a kind = encode 0x16 (bytes_of 8 a ++ bytes_of 8 0 ++ bytes_of 8 10 ++ bytes_of 2 0 ++ (kind ∷ []))

-- 17, 18 and 19: a subprogram "d" of 16 bytes at a
abbrev pub function : ℕ → List ℕ
function a =
    encode 0x17 (bytes_of 8 20 ++ bytes_of 2 0 ++ bytes_of 2 0x2e)
    ++ encode 0x18 (bytes_of 2 0x03 ++ (3 ∷ 0x64 ∷ []))
    ++ encode 0x19 (bytes_of 8 a ++ bytes_of 8 (a + 16) ++ (0 ∷ []))

-- a unit with its part of the program, in a file, with a row and a last one of this kind
abbrev pub unit : ℕ → ℕ → List ℕ → ℕ → ℕ → List ℕ
unit offset a parts letter kind = head offset a ++ header ++ parts ++ directory ++ file letter ++ row a 0 ++ row (a + 16) kind ++ function a

-- the first unit, whose part are the first three bytes
abbrev pub first_unit : List ℕ
first_unit = unit 0 0x1000 (part 0 3) 0x61 1

-- the second, with these fields for its part
abbrev pub second_unit : List ℕ → List ℕ
second_unit parts = unit 100 0x2000 parts 0x61 1

abbrev pub program : List ℕ
program = 0 ∷ 1 ∷ 1 ∷ 0 ∷ 1 ∷ 1 ∷ []

-- ---- the calls

abbrev pub inputs : List ℕ → List ℕ → ℕ → ℕ → ℕ → Inputs
inputs main supplementary ordinal first room = record {
  main = main;
  supplementary = supplementary;
  program = program;
  lists = [];
  addresses = [];
  ordinal = ordinal;
  inlines = true;
  call_sites = true;
  first_file = first;
  work = replicate 57344 0;
  records = replicate room 0;
  files = replicate 100 0;
  warnings = replicate 100 0;
}

-- all units of a main sheet
abbrev pub whole : List ℕ → Answer
whole main = (after_dwarf (inputs main [] 0 1 200)).answer

-- both units in one file, with another ordinal, first file number or length of the records tray
abbrev pub both : ℕ → ℕ → ℕ → Inputs
both ordinal first room = inputs (first_unit ++ second_unit (part 3 3)) [] ordinal first room

-- two units in two files
abbrev pub two_files : List ℕ
two_files = first_unit ++ unit 100 0x2000 (part 3 3) 0x62 1

abbrev pub refused_by : ℕ → Answer
refused_by n = record { refusal = n; records = 0; files = 0; warnings = 0; stats = no_stats }

-- a record and a row for each unit
abbrev pub imported : ℕ → ℕ → ℕ → ℕ → Answer
imported units records files warnings = record {
  refusal = 0;
  records = records;
  files = files;
  warnings = warnings;
  stats = record { functions = units; line_rows = units; inline_nodes = 0; rejected_ranges = 0 };
}

pub record DwarfCase : Type 0 where
  pub given : Answer
  pub answer : Answer

abbrev pub dwarf_cases : List DwarfCase
dwarf_cases =
    record { given = whole (first_unit ++ second_unit (part 3 3)); answer = imported 2 82 10 0 }  -- one file for both
    ∷ record { given = whole (first_unit ++ second_unit []); answer = imported 2 82 10 20 }  -- the whole program has a sequence more than the rows: warning 5
    ∷ record { given = whole (first_unit ++ second_unit (part 3 4)); answer = refused_by 2 }  -- "a part past the program is misshapen"
    ∷ record { given = whole (first_unit ++ second_unit (part (2 ^ 64 - 1) (2 ^ 64 - 1))); answer = refused_by 2 }  -- no sum is cut to 64 bits
    ∷ record { given = whole (first_unit ++ second_unit (part 6 0)); answer = imported 2 82 10 20 }  -- an empty part at the end passes nothing
    ∷ record { given = whole (first_unit ++ second_unit (part 7 0)); answer = refused_by 2 }  -- behind the end it does
    ∷ record { given = whole (first_unit ++ second_unit (part 0 3 ++ part 3 3)); answer = refused_by 2 }  -- twice
    ∷ record { given = whole (first_unit ++ unit 100 0x2000 (directory ++ part 3 3) 0x61 1); answer = refused_by 2 }  -- not directly behind the header
    ∷ record { given = whole (head 0 0x1000 ++ part 0 3); answer = refused_by 2 }  -- without a header
    ∷ record { given = whole (first_unit ++ second_unit (encode part_tag (bytes_of 8 3 ++ bytes_of 7 3))); answer = refused_by 2 }  -- 15 bytes
    ∷ record { given = (after_dwarf (inputs first_unit (second_unit (part 0 7)) 0 1 200)).answer; answer = refused_by 2 }  -- in the supplementary sheet too
    ∷ record { given = whole (first_unit ++ unit 100 0x2000 (part 3 3) 0x61 2); answer = refused_by 6 }  -- "The first refused unit refuses all": the second
    ∷ record { given = whole (unit 0 0x1000 (part 0 1) 0x61 1 ++ unit 100 0x2000 (part 3 3) 0x61 2); answer = refused_by 7 }  -- both: the first's
    ∷ record { given = whole two_files; answer = imported 2 82 20 0 }
    ∷ record { given = (after_dwarf (inputs two_files [] 0 (2 ^ 32 - 1) 200)).answer; answer = refused_by 15 }  -- numbers are counted over all units
    ∷ record { given = (after_dwarf (both 0 1 41)).answer; answer = refused_by 16 }  -- room for the first unit's record alone
    ∷ record { given = (after_dwarf (both 9 1 200)).answer; answer = imported 2 82 10 0 }  -- no ordinal is asked
    ∷ record { given = (after (both 1 1 200)).answer; answer = imported 1 41 10 0 }  -- the import of one unit uses its part too
    ∷ record { given = whole []; answer = imported 0 0 0 0 }  -- "none: E4's answer"
    ∷ []

abbrev pub DwarfCases : Type 0
DwarfCases = map (λ c. c.given) dwarf_cases ≡ map (λ c. c.answer) dwarf_cases
