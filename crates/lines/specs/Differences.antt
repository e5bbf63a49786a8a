-- Theorem. Where operands, instructions and paths are not the Standard's: each exception with an input and both answers. docs/DIFFERENCES.md tells them in
-- words.
--
use Rattle.std.specs.Prelude.{ℕ, ◌-◌, ◌^◌, ◌≡◌, false, List, [], ◌∷◌, ◌++◌, replicate}
use Rattle.std.proofs.Math.Option.{Option, none, some}
use Rattle.tlv.specs.Outcome.{Outcome, refused, done}
use Rattle.tlv.specs.Model.{CompilationUnit, LineHeader, Directory, HeaderFile}
use Rattle.buffers.specs.Output.{FileEntry}
use Rattle.line_program.specs.Standard.{leb128, Opcodes, instruction, sequences, file_path}
use Rattle.line_program.specs.Program.{uleb, skip, scan_line_sequence_offsets}
use Rattle.paths.specs.Paths.{file_entry}

-- ---- operands and instructions

-- opcode base 13, with this many operands for opcode 2 and the Standard's number for the others
abbrev pub opcodes : ℕ → Opcodes
opcodes second = record { base = 13; lengths = 0 ∷ second ∷ 1 ∷ 1 ∷ 1 ∷ 0 ∷ 0 ∷ 0 ∷ 1 ∷ 0 ∷ 0 ∷ 1 ∷ [] }

pub record ProgramDifferences : Type 0 where
  -- an operand padded to eleven bytes
  pub padded : (leb128 (replicate 10 0x80 ++ (0x00 ∷ [])) ≡ some (record { value = 0; rest = [] }))
      × (uleb (replicate 10 0x80 ++ (0x00 ∷ [])) ≡ refused 11)
  -- an operand of 65 bits
  pub wide : (leb128 (replicate 9 0x80 ++ (0x02 ∷ [])) ≡ some (record { value = 2 ^ 64; rest = [] }))
      × (uleb (replicate 9 0x80 ++ (0x02 ∷ [])) ≡ refused 10)
  -- advance_line by 2^63, a number of 65 bits with its sign
  pub wide_signed :
      (instruction (opcodes 1) 3 (replicate 9 0x80 ++ (0x01 ∷ [])) ≡ some (record { ends = false; rest = [] }))
      × (skip (opcodes 1) 11 3 (replicate 9 0x80 ++ (0x01 ∷ [])) ≡ refused 10)
  -- advance_line by -1, padded to eleven bytes
  pub padded_signed :
      (instruction (opcodes 1) 3 (replicate 10 0xff ++ (0x7f ∷ [])) ≡ some (record { ends = false; rest = [] }))
      × (skip (opcodes 1) 12 3 (replicate 10 0xff ++ (0x7f ∷ [])) ≡ refused 11)
  -- advance_pc, which a header declares with no operand
  pub declared :
      (instruction (opcodes 0) 2 (0x05 ∷ []) ≡ some (record { ends = false; rest = [] }))
      × (skip (opcodes 0) 2 2 (0x05 ∷ []) ≡ done (record { ends = false; rest = 0x05 ∷ [] }))
  -- a sequence that would be followed by one past 2^64 - 1
  pub past :
      (sequences (opcodes 1) (2 ^ 64 - 2) (0x00 ∷ 0x01 ∷ 0x01 ∷ []) ≡ some ((2 ^ 64 - 2) ∷ []))
      × (scan_line_sequence_offsets (opcodes 1) (2 ^ 64 - 2) (0x00 ∷ 0x01 ∷ 0x01 ∷ []) ≡ refused 12)

-- ---- paths

abbrev pub w : List ℕ
w = 0x2f ∷ 0x77 ∷ []  -- /w

abbrev pub file : ℕ → List ℕ → HeaderFile
file directory path = record { failed = false; directory = directory; path = path }

-- a unit with a compilation directory and a table of directories
abbrev pub unit_of : Option (List ℕ) → List Directory → CompilationUnit
unit_of compilation directories = record {
  offset = 0;
  length = 0;
  version = 5;
  word_size = 4;
  directory = compilation;
  text = [];
  header = none;
  encoding = none;
  part = none;
  directories = directories;
  file_zero = none;
  files = [];
  rows = [];
  entries = [];
  lists = 0;
}

abbrev pub header : ℕ → LineHeader
header version = record { offset = 0; header_length = 0; version = version; word_size = 4; opcode_base = 13; opcode_lengths = [] }

abbrev pub entry : List ℕ → List ℕ → Outcome (Option FileEntry)
entry directory basename = done (some (record { directory = directory; basename = basename }))

abbrev pub bc : List ℕ
bc = 0x62 ∷ 0x2e ∷ 0x63 ∷ []  -- b.c

abbrev pub on_drive : List ℕ
on_drive = 0x43 ∷ 0x3a ∷ 0x5c ∷ bc  -- C:\b.c

abbrev pub drive : List ℕ
drive = 0x43 ∷ 0x3a ∷ 0x5c ∷ []  -- C:\

abbrev pub doubled : List ℕ
doubled = 0x2f ∷ 0x2f ∷ bc  -- //b.c

abbrev pub within : List ℕ
within = 0x73 ∷ 0x2f ∷ bc  -- s/b.c

abbrev pub w_slash : List ℕ
w_slash = 0x2f ∷ 0x77 ∷ 0x2f ∷ []  -- /w/

abbrev pub folder : List ℕ
folder = 0x73 ∷ 0x2f ∷ []  -- s/

abbrev pub below : List ℕ
below = 0x74 ∷ 0x2f ∷ bc  -- t/b.c

abbrev pub given : List ℕ → Directory
given path = record { failed = false; path = path }

pub record PathDifferences : Type 0 where
  -- a Windows path is taken as absolute, and split at its last separator, which closes the drive: /w/C:\b.c
  pub windows : (file_path 4 w [] 0 on_drive ≡ some (w ++ (0x2f ∷ on_drive)))
      × (file_entry (unit_of (some w) []) (header 4) (file 0 on_drive) ≡ entry drive bc)
  -- two backslashes and a name are no share, so they stand below the compilation directory, and split: /w/\\b.c and /w/\\ and b.c
  pub doubled_backslash :
      (file_path 4 w [] 0 (0x5c ∷ 0x5c ∷ bc) ≡ some (w ++ (0x2f ∷ 0x5c ∷ 0x5c ∷ bc)))
      × (file_entry (unit_of (some w) []) (header 4) (file 0 (0x5c ∷ 0x5c ∷ bc)) ≡ entry (w ++ (0x2f ∷ 0x5c ∷ 0x5c ∷ [])) bc)
  -- two slashes and a name: one slash is lost
  pub slashes : (file_path 4 w [] 0 doubled ≡ some doubled) × (file_entry (unit_of (some w) []) (header 4) (file 0 doubled) ≡ entry (0x2f ∷ []) bc)
  -- a directory that ends in a slash gets no second one: /w//s/b.c and /w/s
  pub closed :
      (file_path 4 w_slash [] 0 within ≡ some (w_slash ++ (0x2f ∷ within)))
      × (file_entry (unit_of (some w_slash) []) (header 4) (file 0 within) ≡ entry (w_slash ++ (0x73 ∷ [])) bc)
  -- nor does the root, with a bare name: //b.c and /, which stands for /b.c
  pub root : (file_path 4 (0x2f ∷ []) [] 0 bc ≡ some doubled)
      × (file_entry (unit_of (some (0x2f ∷ [])) []) (header 4) (file 0 bc) ≡ entry (0x2f ∷ []) bc)
  -- so for a directory of the table, s/ with t/b.c below it: /w/s//t/b.c and /w/s/t
  pub closed_entry :
      (file_path 4 w (folder ∷ []) 1 below ≡ some (w ++ (0x2f ∷ folder ++ (0x2f ∷ below))))
      × (file_entry (unit_of (some w) (given folder ∷ [])) (header 4) (file 1 below) ≡ entry (w ++ (0x2f ∷ 0x73 ∷ 0x2f ∷ 0x74 ∷ [])) bc)
  -- an empty directory of the table is passed over: /w//b.c and /w
  pub empty_entry :
      (file_path 4 w ([] ∷ []) 1 bc ≡ some (w ++ (0x2f ∷ 0x2f ∷ bc)))
      × (file_entry (unit_of (some w) (given [] ∷ [])) (header 4) (file 1 bc) ≡ entry w bc)
  -- a Windows directory is taken as absolute, so the compilation directory is not put before it: /w/C:\b.c/b.c and C:\b.c
  pub windows_entry :
      (file_path 4 w (on_drive ∷ []) 1 bc ≡ some (w ++ (0x2f ∷ on_drive ++ (0x2f ∷ bc))))
      × (file_entry (unit_of (some w) (given on_drive ∷ [])) (header 4) (file 1 bc) ≡ entry on_drive bc)
  -- a unit that has no compilation directory: the path stays relative. The Standard's definition has to be given one; with an empty one it is /b.c
  pub unknown : (file_path 4 [] [] 0 bc ≡ some (0x2f ∷ bc)) × (file_entry (unit_of none []) (header 4) (file 0 bc) ≡ entry [] bc)
  -- a directory that is not in the table is passed over: the compilation directory alone is left
  pub missing : (file_path 4 w [] 7 bc ≡ none) × (file_entry (unit_of (some w) []) (header 4) (file 7 bc) ≡ entry w bc)
  -- from version 5 on that directory is not put before directory 0, so nothing is left where the table has none
  pub missing_first : (file_path 5 w [] 0 bc ≡ none) × (file_entry (unit_of (some w) []) (header 5) (file 0 bc) ≡ entry [] bc)
  -- from version 5 on, the unit's compilation directory /w and not the table's directory 0, s/, is put before another directory: s//s/b.c with a second s
  pub other :
      (file_path 5 w (folder ∷ (0x73 ∷ []) ∷ []) 1 bc ≡ some (folder ++ (0x2f ∷ 0x73 ∷ 0x2f ∷ bc)))
      × (file_entry (unit_of (some w) (given folder ∷ given (0x73 ∷ []) ∷ [])) (header 5) (file 1 bc) ≡ entry (w ++ (0x2f ∷ 0x73 ∷ [])) bc)
  -- a path that ends in a slash names no file
  pub folders : (file_path 4 w [] 0 folder ≡ some (w ++ (0x2f ∷ folder))) × (file_entry (unit_of (some w) []) (header 4) (file 0 folder) ≡ done none)

pub record AllDifferences : Type 0 where
  pub program : ProgramDifferences
  pub path : PathDifferences
