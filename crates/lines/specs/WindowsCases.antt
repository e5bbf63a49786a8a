-- Theorem. E3 by cases: a path, its directory and its basename, and the file that it makes. Paths that do not begin as E3 says are split as before.
use Rattle.std.specs.Prelude.{ℕ, ◌≡◌, cond, List, [], ◌∷◌, ◌++◌, map}
use Rattle.std.proofs.Math.Option.{Option, none, some}
use Rattle.tlv.specs.Outcome.{Outcome, done}
use Rattle.tlv.specs.Lists.{is_empty}
use Rattle.buffers.specs.Output.{FileEntry}
use Rattle.line_program.specs.Standard.{slash}
use Rattle.paths.specs.Paths.{directory_name, basename_of, file_entry}
use Rattle.lines.specs.Differences.{w, file, unit_of, header, entry}

-- the file stands in the path's own directory, or in that below the compilation directory; or there is none
pub data Made : Type 0 where
  absolute relative no_file : Made

pub record PathCase : Type 0 where
  pub made : Made
  pub path : List ℕ
  pub directory : List ℕ
  pub basename : List ℕ

abbrev pub splits : Made → List ℕ → List ℕ → List ℕ → PathCase
splits made path directory basename = record { made = made; path = path; directory = directory; basename = basename }

-- the file of version 4, directory 0, compilation directory /w
abbrev pub made_of : Made → List ℕ → List ℕ → Outcome (Option FileEntry)
made_of absolute directory basename = entry directory basename
made_of relative directory basename = entry (cond (is_empty directory) w (w ++ (slash ∷ directory))) basename
made_of no_file directory basename = done none

abbrev pub xc : List ℕ
xc = 0x78 ∷ 0x2e ∷ 0x63 ∷ []  -- x.c

abbrev pub windows_cases : List PathCase
windows_cases =
    splits absolute (0x43 ∷ 0x3a ∷ 0x5c ∷ xc) (0x43 ∷ 0x3a ∷ 0x5c ∷ []) xc  -- C:\x.c: "C:\ keeps it"
    ∷ splits absolute (0x43 ∷ 0x3a ∷ 0x2f ∷ xc) (0x43 ∷ 0x3a ∷ 0x2f ∷ []) xc  -- C:/x.c: C: before
    ∷ splits absolute (0x63 ∷ 0x3a ∷ 0x5c ∷ 0x61 ∷ 0x5c ∷ xc) (0x63 ∷ 0x3a ∷ 0x5c ∷ 0x61 ∷ []) xc  -- c:\a\x.c
    ∷ splits absolute (0x43 ∷ 0x3a ∷ 0x5c ∷ 0x61 ∷ 0x2f ∷ xc) (0x43 ∷ 0x3a ∷ 0x5c ∷ 0x61 ∷ []) xc  -- C:\a/x.c: as before
    ∷ splits absolute (0x43 ∷ 0x3a ∷ 0x2f ∷ 0x61 ∷ 0x5c ∷ xc) (0x43 ∷ 0x3a ∷ 0x2f ∷ 0x61 ∷ []) xc  -- C:/a\x.c: C: and a\x.c before
    -- C:\a\\x.c: one separator is dropped
    ∷ splits absolute (0x43 ∷ 0x3a ∷ 0x5c ∷ 0x61 ∷ 0x5c ∷ 0x5c ∷ xc) (0x43 ∷ 0x3a ∷ 0x5c ∷ 0x61 ∷ 0x5c ∷ []) xc
    ∷ splits absolute (0x43 ∷ 0x3a ∷ 0x5c ∷ 0x5c ∷ xc) (0x43 ∷ 0x3a ∷ 0x5c ∷ []) xc  -- C:\\x.c: the second is not the one that closes the drive
    -- C:\, NUL, \x.c: a NUL is a byte as any other
    ∷ splits absolute (0x43 ∷ 0x3a ∷ 0x5c ∷ 0x00 ∷ 0x5c ∷ xc) (0x43 ∷ 0x3a ∷ 0x5c ∷ 0x00 ∷ []) xc
    ∷ splits no_file (0x43 ∷ 0x3a ∷ 0x5c ∷ []) (0x43 ∷ 0x3a ∷ 0x5c ∷ []) []  -- C:\: "ending in a separator is no file"
    ∷ splits no_file (0x43 ∷ 0x3a ∷ 0x2f ∷ []) (0x43 ∷ 0x3a ∷ 0x2f ∷ []) []  -- C:/: as before
    ∷ splits no_file (0x43 ∷ 0x3a ∷ 0x5c ∷ 0x61 ∷ 0x5c ∷ []) (0x43 ∷ 0x3a ∷ 0x5c ∷ 0x61 ∷ []) []  -- C:\a\
    ∷ splits absolute (0x41 ∷ 0x3a ∷ 0x5c ∷ xc) (0x41 ∷ 0x3a ∷ 0x5c ∷ []) xc  -- A:\x.c: the first letter
    ∷ splits absolute (0x5a ∷ 0x3a ∷ 0x5c ∷ xc) (0x5a ∷ 0x3a ∷ 0x5c ∷ []) xc  -- Z:\x.c: the last
    ∷ splits absolute (0x61 ∷ 0x3a ∷ 0x5c ∷ xc) (0x61 ∷ 0x3a ∷ 0x5c ∷ []) xc  -- a:\x.c: and so in the other case
    ∷ splits absolute (0x7a ∷ 0x3a ∷ 0x5c ∷ xc) (0x7a ∷ 0x3a ∷ 0x5c ∷ []) xc  -- z:\x.c
    -- @:\x.c: the byte before A; as before, and a drive of any byte is absolute
    ∷ splits absolute (0x40 ∷ 0x3a ∷ 0x5c ∷ xc) [] (0x40 ∷ 0x3a ∷ 0x5c ∷ xc)
    ∷ splits absolute (0x5b ∷ 0x3a ∷ 0x5c ∷ xc) [] (0x5b ∷ 0x3a ∷ 0x5c ∷ xc)  -- [:\x.c: the byte after Z
    ∷ splits absolute (0x60 ∷ 0x3a ∷ 0x5c ∷ xc) [] (0x60 ∷ 0x3a ∷ 0x5c ∷ xc)  -- `:\x.c: the byte before a
    ∷ splits absolute (0x7b ∷ 0x3a ∷ 0x5c ∷ xc) [] (0x7b ∷ 0x3a ∷ 0x5c ∷ xc)  -- {:\x.c: the byte after z
    ∷ splits absolute (0x31 ∷ 0x3a ∷ 0x5c ∷ xc) [] (0x31 ∷ 0x3a ∷ 0x5c ∷ xc)  -- 1:\x.c
    ∷ splits relative (0x43 ∷ 0x3a ∷ xc) [] (0x43 ∷ 0x3a ∷ xc)  -- C:x.c: no separator behind the colon: as before
    ∷ splits absolute (0x5c ∷ 0x5c ∷ 0x68 ∷ 0x5c ∷ 0x73 ∷ 0x5c ∷ xc) (0x5c ∷ 0x5c ∷ 0x68 ∷ 0x5c ∷ 0x73 ∷ []) xc  -- \\h\s\x.c: a share
    ∷ splits absolute (0x5c ∷ 0x5c ∷ 0x68 ∷ 0x5c ∷ xc) (0x5c ∷ 0x5c ∷ 0x68 ∷ []) xc  -- \\h\x.c
    ∷ splits no_file (0x5c ∷ 0x5c ∷ 0x68 ∷ 0x5c ∷ []) (0x5c ∷ 0x5c ∷ 0x68 ∷ []) []  -- \\h\
    ∷ splits no_file (0x5c ∷ 0x5c ∷ []) (0x5c ∷ 0x5c ∷ []) []  -- \\
    ∷ splits relative (0x5c ∷ 0x5c ∷ xc) (0x5c ∷ 0x5c ∷ []) xc  -- \\x.c: "one of the leading two backslashes"; no share, so relative as before
    ∷ splits relative (0x5c ∷ 0x5c ∷ 0x5c ∷ xc) (0x5c ∷ 0x5c ∷ []) xc  -- \\\x.c: the third is none of the two
    ∷ splits relative (0x5c ∷ 0x5c ∷ 0x2f ∷ xc) (0x5c ∷ 0x5c ∷ []) xc  -- \\/x.c: as before
    ∷ splits relative (0x5c ∷ xc) [] (0x5c ∷ xc)  -- \x.c: one backslash: as before
    ∷ splits relative (0x5c ∷ 0x2f ∷ xc) (0x5c ∷ []) xc  -- \/x.c: as before
    ∷ splits relative (0x61 ∷ 0x5c ∷ xc) [] (0x61 ∷ 0x5c ∷ xc)  -- a\x.c: as before
    ∷ splits absolute (0x2f ∷ 0x2f ∷ 0x68 ∷ 0x2f ∷ xc) (0x2f ∷ 0x2f ∷ 0x68 ∷ []) xc  -- //h/x.c: two slashes are not E3's: as before
    ∷ splits absolute (0x2f ∷ 0x43 ∷ 0x3a ∷ 0x5c ∷ xc) (0x2f ∷ []) (0x43 ∷ 0x3a ∷ 0x5c ∷ xc)  -- /C:\x.c: as before
    ∷ []

-- what a path is split into, and the file that it makes
pub record Parts : Type 0 where
  pub directory : List ℕ
  pub basename : List ℕ
  pub made : Outcome (Option FileEntry)

abbrev pub answered : PathCase → Parts
answered c = record {
  directory = directory_name c.path;
  basename = basename_of c.path;
  made = file_entry (unit_of (some w) []) (header 4) (file 0 c.path);
}

abbrev pub asked : PathCase → Parts
asked c = record { directory = c.directory; basename = c.basename; made = made_of c.made c.directory c.basename }

abbrev pub WindowsCases : Type 0
WindowsCases = map answered windows_cases ≡ map asked windows_cases
