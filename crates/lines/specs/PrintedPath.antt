-- Theorem. The file of document 01's printed import: version 5, directory 0 "/src", file 0 "cue.c" in it, no compilation directory.
use Rattle.std.specs.Prelude.{ℕ, ◌≡◌, List, [], ◌∷◌, ◌++◌}
use Rattle.std.proofs.Math.Option.{none, some}
use Rattle.tlv.specs.Model.{CompilationUnit}
use Rattle.line_program.specs.Standard.{slash, file_path}
use Rattle.paths.specs.Paths.{file_entry}
use Rattle.paths.specs.PathConforms.{NamesFile, Relative, FirstDirectory}
use Rattle.lines.specs.Differences.{file, unit_of, header, entry, given}

abbrev pub src : List ℕ
src = 0x2f ∷ 0x73 ∷ 0x72 ∷ 0x63 ∷ []  -- /src

abbrev pub cue : List ℕ
cue = 0x63 ∷ 0x75 ∷ 0x65 ∷ 0x2e ∷ 0x63 ∷ []  -- cue.c

abbrev pub printed_unit : CompilationUnit
printed_unit = unit_of none (given src ∷ [])

pub record PrintedPath : Type 0 where
  -- the file is one that the theorem on paths speaks of (PathConforms.antt of `paths`, `in_first`)
  pub names : NamesFile (file 0 cue)
  pub relative : Relative cue
  pub directory : FirstDirectory printed_unit (header 5) (file 0 cue)
  -- "file 1 /src cue.c"
  pub listed : file_entry printed_unit (header 5) (file 0 cue) ≡ entry src cue
  -- and so the Standard's path is /src/cue.c, whatever the compilation directory
  pub path : (compilation : List ℕ) → file_path 5 compilation (src ∷ []) 0 cue ≡ some (src ++ (slash ∷ cue))
