-- Contract. The files that an import can meet: those of the units of both sheets.
use Rattle.std.specs.Prelude.{ℕ, ◌≡◌, List, [], ◌∷◌, ◌++◌}
use Rattle.std.proofs.Math.Option.{Option, none, some}
use Rattle.tlv.specs.Outcome.{Outcome, refused, done}
use Rattle.tlv.specs.Lists.{Any}
use Rattle.tlv.specs.Model.{CompilationUnit, LineHeader, HeaderFile, units}
use Rattle.buffers.specs.Output.{FileEntry}
use Rattle.paths.specs.Paths.{file_entry}

-- the file of a header's, where it has a path
abbrev pub named_file : Outcome (Option FileEntry) → List FileEntry
named_file (refused n) = []
named_file (done none) = []
named_file (done (some e)) = e ∷ []

unfoldable pub named_files : CompilationUnit → LineHeader → List HeaderFile → List FileEntry
named_files u h [] = []
named_files u h (f ∷ fs) = named_file (file_entry u h f) ++ named_files u h fs

-- file 0 before version 5, and the others
abbrev pub with_zero : Option HeaderFile → List HeaderFile → List HeaderFile
with_zero none fs = fs
with_zero (some f) fs = f ∷ fs

abbrev pub headed : CompilationUnit → Option LineHeader → List FileEntry
headed u none = []
headed u (some h) = named_files u h (with_zero u.file_zero u.files)

-- the files of units
unfoldable pub files_of_units : List CompilationUnit → List FileEntry
files_of_units [] = []
files_of_units (u ∷ us) = headed u u.header ++ files_of_units us

-- the files of both sheets
unfoldable pub possible_files : List ℕ → List ℕ → List FileEntry
possible_files main supplementary = files_of_units (units main) ++ files_of_units (units supplementary)

-- a file that an import can meet
pub record Possible (main supplementary : List ℕ) (e : FileEntry) : Type 0 where
  pub listed : Any (λ x. e ≡ x) (possible_files main supplementary)
