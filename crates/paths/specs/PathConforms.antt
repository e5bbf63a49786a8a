-- Theorem. Conformance of paths: the two parts of a path that Windows wrote (document 02, E3), and joining beside the Standard's, named cases aside.
use Rattle.std.specs.Prelude.{ℕ, ◌-◌, ◌≤◌, ◌≡◌, ◌⊎◌, ◌≢◌, true, false, cond, List, [], ◌∷◌, ◌++◌, map, length, leb}
use Rattle.std.proofs.Math.Option.{Option, some}
use Rattle.tlv.specs.Outcome.{done}
use Rattle.tlv.specs.Lists.{exists, at, same}
use Rattle.tlv.specs.Model.{CompilationUnit, LineHeader, Directory, HeaderFile}
use Rattle.buffers.specs.Output.{FileEntry}
use Rattle.line_program.specs.Standard.{slash, is_full, file_path}
use Rattle.paths.specs.Paths.{file_entry, is_separator, is_drive, is_share, ends_with, starts_doubled, is_windows, basename_of, root_length, directory_name}

-- ---- E3: the two parts of a path that Windows wrote

-- the path is directory and basename, where the separator before the basename ends the root and stays, or these with the dropped separator between them
abbrev pub WindowsParts : List ℕ → List ℕ → List ℕ → Type 0
WindowsParts p directory basename =
    ((p ≡ directory ++ basename) × (length directory ≡ root_length p))
    ⊎ ((c : ℕ) × (is_separator c ≡ true) × (p ≡ directory ++ (c ∷ basename)) × (root_length p ≤ length directory))

-- "split it at its last separator": none stands in the basename. No other two parts are so
pub record WindowsSplit (p : List ℕ) : Type 0 where
  pub plain : exists is_separator (basename_of p) ≡ false
  pub parts : WindowsParts p (directory_name p) (basename_of p)
  pub only : (directory basename : List ℕ) → exists is_separator basename ≡ false → WindowsParts p directory basename
      → (directory ≡ directory_name p) × (basename ≡ basename_of p)

abbrev pub WindowsSplits : Type 0
WindowsSplits = (p : List ℕ) → is_windows p ≡ true → WindowsSplit p

-- ---- paths: joining is the Standard's outside named cases

-- a directory and a basename as one path
abbrev pub path_in : List ℕ → List ℕ → List ℕ
path_in [] basename = basename
path_in (b ∷ directory) basename = cond (same (b ∷ directory) (slash ∷ [])) (slash ∷ basename) ((b ∷ directory) ++ (slash ∷ basename))

-- the path that a file of the table stands for
abbrev pub path_of : FileEntry → List ℕ
path_of e = path_in e.directory e.basename

-- no Windows path
pub record Unix (p : List ℕ) : Type 0 where
  pub drive : is_drive p ≡ false
  pub share : is_share p ≡ false

-- a directory that something can stand below: not empty, and not closed by a slash
pub record Open (p : List ℕ) : Type 0 where
  pub filled : p ≢ []
  pub unclosed : ends_with slash p ≡ false

-- a directory that path p stands below as in the Standard, with one slash more: an open one, or one that is closed, but not the root, where p is a bare name
pub record Holds (d p : List ℕ) : Type 0 where
  pub filled : d ≢ []
  pub closed : ends_with slash d ≡ true → (directory_name p ≡ []) × (d ≢ slash ∷ [])

-- a file's path was read and names a file
pub record NamesFile (f : HeaderFile) : Type 0 where
  pub read : f.failed ≡ false
  pub named : basename_of f.path ≢ []

-- a relative path that is no Windows path, and that E3 does not split as one: two backslashes make it none of its own
pub record Relative (p : List ℕ) : Type 0 where
  pub relative : is_full p ≡ false
  pub unix : Unix p
  pub undoubled : starts_doubled p ≡ false

-- where directory n stands in the table, which numbers from 1 before version 5
abbrev pub table_place : ℕ → ℕ → ℕ
table_place version n = cond (leb 5 version) n (n - 1)

abbrev pub read_as : List ℕ → Option Directory
read_as path = some (record { failed = false; path = path })

-- the unit has the compilation directory, which from version 5 on is the table's directory 0 too; number 0 is that one; a directory of another number was
-- read, is no Windows path and stands below it
pub record PlainDirectory (u : CompilationUnit) (h : LineHeader) (f : HeaderFile) (compilation : List ℕ) : Type 0 where
  pub compilation_is : u.directory ≡ some compilation
  pub first : 5 ≤ h.version → at u.directories 0 ≡ read_as compilation
  pub zeroth : f.directory ≡ 0 → Holds compilation f.path
  pub numbered : f.directory ≢ 0
      → Open compilation × ((d : List ℕ) × Unix d × Holds d f.path × (at u.directories (table_place h.version f.directory) ≡ read_as d))

-- from version 5 on, directory 0: the table's, which was read, whatever the unit's compilation directory is, if it has one
pub record FirstDirectory (u : CompilationUnit) (h : LineHeader) (f : HeaderFile) : Type 0 where
  pub version : 5 ≤ h.version
  pub number : f.directory ≡ 0
  pub path : List ℕ
  pub shape : Holds path f.path
  pub read : at u.directories 0 ≡ read_as path

-- a directory of another number that is a full path and was read, whatever the compilation directory; from version 5 on the Standard asks for some directory 0
pub record FullDirectory (u : CompilationUnit) (h : LineHeader) (f : HeaderFile) : Type 0 where
  pub number : f.directory ≢ 0
  pub path : List ℕ
  pub full : is_full path ≡ true
  pub shape : Holds path f.path
  pub read : at u.directories (table_place h.version f.directory) ≡ read_as path
  pub first : 5 ≤ h.version → (d : Directory) × (at u.directories 0 ≡ some d)

abbrev pub Joins : CompilationUnit → LineHeader → HeaderFile → List ℕ → Type 0
Joins u h f compilation =
    (e : FileEntry) × (file_entry u h f ≡ done (some e))
    × (file_path h.version compilation (map (λ d. d.path) u.directories) f.directory f.path ≡ some (path_of e))

-- the named cases are left out: a path that failed or names no file, a full path of two slashes and a name, and a relative path that is a Windows path or
-- begins with two backslashes, or whose directory is none of the three above
pub record PathConforms (u : CompilationUnit) (h : LineHeader) (f : HeaderFile) (compilation : List ℕ) : Type 0 where
  pub full : NamesFile f → is_full f.path ≡ true → (directory_name f.path ≡ slash ∷ [] → f.path ≡ slash ∷ basename_of f.path)
      → Joins u h f compilation
  pub relative : NamesFile f → Relative f.path → PlainDirectory u h f compilation → Joins u h f compilation
  pub in_first : NamesFile f → Relative f.path → FirstDirectory u h f → Joins u h f compilation
  pub in_full : NamesFile f → Relative f.path → FullDirectory u h f → Joins u h f compilation

abbrev pub Paths : Type 0
Paths = (u : CompilationUnit) (h : LineHeader) (f : HeaderFile) (compilation : List ℕ) → PathConforms u h f compilation
