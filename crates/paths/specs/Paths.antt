-- Definition. Paths of files: the Rust's split_path (E3 for paths that Windows wrote), is_absolute_path, append_path, and the path of intern_file.
use Rattle.std.specs.Prelude.{ℕ, ◌+◌, ◌-◌, Bool, false, cond, ◌&&◌, ◌||◌, not, List, [], ◌∷◌, ◌++◌, take, drop, leb, ltb, eqb}
use Rattle.std.proofs.Math.Option.{Option, none, some}
use Rattle.tlv.specs.Outcome.{Outcome, refused, done, ◌>>=◌}
use Rattle.tlv.specs.Lists.{exists, at, is_empty}
use Rattle.tlv.specs.Model.{CompilationUnit, LineHeader, Directory, HeaderFile}
use Rattle.buffers.specs.Output.{FileEntry}
use Rattle.line_program.specs.Standard.{slash}

abbrev pub backslash : ℕ
backslash = 0x5c

unfoldable pub is_separator : ℕ → Bool
is_separator b = eqb b slash || eqb b backslash

-- ---- is_absolute_path

unfoldable pub starts_with : ℕ → List ℕ → Bool
starts_with b [] = false
starts_with b (x ∷ s) = eqb x b

unfoldable pub ends_with : ℕ → List ℕ → Bool
ends_with b [] = false
ends_with b (x ∷ []) = eqb x b
ends_with b (x ∷ y ∷ s) = ends_with b (y ∷ s)

-- a drive: a byte, a colon and a separator
unfoldable pub is_drive : List ℕ → Bool
is_drive [] = false
is_drive (a ∷ []) = false
is_drive (a ∷ b ∷ []) = false
is_drive (a ∷ b ∷ c ∷ s) = eqb b 0x3a && is_separator c

-- a share: two equal separators, another byte, and a separator after it
unfoldable pub is_share : List ℕ → Bool
is_share [] = false
is_share (a ∷ []) = false
is_share (a ∷ b ∷ []) = false
is_share (a ∷ b ∷ c ∷ s) = is_separator a && eqb a b && not (is_separator c) && exists is_separator s

unfoldable pub is_absolute : List ℕ → Bool
is_absolute p = starts_with slash p || is_drive p || is_share p

-- ---- split_path

-- E3: "begins with a drive letter (A to Z, either case), colon and separator (slash or backslash)"
abbrev pub is_letter : ℕ → Bool
is_letter b = (leb 0x41 b && leb b 0x5a) || (leb 0x61 b && leb b 0x7a)

unfoldable pub starts_with_letter : List ℕ → Bool
starts_with_letter [] = false
starts_with_letter (b ∷ s) = is_letter b

abbrev pub has_drive_letter : List ℕ → Bool
has_drive_letter p = is_drive p && starts_with_letter p

-- E3: "or with two backslashes"
unfoldable pub starts_doubled : List ℕ → Bool
starts_doubled [] = false
starts_doubled (a ∷ []) = false
starts_doubled (a ∷ b ∷ s) = eqb a backslash && eqb b backslash

-- a path that Windows wrote
unfoldable pub is_windows : List ℕ → Bool
is_windows p = has_drive_letter p || starts_doubled p

-- which bytes split a path: E3, "split it at its last separator"; any other at a slash
abbrev pub splits_at : Bool → ℕ → Bool
splits_at windows b = cond windows (is_separator b) (eqb b slash)

-- how many bytes stand before the byte after the last one that splits; 0 without one
unfoldable pub after_last : (ℕ → Bool) → List ℕ → ℕ
after_last splits [] = 0
after_last splits (b ∷ s) = cond (ltb 0 (after_last splits s)) (after_last splits s + 1) (cond (splits b) 1 0)

unfoldable pub base_start : List ℕ → ℕ
base_start path = after_last (splits_at (is_windows path)) path

unfoldable pub basename_of : List ℕ → List ℕ
basename_of path = drop (base_start path) path

-- how many bytes at the front keep their last separator: E3, "where it closes the drive (C:\ keeps it) or is one of the leading two backslashes";
-- in any other path the slash that is the first byte
unfoldable pub root_length : List ℕ → ℕ
root_length p = cond (has_drive_letter p) 3 (cond (starts_doubled p) 2 1)

-- what stands before the basename; "the separator before the basename is dropped" behind the root
unfoldable pub directory_name : List ℕ → List ℕ
directory_name path = cond (leb (base_start path) (root_length path)) (take (base_start path) path) (take (base_start path - 1) path)

-- ---- append_path: one path below another, with a slash between where neither has one

unfoldable pub append_path : List ℕ → List ℕ → List ℕ
append_path path [] = path
append_path [] (b ∷ s) = b ∷ s
append_path (a ∷ path) (b ∷ s) =
    cond (ends_with slash (a ∷ path) || starts_with slash (b ∷ s)) ((a ∷ path) ++ (b ∷ s)) ((a ∷ path) ++ (slash ∷ b ∷ s))

-- ---- intern_file

abbrev pub or_empty : Option (List ℕ) → List ℕ
or_empty none = []
or_empty (some s) = s

-- a directory that is not there is empty; a failed one refuses
abbrev pub read_directory : Option Directory → Outcome (List ℕ)
read_directory none = done []
read_directory (some d) = cond d.failed (refused 6) (done d.path)

-- the directory of a number: before version 5 number 0 is the compilation directory, which is put before it later, and the table numbers from 1
unfoldable pub named_directory : CompilationUnit → ℕ → ℕ → Outcome (List ℕ)
named_directory u version n =
    cond (ltb version 5)
    (cond (eqb n 0) (done []) (read_directory (at u.directories (n - 1))))
    (read_directory (at u.directories n))

-- a file's directory is one below the compilation directory: not directory 0 from version 5 on, which is that directory itself, nor an absolute one
unfoldable pub needs_compilation : ℕ → ℕ → List ℕ → Bool
needs_compilation version n directory = (ltb version 5 || not (eqb n 0)) && not (is_absolute directory)

-- the directory of a file with a relative path: `own` below the directory that its number names, and that below the compilation directory
unfoldable pub joined_directory : ℕ → ℕ → List ℕ → List ℕ → List ℕ → List ℕ
joined_directory version n compilation directory own =
    append_path (append_path (cond (needs_compilation version n directory) compilation []) directory) own

-- the file of a table entry: none for an empty path or one that ends in a slash
unfoldable pub file_entry : CompilationUnit → LineHeader → HeaderFile → Outcome (Option FileEntry)
file_entry u h f =
    let own = directory_name f.path in
    let base = basename_of f.path in
    cond f.failed (refused 6)
    (cond (is_empty base) (done none)
    (cond (is_absolute f.path) (done (some (record { directory = own; basename = base })))
    (named_directory u h.version f.directory >>= λ d.
    done (some (record { directory = joined_directory h.version f.directory (or_empty u.directory) d own; basename = base })))))
