-- How long the paths are that a file's path is joined from, and that a file's entry fits its field.
use mathlib.Core.Bool.{Bool, true, false, cond, ◌||◌}
use mathlib.Core.List.{List, [], ◌∷◌, ◌++◌}
use mathlib.Core.Option.{Option, none, some}
use Prim.Native.Nat.{ℕ, suc, ◌+◌, ◌*◌, ◌-◌, ◌≤◌}
use native.Mathlib.Omega.{arith}
use lib.ListN.{length, take, drop, length-append, length-take, length-drop}
use lib.Dec.{leb, ltb, eqb}
use Rattle.tlv.specs.Lists.{All, at, is_empty}
use Rattle.tlv.specs.Limits.{string_limit}
use Rattle.tlv.specs.Model.{CompilationUnit, LineHeader, Directory, HeaderFile}
use Rattle.tlv.specs.Accepted.{Given, String, UnitAccepted}
use Rattle.tlv.proofs.TestLaws.{by_test}
use Rattle.tlv.proofs.ListLaws.{all-at}
use Rattle.tlv.proofs.OutcomeLaws.{Gives, gives, gives_none, gives-cond, gives-bind}
use Rattle.tlv.proofs.AcceptedFields.{no-string}
use Rattle.buffers.specs.Fits.{FileFits}
use Rattle.buffers.proofs.PayloadLaws.{file-length}
use Rattle.line_program.specs.Standard.{slash}
use Rattle.paths.specs.Paths.{is_windows, splits_at, after_last, base_start, basename_of, root_length, directory_name, starts_with, ends_with, is_absolute}
use Rattle.paths.specs.Paths.{append_path, or_empty, read_directory, named_directory, needs_compilation, joined_directory, file_entry}

-- ---- lengths

after_last-within : (splits : ℕ → Bool) (s : List ℕ) → after_last splits s ≤ length s
unfolding after_last
after_last-within splits [] = omega arith
after_last-within splits (b ∷ s) = go (ltb 0 (after_last splits s)) (splits b) (after_last-within splits s)
  where
    go : (c d : Bool) → after_last splits s ≤ length s → cond c (after_last splits s + 1) (cond d 1 0) ≤ suc (length s)
    go true d h = omega arith
    go false true h = omega arith
    go false false h = omega arith

pub base_start-within : (s : List ℕ) → base_start s ≤ length s
unfolding base_start
base_start-within s = after_last-within (splits_at (is_windows s)) s

-- a path's directory and basename are parts of it that do not meet
pub directory-basename-length : (p : List ℕ) → length (directory_name p) + length (basename_of p) ≤ length p
unfolding directory_name basename_of
directory-basename-length p =
    let l = base_start-within p in
    let k = length-drop (base_start p) p in
    by_test (λ d. length d + length (drop (base_start p) p) ≤ length p) (leb (base_start p) (root_length p))
    {x = take (base_start p) p} {y = take (base_start p - 1) p}
    (λ e. omega (arith, length-take (base_start p) p)) (λ e. omega (arith, length-take (base_start p - 1) p))

-- a slash at most is put between
pub append_path-length : (p c : List ℕ) → length (append_path p c) ≤ length p + length c + 1
unfolding append_path
append_path-length p [] = omega arith
append_path-length [] (b ∷ s) = omega arith
append_path-length (a ∷ p) (b ∷ s) =
    by_test (λ l. length l ≤ suc (length p) + suc (length s) + 1) (ends_with slash (a ∷ p) || starts_with slash (b ∷ s)) {x = (a ∷ p) ++ (b ∷ s)} {y = (a ∷ p) ++ (slash ∷ b ∷ s)}
    (λ e. omega (arith, length-append (a ∷ p) (b ∷ s))) (λ e. omega (arith, length-append (a ∷ p) (slash ∷ b ∷ s)))

pub joined_directory-length : (version n : ℕ) (compilation directory own : List ℕ)
    → length (joined_directory version n compilation directory own) ≤ length compilation + length directory + length own + 2
unfolding joined_directory
joined_directory-length version n compilation directory own =
    by_test (λ c. length (append_path (append_path c directory) own) ≤ length compilation + length directory + length own + 2) (needs_compilation version n directory) {x = compilation} {y = []}
    (λ e. omega (arith, append_path-length (append_path compilation directory) own, append_path-length compilation directory))
    (λ e. omega (arith, append_path-length (append_path [] directory) own, append_path-length [] directory))

-- the parts of a file's path have at most L bytes each: so many has the whole
pub joined_length : (L version n : ℕ) (compilation directory path : List ℕ) → length compilation ≤ L → length directory ≤ L → length path ≤ L
    → length (joined_directory version n compilation directory (directory_name path)) + length (basename_of path) ≤ 3 * L + 2
joined_length L version n compilation directory path h k l =
    omega (arith, joined_directory-length version n compilation directory (directory_name path), directory-basename-length path)

-- ---- the directory that a number names

module _ (P : List ℕ → Type 0) (nothing : P []) where
  or_empty-all : (o : Option (List ℕ)) → Given P o → P (or_empty o)
  or_empty-all none h = nothing
  or_empty-all (some s) h = h

  read_directory-all : (o : Option Directory) → Given (λ d. P d.path) o → Gives P (read_directory o)
  read_directory-all none h = gives nothing
  read_directory-all (some d) h = gives-cond d.failed (λ e. gives_none) (λ e. gives h)

  named_directory-all : (u : CompilationUnit) (version n : ℕ) → All (λ d. P d.path) u.directories → Gives P (named_directory u version n)
  unfolding named_directory
  named_directory-all u version n h =
      gives-cond (ltb version 5) (λ e. gives-cond (eqb n 0) (λ e. gives nothing) (λ e. read (n - 1))) (λ e. read n)
    where
      read : (m : ℕ) → Gives P (read_directory (at u.directories m))
      read m = read_directory-all (at u.directories m) (all-at (λ d. P d.path) u.directories m h)

-- ---- a file's entry fits its field: 3 * string_limit + 4 < 2 ^ 16

pub file_entry-fits : (u : CompilationUnit) (h : LineHeader) (f : HeaderFile) → UnitAccepted u → String f.path → Gives (Given FileFits) (file_entry u h f)
unfolding file_entry
file_entry-fits u h f a s =
    let compiled = or_empty-all String no-string u.directory a.directory in
    gives-cond f.failed (λ e. gives_none) λ e.
    gives-cond (is_empty (basename_of f.path)) (λ e. gives tt) λ e.
    gives-cond (is_absolute f.path) (λ e. gives (fits (directory_name f.path) (omega (arith, directory-basename-length f.path)))) λ e.
    gives-bind (named_directory-all String no-string u h.version f.directory a.directories) λ d named.
    gives (fits _ (joined_length string_limit h.version f.directory (or_empty u.directory) d f.path compiled.1 named.1 s.1))
  where
    fits : (d : List ℕ) → length d + length (basename_of f.path) ≤ 3 * string_limit + 2 → FileFits (record { directory = d; basename = basename_of f.path })
    fits d k = omega (arith, file-length (record { directory = d; basename = basename_of f.path }))
