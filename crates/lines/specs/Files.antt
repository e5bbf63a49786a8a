-- Definition. The file table of an import, and a unit's files in it (the Rust's builder.rs, add_file; convert/dwarf/lines.rs, FileIndices, intern_file,
-- intern_header_files).
use Rattle.std.specs.Prelude.{ℕ, zero, suc, ◌+◌, ◌-◌, ◌^◌, Bool, cond, ◌&&◌, List, [], ◌∷◌, ◌++◌, length, set, leb, ltb, eqb}
use Rattle.std.proofs.Math.Option.{Option, none, some}
use Rattle.tlv.specs.declared.model.FileIndex.{FileIndex}
use Rattle.tlv.specs.Outcome.{Outcome, refused, done, ◌>>=◌}
use Rattle.tlv.specs.Lists.{same, at, map_option}
use Rattle.tlv.specs.Model.{CompilationUnit, LineHeader, HeaderFile}
use Rattle.buffers.specs.Output.{FileEntry}
use Rattle.paths.specs.Paths.{file_entry}

-- the number of the first file, and the files
pub record FileTable : Type 0 where
  pub first : ℕ
  pub entries : List FileEntry

abbrev pub file_index : ℕ → FileIndex
file_index n = record { 0 = n }

abbrev pub same_file : FileEntry → FileEntry → Bool
same_file e f = same e.directory f.directory && same e.basename f.basename

-- the place of a file among others
unfoldable pub place_of : FileEntry → List FileEntry → Option ℕ
place_of e [] = none
place_of e (x ∷ xs) = cond (same_file e x) (some 0) (map_option suc (place_of e xs))

-- a table, and the number of a file in it
pub record Added : Type 0 where
  pub table : FileTable
  pub number : FileIndex

-- a file that the table has not gets the next number; 15: a number above 4,294,967,295
unfoldable pub append_file : FileTable → FileEntry → Outcome Added
append_file t e =
    let n = t.first + length t.entries in
    cond (ltb n (2 ^ 32)) (done (record { table = record { first = t.first; entries = t.entries ++ (e ∷ []) }; number = file_index n })) (refused 15)

abbrev pub add_file_at : FileTable → FileEntry → Option ℕ → Outcome Added
add_file_at t e (some n) = done (record { table = t; number = file_index (t.first + n) })
add_file_at t e none = append_file t e

-- add_file
unfoldable pub add_file : FileTable → FileEntry → Outcome Added
add_file t e = add_file_at t e (place_of e t.entries)

-- a table, and the number of a file that may have no path
pub record Interned : Type 0 where
  pub table : FileTable
  pub number : Option FileIndex

abbrev pub intern_entry : FileTable → Option FileEntry → Outcome Interned
intern_entry t none = done (record { table = t; number = none })
intern_entry t (some e) = add_file t e >>= λ a. done (record { table = a.table; number = some a.number })

-- intern_file
unfoldable pub intern_file : CompilationUnit → LineHeader → FileTable → HeaderFile → Outcome Interned
intern_file u h t f = file_entry u h f >>= intern_entry t

-- FileIndices: the table's number for each of DWARF's file numbers, from 0
abbrev pub FileIndices : Type 0
FileIndices = List (Option FileIndex)

pub record Indexed : Type 0 where
  pub table : FileTable
  pub indices : FileIndices

-- the files of a header, in order
unfoldable pub intern_files : CompilationUnit → LineHeader → FileTable → List HeaderFile → Outcome Indexed
intern_files u h t [] = done (record { table = t; indices = [] })
intern_files u h t (f ∷ fs) =
    intern_file u h t f >>= λ i. intern_files u h i.table fs >>= λ r.
    done (record { table = r.table; indices = i.number ∷ r.indices })

-- intern_header_files: before version 5 nothing stands at 0
unfoldable pub intern_header_files : CompilationUnit → LineHeader → FileTable → Outcome Indexed
intern_header_files u h t = intern_files u h t u.files >>= λ r.
    done (record { table = r.table; indices = cond (leb h.version 4) (none ∷ r.indices) r.indices })

-- FileIndices::get
unfoldable pub get : FileIndices → ℕ → Option FileIndex
get [] n = none
get (x ∷ xs) zero = x
get (x ∷ xs) (suc n) = get xs n

-- FileIndices::insert
abbrev pub insert_index : FileIndices → ℕ → FileIndex → FileIndices
insert_index is n i = set is n (some i)

-- the header's file of a number: files number from 0 in version 5, before that from 1, where 1c is file 0
unfoldable pub header_file : CompilationUnit → LineHeader → ℕ → Option HeaderFile
header_file u h n = cond (leb h.version 4) (cond (eqb n 0) u.file_zero (at u.files (n - 1))) (at u.files n)
