-- The file table and a unit's file numbers fit their fields, whatever files are added.
use mathlib.Core.Path.{◌≡◌, refl}
use mathlib.Core.Bool.{Bool, true, false, cond}
use mathlib.Core.List.{List, [], ◌∷◌, ◌++◌}
use mathlib.Core.Option.{Option, none, some, none-ne-some}
use Prim.Native.Nat.{ℕ, zero, suc, ◌+◌, ◌-◌, ◌^◌, ◌<◌}
use native.Mathlib.Omega.{arith}
use borrow.Author.Tests.{ltb-true}
use lib.ListN.{length, length-append}
use lib.Dec.{leb, ltb, eqb}
use Rattle.tlv.specs.Lists.{All, map_option}
use Rattle.tlv.specs.Model.{CompilationUnit, LineHeader, HeaderFile}
use Rattle.tlv.specs.Accepted.{Given, String, UnitAccepted}
use Rattle.tlv.proofs.TestLaws.{by_test}
use Rattle.tlv.proofs.ListLaws.{all_append, all-at}
use Rattle.tlv.proofs.OutcomeLaws.{Gives, gives, gives_none, gives-cond, gives-bind}
use Rattle.buffers.specs.Output.{FileEntry}
use Rattle.buffers.specs.Fits.{FileFits}
use Rattle.paths.proofs.PathBounds.{file_entry-fits}
use Rattle.lines.specs.Files.{FileTable, file_index, same_file, place_of, Added, append_file, add_file_at, add_file, Interned, intern_entry, intern_file, FileIndices, intern_files, intern_header_files, get, header_file}
use Rattle.lines.proofs.Bounds.{TableFits, IndexFits, IndicesFit, IndexedFits}

-- ---- one file

place-within : (e : FileEntry) (xs : List FileEntry) (n : ℕ) → place_of e xs ≡ some n → n < length xs
unfolding place_of map_option
place-within e [] n q = absurd (none-ne-some n q)
place-within e (x ∷ xs) n q = go (same_file e x) (place_of e xs) (place-within e xs) q
  where
    go : (b : Bool) (o : Option ℕ) → ((m : ℕ) → o ≡ some m → m < length xs) → cond b (some 0) (map_option suc o) ≡ some n → n < suc (length xs)
    go true o ih p = let z : 0 ≡ n = cc in omega arith
    go false none ih p = absurd (none-ne-some n p)
    go false (some m) ih p = let z : suc m ≡ n = cc in omega (arith, ih m refl)

abbrev AddedFits : Added → Type 0
AddedFits a = TableFits a.table × IndexFits a.number

append_file-fits : (t : FileTable) (e : FileEntry) → TableFits t → FileFits e → Gives AddedFits (append_file t e)
unfolding append_file
append_file-fits t e k f =
    gives-cond (ltb (t.first + length t.entries) (2 ^ 32)) (λ q. gives (grown (ltb-true (t.first + length t.entries) (2 ^ 32) q))) (λ q. gives_none)
  where
    grown : t.first + length t.entries < 2 ^ 32
        → AddedFits (record { table = record { first = t.first; entries = t.entries ++ (e ∷ []) }; number = file_index (t.first + length t.entries) })
    grown l = (record { few = omega (arith, length-append t.entries (e ∷ [])); files = all_append FileFits t.entries (e ∷ []) k.files (f, tt) }, l)

add_file-fits : (t : FileTable) (e : FileEntry) → TableFits t → FileFits e → Gives AddedFits (add_file t e)
unfolding add_file
add_file-fits t e k f = go (place_of e t.entries) refl
  where
    go : (o : Option ℕ) → place_of e t.entries ≡ o → Gives AddedFits (add_file_at t e o)
    go none p = append_file-fits t e k f
    go (some n) p = let l : t.first + n < 2 ^ 32 = omega (arith, place-within e t.entries n p, k.few) in gives (k, l)

-- ---- a header's file

abbrev pub InternedFits : Interned → Type 0
InternedFits i = TableFits i.table × Given IndexFits i.number

pub intern_file-fits : (u : CompilationUnit) (h : LineHeader) (t : FileTable) (f : HeaderFile) → UnitAccepted u → TableFits t → String f.path → Gives InternedFits (intern_file u h t f)
unfolding intern_file
intern_file-fits u h t f accepted k s = gives-bind (file_entry-fits u h f accepted s) entered
  where
    entered : (o : Option FileEntry) → Given FileFits o → Gives InternedFits (intern_entry t o)
    entered none g = gives (k, tt)
    entered (some e) g = gives-bind (add_file-fits t e k g) λ a fits. gives fits

intern_files-fit : (u : CompilationUnit) (h : LineHeader) (fs : List HeaderFile) (t : FileTable)
    → UnitAccepted u → TableFits t → All (λ f. String f.path) fs → Gives IndexedFits (intern_files u h t fs)
unfolding intern_files
intern_files-fit u h [] t accepted k ss = gives (record { table = k; indices = tt })
intern_files-fit u h (f ∷ fs) t accepted k ss =
    let later = intern_files-fit u h fs in
    gives-bind (intern_file-fits u h t f accepted k ss.0) λ i one.
    gives-bind (later i.table accepted one.0 ss.1) λ r more. gives (record { table = more.table; indices = (one.1, more.indices) })

-- ---- a header's files, and a file by its number

pub intern_header_fits : (u : CompilationUnit) (h : LineHeader) (t : FileTable) → UnitAccepted u → TableFits t → Gives IndexedFits (intern_header_files u h t)
unfolding intern_header_files
intern_header_fits u h t a k = gives-bind (intern_files-fit u h u.files t a k a.files) λ r f.
    gives (record { table = f.table; indices = by_test IndicesFit (leb h.version 4) (λ e. (tt, f.indices)) (λ e. f.indices) })

pub get-fits : (is : FileIndices) (n : ℕ) → IndicesFit is → Given IndexFits (get is n)
unfolding get
get-fits [] n f = tt
get-fits (x ∷ xs) zero f = f.0
get-fits (x ∷ xs) (suc n) f = get-fits xs n f.1

-- the path of a header's file is a string
pub header_file-string : (u : CompilationUnit) (h : LineHeader) (n : ℕ) → UnitAccepted u → Given (λ f. String f.path) (header_file u h n)
unfolding header_file
header_file-string u h n a =
    by_test (Given (λ f. String f.path)) (leb h.version 4)
    (λ e. by_test (Given (λ f. String f.path)) (eqb n 0) (λ e. a.file_zero) (λ e. all-at (λ f. String f.path) u.files (n - 1) a.files))
    (λ e. all-at (λ f. String f.path) u.files n a.files)
