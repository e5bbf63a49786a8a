-- The numbers of a unit's files by the table alone: they are those of the unit's map once its files were interned, and stay when the table grows at its end.
use Prim.Native.Nat.{ℕ, ◌+◌, ◌^◌}
use mathlib.Core.Path.{◌≡◌, refl, sym, ap, ◌∙◌}
use mathlib.Core.Bool.{cond}
use mathlib.Core.List.{List, [], ◌∷◌, ◌++◌, map, append-nil, append_assoc}
use mathlib.Core.Option.{Option, none, some}
use lib.Dec.{leb, ltb}
use lib.ListN.{length}
use Rattle.tlv.specs.Outcome.{Outcome, refused, done, ◌>>=◌}
use Rattle.tlv.specs.Lists.{map_option, All}
use Rattle.tlv.specs.Model.{CompilationUnit, LineHeader, HeaderFile}
use Rattle.tlv.proofs.OutcomeLaws.{Gives, gives, gives_none, gives-cond, given, gives-bind}
use Rattle.buffers.specs.Output.{FileEntry}
use Rattle.paths.specs.Paths.{file_entry}
use Rattle.lines.specs.Files.{FileTable, FileIndices, file_index, place_of, Added, append_file, add_file_at, add_file, Interned, intern_entry, intern_file, Indexed, intern_files, intern_header_files}
use Rattle.files.specs.Reached.{number_in, reached_indices, InTable, Reached}
use Rattle.files.proofs.SameLaws.{place-more, place-last}

-- ---- the table grows at its end

-- t' is t with more files at its end
pub record Longer (t t' : FileTable) : Type 0 where
  pub more : List FileEntry
  pub entries : t'.entries ≡ t.entries ++ more
  pub first : t'.first ≡ t.first

longer_none : (t : FileTable) → Longer t t
longer_none t = record { more = []; entries = sym (append-nil t.entries); first = refl }

longer_trans : {t t₁ t₂ : FileTable} → Longer t t₁ → Longer t₁ t₂ → Longer t t₂
longer_trans {t} A B = record {
  more = A.more ++ B.more;
  entries = B.entries ∙ rw A.entries (append_assoc t.entries A.more B.more);
  first = B.first ∙ A.first;
}

module _ {t t' : FileTable} (L : Longer t t') where
  place-longer : (e : FileEntry) (k : ℕ) → place_of e t.entries ≡ some k → place_of e t'.entries ≡ some k
  place-longer e k q = rw L.entries (place-more e t.entries L.more k q)

  in_longer : (o : Outcome (Option FileEntry)) → InTable t o → InTable t' o
  in_longer (refused n) i = tt
  in_longer (done none) i = tt
  in_longer (done (some e)) i = (i.0, place-longer e i.0 i.1)

  number-longer : (o : Outcome (Option FileEntry)) → InTable t o → number_in t' o ≡ number_in t o
  unfolding map_option
  number-longer (refused n) i = refl
  number-longer (done none) i = refl
  number-longer (done (some e)) i = rw (place-longer e i.0 i.1, i.1, L.first)

  module _ (u : CompilationUnit) (h : LineHeader) where
    all-longer : (fs : List HeaderFile) → All (λ f. InTable t (file_entry u h f)) fs → All (λ f. InTable t' (file_entry u h f)) fs
    all-longer [] a = tt
    all-longer (f ∷ fs) a = (in_longer (file_entry u h f) a.0, all-longer fs a.1)

    numbers-longer : (fs : List HeaderFile) → All (λ f. InTable t (file_entry u h f)) fs → map (λ f. number_in t' (file_entry u h f)) fs ≡ map (λ f. number_in t (file_entry u h f)) fs
    numbers-longer [] a = refl
    numbers-longer (f ∷ fs) a = λ i. number-longer (file_entry u h f) a.0 i ∷ numbers-longer fs a.1 i

pub reached-grown : (u : CompilationUnit) (h : LineHeader) (t t' : FileTable) (more : List FileEntry) → Reached u h t → t'.first ≡ t.first → t'.entries ≡ t.entries ++ more
    → (reached_indices u h t' ≡ reached_indices u h t) × Reached u h t'
unfolding reached_indices
reached-grown u h t t' more R first entries =
    let L : Longer t t' = record { more = more; entries = entries; first = first } in
    (ap (λ (is : FileIndices). cond (leb h.version 4) (none ∷ is) is) (numbers-longer L u h u.files R.files), record { files = all-longer L u h u.files R.files })

-- ---- a file is interned

record AddedIn (t : FileTable) (e : FileEntry) (a : Added) : Type 0 where
  longer : Longer t a.table
  number : some a.number ≡ number_in a.table (done (some e))
  within : InTable a.table (done (some e))

append_in : (t : FileTable) (e : FileEntry) → place_of e t.entries ≡ none → Gives (AddedIn t e) (append_file t e)
unfolding append_file map_option
append_in t e q = gives-cond (ltb (t.first + length t.entries) (2 ^ 32)) (λ b. gives last) (λ b. gives_none)
  where
    place : place_of e (t.entries ++ (e ∷ [])) ≡ some (length t.entries)
    place = place-last e t.entries q

    last : AddedIn t e (record { table = record { first = t.first; entries = t.entries ++ (e ∷ []) }; number = file_index (t.first + length t.entries) })
    last = record {
      longer = record { more = e ∷ []; entries = refl; first = refl };
      number = sym (ap (map_option (λ k. file_index (t.first + k))) place);
      within = (length t.entries, place);
    }

add_in : (t : FileTable) (e : FileEntry) → Gives (AddedIn t e) (add_file t e)
unfolding add_file map_option
add_in t e = go (place_of e t.entries) refl
  where
    go : (o : Option ℕ) → place_of e t.entries ≡ o → Gives (AddedIn t e) (add_file_at t e o)
    go none p = append_in t e p
    go (some n) p = gives (record { longer = longer_none t; number = sym (ap (map_option (λ k. file_index (t.first + k))) p); within = (n, p) })

record InternedIn (t : FileTable) (o : Outcome (Option FileEntry)) (i : Interned) : Type 0 where
  longer : Longer t i.table
  number : i.number ≡ number_in i.table o
  within : InTable i.table o

intern_in : (u : CompilationUnit) (h : LineHeader) (t : FileTable) (f : HeaderFile) → Gives (InternedIn t (file_entry u h f)) (intern_file u h t f)
unfolding intern_file ◌>>=◌
intern_in u h t f = go (file_entry u h f)
  where
    go : (o : Outcome (Option FileEntry)) → Gives (InternedIn t o) (o >>= intern_entry t)
    go (refused n) = gives_none
    go (done none) = gives (record { longer = longer_none t; number = refl; within = tt })
    go (done (some e)) = gives-bind (add_in t e) λ a A. gives (record { longer = A.longer; number = A.number; within = A.within })

-- ---- the files of a header are interned

record IndexedIn (u : CompilationUnit) (h : LineHeader) (t : FileTable) (fs : List HeaderFile) (r : Indexed) : Type 0 where
  longer : Longer t r.table
  indices : r.indices ≡ map (λ f. number_in r.table (file_entry u h f)) fs
  within : All (λ f. InTable r.table (file_entry u h f)) fs

files-in : (u : CompilationUnit) (h : LineHeader) (t : FileTable) (fs : List HeaderFile) → Gives (IndexedIn u h t fs) (intern_files u h t fs)
unfolding intern_files
files-in u h t [] = gives (record { longer = longer_none t; indices = refl; within = tt })
files-in u h t (f ∷ fs) =
    let later : (t' : FileTable) → Gives (IndexedIn u h t' fs) (intern_files u h t' fs) = λ t'. files-in u h t' fs in
    gives-bind (intern_in u h t f) λ i I. gives-bind (later i.table) λ r R. gives (record {
      longer = longer_trans I.longer R.longer;
      indices = λ j. (I.number ∙ sym (number-longer R.longer (file_entry u h f) I.within)) j ∷ R.indices j;
      within = (in_longer R.longer (file_entry u h f) I.within, R.within);
    })

-- what a unit's interned files are by the table: it grew at its end, its numbers are those that the table gives, and all files are in it
record HeaderIn (u : CompilationUnit) (h : LineHeader) (t : FileTable) (r : Indexed) : Type 0 where
  longer : Longer t r.table
  indices : r.indices ≡ reached_indices u h r.table
  reached : Reached u h r.table

header-in : (u : CompilationUnit) (h : LineHeader) (t : FileTable) → Gives (HeaderIn u h t) (intern_header_files u h t)
unfolding intern_header_files reached_indices
header-in u h t = gives-bind (files-in u h t u.files) λ r R. gives (record {
  longer = R.longer;
  indices = ap (λ (is : FileIndices). cond (leb h.version 4) (none ∷ is) is) R.indices;
  reached = record { files = R.within };
})

module _ (u : CompilationUnit) (h : LineHeader) (t : FileTable) (r : Indexed) (e : intern_header_files u h t ≡ done r) where
  pub interned-reached : (r.indices ≡ reached_indices u h r.table) × Reached u h r.table
  interned-reached = let g = given (header-in u h t) e in (g.indices, g.reached)
