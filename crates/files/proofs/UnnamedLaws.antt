-- Where a unit's map has no number for one that the header lists, the file has no path, but for file 0 before version 5.
use Prim.Native.Nat.{ℕ, zero, suc, ◌-◌}
use native.Mathlib.Omega.{arith}
use mathlib.Core.Path.{◌≡◌, refl, ap, ◌∙◌}
use mathlib.Core.Bool.{Bool, true, false, cond}
use mathlib.Core.Logic.{◌⊎◌, inl, inr}
use mathlib.Core.List.{List, [], ◌∷◌}
use mathlib.Core.Option.{Option, none, some}
use lib.Dec.{leb}
use borrow.Author.Tests.{ne_eqb}
use Rattle.tlv.specs.Outcome.{done, ◌>>=◌}
use Rattle.tlv.specs.Lists.{at}
use Rattle.tlv.specs.Model.{CompilationUnit, LineHeader, HeaderFile}
use Rattle.tlv.proofs.OutcomeLaws.{done-is, with_done}
use Rattle.buffers.specs.Output.{FileEntry}
use Rattle.paths.specs.Paths.{file_entry}
use Rattle.lines.specs.Files.{FileTable, FileIndices, Interned, add_file, intern_entry, intern_file, Indexed, intern_files, intern_header_files, get, header_file}

-- ---- a file

entry-none : (t : FileTable) (o : Option FileEntry) (i : Interned) → intern_entry t o ≡ done i → i.number ≡ none → o ≡ none
entry-none t none i e is = refl
entry-none t (some x) i e is =
    with_done (add_file t x) (λ a. done (record { table = a.table; number = some a.number })) e
    (λ a ea eq. let n : some a.number ≡ i.number = ap (λ (j : Interned). j.number) (done-is eq) in let z : ◌≡◌ {A = ℕ} 0 1 = cc in absurd (omega arith))

module _ (u : CompilationUnit) (h : LineHeader) where
  file-none : (t : FileTable) (f : HeaderFile) (i : Interned) → intern_file u h t f ≡ done i → i.number ≡ none → file_entry u h f ≡ done none
  unfolding intern_file
  file-none t f i e is = with_done (file_entry u h f) (intern_entry t) e (λ o eo eq. eo ∙ ap done (entry-none t o i eq is))

  -- ---- the files of a header

  files-none : (fs : List HeaderFile) (t : FileTable) (r : Indexed) → intern_files u h t fs ≡ done r → (n : ℕ) (f : HeaderFile) → get r.indices n ≡ none → at fs n ≡ some f → file_entry u h f ≡ done none
  unfolding intern_files at get
  files-none [] t r e n f g a = let z : ◌≡◌ {A = ℕ} 0 1 = cc in absurd (omega arith)
  files-none (x ∷ fs) t r e n f g a =
      with_done (intern_file u h t x) (λ i. intern_files u h i.table fs >>= λ q. done (record { table = q.table; indices = i.number ∷ q.indices })) e
      (λ i ei e₁. with_done (intern_files u h i.table fs) (λ q. done (record { table = q.table; indices = i.number ∷ q.indices })) e₁
      (λ q eq e₂. go i ei q (λ m. files-none fs i.table q eq m f) (ap (λ (j : Indexed). j.indices) (done-is e₂)) n g a))
    where
      go : (i : Interned) → intern_file u h t x ≡ done i → (q : Indexed) → ((m : ℕ) → get q.indices m ≡ none → at fs m ≡ some f → file_entry u h f ≡ done none) → i.number ∷ q.indices ≡ r.indices
          → (n : ℕ) → get r.indices n ≡ none → at (x ∷ fs) n ≡ some f → file_entry u h f ≡ done none
      go i ei q next is zero g a =
          let same : x ≡ f = cc in
          let number : i.number ≡ none = rw (← is) at g in
          rw same at (file-none t x i ei number)
      go i ei q next is (suc n) g a = next n (rw (← is) at g) a

-- ---- the map

-- behind file 0, where that has no number, and where there is none
indices-below : (is r : FileIndices) (n : ℕ) (b : Bool) → b ≡ true → cond b (none ∷ is) is ≡ r → get r (suc n) ≡ none → get is n ≡ none
unfolding get
indices-below is r n b eb ei g = rw (← ei, eb) at g

indices-whole : (is r : FileIndices) (n : ℕ) (b : Bool) → b ≡ false → cond b (none ∷ is) is ≡ r → get r n ≡ none → get is n ≡ none
indices-whole is r n b eb ei g = rw (← ei, eb) at g

header-below : (u : CompilationUnit) (h : LineHeader) (n : ℕ) (f : HeaderFile) → leb h.version 4 ≡ true → header_file u h (suc n) ≡ some f → at u.files n ≡ some f
unfolding header_file
header-below u h n f eb is =
    let e : suc n - 1 ≡ n = omega arith in
    simp (eb, ne_eqb (suc n) 0 (λ z. omega arith), e) at is

header-whole : (u : CompilationUnit) (h : LineHeader) (n : ℕ) (f : HeaderFile) → leb h.version 4 ≡ false → header_file u h n ≡ some f → at u.files n ≡ some f
unfolding header_file
header-whole u h n f eb is = rw eb at is

pub unnamed : (u : CompilationUnit) (h : LineHeader) (t : FileTable) (r : Indexed) → intern_header_files u h t ≡ done r → (n : ℕ) (f : HeaderFile) → get r.indices n ≡ none → header_file u h n ≡ some f
    → ((n ≡ 0) × (leb h.version 4 ≡ true)) ⊎ (file_entry u h f ≡ done none)
unfolding intern_header_files
unnamed u h t r e n f g is =
    with_done (intern_files u h t u.files) (λ q. done (record { table = q.table; indices = cond (leb h.version 4) (none ∷ q.indices) q.indices })) e
    (λ q eq e₁. go q eq (leb h.version 4) refl (ap (λ (j : Indexed). j.indices) (done-is e₁)) n g is)
  where
    go : (q : Indexed) → intern_files u h t u.files ≡ done q → (b : Bool) → leb h.version 4 ≡ b → cond (leb h.version 4) (none ∷ q.indices) q.indices ≡ r.indices
        → (n : ℕ) → get r.indices n ≡ none → header_file u h n ≡ some f → ((n ≡ 0) × (leb h.version 4 ≡ true)) ⊎ (file_entry u h f ≡ done none)
    go q eq true eb ei zero g is = inl (refl, eb)
    go q eq true eb ei (suc n) g is = inr (files-none u h u.files t q eq n f (indices-below q.indices r.indices n (leb h.version 4) eb ei g) (header-below u h n f eb is))
    go q eq false eb ei n g is = inr (files-none u h u.files t q eq n f (indices-whole q.indices r.indices n (leb h.version 4) eb ei g) (header-whole u h n f eb is))
