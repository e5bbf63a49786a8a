-- The map of a unit from its start on: before version 5 file 0 has no number.
use Prim.Native.Nat.{ℕ, ◌+◌, ◌*◌}
use native.Mathlib.Omega.{arith}
use mathlib.Core.Path.{◌≡◌, sym, ◌∙◌}
use mathlib.Core.Bool.{Bool, true, false, cond}
use mathlib.Core.Logic.{inl}
use mathlib.Core.List.{List, [], ◌∷◌}
use mathlib.Core.Option.{none}
use lib.Dec.{leb}
use lib.ListN.{length}
use Rattle.std.specs.Prelude.{Result, Ok, Err}
use Rattle.tlv.specs.declared.refusal.Refusal.{Refusal}
use Rattle.tlv.specs.Outcome.{◌>>=◌}
use Rattle.tlv.specs.Model.{CompilationUnit, LineHeader}
use Rattle.buffers.specs.Table.{chunk, Clear}
use Rattle.buffers.proofs.TableLaws.{here, there, but_of, but_one, but_trans}
use Rattle.buffers.proofs.RecordLaws.{records-nil, records-suc}
use Rattle.access.specs.Places.{unit_here}
use Rattle.lines.specs.Files.{FileTable, FileIndices, intern_files, intern_header_files}
use Rattle.tlv.specs.declared.model.FileIndex.{FileIndex}
use Rattle.buffers.specs.declared.table.Stored.{Stored}
use Rattle.files.specs.declared.spans.FileUnit.{FileUnit}
use Rattle.files.specs.declared.store.StoredFiles.{StoredFiles}
use Rattle.files.specs.declared.header.InternedFiles.{InternedFiles}
use Rattle.files.specs.Pieces.{header_here, FileUnitIn}
use Rattle.files.specs.Store.{extent, table_of, FilesIn}
use Rattle.files.specs.Indices.{index_of, indices_of, PutIndex}
use Rattle.files.specs.Interns.{MapRoom, IndexedAfter, with_indices, InternsFiles, InternsHeader}
use Rattle.files.proofs.GrownLaws.{unit_kept, table_kept, files-kept, grown-after}

-- what the map has before the files
first-none : (w : List ℕ) (base : ℕ) → index_of (chunk w base 5) ≡ none → indices_of w base 1 ≡ none ∷ []
unfolding indices_of
first-none w base e =
    let at_base : base + 0 * 5 ≡ base = omega arith in
    records-suc index_of 5 w base 0 ∙ rw (records-nil index_of 5 w base, at_base, e)

first-nothing : (w : List ℕ) (base : ℕ) → indices_of w base 0 ≡ []
unfolding indices_of
first-nothing w base = records-nil index_of 5 w base

header_is : (u : CompilationUnit) (h : LineHeader) (t : FileTable) (is : FileIndices) (b : Bool) → leb h.version 4 ≡ b → is ≡ cond b (none ∷ []) []
    → (intern_files u h t u.files >>= with_indices is) ≡ intern_header_files u h t
unfolding intern_header_files
header_is u h t is true e i = rw (e, i)
header_is u h t is false e i = rw (e, i)

module _ {w w₁ : List ℕ} {t : StoredFiles} {s : List ℕ} {u : FileUnit} {base : ℕ} (M : MapRoom s w t u base) (P : PutIndex w w₁ base none) (size : length w₁ ≡ length w) where
  table-clear : Clear t.base (extent t) ((base, 5) ∷ [])
  table-clear = let m = M in (inl (omega arith), tt)

  -- the table, the directories and the room stay where file 0 was written
  pub files-after : {main supplementary : List ℕ} → FilesIn main supplementary w t → FilesIn main supplementary w₁ t
  files-after F = files-kept F (but_one P.rest) table-clear size

  pub unit-after : FileUnitIn s w u → FileUnitIn s w₁ u
  unit-after U = let m = M in unit_kept U (but_one P.rest) (inl (omega arith), tt) size

  pub room_after : MapRoom s w₁ t u base
  room_after = record { table = M.table; directories = M.directories; map = rw size M.map }

  module _ {main supplementary : List ℕ} (F : FilesIn main supplementary w t) where
    grown-from : (w₂ files files₂ : List ℕ) (m : ℕ) (r : Result InternedFiles Refusal) → IndexedAfter main supplementary w₁ w₂ files files₂ t base m r
        → IndexedAfter main supplementary w w₂ files files₂ t base m r
    grown-from w₂ files files₂ m (Err e) a = tt
    grown-from w₂ files files₂ m (Ok x) a = (grown-after F (but_one P.rest) table-clear a.0, a.1)

    pub header-before : {w₂ files files₂ : List ℕ} {r : Result InternedFiles Refusal} {old : Bool} {m : Stored FileIndex} → FileUnitIn s w u → old ≡ leb u.version 4 → old ≡ true
        → m.base ≡ base → m.count ≡ 1 → InternsFiles main supplementary w₁ w₂ files files₂ t s u m.base m.count r → InternsHeader main supplementary w w₂ files files₂ t s u base r
    header-before {w₂} {files} {files₂} {r} U eo o eb en I = let I = rw (eb, en) at I in record {
      is = I.is ∙ rw (table_kept F (but_one P.rest) table-clear)
          (header_is (unit_here s u.place) (header_here s u.place) (table_of main supplementary w t) (indices_of w₁ base 1) true (rw (← U.version) (sym eo ∙ o)) (first-none w₁ base P.index));
      after = grown-from w₂ files files₂ (1 + length (unit_here s u.place).files) r I.after;
      rest = but_trans (but_of P.rest (there (here (omega arith) (omega arith)))) I.rest;
    }

pub header-from : {main supplementary w w₂ files files₂ : List ℕ} {t : StoredFiles} {s : List ℕ} {u : FileUnit} {base : ℕ} {r : Result InternedFiles Refusal} {old : Bool} {m : Stored FileIndex} → FileUnitIn s w u → old ≡ leb u.version 4 → old ≡ false
    → m.base ≡ base → m.count ≡ 0 → InternsFiles main supplementary w w₂ files files₂ t s u m.base m.count r → InternsHeader main supplementary w w₂ files files₂ t s u base r
header-from {main} {supplementary} {w} {t = t} {s = s} {u = u} {base = base} U eo o eb en I = let I = rw (eb, en) at I in record {
  is = I.is ∙ header_is (unit_here s u.place) (header_here s u.place) (table_of main supplementary w t) (indices_of w base 0) false (rw (← U.version) (sym eo ∙ o)) (first-nothing w base);
  after = I.after;
  rest = I.rest;
}
