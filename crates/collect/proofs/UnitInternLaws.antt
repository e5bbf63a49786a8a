-- A unit's directories and then its files: the steps of intern_unit, and how many numbers the map has.
use mathlib.Core.Path.{◌≡◌, sym, ap, ◌∙◌}
use mathlib.Core.Bool.{Bool, true, false, cond}
use mathlib.Core.Logic.{inl, inr}
use mathlib.Core.List.{List, [], ◌∷◌}
use mathlib.Core.Option.{none}
use Prim.Native.Nat.{ℕ, suc, ◌+◌, ◌*◌}
use native.Mathlib.Omega.{arith}
use lib.Dec.{leb}
use lib.ListN.{length}
use Rattle.std.specs.Prelude.{Result, Ok, Err}
use Rattle.tlv.specs.declared.refusal.Refusal.{Refusal}
use Rattle.tlv.specs.declared.model.DebugSource.{DebugSource}
use Rattle.tlv.specs.Outcome.{done, ◌>>=◌}
use Rattle.tlv.specs.Model.{CompilationUnit, LineHeader, HeaderFile}
use Rattle.tlv.proofs.OutcomeLaws.{done-is, with_done}
use Rattle.buffers.specs.Table.{KeptBut}
use Rattle.buffers.proofs.TableLaws.{here, there, but_of, but_one, but_trans}
use Rattle.access.specs.Places.{unit_here}
use Rattle.lines.specs.Files.{FileTable, FileIndices, intern_file, Indexed, intern_files, intern_header_files}
use Rattle.files.specs.declared.spans.FileUnit.{FileUnit}
use Rattle.files.specs.declared.store.StoredFiles.{StoredFiles}
use Rattle.files.specs.declared.header.InternedFiles.{InternedFiles}
use Rattle.files.specs.Pieces.{source_in, header_here, Described}
use Rattle.files.specs.Store.{extent, table_of, FilesIn}
use Rattle.files.specs.Interns.{MapRoom, InternsHeader, indexed_of, map_extent}
use Rattle.files.proofs.GrownLaws.{unit_kept, files-kept, table_kept, grown-after}
use Rattle.collect.specs.Stages.{UnitRoom, InternsUnit}
use Rattle.collect.proofs.FrameLaws.{but_wide}

-- the sheet of the main source
pub main-sheet : (main supplementary : List ℕ) (x : DebugSource) → x ≡ DebugSource.Main → source_in main supplementary x ≡ main
main-sheet main supplementary x e = rw e

-- ---- how many numbers the map has

module _ (u : CompilationUnit) (h : LineHeader) where
  files-length : (fs : List HeaderFile) (t : FileTable) (r : Indexed) → intern_files u h t fs ≡ done r → length r.indices ≡ length fs
  unfolding intern_files
  files-length [] t r e = ap (λ (j : Indexed). length j.indices) (sym (done-is e))
  files-length (f ∷ fs) t r e =
      with_done (intern_file u h t f) (λ i. intern_files u h i.table fs >>= λ q. done (record { table = q.table; indices = i.number ∷ q.indices })) e
      (λ i ei e₁. with_done (intern_files u h i.table fs) (λ q. done (record { table = q.table; indices = i.number ∷ q.indices })) e₁
      (λ q eq e₂. ap (λ (j : Indexed). length j.indices) (sym (done-is e₂)) ∙ ap suc (files-length fs i.table q eq)))

  one_more : (b : Bool) (is : FileIndices) → length (cond b (none ∷ is) is) ≡ cond b 1 0 + length is
  one_more true is = omega arith
  one_more false is = omega arith

  -- one for each of the header's files, and before version 5 one for file 0
  pub indices-length : (t : FileTable) (r : Indexed) → intern_header_files u h t ≡ done r → length r.indices ≡ cond (leb h.version 4) 1 0 + length u.files
  unfolding intern_header_files
  indices-length t r e =
      with_done (intern_files u h t u.files) (λ q. done (record { table = q.table; indices = cond (leb h.version 4) (none ∷ q.indices) q.indices })) e
      (λ q eq e₁. ap (λ (j : Indexed). length j.indices) (sym (done-is e₁)) ∙ one_more (leb h.version 4) q.indices ∙ ap (λ (n : ℕ). cond (leb h.version 4) 1 0 + n) (files-length u.files t q eq))

-- ---- the steps

module _ {main supplementary w w₁ : List ℕ} {p : ℕ} {t : StoredFiles} {base : ℕ} {u : FileUnit} (D : Described main w w₁ DebugSource.Main p base u) (F : FilesIn main supplementary w t) (R : UnitRoom main w t p base)
    (size : length w₁ ≡ length w) where
  pub described-files : FilesIn main supplementary w₁ t
  described-files = files-kept F (but_one D.rest) (inl R.table, tt) size

  pub described-room : MapRoom main w₁ t u (base + u.directories.count * 8)
  described-room =
      let a = R.table in
      let b = R.room in
      let d = D.directories in
      let k = D.count in
      record {
        table = omega arith;
        directories = omega arith;
        map = rw D.place (omega arith);
      }

  module _ {w₂ files files₂ : List ℕ} {r : Result InternedFiles Refusal} (I : InternsHeader main supplementary w₁ w₂ files files₂ t main u (base + u.directories.count * 8) r) where
    interned_is : indexed_of main supplementary w₂ (base + u.directories.count * 8) r ≡ intern_header_files (unit_here main p) (header_here main p) (table_of main supplementary w t)
    interned_is = rw (D.place, table_kept F (but_one D.rest) (inl R.table, tt)) at I.is

    interned_rest : KeptBut w w₂ ((t.base, extent t) ∷ (base, map_extent main p) ∷ [])
    interned_rest =
        let k = D.count in
        let f : 5 * (1 + length (unit_here main u.place).files) ≡ 5 * (1 + length (unit_here main p).files) = rw D.place in
        but_trans (but_of D.rest (there (here (omega arith) (omega arith))))
        (but_wide ((t.base, extent t) ∷ (base, map_extent main p) ∷ []) I.rest (here (omega arith) (omega arith), (there (here (omega arith) (omega arith)), tt)))

  module _ {w₂ files files₂ : List ℕ} {e : Refusal} (I : InternsHeader main supplementary w₁ w₂ files files₂ t main u (base + u.directories.count * 8) (Err e)) where
    pub interned-refused : InternsUnit main supplementary w w₂ files files₂ p t base (Err e)
    interned-refused = record { is = interned_is I; after = tt; rest = interned_rest I }

  module _ {w₂ files files₂ : List ℕ} {r : InternedFiles} (I : InternsHeader main supplementary w₁ w₂ files files₂ t main u (base + u.directories.count * 8) (Ok r)) where
    pub interned_done : length w₂ ≡ length w → InternsUnit main supplementary w w₂ files files₂ p t base (Ok (record { unit = u; indices = r.map; table = r.table }))
    interned_done last =
        let after = I.after in
        let a = R.table in
        let d = D.directories in
        record {
          is = rw after.1.0 (interned_is I);
          after = record {
            grown = grown-after F (but_one D.rest) (inl R.table, tt) after.0;
            described = unit_kept D.unit I.rest (inr (omega arith), (inl (omega arith), tt)) (omega arith);
            source = D.source-is;
            place = D.place;
            directories = D.directories;
            count = D.count;
            map = after.1.0;
            few = rw D.place at after.1.1;
          };
          rest = interned_rest I;
        }
