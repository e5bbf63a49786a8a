-- A row of file 0 before version 5, which has no number yet: the file joins the table, and the unit's map gets its number.
use mathlib.Core.Path.{◌≡◌, refl, sym, ap, ◌∙◌}
use mathlib.Core.Logic.{inl, inr}
use mathlib.Core.List.{List, [], ◌∷◌}
use mathlib.Core.Option.{Option, none, some}
use Prim.Native.Nat.{ℕ, zero, suc, ◌+◌, ◌*◌, ◌≤◌, ◌<◌}
use native.Mathlib.Omega.{arith}
use lib.ListN.{length, set}
use Rattle.std.specs.Prelude.{Option as Maybe, Some, None, Result, Ok, Err}
use Rattle.files.specs.declared.store.AddedFile.{AddedFile}
use Rattle.tlv.specs.declared.refusal.Refusal.{Refusal}
use Rattle.tlv.specs.declared.model.FileIndex.{FileIndex}
use Rattle.tlv.specs.Outcome.{done, ◌>>=◌}
use Rattle.tlv.specs.Model.{CompilationUnit, LineHeader, HeaderFile, file_of}
use Rattle.tlv.proofs.OutcomeLaws.{done-is, with_done}
use Rattle.buffers.specs.Buffer.{top}
use Rattle.buffers.specs.Table.{KeptBut}
use Rattle.buffers.specs.Output.{FileEntry}
use Rattle.buffers.proofs.TableLaws.{here, there, but_of, but_one, but_trans}
use Rattle.buffers.proofs.RecordLaws.{records-but}
use Rattle.paths.specs.Paths.{file_entry}
use Rattle.lines.specs.Files.{FileTable, FileIndices, Interned, add_file, intern_entry, intern_file, get, insert_index}
use Rattle.lines.specs.Lines.{convert_row}
use Rattle.files.specs.declared.spans.Span.{Span}
use Rattle.files.specs.Pieces.{span_in, FileUnitIn, FileSpanIn}
use Rattle.files.specs.Store.{extent, table_of, FilesIn, Grown}
use Rattle.files.specs.Indices.{index_of, indices_of, indices_in, Inserted}
use Rattle.files.specs.Interns.{OfUnit, Listed, Interns}
use Rattle.files.proofs.GrownLaws.{table_kept, grown-kept}
use Rattle.rows.specs.Sizes.{line_size}
use Rattle.collect.specs.declared.convert.Conversion.{Conversion}
use Rattle.collect.specs.declared.convert.Converting.{Converting}
use Rattle.collect.specs.declared.convert.Row.{Row}
use Rattle.collect.specs.declared.sought.SoughtFile.{SoughtFile}
use Rattle.collect.specs.Converts.{unit_at, header_in, Unnamed, converted_in, ConversionIn, sought_of, LineConverted, RowConverts}
use Rattle.collect.proofs.SoughtLaws.{is_zero}
use Rattle.collect.proofs.LineLaws.{none-put}
use Rattle.collect.proofs.ConvertLaws.{written, line_row, still}

-- ---- a file with no path leaves the table

entry-none : (t : FileTable) (o : Option FileEntry) (i : Interned) → intern_entry t o ≡ done i → i.number ≡ none → t ≡ i.table
entry-none t none i e is = ap (λ (j : Interned). j.table) (done-is e)
entry-none t (some x) i e is =
    with_done (add_file t x) (λ a. done (record { table = a.table; number = some a.number })) e
    (λ a ea eq. let n : some a.number ≡ i.number = ap (λ (j : Interned). j.number) (done-is eq) in let z : ◌≡◌ {A = ℕ} 0 1 = cc in absurd (omega arith))

intern-none : (u : CompilationUnit) (h : LineHeader) (t : FileTable) (f : HeaderFile) (i : Interned) → intern_file u h t f ≡ done i → i.number ≡ none → t ≡ i.table
unfolding intern_file
intern-none u h t f i e is = with_done (file_entry u h f) (intern_entry t) e (λ o eo eq. entry-none t o i eq is)

-- ---- a number more in the map

get_set : (is : FileIndices) (n m : ℕ) (i : FileIndex) → get (set is n (some i)) m ≡ none → get is m ≡ none
unfolding get
get_set [] n m i e = e
get_set (x ∷ xs) zero zero i e = let z : ◌≡◌ {A = ℕ} 0 1 = cc in absurd (omega arith)
get_set (x ∷ xs) zero (suc m) i e = e
get_set (x ∷ xs) (suc n) zero i e = e
get_set (x ∷ xs) (suc n) (suc m) i e = get_set xs n m i e

unnamed-set : {u : CompilationUnit} {h : LineHeader} {is : FileIndices} (n : ℕ) (i : FileIndex) → Unnamed u h is → Unnamed u h (insert_index is n i)
unnamed-set {is = is} n i N = record { unnamed = λ m f g e. N.unnamed m f (get_set is n m i g) e }

-- ---- the row

module _ {main supplementary w : List ℕ} {c : Conversion} {st : Converting} (C : ConversionIn main supplementary w c st) (r : Row) (unknown : get (indices_in w c.indices) r.file.0 ≡ none)
    {file : Span} (sought : SoughtFile.Zero file ≡ sought_of c r.file.0) where
  -- the file can be interned
  pub zero-asked : FilesIn main supplementary w st.table × (FileUnitIn main w c.unit × (FileSpanIn main file × (OfUnit main c.unit.place file × Listed main supplementary (unit_at main c) (header_in main c))))
  zero-asked = let Z = is_zero C r.file.0 sought in (C.files, (C.unit, (Z.span, (Z.listed, C.listed))))

  module _ {w₁ files files' : List ℕ} {q : Result (Maybe AddedFile) Refusal} (I : Interns main supplementary w w₁ files files' st.table main c.unit file q) where
    kept : KeptBut w w₁ (written c st line_size)
    kept = but_of I.rest (here (omega arith) (omega arith))

    maps : indices_in w₁ c.indices ≡ indices_in w c.indices
    unfolding indices_of
    maps =
        let a = C.table in
        let b = C.offsets in
        let d = C.directories in
        records-but index_of 5 c.indices.base c.indices.count (but_one I.rest) (inr (omega arith), tt)

  pub zero-refused : {w₁ files files' warnings : List ℕ} {e : Refusal} → Interns main supplementary w w₁ files files' st.table main c.unit file (Err e)
      → RowConverts main supplementary w w₁ files files' warnings warnings c st r (Err e)
  unfolding convert_row converted_in ◌>>=◌
  zero-refused I =
      let Z = is_zero C r.file.0 sought in
      record { is = rw (unknown, Z.is, ← I.is); rest = kept I }

  pub zero-unnamed : {w₁ files files' warnings : List ℕ} → Interns main supplementary w w₁ files files' st.table main c.unit file (Ok None)
      → length w₁ ≡ length w → st.warned ≤ top → length warnings < top → RowConverts main supplementary w w₁ files files' warnings warnings c st r (Ok st)
  unfolding convert_row converted_in ◌>>=◌
  zero-unnamed {w₁} I size fits small =
      let Z = is_zero C r.file.0 sought in
      let t = table_of main supplementary w st.table in
      let i : Interned = record { table = table_of main supplementary w₁ st.table; number = none } in
      let same : t ≡ i.table = intern-none (unit_at main c) (header_in main c) t (file_of (span_in main file)) i (sym I.is) refl in
      still C r [] (kept I) size I.after (maps I) (rw (unknown, Z.is, ← I.is, same)) (none-put fits small)

  pub zero_number : {w₁ w₂ w₃ files files' warnings warnings' : List ℕ} {a : AddedFile} {st' : Converting} → c.lines + st.count * line_size + line_size ≤ length w
      → length w₁ ≡ length w → Interns main supplementary w w₁ files files' st.table main c.unit file (Ok (Some a))
      → Inserted w₁ w₂ c.indices r.file a.number → length w₂ ≡ length w₁
      → LineConverted w₂ w₃ warnings warnings' c (record { table = a.table; count = st.count; warned = st.warned }) r a.number st' → length w₃ ≡ length w₂
      → RowConverts main supplementary w w₃ files files' warnings warnings' c st r (Ok st')
  unfolding convert_row converted_in ◌>>=◌
  zero_number {w₁} {w₂} {files = files} {files'} {a = a} room size I J size₂ L size₃ =
      let Z = is_zero C r.file.0 sought in
      let ct = C.table in
      let co = C.offsets in
      let cd = C.directories in
      let G : Grown main supplementary w w₁ files files' st.table a.table = I.after in
      let gb = G.base in
      let gr = G.room in
      let clear : a.table.base + extent a.table ≤ c.indices.base = omega arith in
      let K₂ : KeptBut w w₂ (written c st line_size) = but_trans (kept I) (but_of J.rest (there (here (omega arith) (omega arith)))) in
      let table_same : table_of main supplementary w₂ a.table ≡ table_of main supplementary w₁ a.table = table_kept G.holds (but_one J.rest) (inl clear, tt) in
      let set_is : indices_in w₂ c.indices ≡ insert_index (indices_in w c.indices) r.file.0 a.number = J.indices ∙ rw (maps I) in
      line_row C r room K₂ (size₂ ∙ size) (grown-kept G (but_one J.rest) (inl clear, tt) size₂) (rw set_is (unnamed-set r.file.0 a.number C.unnamed))
      (rw (unknown, Z.is, ← I.is, table_same, set_is)) L size₃
