-- The end of collect_lines: the rows of a unit that were counted are converted, and its lines and sequences stored.
use mathlib.Core.Path.{◌≡◌, refl, sym, ap, ◌∙◌}
use mathlib.Core.Logic.{inl, inr}
use mathlib.Core.List.{List, [], ◌∷◌, ◌++◌, map, append-nil}
use mathlib.Core.Option.{none}
use Prim.Native.Nat.{ℕ, ◌+◌, ◌*◌, ◌≤◌, ◌<◌}
use native.Mathlib.Omega.{arith}
use lib.ListN.{length}
use borrow.Author.Tests.{eq-eqb, ne_eqb}
use Rattle.std.specs.Prelude.{Result, Ok, Err}
use Rattle.tlv.specs.declared.refusal.Refusal.{Refusal}
use Rattle.tlv.specs.Refusals.{number_of}
use Rattle.tlv.specs.Outcome.{Outcome, refused, done, ◌>>=◌}
use Rattle.tlv.specs.Bytes.{le, bytes_of}
use Rattle.tlv.specs.Fields.{encode}
use Rattle.tlv.specs.Model.{LineRow}
use Rattle.buffers.specs.Buffer.{top, Put}
use Rattle.buffers.specs.Table.{Clear, KeptBut}
use Rattle.buffers.specs.Output.{Warning, line_sequence_mismatch, kind_number, warnings_bytes}
use Rattle.buffers.proofs.BufferLaws.{◌then◌, put_as}
use Rattle.buffers.proofs.TableLaws.{here, there, but_of, but_one, but_trans}
use Rattle.buffers.proofs.RecordLaws.{records-length, records-kept}
use Rattle.lines.specs.Lines.{Converted, convert_rows, Collected, mismatch}
use Rattle.files.specs.declared.store.StoredFiles.{StoredFiles}
use Rattle.files.specs.Store.{extent, table_of}
use Rattle.files.specs.Indices.{index_of, indices_of, indices_in}
use Rattle.files.proofs.GrownLaws.{table_kept, grown-kept}
use Rattle.rows.specs.declared.unit_lines.StoredLines.{StoredLines}
use Rattle.rows.specs.Sizes.{entry_size, line_size, sequence_range_size, row_room}
use Rattle.rows.specs.Stored.{ranges_of}
use Rattle.rows.proofs.StoredLaws.{lines-nil}
use Rattle.collect.specs.declared.convert.Conversion.{Conversion}
use Rattle.collect.specs.declared.convert.Converting.{Converting}
use Rattle.collect.specs.Passes.{RowsCounted, sequences_from, with_offset, convert_from}
use Rattle.collect.specs.Converts.{unit_at, header_in, offsets_of, converted_in, ConversionIn, RowsConverted, RowsConvert}
use Rattle.collect.specs.Collects.{lines_in}
use Rattle.collect.specs.Stages.{finish_from, finish_rows, StoresLines, FinishesLines}
use Rattle.collect.proofs.RunLaws.{RunCounted, count-done, convert_from-is}
use Rattle.collect.proofs.PrefixLaws.{convert_rows-prefix, convert_rows-prefix-refused}
use Rattle.collect.proofs.FrameLaws.{but_wide}
use Rattle.collect.proofs.LineLaws.{none-put, about-put, warnings-append}
use Rattle.collect.proofs.ConvertLaws.{offsets-kept}

-- ---- warnings

-- as many sequences as offsets
pub no-mismatch : {warned : ℕ} {warnings : List ℕ} (sequences offsets : ℕ) → offsets ≡ sequences → warned ≤ top → length warnings < top
    → Put warned (warnings_bytes (mismatch sequences offsets)) warnings warnings warned
no-mismatch sequences offsets e h k = rw (eq-eqb offsets sequences e) (none-put h k)

-- another number
pub a-mismatch : {warned r : ℕ} {warnings warnings' : List ℕ} (sequences offsets : ℕ) → (offsets ≡ sequences → ⊥)
    → Put warned (encode 0x46 ((5 ∷ []) ++ bytes_of 8 sequences ++ bytes_of 8 offsets)) warnings warnings' r → Put warned (warnings_bytes (mismatch sequences offsets)) warnings warnings' r
unfolding kind_number
a-mismatch sequences offsets e f = rw (ne_eqb offsets sequences e) (about-put line_sequence_mismatch 5 sequences offsets refl f)

-- ---- the rows

module _ {rows : List LineRow} {main supplementary w : List ℕ} {c : Conversion} {t : StoredFiles} {warned n m : ℕ}
    (C : ConversionIn main supplementary w c (record { table = t; count = 0; warned = warned })) (K : RowsCounted rows n m) where
  rows-counted : RunCounted rows (record { lines = n; sequences = m })
  rows-counted = count-done rows (record { lines = n; sequences = m }) K.is

  pub conversion-room : c.lines + row_room * length rows + entry_size ≤ length w → c.lines + 0 * line_size + n * line_size ≤ length w
  conversion-room h = let a = rows-counted.all in omega arith

  -- the lines have room below a table of the rows
  pub conversion-below : c.lines + 0 * line_size + n * line_size ≤ c.lines + line_size * length rows
  conversion-below = let a = rows-counted.all in omega arith

  start : Converted
  start = record { table = table_of main supplementary w t; indices = indices_in w c.indices; lines = []; warnings = [] }

  notes : List Warning
  notes = mismatch rows-counted.run.count (length (offsets_of w c))

  notes-are : notes ≡ mismatch m c.offsets.count
  unfolding notes
  notes-are =
      let k : length (offsets_of w c) ≡ c.offsets.count = records-length le 8 w c.offsets.base c.offsets.count in
      let s : rows-counted.run.count ≡ m = rows-counted.count in
      λ i. mismatch (s i) (k i)

  rows_are : (noted : ℕ) (x : Outcome Converted)
      → convert_from (unit_at main c) (header_in main c) (offsets_of w c) rows 0 n (converted_in main supplementary w c (record { table = t; count = 0; warned = noted }) []) ≡ x
      → convert_rows (unit_at main c) (header_in main c) (offsets_of w c) rows-counted.run.lines start ≡ x
  unfolding converted_in start
  rows_are noted x e =
      sym (convert_from-is (unit_at main c) (header_in main c) (offsets_of w c) rows rows-counted.run start rows-counted.is)
      ∙ rw rows-counted.lines (rw (lines-nil w c.lines) at e)

  -- the run is the one that was counted
  of-run : (x : Outcome Collected) → finish_from main supplementary w c t rows-counted.run ≡ x → finish_rows (done rows) main supplementary w c t ≡ x
  unfolding ◌>>=◌
  of-run x e = rw rows-counted.is e

  module _ {w₁ files files₁ warnings₁ warnings₂ : List ℕ} {noted : ℕ} {r : Result Converting Refusal}
      (R : RowsConvert rows main supplementary w w₁ files files₁ warnings₁ warnings₂ c (record { table = t; count = 0; warned = noted }) n r) where
    finish-refused : (e : Refusal) → r ≡ Err e → finish_from main supplementary w c t rows-counted.run ≡ refused (number_of e)
    unfolding ◌>>=◌ start notes
    finish-refused e is =
        let h = rows_are noted (refused (number_of e)) (rw is at R.is) in
        let p = rw (append-nil notes) at (convert_rows-prefix-refused (unit_at main c) (header_in main c) (offsets_of w c) rows-counted.run.lines notes start (number_of e) h) in
        rw p

    rows-rest : KeptBut w w₁ ((t.base, extent t) ∷ (c.indices.base, c.indices.count * 5) ∷ (c.lines, row_room * length rows + entry_size) ∷ [])
    rows-rest =
        let k = rows-counted.all in
        but_wide _ R.rest (here (omega arith) (omega arith), (there (here (omega arith) (omega arith)), (there (there (here (omega arith) (omega arith))), tt)))

    -- what was written lies below a table of the rows
    pub rows-below : (q k : ℕ) → c.lines + line_size * length rows ≤ q
        → Clear q k ((t.base, extent t) ∷ (c.indices.base, c.indices.count * 5) ∷ (c.lines + 0 * line_size, n * line_size) ∷ [])
    rows-below q k h =
        let a = C.table in
        let b = C.offsets in
        let d = C.directories in
        let i = C.indices in
        let all = rows-counted.all in
        (inr (omega arith), (inr (omega arith), (inr (omega arith), tt)))

    pub finishes-refused : {files' warnings warnings' : List ℕ} {e : Refusal} → r ≡ Err e
        → FinishesLines (done rows) (length rows) main supplementary w w₁ files files' warnings warnings' c t warned (Err e)
    finishes-refused {e = e} is = record { is = of-run (refused (number_of e)) (finish-refused e is); rest = rows-rest }

    module _ {st : Converting} (is : r ≡ Ok st) where
      rows-converted : RowsConverted rows main supplementary w w₁ files files₁ warnings₁ warnings₂ c (record { table = t; count = 0; warned = noted }) n st
      rows-converted = rw is at R.is

      sequences-few : length (sequences_from rows 0 none) ≤ m
      sequences-few = rw rows-counted.sequences at rows-counted.few

      store-small : st.count * row_room + sequence_range_size * length (sequences_from rows 0 none) + entry_size
          ≤ row_room * length rows + entry_size
      store-small =
          let a = rows-counted.all in
          let b = rows-converted.more in
          let f = sequences-few in
          omega arith

      pub store-room : c.lines + row_room * length rows + entry_size ≤ length w₁ → c.lines + st.count * row_room + sequence_range_size * length (sequences_from rows 0 none) + entry_size ≤ length w₁
      store-room h = let a = store-small in omega arith

      -- the sequences too have room below a table of the rows
      pub store_below : c.lines + st.count * line_size + sequence_range_size * length (sequences_from rows 0 none) ≤ c.lines + line_size * length rows
      store_below =
          let a = rows-counted.all in
          let b = rows-converted.more in
          let f = sequences-few in
          omega arith

      module _ {w₂ : List ℕ} {l : StoredLines} (S : StoresLines rows w₁ w₂ c.offsets.base c.offsets.count c.lines st.count l) where
        table_below : st.table.base + extent st.table ≤ c.lines
        table_below =
            let H = rows-converted.holds in
            let a = H.table in
            let b = H.offsets in
            let d = H.directories in
            let e = H.indices in
            omega arith

        table_same : table_of main supplementary w₁ st.table ≡ table_of main supplementary w₂ st.table
        table_same = sym (table_kept rows-converted.holds.files (but_one S.rest) (inl table_below, tt))

        indices-same : indices_in w₁ c.indices ≡ indices_in w₂ c.indices
        unfolding indices_of
        indices-same = sym (records-kept index_of 5 c.indices.base c.indices.count S.rest (inl C.indices))

        sequences-same : map (with_offset (offsets_of w c)) rows-counted.run.sequences ≡ ranges_of w₂ l.sequences.base l.sequences.count
        sequences-same =
            ap (map (with_offset (offsets_of w c))) rows-counted.sequences
            ∙ ap (λ (o : List ℕ). map (with_offset o) (sequences_from rows 0 none))
            (sym (offsets-kept C (n * line_size) R.rest))
            ∙ sym S.ranges

        finish-done : finish_from main supplementary w c t rows-counted.run
            ≡ done (record { table = table_of main supplementary w₂ st.table; lines = lines_in w₂ l c.indices; warnings = notes ++ rows-converted.new })
        unfolding ◌>>=◌ start notes converted_in lines_in
        finish-done =
            let cv = converted_in main supplementary w₁ c st rows-converted.new in
            let h = rows_are noted (done cv) rows-converted.is in
            let p = rw (append-nil notes) at (convert_rows-prefix (unit_at main c) (header_in main c) (offsets_of w c) rows-counted.run.lines notes start cv h) in
            rw p (λ i. done (record {
              table = table_same i;
              lines = record { entries = sym S.entries i; files = indices-same i; sequences = sequences-same i };
              warnings = notes ++ rows-converted.new;
            }))

        pub finishes-done : {warnings : List ℕ} → Put warned (warnings_bytes (mismatch m c.offsets.count)) warnings warnings₁ noted → length w₂ ≡ length w₁
            → FinishesLines (done rows) (length rows) main supplementary w w₂ files files₁ warnings warnings₂ c t warned
            (Ok (record { lines = l; indices = c.indices; table = st.table; warned = st.warned }))
        finishes-done W size =
            let small = store-small in
            let b = S.within in
            record {
              is = record {
                new = notes ++ rows-converted.new;
                finished = of-run _ finish-done;
                grown = grown-kept rows-converted.grown (but_one S.rest) (inl table_below, tt) size;
                put = put_as (warnings-append notes rows-converted.new ∙ ap (λ (ws : List Warning). warnings_bytes ws ++ warnings_bytes rows-converted.new) notes-are) (W then rows-converted.put);
                rows = S.rows;
                map = refl;
                from = S.from;
                sequences = S.sequences;
                within = omega arith;
              };
              rest = but_trans rows-rest (but_of S.rest (there (there (here (omega arith) (omega arith)))));
            }
