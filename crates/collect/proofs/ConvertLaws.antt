-- A row is converted: what is written for it keeps the unit's description, and what it becomes by the number of its file.
use mathlib.Core.Path.{◌≡◌, refl, sym, ap, ◌∙◌}
use mathlib.Core.Logic.{inl, inr}
use mathlib.Core.List.{List, [], ◌∷◌, ◌++◌}
use mathlib.Core.Option.{none}
use Prim.Native.Nat.{ℕ, ◌+◌, ◌*◌, ◌≤◌, ◌<◌}
use native.Mathlib.Omega.{arith}
use lib.ListN.{length}
use Rattle.std.specs.Prelude.{Some, Ok}
use Rattle.tlv.specs.declared.model.FileIndex.{FileIndex}
use Rattle.tlv.specs.Outcome.{done, ◌>>=◌}
use Rattle.tlv.specs.Bytes.{le, bytes_of}
use Rattle.tlv.specs.Fields.{encode}
use Rattle.buffers.specs.Buffer.{top, Put}
use Rattle.buffers.specs.Table.{KeptBut}
use Rattle.buffers.specs.Output.{missing_line_file, Warning, about, kind_number, warnings_bytes}
use Rattle.buffers.proofs.TableLaws.{here, there, but_of, but_one, but_refl, but_trans}
use Rattle.buffers.proofs.RecordLaws.{records-but}
use Rattle.lines.specs.Files.{intern_file, get}
use Rattle.lines.specs.Lines.{convert_line, convert_row}
use Rattle.files.specs.declared.store.StoredFiles.{StoredFiles}
use Rattle.files.specs.Store.{extent, table_of, Grown}
use Rattle.files.specs.Indices.{index_of, indices_of, indices_in, number_of}
use Rattle.files.proofs.GrownLaws.{unit_kept, table_kept, grown-none, grown-kept}
use Rattle.rows.specs.Sizes.{line_size}
use Rattle.rows.specs.Stored.{lines_of}
use Rattle.rows.proofs.StoredLaws.{lines-but}
use Rattle.collect.specs.declared.convert.Conversion.{Conversion}
use Rattle.collect.specs.declared.convert.Converting.{Converting}
use Rattle.collect.specs.declared.convert.Row.{Row}
use Rattle.collect.specs.declared.sought.SoughtFile.{SoughtFile}
use Rattle.collect.specs.Converts.{unit_at, header_in, offsets_of, Unnamed, converted_in, ConversionIn, raw_of, sought_of, lined_in, LineConverted, KnownConverted, RowConverts}
use Rattle.collect.proofs.SoughtLaws.{is-missing, is-unnamed}
use Rattle.collect.proofs.LineLaws.{none-put, about-put, line-put}

-- ---- what is written elsewhere

-- what the conversion of rows may write: the file table, the unit's map, and k bytes behind its lines
abbrev pub written : Conversion → Converting → ℕ → List (ℕ × ℕ)
written c st k = (st.table.base, extent st.table) ∷ (c.indices.base, c.indices.count * 5) ∷ (c.lines + st.count * line_size, k) ∷ []

module _ {main supplementary w w' : List ℕ} {c : Conversion} {st : Converting} (C : ConversionIn main supplementary w c st) (k : ℕ) (K : KeptBut w w' (written c st k)) where
  pub offsets-kept : offsets_of w' c ≡ offsets_of w c
  offsets-kept =
      let a = C.table in
      let b = C.offsets in
      let d = C.directories in
      let i = C.indices in
      records-but le 8 c.offsets.base c.offsets.count K (inr (omega arith), (inl (omega arith), (inl (omega arith), tt)))

  pub lines_same : lines_of w' c.lines st.count ≡ lines_of w c.lines st.count
  lines_same =
      let a = C.table in
      let b = C.offsets in
      let d = C.directories in
      let i = C.indices in
      lines-but c.lines st.count K (inr (omega arith), (inr (omega arith), (inl (omega arith), tt)))

  pub conversion-kept : {files files' : List ℕ} {st' : Converting} → length w' ≡ length w → Grown main supplementary w w' files files' st.table st'.table
      → Unnamed (unit_at main c) (header_in main c) (indices_in w' c.indices) → c.lines + st'.count * line_size ≤ length w → ConversionIn main supplementary w' c st'
  conversion-kept size G named fits =
      let a = C.table in
      let b = C.offsets in
      let d = C.directories in
      let i = C.indices in
      let gb = G.base in
      let gr = G.room in
      record {
        placed = C.placed;
        files = G.holds;
        source = C.source;
        unit = unit_kept C.unit K (inr (omega arith), (inl (omega arith), (inl (omega arith), tt))) size;
        listed = C.listed;
        zero = C.zero;
        unnamed = named;
        all = C.all;
        table = omega arith;
        offsets = b;
        directories = d;
        indices = i;
        lines = omega arith;
      }

-- ---- a row whose file has a number

module _ {main supplementary w : List ℕ} {c : Conversion} {st : Converting} (C : ConversionIn main supplementary w c st) (r : Row) where
  -- the table and the map may have changed before its line is written
  pub line_row : {w₁ w₂ files files' warnings warnings' : List ℕ} {t : StoredFiles} {file : FileIndex} {st' : Converting} → c.lines + st.count * line_size + line_size ≤ length w
      → KeptBut w w₁ (written c st line_size) → length w₁ ≡ length w → Grown main supplementary w w₁ files files' st.table t
      → Unnamed (unit_at main c) (header_in main c) (indices_in w₁ c.indices)
      → convert_row (unit_at main c) (header_in main c) (offsets_of w c) (raw_of r) (converted_in main supplementary w c st [])
      ≡ done (convert_line (offsets_of w c) (raw_of r) file (lined_in w c st.count (table_of main supplementary w₁ t) (indices_in w₁ c.indices) []))
      → LineConverted w₁ w₂ warnings warnings' c (record { table = t; count = st.count; warned = st.warned }) r file st' → length w₂ ≡ length w₁
      → RowConverts main supplementary w w₂ files files' warnings warnings' c st r (Ok st')
  unfolding converted_in indices_of
  line_row {w₁} {w₂} {files} {files'} {t = t} {file = file} {st' = st'} room K size G named is L size₂ =
      let a = C.table in
      let b = C.offsets in
      let d = C.directories in
      let i = C.indices in
      let gb = G.base in
      let gr = G.room in
      let more = L.more in
      let K₁ = but_one L.rest in
      let K₂ : KeptBut w w₂ (written c st line_size) = but_trans K (but_of L.rest (there (there (here (omega arith) (omega arith))))) in
      let clear : t.base + extent t ≤ c.lines + st.count * line_size = omega arith in
      let G₂ : Grown main supplementary w w₂ files files' st.table st'.table = rw L.table_same (grown-kept G K₁ (inl clear, tt) size₂) in
      let tables : table_of main supplementary w₁ t ≡ table_of main supplementary w₂ st'.table = rw L.table_same (sym (table_kept G.holds K₁ (inl clear, tt))) in
      let maps : indices_in w₂ c.indices ≡ indices_in w₁ c.indices = records-but index_of 5 c.indices.base c.indices.count K₁ (inl (omega arith), tt) in
      let line = rw (offsets-kept C line_size K, lines_same C line_size K) at (L.is (table_of main supplementary w₁ t) (indices_in w₁ c.indices)) in
      record {
        is = record {
          new = L.new;
          is = is ∙ ap done (line ∙ (λ j. record { table = tables j; indices = sym maps j; lines = lines_of w₂ c.lines st'.count; warnings = L.new }));
          grown = G₂;
          put = L.put;
          holds = conversion-kept C line_size K₂ (size₂ ∙ size) G₂ (rw maps named) (omega arith);
          more = more;
        };
        rest = K₂;
      }

  -- it has one in the map
  pub row-known : {w₂ files warnings warnings' : List ℕ} {file : FileIndex} {st' : Converting} → c.lines + st.count * line_size + line_size ≤ length w → length files < top
      → number_of (Some file) ≡ get (indices_in w c.indices) r.file.0
      → LineConverted w w₂ warnings warnings' c st r file st' → length w₂ ≡ length w → RowConverts main supplementary w w₂ files files warnings warnings' c st r (Ok st')
  unfolding convert_row converted_in
  row-known room small found L size = line_row room (but_refl w _) refl (grown-none C.files small) C.unnamed (rw (sym found)) L size

  -- its line is appended
  pub row_appended : {w₂ files warnings : List ℕ} → c.lines + st.count * line_size + line_size ≤ length w → length files < top → st.warned ≤ top
      → length warnings < top
      → KnownConverted w w₂ c r st.count → length w₂ ≡ length w
      → RowConverts main supplementary w w₂ files files warnings warnings c st r (Ok (record { table = st.table; count = st.count + 1; warned = st.warned }))
  row_appended room small fits small' K size = row-known room small (sym K.known) (line-put K.line fits small') size

  -- ---- a row whose file has none

  -- nothing is written to the map or for a line
  pub still : {w₁ files files' warnings warnings' : List ℕ} {n : ℕ} (new : List Warning) → KeptBut w w₁ (written c st line_size) → length w₁ ≡ length w → Grown main supplementary w w₁ files files' st.table st.table
      → indices_in w₁ c.indices ≡ indices_in w c.indices
      → convert_row (unit_at main c) (header_in main c) (offsets_of w c) (raw_of r) (converted_in main supplementary w c st [])
      ≡ done (lined_in w c st.count (table_of main supplementary w₁ st.table) (indices_in w c.indices) new)
      → Put st.warned (warnings_bytes new) warnings warnings' n
      → RowConverts main supplementary w w₁ files files' warnings warnings' c st r (Ok (record { table = st.table; count = st.count; warned = n }))
  unfolding converted_in
  still {w₁} new K size G maps is P = record {
    is = record {
      new = new;
      is = is ∙ ap done (λ j. record { table = table_of main supplementary w₁ st.table; indices = sym maps j; lines = sym (lines_same C line_size K) j; warnings = new });
      grown = G;
      put = P;
      holds = conversion-kept C line_size K size G (rw maps C.unnamed) C.lines;
      more = (omega arith, omega arith);
    };
    rest = K;
  }

  module _ (unknown : get (indices_in w c.indices) r.file.0 ≡ none) where
    -- nor a file in the header
    pub row-missing : {files warnings warnings' : List ℕ} {n : ℕ} {q : SoughtFile} → length files < top → q ≡ sought_of c r.file.0 → q ≡ SoughtFile.Missing
        → Put st.warned (encode 0x46 ((6 ∷ []) ++ bytes_of 8 r.address ++ bytes_of 8 r.file.0)) warnings warnings' n
        → RowConverts main supplementary w w files files warnings warnings' c st r (Ok (record { table = st.table; count = st.count; warned = n }))
    unfolding convert_row converted_in kind_number
    row-missing small found e P =
        still (about missing_line_file r.address r.file.0 ∷ []) (but_refl w _) refl (grown-none C.files small) refl (rw (unknown, is-missing C r.file.0 found e))
        (about-put missing_line_file 6 r.address r.file.0 refl P)

    -- a file with no path
    pub row-unnamed : {files warnings : List ℕ} {q : SoughtFile} → length files < top → st.warned ≤ top → length warnings < top → q ≡ sought_of c r.file.0 → q ≡ SoughtFile.Unnamed
        → RowConverts main supplementary w w files files warnings warnings c st r (Ok st)
    unfolding convert_row converted_in intern_file ◌>>=◌
    row-unnamed small fits small' found e =
        let N = is-unnamed C r.file.0 found e unknown in
        still [] (but_refl w _) refl (grown-none C.files small) refl (rw (unknown, N.is, N.none_named)) (none-put fits small')
