-- The loop that converts rows, wherever they come from: its start, its turns and its ends, over a list of the rows that are left.
use mathlib.Core.Path.{◌≡◌, refl, ◌∙◌}
use mathlib.Core.Bool.{cond}
use mathlib.Core.Logic.{inl, inr, ⊎_elim}
use mathlib.Core.List.{List, [], ◌∷◌, ◌++◌, append-nil}
use Prim.Native.Nat.{ℕ, zero, suc, ◌+◌, ◌-◌, ◌*◌, ◌≤◌, ◌<◌}
use native.Mathlib.Omega.{arith}
use lib.Dec.{eqb}
use lib.ListN.{length}
use borrow.Author.Tests.{eq-eqb, ne_eqb}
use Rattle.std.specs.Prelude.{Result, Ok, Err}
use Rattle.tlv.specs.declared.refusal.Refusal.{Refusal}
use Rattle.tlv.specs.Refusals.{number_of}
use Rattle.tlv.specs.Outcome.{done, ◌>>=◌}
use Rattle.tlv.specs.Model.{CompilationUnit, LineHeader, LineRow}
use Rattle.buffers.specs.Buffer.{top, Put}
use Rattle.buffers.specs.Table.{KeptBut}
use Rattle.buffers.specs.Output.{Warning, warnings_bytes}
use Rattle.buffers.proofs.BufferLaws.{◌then◌, put_as}
use Rattle.buffers.proofs.TableLaws.{but_refl, but_trans}
use Rattle.lines.specs.Lines.{raw_line, Converted, convert_row}
use Rattle.files.specs.Store.{Grown}
use Rattle.files.proofs.GrownLaws.{grown-none, grown-trans}
use Rattle.rows.specs.Sizes.{line_size}
use Rattle.collect.specs.declared.convert.Conversion.{Conversion}
use Rattle.collect.specs.declared.convert.Converting.{Converting}
use Rattle.collect.specs.declared.convert.Row.{Row}
use Rattle.collect.specs.Passes.{convert_from}
use Rattle.collect.specs.Converts.{unit_at, header_in, offsets_of, converted_in, ConversionIn, raw_of, KnownConverted, RowConverted, RowConverts, RowsConvert}
use Rattle.collect.proofs.PrefixLaws.{convert_row-prefix, convert_row-prefix-refused}
use Rattle.collect.proofs.LineLaws.{none-put, warnings-append}
use Rattle.collect.proofs.ConvertLaws.{written, offsets-kept, row_appended}

-- ---- one row, on the definitions

module _ (u : CompilationUnit) (h : LineHeader) (offsets : List ℕ) (n : ℕ) (c : Converted) where
  from-none : (left : ℕ) → convert_from u h offsets [] n left c ≡ done c
  unfolding convert_from
  from-none zero = refl
  from-none (suc left) = refl

  from_row : (r : LineRow) (rs : List LineRow) (left : ℕ) → (left ≡ 0 → ⊥)
      → convert_from u h offsets (r ∷ rs) n left c
      ≡ cond (eqb r.kind 1) (convert_from u h offsets rs (n + 1) left c)
      (convert_row u h offsets (raw_line r n) c >>= convert_from u h offsets rs n (left - 1))
  unfolding convert_from
  from_row r rs zero e = absurd (e refl)
  from_row r rs (suc left) e = let less : suc left - 1 ≡ left = omega arith in rw less

-- ---- the loop: the rows `rest`, `more` of them, with what the others have become, give what was asked of all

pub record ConvertingList (main supplementary w₀ w files₀ files warnings₀ warnings : List ℕ) (c : Conversion) (st₀ st : Converting) (all rest : List LineRow)
    (left n more : ℕ) : Type 0 where
  pub new : List Warning
  pub same : convert_from (unit_at main c) (header_in main c) (offsets_of w₀ c) all 0 left (converted_in main supplementary w₀ c st₀ [])
      ≡ convert_from (unit_at main c) (header_in main c) (offsets_of w₀ c) rest n more (converted_in main supplementary w c st new)
  pub grown : Grown main supplementary w₀ w files₀ files st₀.table st.table
  pub put : Put st₀.warned (warnings_bytes new) warnings₀ warnings st.warned
  pub start : ConversionIn main supplementary w₀ c st₀
  pub holds : ConversionIn main supplementary w c st
  pub least : st₀.count ≤ st.count
  pub most : st.count + more ≤ st₀.count + left
  pub kept : KeptBut w₀ w (written c st₀ (left * line_size))
  pub room : c.lines + st₀.count * line_size + left * line_size ≤ length w
  pub size : length w ≡ length w₀
  pub files-size : length files ≡ length files₀
  pub warnings-size : length warnings ≡ length warnings₀

pub list-start : {main supplementary w files warnings : List ℕ} {c : Conversion} {st : Converting} {left : ℕ} (all : List LineRow)
    → ConversionIn main supplementary w c st → c.lines + st.count * line_size + left * line_size ≤ length w → length files < top → st.warned ≤ top
    → length warnings < top → ConvertingList main supplementary w w files files warnings warnings c st st all all left 0 left
list-start {w = w} all C room small fits small' = record {
  new = [];
  same = refl;
  grown = grown-none C.files small;
  put = none-put fits small';
  start = C;
  holds = C;
  least = omega arith;
  most = omega arith;
  kept = but_refl w _;
  room = room;
  size = refl;
  files-size = refl;
  warnings-size = refl;
}

module _ {main supplementary w₀ w files₀ files warnings₀ warnings : List ℕ} {c : Conversion} {st₀ st : Converting} {all rest : List LineRow} {left n more : ℕ}
    (J : ConvertingList main supplementary w₀ w files₀ files warnings₀ warnings c st₀ st all rest left n more) where
  -- nothing was written
  pub list_same : {w' : List ℕ} → w' ≡ w → ConvertingList main supplementary w₀ w' files₀ files warnings₀ warnings c st₀ st all rest left n more
  list_same same = rw same J

  finished : convert_from (unit_at main c) (header_in main c) (offsets_of w₀ c) rest n more (converted_in main supplementary w c st J.new)
      ≡ done (converted_in main supplementary w c st J.new)
      → RowsConvert all main supplementary w₀ w files₀ files warnings₀ warnings c st₀ left (Ok st)
  finished e =
      let most = J.most in
      record { is = record { new = J.new; is = J.same ∙ e; grown = J.grown; put = J.put; holds = J.holds; more = omega arith }; rest = J.kept }

  -- enough rows
  pub list_full : more ≡ 0 → RowsConvert all main supplementary w₀ w files₀ files warnings₀ warnings c st₀ left (Ok st)
  unfolding convert_from
  list_full e = finished (rw e)

  -- no more rows
  pub list_over : rest ≡ [] → RowsConvert all main supplementary w₀ w files₀ files warnings₀ warnings c st₀ left (Ok st)
  list_over e =
      finished (rw e (from-none (unit_at main c) (header_in main c) (offsets_of w₀ c) n (converted_in main supplementary w c st J.new) more))

  module _ {r : LineRow} {rs : List LineRow} (e : rest ≡ r ∷ rs) (some_left : more ≡ 0 → ⊥) where
    turn : convert_from (unit_at main c) (header_in main c) (offsets_of w₀ c) rest n more (converted_in main supplementary w c st J.new)
        ≡ cond (eqb r.kind 1)
        (convert_from (unit_at main c) (header_in main c) (offsets_of w₀ c) rs (n + 1) more (converted_in main supplementary w c st J.new))
        (convert_row (unit_at main c) (header_in main c) (offsets_of w₀ c) (raw_line r n) (converted_in main supplementary w c st J.new)
        >>= convert_from (unit_at main c) (header_in main c) (offsets_of w₀ c) rs n (more - 1))
    turn =
        rw e (from_row (unit_at main c) (header_in main c) (offsets_of w₀ c) n (converted_in main supplementary w c st J.new) r rs more some_left)

    -- an end of sequence
    pub list-ended : r.kind ≡ 1 → ConvertingList main supplementary w₀ w files₀ files warnings₀ warnings c st₀ st all rs left (n + 1) more
    list-ended one = record {
      new = J.new;
      same = J.same ∙ turn ∙ rw (eq-eqb r.kind 1 one);
      grown = J.grown;
      put = J.put;
      start = J.start;
      holds = J.holds;
      least = J.least;
      most = J.most;
      kept = J.kept;
      room = J.room;
      size = J.size;
      files-size = J.files-size;
      warnings-size = J.warnings-size;
    }

    module _ (plain : r.kind ≡ 1 → ⊥) {row : Row} (is_row : raw_of row ≡ raw_line r n) where
      converted_row : convert_from (unit_at main c) (header_in main c) (offsets_of w₀ c) rest n more (converted_in main supplementary w c st J.new)
          ≡ (convert_row (unit_at main c) (header_in main c) (offsets_of w c) (raw_of row) (converted_in main supplementary w c st J.new)
          >>= convert_from (unit_at main c) (header_in main c) (offsets_of w₀ c) rs n (more - 1))
      converted_row = turn ∙ rw (ne_eqb r.kind 1 plain, is_row, offsets-kept J.start (left * line_size) J.kept)

      module _ {w' files' warnings' : List ℕ} {q : Result Converting Refusal} (A : RowConverts main supplementary w w' files files' warnings warnings' c st row q) where
        -- what the row may write, the rows may
        rows-rest : KeptBut w₀ w' (written c st₀ (left * line_size))
        rows-rest =
            let gb = J.grown.base in
            let gr = J.grown.room in
            let least = J.least in
            let most = J.most in
            but_trans J.kept (record {
              same = λ a k z.
                  A.rest.same a k (rw (gb, gr) z.0, (z.1.0, (⊎_elim (λ l. inl (omega arith)) (λ l. inr (omega arith)) z.1.1.0, tt)));
            })

      module _ {w' files' warnings' : List ℕ} {k : Refusal} (A : RowConverts main supplementary w w' files files' warnings warnings' c st row (Err k)) where
        pub list-refused : RowsConvert all main supplementary w₀ w' files₀ files' warnings₀ warnings' c st₀ left (Err k)
        unfolding converted_in ◌>>=◌
        list-refused =
            let whole = rw append-nil at (convert_row-prefix-refused (unit_at main c) (header_in main c) (offsets_of w c) (raw_of row) J.new
            (converted_in main supplementary w c st []) (number_of k) A.is) in
            record { is = J.same ∙ converted_row ∙ rw whole; rest = rows-rest A }

      module _ {w' files' warnings' : List ℕ} {st' : Converting} (R' : RowConverts main supplementary w w' files files' warnings warnings' c st row (Ok st')) where
        pub list-more : length w' ≡ length w → length files' ≡ length files → length warnings' ≡ length warnings
            → ConvertingList main supplementary w₀ w' files₀ files' warnings₀ warnings' c st₀ st' all rs left n (more - 1)
        unfolding converted_in ◌>>=◌
        list-more size files-size warnings-size =
            let R : RowConverted main supplementary w w' files files' warnings warnings' c st row st' = R'.is in
            let whole = rw append-nil at (convert_row-prefix (unit_at main c) (header_in main c) (offsets_of w c) (raw_of row) J.new
            (converted_in main supplementary w c st []) (converted_in main supplementary w' c st' R.new) R.is) in
            let least = J.least in
            let most = J.most in
            let grows = R.more in
            let up = grows.0 in
            let one = grows.1 in
            record {
              new = J.new ++ R.new;
              same = J.same ∙ converted_row ∙ rw whole;
              grown = grown-trans J.grown R.grown;
              put = put_as (warnings-append J.new R.new) (J.put then R.put);
              start = J.start;
              holds = R.holds;
              least = omega arith;
              most = omega arith;
              kept = rows-rest R';
              room = rw size J.room;
              size = size ∙ J.size;
              files-size = files-size ∙ J.files-size;
              warnings-size = warnings-size ∙ J.warnings-size;
            }

      -- its line is appended
      pub list-known : {w' : List ℕ} → KnownConverted w w' c row st.count → length w' ≡ length w
          → ConvertingList main supplementary w₀ w' files₀ files warnings₀ warnings c st₀
          (record { table = st.table; count = st.count + 1; warned = st.warned }) all rs left n (more - 1)
      list-known K size =
          let most = J.most in
          let room = J.room in
          let warned = J.put.place in
          let small = J.put.small in
          let same = J.warnings-size in
          let files-small = J.grown.put.small in
          let files-same = J.files-size in
          list-more (row_appended J.holds row (omega arith) (omega arith) (omega arith) (omega arith) K size) size refl refl
