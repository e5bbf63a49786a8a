-- The loop that converts a unit's rows: its start, its turns and its ends.
use mathlib.Core.Path.{◌≡◌, sym, ap, subst, ◌∙◌}
use mathlib.Core.Bool.{true, false}
use mathlib.Core.Logic.{inr}
use mathlib.Core.List.{List, [], ◌∷◌}
use Prim.Native.Nat.{ℕ, ◌+◌, ◌-◌, ◌*◌, ◌≤◌, ◌<◌}
use native.Mathlib.Omega.{arith}
use lib.ListN.{length}
use borrow.Author.Tests.{eqb-true, eqb-false}
use Rattle.std.specs.Prelude.{Ok, Err}
use Rattle.tlv.specs.declared.refusal.Refusal.{Refusal}
use Rattle.tlv.specs.Model.{LineRow}
use Rattle.buffers.specs.Buffer.{top}
use Rattle.buffers.specs.Table.{Clear}
use Rattle.rows.specs.Sizes.{line_size}
use Rattle.collect.specs.declared.convert.Conversion.{Conversion}
use Rattle.collect.specs.declared.convert.Converting.{Converting}
use Rattle.collect.specs.declared.unit_rows.UnitRows.{UnitRows}
use Rattle.collect.specs.declared.unit_rows.FoundRow.{FoundRow}
use Rattle.collect.specs.Sources.{rows_here, RowsReady}
use Rattle.collect.specs.Walks.{begin_at, RowFound}
use Rattle.collect.specs.Converts.{ConversionIn, KnownConverted, RowConverts, RowsConvert}
use Rattle.collect.proofs.ConvertLaws.{written}
use Rattle.collect.proofs.UnitRowsLaws.{rows-still, ready-still}
use Rattle.collect.proofs.ConvertingList.{ConvertingList, list-start, list_full, list_over, list-ended, list-refused, list-more, list-known}

-- where the lines end that the rows can become
abbrev lines_end : Conversion → Converting → ℕ → ℕ
lines_end c st left = c.lines + st.count * line_size + left * line_size

-- the rows `rest` are left of all; a table of them stands above the lines
pub record ConvertingRows (main supplementary w₀ w files₀ files warnings₀ warnings : List ℕ) (c : Conversion) (st₀ st : Converting) (rows rest : UnitRows)
    (left n more : ℕ) : Type 0 where
  pub list : ConvertingList main supplementary w₀ w files₀ files warnings₀ warnings c st₀ st (rows_here main w₀ rows) (rows_here main w₀ rest) left n more
  pub ready : RowsReady main w₀ (lines_end c st₀ left) rest
  pub small : n ≤ begin_at rest

pub converting-start : {main supplementary w files warnings : List ℕ} {c : Conversion} {st : Converting} {rows : UnitRows} {left : ℕ}
    → RowsReady main w (lines_end c st left) rows → ConversionIn main supplementary w c st → lines_end c st left ≤ length w
    → length files < top → st.warned ≤ top → length warnings < top
    → ConvertingRows main supplementary w w files files warnings warnings c st st rows rows left 0 left
converting-start {main} {w = w} {rows = rows} R C room small fits small' = record {
  list = list-start (rows_here main w rows) C room small fits small';
  ready = R;
  small = omega arith;
}

module _ {main supplementary w₀ w files₀ files warnings₀ warnings : List ℕ} {c : Conversion} {st₀ st : Converting} {rows rest : UnitRows} {left n more : ℕ}
    (J : ConvertingRows main supplementary w₀ w files₀ files warnings₀ warnings c st₀ st rows rest left n more) where
  -- what was written lies below a table of rows
  below : (q k : ℕ) → lines_end c st₀ left ≤ q → Clear q k (written c st₀ (left * line_size))
  below q k h =
      let S = J.list.start in
      let a = S.table in
      let b = S.offsets in
      let d = S.directories in
      let m = S.indices in
      (inr (omega arith), (inr (omega arith), (inr (omega arith), tt)))

  still : (rs : UnitRows) → RowsReady main w₀ (lines_end c st₀ left) rs → rows_here main w rs ≡ rows_here main w₀ rs
  still rs R = rows-still rs R J.list.kept below

  -- enough rows
  pub converting-full : more ≡ 0 → RowsConvert (rows_here main w₀ rows) main supplementary w₀ w files₀ files warnings₀ warnings c st₀ left (Ok st)
  converting-full e = list_full J.list e

  -- no more rows
  pub converting-over : rows_here main w rest ≡ [] → RowsConvert (rows_here main w₀ rows) main supplementary w₀ w files₀ files warnings₀ warnings c st₀ left (Ok st)
  converting-over e = list_over J.list (sym (still rest J.ready) ∙ e)

  module _ {f : FoundRow} (N : RowFound main w rest n f) (some_left : more ≡ 0 → ⊥) where
    abbrev low : ℕ
    low = lines_end c st₀ left

    ready-next : RowsReady main w₀ (lines_end c st₀ left) f.rest
    ready-next = ready-still f.rest (N.ready low (ready-still {low = low} {low' = low} rest J.ready (omega arith) J.list.size)) (omega arith) (sym J.list.size)

    here : rows_here main w₀ rest ≡ N.row ∷ rows_here main w₀ f.rest
    here = sym (still rest J.ready) ∙ N.is ∙ ap (λ (rs : List LineRow). N.row ∷ rs) (still f.rest ready-next)

    small-next : n + 1 ≤ begin_at f.rest
    small-next = omega (arith, J.small, N.behind)

    -- an end of sequence
    pub converting-ended : f.ends ≡ true
        → ConvertingRows main supplementary w₀ w files₀ files warnings₀ warnings c st₀ st rows f.rest left (n + 1) more
    converting-ended one = record {
      list = list-ended J.list here some_left (eqb-true N.row.kind 1 (sym N.ends ∙ one));
      ready = ready-next;
      small = small-next;
    }

    module _ (plain : f.ends ≡ false) where
      no_end : N.row.kind ≡ 1 → ⊥
      no_end = eqb-false N.row.kind 1 (sym N.ends ∙ plain)

      -- its line is appended
      pub converting-known : {w' : List ℕ} → KnownConverted w w' c f.row st.count → length w' ≡ length w
          → ConvertingRows main supplementary w₀ w' files₀ files warnings₀ warnings c st₀
          (record { table = st.table; count = st.count + 1; warned = st.warned }) rows f.rest left n (more - 1)
      converting-known K size = record {
        list = list-known J.list here some_left no_end N.raw K size;
        ready = ready-next;
        small = omega (arith, small-next);
      }

      -- or, as nothing was written for it yet, it is converted
      module _ {w₁ : List ℕ} (same : w₁ ≡ w) {w' files' warnings' : List ℕ} where
        pub converting-refused : {k : Refusal} → RowConverts main supplementary w₁ w' files files' warnings warnings' c st f.row (Err k)
            → RowsConvert (rows_here main w₀ rows) main supplementary w₀ w' files₀ files' warnings₀ warnings' c st₀ left (Err k)
        converting-refused {k} A = list-refused J.list here some_left no_end N.raw
            (subst (λ (x : List ℕ). RowConverts main supplementary x w' files files' warnings warnings' c st f.row (Err k)) same A)

        pub converting-more : {st' : Converting} → RowConverts main supplementary w₁ w' files files' warnings warnings' c st f.row (Ok st')
            → length w' ≡ length w₁ → length files' ≡ length files → length warnings' ≡ length warnings
            → ConvertingRows main supplementary w₀ w' files₀ files' warnings₀ warnings' c st₀ st' rows f.rest left n (more - 1)
        converting-more {st'} A size files-size warnings-size = record {
          list = list-more J.list here some_left no_end N.raw
              (subst (λ (x : List ℕ). RowConverts main supplementary x w' files files' warnings warnings' c st f.row (Ok st')) same A)
              (size ∙ ap length same) files-size warnings-size;
          ready = ready-next;
          small = omega (arith, small-next);
        }
