-- One step of a walk over a unit's rows: the next field or the front of a table, and the rows behind it.
use mathlib.Core.Path.{◌≡◌, refl, sym, ap, ◌∙◌}
use mathlib.Core.List.{List, [], ◌∷◌, ◌++◌}
use Prim.Native.Nat.{ℕ, ◌+◌, ◌-◌, ◌≤◌}
use native.Mathlib.Nat.{add-zero}
use native.Mathlib.Omega.{arith}
use lib.Dec.{eqb}
use lib.ListN.{length, take, drop}
use Rattle.std.specs.Prelude.{Some, None}
use Rattle.tlv.specs.declared.fields.FieldSpan.{FieldSpan}
use Rattle.tlv.specs.Grammar.{row_field_size, row_kind_at}
use Rattle.tlv.specs.Model.{LineRow, row_of}
use Rattle.buffers.specs.declared.table.Stored.{Stored}
use Rattle.buffers.specs.Table.{chunk}
use Rattle.buffers.proofs.ChunkLaws.{le_at-chunk}
use Rattle.buffers.proofs.RecordLaws.{records-nil, records-suc, records-add}
use Rattle.access.specs.Access.{NextOwn}
use Rattle.access.proofs.OwnLaws.{own-within, own-placed}
use Rattle.collect.specs.declared.convert.Row.{Row}
use Rattle.collect.specs.declared.unit_rows.UnitRows.{UnitRows}
use Rattle.collect.specs.declared.unit_rows.FoundRow.{FoundRow}
use Rattle.collect.specs.Tables.{table_rows}
use Rattle.collect.specs.Sources.{RowsReady}
use Rattle.collect.specs.Walks.{FoundAt, FindsRow}
use Rattle.collect.proofs.RowsFromLaws.{rows_end, rows_next, row-long, row_within, row-kind}

-- ---- the next field

module _ (main w : List ℕ) (rows : UnitRows) {p : ℕ} (is : rows ≡ UnitRows.Fields p) where
  pub no-field : (n : ℕ) → NextOwn main p 0x16 None → FindsRow main w rows n None
  no-field n own = rw is (rows_end main p own)

  module _ {f : FieldSpan} (own : NextOwn main p 0x16 (Some f)) (R : RowsReady main w 0 rows) where
    ready : RowsReady main w 0 (UnitRows.Fields p)
    ready = rw is at R

    pub field-within : f.start + row_field_size ≤ length main
    field-within = row_within main p f own ready.is

    pub found-field : {n : ℕ} {r : FoundRow} → FoundAt main f.start n (UnitRows.Fields f.next) r → FindsRow main w rows n (Some r)
    unfolding chunk
    found-field {n} {r} F = rw (is, F.rest_is) (record {
      row = row_of (take f.len (drop f.start main));
      is = rows_next main p f own;
      raw = F.raw ∙ rw (row-long main p f own ready.is);
      ends = F.ends ∙ ap (λ (k : ℕ). eqb k 1) (sym (row-kind main p f own ready.is _ refl));
      ready = λ low Q. record { is = own-placed main p 0x16 f own Q.is };
      behind = let x = own-within main p 0x16 f own in omega arith;
      within = let x = own-within main p 0x16 f own in omega arith;
    })

-- ---- the front of a table

-- a table is its first row and the others
table-front : (w : List ℕ) (at m : ℕ) → table_rows w at (1 + m) ≡ row_of (chunk w at row_field_size) ∷ table_rows w (at + row_field_size) m
table-front w at m =
    let one : table_rows w at 1 ≡ row_of (chunk w at row_field_size) ∷ [] =
    records-suc row_of row_field_size w at 0 ∙ rw (records-nil row_of row_field_size w at, add-zero at) in
    records-add row_of row_field_size w at 1 m ∙ ap (λ (rs : List LineRow). rs ++ table_rows w (at + row_field_size) m) one

module _ (main w : List ℕ) (rows : UnitRows) {t : Stored Row} (is : rows ≡ UnitRows.Table t) where
  pub no-row : (n : ℕ) → t.count ≡ 0 → FindsRow main w rows n None
  no-row n e = rw (is, e) (records-nil row_of row_field_size w t.base)

  module _ (some : t.count ≡ 0 → ⊥) (R : RowsReady main w 0 rows) where
    table-ready : RowsReady main w 0 (UnitRows.Table t)
    table-ready = rw is at R

    pub row-within : t.base + row_field_size ≤ length w
    row-within = omega (arith, table-ready.is.1)

    pub found-row : {n : ℕ} {r : FoundRow} {others : Stored Row} → others.base ≡ t.base + row_field_size → others.count ≡ t.count - 1
        → FoundAt w t.base n (UnitRows.Table others) r → FindsRow main w rows n (Some r)
    unfolding row_of
    found-row {n} {r} {others} from many F = let e : t.count ≡ 1 + (t.count - 1) = omega arith in rw (is, F.rest_is) (record {
      row = row_of (chunk w t.base row_field_size);
      is = rw (from, many) (ap (table_rows w t.base) e ∙ table-front w t.base (t.count - 1));
      raw = F.raw;
      ends = F.ends ∙ ap (λ (k : ℕ). eqb k 1) (sym (le_at-chunk 1 w t.base row_field_size row_kind_at (omega arith)));
      ready = λ low Q. record { is = (omega (arith, Q.is.0), omega (arith, Q.is.1)) };
      behind = omega arith;
      within = let x = row-within in omega arith;
    })
