-- The context of a unit, made between its lines and the tables of both inputs.
use mathlib.Core.Path.{◌≡◌, refl, sym, ap, ◌∙◌}
use mathlib.Core.Bool.{Bool}
use mathlib.Core.Logic.{inl}
use mathlib.Core.List.{List}
use Prim.Native.Nat.{ℕ, ◌+◌, ◌-◌, ◌*◌, ◌/◌, ◌≤◌}
use native.Mathlib.Omega.{arith}
use lib.ListN.{length}
use Rattle.tlv.specs.declared.model.AddressRange.{AddressRange}
use Rattle.tlv.specs.declared.model.FileIndex.{FileIndex}
use Rattle.buffers.specs.declared.table.Stored.{Stored}
use Rattle.buffers.specs.Table.{Kept}
use Rattle.buffers.proofs.TableLaws.{kept-wide, but_one, but_of, here}
use Rattle.access.specs.Places.{unit_here}
use Rattle.files.specs.declared.sheets.Sheets.{Sheets}
use Rattle.files.specs.declared.store.StoredFiles.{StoredFiles}
use Rattle.files.specs.Store.{extent}
use Rattle.files.proofs.GrownLaws.{files-kept}
use Rattle.rows.specs.declared.unit_lines.StoredLines.{StoredLines}
use Rattle.rows.specs.Selects.{RowsIn}
use Rattle.rows.proofs.StoredLaws.{lines-kept}
use Rattle.rnglists.specs.declared.lists.RangeLists.{RangeLists}
use Rattle.collect.specs.Collects.{UnitIn}
use Rattle.references.specs.Names.{SearchIn}
use Rattle.references.proofs.KeyLaws.{keys-in_none}
use Rattle.dies.specs.Details.{third, list_room}
use Rattle.subprograms.specs.declared.model.ImportContext.{ImportContext}
use Rattle.subprograms.specs.Text.{TextIndexed}
use Rattle.subprograms.specs.Contexts.{Ordered}
use Rattle.subprograms.proofs.ContextLaws.{unit-of}
use Rattle.checks.specs.declared.layout.Layout.{Layout}
use Rattle.checks.specs.declared.layout.UnitLayout.{UnitLayout}
use Rattle.checks.specs.Layout.{UnitLaid}
use Rattle.checks.proofs.WorkLaws.{none-listed}
use Rattle.dwarf.specs.declared.tables.Indexes.{Indexes}
use Rattle.dwarf.specs.Tables.{TablesIn, LinesLaid, MakesContext}
use Rattle.dwarf.proofs.TablesLaws.{units-below, entries_within, other-units_below, other-entries_below, tables-kept}

abbrev pub context_made : Sheets → RangeLists → Layout → UnitLayout → Indexes → ℕ → StoredLines → Stored FileIndex → Bool → Bool → Stored AddressRange → ImportContext
context_made sheets ranges l p x unit lines indices inlines call_sites text = record {
  context = record {
    tables = record { sheets = sheets; main = x.main; supplementary = x.supplementary; keys = p.keys };
    lists = ranges;
    unit = unit;
    indices = indices;
    ranges = p.ranges;
    stack = p.stack;
    sites = p.sites;
    include_inlines = inlines;
    include_call_sites = call_sites;
    with_lists = l.with_lists;
  };
  lines = lines;
  text = text;
  spans = p.spans;
  room = l.span_room;
}

-- the executable ranges have room
pub text-room : {main supplementary program : List ℕ} {size unit : ℕ} {l : Layout} {p : UnitLayout} → UnitLaid main supplementary program size l unit p
    → p.text + 16 * length (unit_here main unit).text ≤ size
text-room P = let a = P.spans in let b = P.ranges in let c = P.stack in let d = P.sites in let e = P.keys in let g = P.room in omega arith

module _ {main supplementary program lists w w₁ : List ℕ} {l : Layout} {p : UnitLayout} {x : Indexes} {unit : ℕ} {lines : StoredLines} {indices : Stored FileIndex} {text : Stored AddressRange}
    (U : UnitIn main unit) (T : TablesIn main supplementary program lists w l x) (P : UnitLaid main supplementary program (length w) l unit p) (L : LinesLaid w l p lines indices)
    (X : TextIndexed main w w₁ unit p.text text) (size : length w₁ ≡ length w) where
  text-end : text.base + text.count * 16 ≤ p.spans
  text-end = let a = P.spans in let b = X.count in let c = X.base_is in omega arith

  made-rest : Kept w w₁ p.text (p.spans - p.text)
  made-rest = let a = text-end in let b = X.base_is in kept-wide p.text (p.spans - p.text) X.rest (omega arith) (omega arith)

  -- the file table lies below the unit's text
  files-below : l.files ≤ p.text
  files-below = let a = P.text in let b = T.laid.lines in omega arith

  walk-above : p.spans ≤ p.keys
  walk-above = let a = P.ranges in let b = P.stack in let c = P.sites in let d = P.keys in omega arith

  made-tables : TablesIn main supplementary program lists w₁ l x
  made-tables =
      let a = text-end in
      let b = files-below in
      let c = walk-above in
      let d = P.room in
      tables-kept T (but_of made-rest (here (omega arith) (omega arith))) size

  -- no target was followed yet
  search-made : (sheets : Sheets) → SearchIn main supplementary w₁ (record { sheets = sheets; main = x.main; supplementary = x.supplementary; keys = p.keys }) 0
  search-made sheets =
      let a = units-below made-tables in
      let b = entries_within made-tables in
      let c = other-units_below made-tables in
      let d = other-entries_below made-tables in
      let e = files-below in
      let g = text-end in
      let n = X.base_is in
      let h = walk-above in
      record {
        main-index = made-tables.of_main.index;
        supplementary-index = made-tables.of-supplementary.index;
        keys = keys-in_none (omega (arith, P.room, T.of_main.entry-count, T.of-supplementary.entry-count));
        main-units = omega arith;
        main-entries = omega arith;
        supplementary-units = omega arith;
        supplementary-entries = omega arith;
      }

  made-rows : RowsIn w₁ lines
  made-rows =
      let R = L.rows in
      let a = L.within in
      let b = R.lines in
      record {
        lines = b;
        sequences = R.sequences;
        buffer = omega (arith, R.buffer);
        sorted = rw (lines-kept lines.lines.base lines.lines.count made-rest (inl (omega arith))) R.sorted;
      }

  -- the file table stands below the lines
  table-apart : (t : StoredFiles) → t.base + extent t ≤ l.lines → t.base + extent t ≤ p.text
  table-apart t h = let a = L.from in let b = L.map in let c = L.rows.lines in let d = L.within in omega arith

  module _ (sheets : Sheets) (ranges : RangeLists) (main_same : sheets.main.now ≡ main) (supplementary_same : sheets.supplementary.now ≡ supplementary)
      (lists_same : ranges.lists.now ≡ lists) {addresses : List ℕ} (addresses_same : ranges.addresses.now ≡ addresses) (inlines call_sites : Bool) where
    abbrev made : ImportContext
    made = context_made sheets ranges l p x unit lines indices inlines call_sites text

    -- a third of the lists' bytes
    third-same : third ranges ≡ l.third
    third-same = ap (λ (s : List ℕ). length s / 3) lists_same ∙ sym T.laid.third-is

    made-ordered : {t : StoredFiles} → l.files ≤ t.base → t.base + extent t ≤ l.lines → Ordered main supplementary made t
    unfolding list_room
    made-ordered above h =
        let a = L.from in
        record {
          main-units = omega (arith, units-below T);
          main-entries = omega (arith, entries_within T);
          supplementary-units = omega (arith, other-units_below T);
          supplementary-entries = omega (arith, other-entries_below T);
          table = omega arith;
          indices = L.map;
          lines = L.sequences;
          sequences = L.rows.sequences;
          buffer = rw X.base_is L.within;
          text = text-end;
          spans = P.ranges;
          ranges = rw third-same P.stack;
          stack = P.sites;
          sites = P.keys;
          room-main = T.laid.room-main;
          room-supplementary = T.laid.room-supplementary;
        }

    pub makes-context : MakesContext main supplementary lists addresses w w₁ l p unit lines indices inlines call_sites made
    makes-context = record {
      context = λ t above h F. record {
        unit = U;
        tables = search-made sheets;
        rows = made-rows;
        text = X.table;
        files = files-kept F (but_one made-rest) (inl (table-apart t h), tt) size;
        ordered = made-ordered {t = t} above h;
        third = rw third-same T.laid.rooms.third;
        listless = λ e. none-listed main unit (unit-of U) (T.laid.tags.lists e);
      };
      main-is = main_same;
      supplementary-is = supplementary_same;
      lists_is = lists_same;
      addresses-is = addresses_same;
      unit-is = refl;
      lines-is = refl;
      indices-is = refl;
      inlines-is = refl;
      call_sites-is = refl;
      spans-is = refl;
      room-is = refl;
      ranges-is = refl;
      rest = made-rest;
    }
