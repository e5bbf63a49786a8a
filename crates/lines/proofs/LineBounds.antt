-- The lines of a unit, its files and its warnings fit their fields.
use mathlib.Core.Path.{◌≡◌, subst}
use mathlib.Core.List.{List, [], ◌∷◌}
use mathlib.Core.Option.{Option, none, some}
use Prim.Native.Nat.{ℕ, ◌^◌, ◌<◌}
use native.Mathlib.Omega.{arith}
use borrow.Author.Tests.{ltb-true}
use lib.ListN.{length}
use lib.Dec.{ltb, eqb}
use Rattle.tlv.specs.declared.model.FileIndex.{FileIndex}
use Rattle.tlv.specs.Outcome.{done}
use Rattle.tlv.specs.Lists.{All, at}
use Rattle.tlv.specs.Model.{CompilationUnit, LineHeader, HeaderFile, LineRow}
use Rattle.tlv.specs.Accepted.{Given, String, RowAccepted, UnitAccepted}
use Rattle.tlv.proofs.TestLaws.{by_test}
use Rattle.tlv.proofs.ListLaws.{all_append, all_set}
use Rattle.tlv.proofs.SortLaws.{all-sort}
use Rattle.tlv.proofs.OutcomeLaws.{with_done, done-is, Gives, gives, gives-bind}
use Rattle.buffers.specs.Output.{Warning, about, missing_line_file, unrepresentable_line}
use Rattle.buffers.specs.Fits.{LineFits, WarningFits}
use Rattle.line_program.specs.Program.{line_sequence_offsets}
use Rattle.lines.specs.Files.{FileTable, intern_header_files, get, insert_index, header_file}
use Rattle.lines.specs.Lines.{RawLine, Run, run_rows, SequencedLine, Converted, with_warning, with_line, convert_line, convert_interned, convert_looked_up, convert_known, convert_row, convert_rows, sort_rows, same_row, Collected, mismatch, unit_lines, collect_header}
use Rattle.lines.proofs.Bounds.{TableFits, IndexFits, IndicesFit, Sorted, LinesFit, CollectedFits}
use Rattle.lines.proofs.OrderLaws.{all-drop_neighbours, ascending-drop_neighbours, sorting_rows, sort_sorted}
use Rattle.lines.proofs.FileBounds.{intern_file-fits, intern_header_fits, get-fits, header_file-string}
use Rattle.lines.proofs.RunBounds.{RawFits, run_rows-fit, offsets-few}

abbrev EntryFits : SequencedLine → Type 0
EntryFits x = LineFits x.entry

-- what the rows so far have become fits
record ConvertedFits (c : Converted) : Type 0 where
  pub table : TableFits c.table
  pub indices : IndicesFit c.indices
  pub lines : All EntryFits c.lines
  pub warnings : All WarningFits c.warnings

-- ---- one row

with_warning-fits : (c : Converted) (w : Warning) → ConvertedFits c → WarningFits w → ConvertedFits (with_warning c w)
with_warning-fits c w f g = record { table = f.table; indices = f.indices; lines = f.lines; warnings = all_append WarningFits c.warnings (w ∷ []) f.warnings (g, tt) }

with_line-fits : (c : Converted) (l : SequencedLine) → ConvertedFits c → EntryFits l → ConvertedFits (with_line c l)
with_line-fits c l f g = record { table = f.table; indices = f.indices; lines = all_append EntryFits c.lines (l ∷ []) f.lines (g, tt); warnings = f.warnings }

convert_line-fits : (offsets : List ℕ) (r : RawLine) (file : FileIndex) (c : Converted)
    → RawFits r → IndexFits file → ConvertedFits c → ConvertedFits (convert_line offsets r file c)
unfolding convert_line
convert_line-fits offsets r file c raw number f =
    let line : SequencedLine = record { entry = record { address = r.address; file = file; line = r.line; column = r.column }; statement_sequence = at offsets r.sequence } in
    by_test ConvertedFits (ltb r.line (2 ^ 32)) (λ e. with_line-fits c line f (record { address = raw.address; file = number; line = ltb-true r.line (2 ^ 32) e; column = raw.column }))
    (λ e. with_warning-fits c (about unrepresentable_line r.address r.line) f (raw.address, raw.line))

convert_interned-fits : (offsets : List ℕ) (r : RawLine) (c : Converted) (t : FileTable) (o : Option FileIndex)
    → RawFits r → ConvertedFits c → TableFits t → Given IndexFits o → ConvertedFits (convert_interned offsets r c t o)
convert_interned-fits offsets r c t none raw f k number = f
convert_interned-fits offsets r c t (some file) raw f k number =
    convert_line-fits offsets r file (record { table = t; indices = insert_index c.indices r.file file; lines = c.lines; warnings = c.warnings }) raw number
    (record { table = k; indices = all_set (Given IndexFits) c.indices r.file (some file) number f.indices; lines = f.lines; warnings = f.warnings })

module _ (u : CompilationUnit) (h : LineHeader) (offsets : List ℕ) (accepted : UnitAccepted u) where
  convert_row-fits : (r : RawLine) (c : Converted) → RawFits r → ConvertedFits c → Gives ConvertedFits (convert_row u h offsets r c)
  unfolding convert_row
  convert_row-fits r c raw f = known (get c.indices r.file) (get-fits c.indices r.file f.indices)
    where
      looked : (o : Option HeaderFile) → Given (λ x. String x.path) o → Gives ConvertedFits (convert_looked_up u h offsets r c o)
      looked none s = gives (with_warning-fits c (about missing_line_file r.address r.file) f (raw.address, raw.file))
      looked (some x) s = gives-bind (intern_file-fits u h c.table x accepted f.table s) λ i k. gives (convert_interned-fits offsets r c i.table i.number raw f k.0 k.1)

      known : (o : Option FileIndex) → Given IndexFits o → Gives ConvertedFits (convert_known u h offsets r c o)
      known none number = looked (header_file u h r.file) (header_file-string u h r.file accepted)
      known (some file) number = gives (convert_line-fits offsets r file c raw number f)

  convert_rows-fit : (rs : List RawLine) (c : Converted) → All RawFits rs → ConvertedFits c → Gives ConvertedFits (convert_rows u h offsets rs c)
  unfolding convert_rows
  convert_rows-fit [] c raws f = gives f
  convert_rows-fit (r ∷ rs) c raws f = let later = convert_rows-fit rs in gives-bind (convert_row-fits r c raws.0 f) λ d g. later d raws.1 g

-- ---- the unit

mismatch-fits : (n m : ℕ) → n < 2 ^ 64 → m < 2 ^ 64 → All WarningFits (mismatch n m)
mismatch-fits n m k l = by_test (All WarningFits) (eqb m n) (λ e. tt) (λ e. ((k, l), tt))

unit_lines-sorted : (offsets : List ℕ) (run : Run) (c : Converted) → Sorted 0 (unit_lines offsets run c).entries
unit_lines-sorted offsets run c = ascending-drop_neighbours (λ x. x.entry.address) same_row 0 (sort_rows c.lines) (sort_sorted c.lines)

unit_lines-fit : (offsets : List ℕ) (run : Run) (c : Converted) → ConvertedFits c → LinesFit (unit_lines offsets run c)
unit_lines-fit offsets run c f = record {
  entries = all-drop_neighbours EntryFits same_row (sort_rows c.lines) ((all-sort sorting_rows EntryFits c.lines).1 f.lines);
  sorted = unit_lines-sorted offsets run c;
  files = f.indices;
}

-- whatever rows were read, if they fit
pub header-fits : (u : CompilationUnit) (h : LineHeader) (program : List ℕ) (rows : List LineRow) (t : FileTable) → UnitAccepted u → All RowAccepted rows
    → length rows < 2 ^ 64 → length program < 2 ^ 64 → TableFits t → Gives CollectedFits (collect_header u h program rows t)
unfolding collect_header
header-fits u h program rows t accepted fit few short fits =
    gives-bind (run_rows-fit (length rows) rows 0 [] (omega arith) fit tt) λ run k.
    gives-bind (offsets-few h program) λ offsets l.
    gives-bind (intern_header_fits u h t accepted fits) λ i f.
    let warnings = mismatch-fits run.count (length offsets) (omega (arith, k.count)) (omega arith) in
    gives-bind (convert_rows-fit u h offsets accepted run.lines _ k.lines (record {
      table = f.table;
      indices = f.indices;
      lines = tt;
      warnings = warnings;
    })) λ d g.
    gives (record { table = g.table; lines = unit_lines-fit offsets run d g; warnings = g.warnings })

-- the table is sorted, whatever the unit and the rows
pub header-sorted : (u : CompilationUnit) (h : LineHeader) (program : List ℕ) (rows : List LineRow) (t : FileTable) (c : Collected)
    → collect_header u h program rows t ≡ done c → Sorted 0 c.lines.entries
unfolding collect_header
header-sorted u h program rows t c q =
    with_done (run_rows rows 0 []) _ q λ run _ q₁.
    with_done (line_sequence_offsets h program) _ q₁ λ offsets _ q₂.
    with_done (intern_header_files u h t) _ q₂ λ i _ q₃.
    let begun : Converted = record { table = i.table; indices = i.indices; lines = []; warnings = mismatch run.count (length offsets) } in
    with_done (convert_rows u h offsets run.lines begun) _ q₃ λ d _ q₄.
    subst (λ (x : Collected). Sorted 0 x.lines.entries) (done-is q₄) (unit_lines-sorted offsets run d)
