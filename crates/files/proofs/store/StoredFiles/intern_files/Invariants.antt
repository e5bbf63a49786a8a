-- `store::StoredFiles::intern_files` meets its contract. The loop's invariant: what is left to intern, after the map so far, gives what was asked; the measure is what is
-- left of the sheet.
use Prim.Native.Nat.{◌-◌}
use lib.ListN.{length}
use Rattle.files.specs.Sheets.{sheet_in}
use Rattle.files.proofs.InterningLaws.{Interning}
use Rattle.files.proofs.store.StoredFiles.intern_files.Given as goal

abbrev pub invariant-loop-field : goal.invariant-loop-field
invariant-loop-field l = Interning l.sheets.main.now l.sheets.supplementary.now l.initial.work l.work l.initial.files l.files l.initial.table l.table (sheet_in l.sheets l.unit.source) l.unit l.map.base l.map.count l.count l.p

abbrev pub decreases-loop-field : goal.decreases-loop-field
decreases-loop-field l = length (sheet_in l.sheets l.unit.source) - l.p
