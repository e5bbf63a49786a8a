-- `unit::import_each` meets its contract. The loop's invariant: what was done so far, and the units that are left.
use mathlib.Core.Path.{◌≡◌}
use Rattle.subprograms.specs.Outputs.{SameOutputs}
use Rattle.dwarf.proofs.EachLaws.{ImportingUnits}
use Rattle.dwarf.proofs.unit.import_each.Given as goal

abbrev pub invariant-loop-k : goal.invariant-loop-k
invariant-loop-k l = record {
  units : l.units ≡ l.indexes.main.units.base;
  importing : ImportingUnits l.inputs.sheets.main.now l.inputs.sheets.supplementary.now l.inputs.program.now l.inputs.lists.lists.now l.inputs.lists.addresses.now l.indexes.layout l.indexes
      l.options.inlines l.options.call_sites l.fn.chosen.start l.fn.chosen.end
      l.initial.work l.initial.outputs.records.now l.initial.outputs.files.now l.initial.outputs.warnings.now l.initial.reached
      l.work l.outputs.records.now l.outputs.files.now l.outputs.warnings.now l.reached l.k-iterator.start;
  last : l.k-iterator.end ≡ l.fn.chosen.end;
  same : SameOutputs l.initial.outputs l.outputs;
}
