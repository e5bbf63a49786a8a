-- `ImportContext::import_unit_details` meets its contract.
use Prim.Native.Nat.{◌-◌}
use lib.ListN.{length}
use Rattle.subprograms.specs.Contexts.{main_of, supplementary_of}
use Rattle.subprograms.specs.Outputs.{SameOutputs}
use Rattle.subprograms.proofs.units.UnitLaws.{Importing}
use Rattle.subprograms.proofs.model.ImportContext.import_unit_details.Given as goal

abbrev pub invariant-loop-field : goal.invariant-loop-field
invariant-loop-field l = record {
  importing : Importing (main_of l.self) (supplementary_of l.self) l.self.context.lists.lists.now l.self.context.lists.addresses.now l.self
      l.initial.work l.initial.outputs.records.now l.initial.outputs.files.now l.initial.outputs.warnings.now l.initial.state
      l.work l.outputs.records.now l.outputs.files.now l.outputs.warnings.now l.state l.at;
  same : SameOutputs l.initial.outputs l.outputs;
}

abbrev pub decreases-loop-field : goal.decreases-loop-field
decreases-loop-field l = length (main_of l.self) - l.at
