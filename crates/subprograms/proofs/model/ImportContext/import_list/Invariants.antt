-- `ImportContext::import_list` meets its contract. The loop's invariant: whoever imports the list from here on has imported all of it.
use Prim.Native.Nat.{◌-◌}
use lib.ListN.{length}
use Rattle.rnglists.specs.Sizes.{width_of}
use Rattle.subprograms.specs.Contexts.{main_of, supplementary_of}
use Rattle.subprograms.specs.Outputs.{SameOutputs}
use Rattle.subprograms.proofs.lists.ListStepLaws.{GoingList}
use Rattle.subprograms.proofs.model.ImportContext.import_list.Given as goal

abbrev pub invariant-loop-given : goal.invariant-loop-given
invariant-loop-given l = record {
  going : GoingList (main_of l.self) (supplementary_of l.self) l.self.context.lists.lists.now l.self.context.lists.addresses.now l.self l.subprogram.name.now l.subprogram.place l.list
      l.initial.work l.initial.outputs.records.now l.initial.outputs.files.now l.initial.outputs.warnings.now l.initial.state
      l.work l.outputs.records.now l.outputs.files.now l.outputs.warnings.now l.state l.list.addresses (width_of l.list.size) l.at l.base;
  same : SameOutputs l.initial.outputs l.outputs;
}

abbrev pub decreases-loop-given : goal.decreases-loop-given
decreases-loop-given l = length l.self.context.lists.lists.now - l.at
