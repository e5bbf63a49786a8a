-- `import::import_by` meets its contract: the answer and the buffers are the definition's, with what was written where all of it fits, else cleared.
use mathlib.Core.List.{List}
use Prim.Native.Nat.{ℕ, ◌<◌, ◌^◌}
use Rattle.tlv.proofs.PlaceFacts.{slice-bytes}
use Rattle.imports.specs.Demand.{Lent}
use Rattle.subprograms.specs.declared.model.Outputs.{Outputs}
use Rattle.checks.specs.declared.options.Options.{Options}
use Rattle.dwarf.specs.declared.lent.Inputs.{Inputs}
use Rattle.dwarf.specs.Lent.{asked_of}
use Rattle.dwarf.specs.Runs.{import_all}
use Rattle.dwarf.proofs.AnswerLaws.{cleared, fitted, answers-refused, answers_done}
use Rattle.dwarf.proofs.import.import_by.Goals as goal

lent : (i : Inputs) (o : Options) (w : List ℕ) (t : Outputs) → o.first_file < 2 ^ 32 → Lent (asked_of i o w t)
lent i o w t h = record {
  main = slice-bytes i.sheets.main.now (λ k. record { fits = i.sheets.bytes.0 k });
  supplementary = slice-bytes i.sheets.supplementary.now (λ k. record { fits = i.sheets.bytes.1 k });
  first_file = h;
}

pub returns-in-Err-clause-is : goal.returns-in-Err-clause-is
returns-in-Err-clause-is c = let i = asked_of c.args.inputs c.args.options c.args.work.now c.args.outputs.now in
    answers-refused c.args.options.ordinal i (lent c.args.inputs c.args.options c.args.work.now c.args.outputs.now c.requires) (fitted i (import_all c.args.options.ordinal i) c.run_cleared-ran.ensures.is c.in-Err.ensures c.of.ensures)
    c.run_cleared-ran.ensures.cleared
    (cleared c.args.outputs.now.records.now c.run_cleared-ran.ensures.same.records-len c.fill.ensures.records)
    (cleared c.args.outputs.now.files.now c.run_cleared-ran.ensures.same.files-len c.fill.ensures.files)
    (cleared c.args.outputs.now.warnings.now c.run_cleared-ran.ensures.same.warnings-len c.fill.ensures.warnings)

pub returns-in-Ok-clause-is : goal.returns-in-Ok-clause-is
returns-in-Ok-clause-is c = let i = asked_of c.args.inputs c.args.options c.args.work.now c.args.outputs.now in
    answers_done c.args.options.ordinal i (lent c.args.inputs c.args.options c.args.work.now c.args.outputs.now c.requires) (fitted i (import_all c.args.options.ordinal i) c.run_cleared-ran.ensures.is c.in-Ok.ensures c.of.ensures)
    c.from.ensures c.run_cleared-ran.ensures.cleared
