-- `ImportContext::import_list` meets its contract.
use mathlib.Core.Path.{refl}
use native.Mathlib.Omega.{arith}
use Rattle.tlv.proofs.AnswerLaws.{numbered, handed}
use Rattle.subprograms.proofs.OutputLaws.{outputs-then}
use Rattle.subprograms.proofs.lists.ListStepLaws.{list_done, list-failed, list-refused, list-turn}
use Rattle.subprograms.proofs.model.ImportContext.import_list.Goals as goal

pub returns-in-Ok-None-clause-is : goal.returns-in-Ok-None-clause-is
returns-in-Ok-None-clause-is c = let G = c.loop-given.invariant.going in
    list_done G (rw c.in-Ok-None.field-0-is at c.in-Ok-None.ensures) (omega (arith, c.well_formed, G.records-size)) (omega (arith, c.well_formed, G.files-size)) (omega (arith, c.well_formed, G.warnings-size))

pub returns-in-Err-clause-is : goal.returns-in-Err-clause-is
returns-in-Err-clause-is c = let G = c.loop-given.invariant.going in
    list-failed G c.in-Err.ensures (omega (arith, c.well_formed, G.records-size)) (omega (arith, c.well_formed, G.files-size)) c.reject_list.ensures

pub returns-in_err-state-in-Ok-Some-clause-is : goal.returns-in_err-state-in-Ok-Some-clause-is
returns-in_err-state-in-Ok-Some-clause-is c = rw (handed _ _ c.from_residual.ensures.1) (list-refused c.loop-given.invariant.going (rw c.in-Ok-Some.field-0-is at c.in-Ok-Some.ensures) c.in_err-state-in-Ok-Some.ensures.is (numbered _))

pub loop-given-preserved : goal.loop-given-preserved
loop-given-preserved c = let S = c.import_candidate.ensures.same in record {
  going = list-turn c.loop-given.invariant.going (rw c.in-Ok-Some.field-0-is at c.in-Ok-Some.ensures) c.in_ok-state-in-Ok-Some.ensures.is refl
      c.import_candidate.auto.work S.records-len S.files-len S.warnings-len;
  same = outputs-then c.loop-given.invariant.same S;
}
