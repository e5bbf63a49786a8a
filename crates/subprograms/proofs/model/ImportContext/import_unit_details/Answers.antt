-- `ImportContext::import_unit_details` meets its contract.
use native.Mathlib.Omega.{arith}
use mathlib.Core.Path.{refl}
use Rattle.tlv.proofs.AnswerLaws.{numbered, handed}
use Rattle.subprograms.proofs.OutputLaws.{outputs-start, outputs-then}
use Rattle.subprograms.proofs.units.UnitLaws.{unit-inside, importing-start, importing-none, importing-unit, entry-known, entry-rest, importing-refused, importing-entry, subprogram-inside, subprogram-entry, importing-passed}
use Rattle.subprograms.proofs.OutputLaws.{outputs-start, outputs-then}
use Rattle.subprograms.proofs.model.ImportContext.import_unit_details.Goals as goal

pub loop-field-init : goal.loop-field-init
loop-field-init c = record {
  importing = importing-start _ _ c.requires.context_in (omega (arith, c.well_formed)) (omega (arith, c.well_formed)) (omega (arith, c.well_formed));
  same = outputs-start;
}

pub returns-then-field-eq-UNIT_TAG-clause-is : goal.returns-then-field-eq-UNIT_TAG-clause-is
returns-then-field-eq-UNIT_TAG-clause-is c = importing-unit c.loop-field.invariant.importing c.in-Some.ensures c.if-field-eq-UNIT_TAG.true

pub is_subprogram-requires : goal.is_subprogram-requires
is_subprogram-requires c = λ is. subprogram-inside c.loop-field.invariant.importing c.in-Some.ensures is

pub import_entry-requires-clause-entry_known : goal.import_entry-requires-clause-entry_known
import_entry-requires-clause-entry_known c = entry-known c.loop-field.invariant.importing c.in-Some.ensures (subprogram-entry c.loop-field.invariant.importing c.in-Some.ensures c.is_subprogram.ensures c.if-is_subprogram.true)

pub import_entry-requires-clause-placed : goal.import_entry-requires-clause-placed
import_entry-requires-clause-placed c = entry-rest c.loop-field.invariant.importing c.in-Some.ensures (subprogram-entry c.loop-field.invariant.importing c.in-Some.ensures c.is_subprogram.ensures c.if-is_subprogram.true)

pub returns-in_err-state-clause-is : goal.returns-in_err-state-clause-is
returns-in_err-state-clause-is c = rw (handed _ _ c.from_residual.ensures.1) (importing-refused c.loop-field.invariant.importing c.in-Some.ensures (subprogram-entry c.loop-field.invariant.importing c.in-Some.ensures c.is_subprogram.ensures c.if-is_subprogram.true) c.in_err-state.ensures.is (numbered _))

pub loop-field-preserved-in_ok-state : goal.loop-field-preserved-in_ok-state
loop-field-preserved-in_ok-state c = let S = c.import_entry.ensures.same in record {
  importing = importing-entry c.loop-field.invariant.importing c.in-Some.ensures (subprogram-entry c.loop-field.invariant.importing c.in-Some.ensures c.is_subprogram.ensures c.if-is_subprogram.true) c.in_ok-state.ensures.is refl c.import_entry.auto.work S.records-len S.files-len S.warnings-len;
  same = outputs-then c.loop-field.invariant.same S;
}

pub loop-field-preserved : goal.loop-field-preserved
loop-field-preserved c = record {
  importing = importing-passed c.loop-field.invariant.importing c.in-Some.ensures c.is_subprogram.ensures c.if-field-eq-UNIT_TAG.false c.if-is_subprogram.false;
  same = c.loop-field.invariant.same;
}

pub returns-clause-is : goal.returns-clause-is
returns-clause-is c = importing-none c.loop-field.invariant.importing c.in_default.ensures

pub overflow_add-at : goal.overflow_add-at
overflow_add-at c = omega (arith, unit-inside c.requires.context_in)
