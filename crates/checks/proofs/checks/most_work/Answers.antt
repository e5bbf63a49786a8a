-- `checks::most_work` meets its contract. The loop's invariant: so much asks the neediest unit before the place.
use Rattle.tlv.proofs.FieldLaws.{next-less}
use Rattle.checks.proofs.WorkLaws.{seek-start, seek-none, seek-other, unit-here, seek_unit}
use Rattle.checks.proofs.checks.most_work.Goals as goal

pub loop-field-init : goal.loop-field-init
loop-field-init c = seek-start _ _ c.requires

pub work_of_unit-requires : goal.work_of_unit-requires
work_of_unit-requires c = unit-here _ _ c.loop-field.invariant _ c.in-Some.ensures c.if-field-eq-UNIT_TAG.true

pub loop-field-smaller-then-field-eq-UNIT_TAG : goal.loop-field-smaller-then-field-eq-UNIT_TAG
loop-field-smaller-then-field-eq-UNIT_TAG c = next-less _ _ _ c.in-Some.ensures

pub loop-field-preserved-then-field-eq-UNIT_TAG : goal.loop-field-preserved-then-field-eq-UNIT_TAG
loop-field-preserved-then-field-eq-UNIT_TAG c = seek_unit _ _ c.loop-field.invariant _ c.in-Some.ensures c.if-field-eq-UNIT_TAG.true c.work_of_unit.ensures c.max-most.ensures

pub loop-field-smaller : goal.loop-field-smaller
loop-field-smaller c = next-less _ _ _ c.in-Some.ensures

pub loop-field-preserved : goal.loop-field-preserved
loop-field-preserved c = seek-other _ _ c.loop-field.invariant _ c.in-Some.ensures c.if-field-eq-UNIT_TAG.false

pub returns : goal.returns
returns c = seek-none _ _ c.loop-field.invariant c.in_default.ensures
