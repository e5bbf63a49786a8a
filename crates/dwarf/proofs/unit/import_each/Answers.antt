-- `unit::import_each` meets its contract. The loop's invariant: what was done so far, and the units that are left.
use mathlib.Core.Path.{◌≡◌, refl, ap}
use native.Mathlib.Omega.{arith}
use Rattle.tlv.proofs.AnswerLaws.{numbered, handed}
use Rattle.access.specs.declared.units.UnitSpan.{UnitSpan}
use Rattle.access.specs.Units.{IndexedUnit, spans}
use Rattle.subprograms.proofs.OutputLaws.{outputs-start, outputs-then}
use Rattle.dwarf.proofs.EachLaws.{units-start, units-end, unit-in, unit-fits, units-refused, units-turn}
use Rattle.dwarf.proofs.unit.import_each.Goals as goal

-- the place that was read is the record's
place : {u : UnitSpan} {x : IndexedUnit} → spans u ≡ x → u.place ≡ x.place
place = ap (λ (x : IndexedUnit). x.place)

pub loop-k-init : goal.loop-k-init
loop-k-init c = rw c.into_iter-k-iterator.ensures.into_iter_gives (record {
  units = refl;
  importing = units-start c.args.inputs.lists.addresses.now c.args.options.inlines c.args.options.call_sites c.requires.from_le_to.0 c.requires.from_le_to.1 c.requires.all c.requires.tables_in c.requires.ready
      (omega (arith, c.well_formed)) (omega (arith, c.well_formed)) (omega (arith, c.well_formed));
  last = refl;
  same = outputs-start;
})

pub import_at-requires-clause-unit_in : goal.import_at-requires-clause-unit_in
import_at-requires-clause-unit_in c = let s = c.in-Some.ensures.steps in
    unit-in (rw (← s.1.1) at c.loop-k.invariant.importing) (omega arith) (place c.read-place.ensures)

pub import_at-requires-clause-unit_enough : goal.import_at-requires-clause-unit_enough
import_at-requires-clause-unit_enough c = let s = c.in-Some.ensures.steps in
    unit-fits (rw (← s.1.1) at c.loop-k.invariant.importing) (omega arith) (place c.read-place.ensures)

pub returns-in_err-reached-clause-is : goal.returns-in_err-reached-clause-is
returns-in_err-reached-clause-is c = let s = c.in-Some.ensures.steps in rw (handed _ _ c.from_residual.ensures.1)
    (units-refused (rw (← s.1.1) at c.loop-k.invariant.importing) (omega arith) (place c.read-place.ensures) c.in_err-reached.ensures.is (numbered _))

pub loop-k-preserved : goal.loop-k-preserved
loop-k-preserved c = let S = c.import_at.ensures.same in let s = c.in-Some.ensures.steps in record {
  units = c.loop-k.invariant.units;
  importing = rw (s.1.2, ← s.1.1) (units-turn (rw (← s.1.1) at c.loop-k.invariant.importing) (omega arith) (place c.read-place.ensures) c.in_ok-reached.ensures.is
      c.import_at.auto.work S.records-len S.files-len S.warnings-len);
  last = omega arith;
  same = outputs-then c.loop-k.invariant.same S;
}

pub returns-clause-is : goal.returns-clause-is
returns-clause-is c = units-end c.loop-k.invariant.importing (omega (arith, c.in-None.ensures.steps))
