-- `run::import_accepted` meets its contract: refusals 4 and 5, or the units.
use Rattle.checks.proofs.CheckLaws.{both-few, work-enough}
use Rattle.checks.proofs.WorkLaws.{most-small}
use Rattle.dwarf.specs.Lent.{asked_of}
use Rattle.dwarf.proofs.run.RunLaws.{accepted-short, accepted-long}
use Rattle.dwarf.proofs.run.import_accepted.Goals as goal

pub is_short-requires : goal.is_short-requires
is_short-requires c = (both-few c.requires.both_accepted, most-small _ _ c.requires.not_oversize.program-within c.requires.not_oversize.lists-within _ c.work_of_units-most.ensures)

pub returns-then-is_short-clause-is : goal.returns-then-is_short-clause-is
returns-then-is_short-clause-is c =
    accepted-short c.args.options (asked_of c.args.inputs c.args.options c.args.work.now c.args.outputs.now) c.args.number c.is_missing.ensures c.if-is_missing.false
    c.work_of_units-most.ensures c.is_short.ensures c.if-is_short.true

pub import_worked-requires-clause-work_enough : goal.import_worked-requires-clause-work_enough
import_worked-requires-clause-work_enough c = rw (← c.work_of_units-most.ensures) (work-enough c.requires.both_accepted c.args.work.now c.work_of_units-most.result c.is_short.ensures c.if-is_short.false)

pub returns-clause-is : goal.returns-clause-is
returns-clause-is c =
    accepted-long c.args.options (asked_of c.args.inputs c.args.options c.args.work.now c.args.outputs.now) c.args.number c.is_missing.ensures c.if-is_missing.false
    c.work_of_units-most.ensures c.is_short.ensures c.if-is_short.false c.import_worked.ensures.is
