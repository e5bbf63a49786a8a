-- `checks::work_of_units` meets its contract.
use native.Mathlib.Omega.{arith}
use Rattle.checks.proofs.CountLaws.{total-small}
use Rattle.checks.proofs.WorkLaws.{work-plain, work-all, work-missing, asked-placed, work-one}
use Rattle.checks.proofs.checks.work_of_units.Goals as goal

pub overflow_add-counts : goal.overflow_add-counts
overflow_add-counts c = omega (arith, total-small c.requires.0 c.requires.1)

pub returns-then-counts-eq0 : goal.returns-then-counts-eq0
returns-then-counts-eq0 c = work-plain c.args.options c.args.sizes.program c.args.sizes.lists c.requires.1 c.if-counts-eq0.true

pub returns-in_default : goal.returns-in_default
returns-in_default c = work-all _ c.args.options c.args.sizes.program c.args.sizes.lists c.in_default.is c.most_work.ensures

pub work_of_unit-requires : goal.work_of_unit-requires
work_of_unit-requires c = asked-placed _ c.args.options c.args.sizes.program c.args.sizes.lists c.in-Some.is c.in-Some-unit_by_ordinal.ensures c.requires.0

pub returns-in-None : goal.returns-in-None
returns-in-None c = work-missing _ c.args.options c.args.sizes.program c.args.sizes.lists c.in-Some.is c.in-None.ensures

pub returns-in-Some-unit_by_ordinal : goal.returns-in-Some-unit_by_ordinal
returns-in-Some-unit_by_ordinal c =
    work-one _ c.args.options c.args.sizes.program c.args.sizes.lists c.in-Some.is c.in-Some-unit_by_ordinal.ensures c.work_of_unit.ensures
