-- `layout::unit_layout` meets its contract.
use native.Mathlib.Omega.{arith}
use Rattle.checks.proofs.LayoutLaws.{program-few, laid-unit}
use Rattle.checks.proofs.layout.unit_layout.Goals as goal

pub overflow_add-text-2 : goal.overflow_add-text-2
overflow_add-text-2 c = omega (arith, c.requires.rooms, c.requires.size, program-few c.args.l.size c.args.encoded c.program_rows.ensures)

pub overflow_add-spans : goal.overflow_add-spans
overflow_add-spans c = omega (arith, c.requires.rooms, c.requires.size, program-few c.args.l.size c.args.encoded c.program_rows.ensures)

pub returns : goal.returns
returns c = laid-unit _ _ _ c.program_rows.ensures c.open_lists.ensures
