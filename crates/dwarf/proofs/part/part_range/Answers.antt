-- `part::part_range` meets its contract: the field 1e of the unit, or none.
use native.Mathlib.Omega.{arith}
use Rattle.dwarf.proofs.part.PartLaws.{part-place, part-from, part-inside, whole_part, named-part}
use Rattle.dwarf.proofs.part.part_range.Goals as goal

pub overflow_add-place : goal.overflow_add-place
overflow_add-place c = omega (arith, part-place c.requires.accepted c.requires.unit_in)

pub next_before_rows-requires : goal.next_before_rows-requires
next_before_rows-requires c = part-from c.requires.accepted c.requires.unit_in

pub read-start-requires : goal.read-start-requires
read-start-requires c = omega (arith, part-inside c.requires.accepted c.requires.unit_in c.in-Some.ensures)

pub read-requires : goal.read-requires
read-requires c = omega (arith, part-inside c.requires.accepted c.requires.unit_in c.in-Some.ensures)

pub returns-in_default : goal.returns-in_default
returns-in_default c = whole_part c.requires.accepted c.requires.unit_in _ c.in_default.ensures

pub returns : goal.returns
returns c = named-part c.requires.accepted c.requires.unit_in c.in-Some.ensures c.args.size c.read-start.ensures c.read.ensures
    (omega (arith, c.well_formed)) (omega (arith, c.well_formed))
