-- `access::unit_by_ordinal` meets its contract. The loop's invariant: the unit that is looked for has the number `left` among those from p on.
use Rattle.access.proofs.UnitPlaceLaws.{unit-end, unit-found, unit-passed, unit-other}
use Rattle.access.proofs.access.unit_by_ordinal.Goals as goal

pub returns-then-left-eq0 : goal.returns-then-left-eq0
returns-then-left-eq0 c = search (unit-found, c.in-Some.ensures)

pub loop-field-preserved-else-left-eq0 : goal.loop-field-preserved-else-left-eq0
loop-field-preserved-else-left-eq0 c = search (unit-passed, c.in-Some.ensures)

pub loop-field-preserved : goal.loop-field-preserved
loop-field-preserved c = search (unit-other, c.in-Some.ensures)

pub returns : goal.returns
returns c = search (unit-end, c.in_default.ensures)
