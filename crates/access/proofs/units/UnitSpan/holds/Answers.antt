-- `UnitSpan::holds` meets its contract.
use Rattle.access.proofs.ContainingLaws.{left-of_unit, left_unit}
use Rattle.access.proofs.units.UnitSpan.holds.Goals as goal

pub returns-then-self-target : goal.returns-then-self-target
returns-then-self-target c = search left_unit

pub returns-else-self-target : goal.returns-else-self-target
returns-else-self-target c = search left-of_unit
