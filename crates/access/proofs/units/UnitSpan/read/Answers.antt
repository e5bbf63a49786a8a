-- `UnitSpan::read` meets its contract: the three numbers of a record.
use mathlib.Core.Path.{sym}
use Rattle.access.proofs.UnitsLaws.{unit-is}
use Rattle.access.proofs.units.UnitSpan.read.Goals as goal

pub returns : goal.returns
returns c = sym (unit-is _ _ _ _ _ (sym c.read.ensures) (sym c.read-2.ensures) (sym c.read-3.ensures))
