-- `UnitSpan::write` meets its contract. The three numbers of a record are written one after the other.
use Rattle.access.proofs.UnitsLaws.{put-unit}
use Rattle.access.proofs.units.UnitSpan.write.Goals as goal

pub returns : goal.returns
returns c = search put-unit
