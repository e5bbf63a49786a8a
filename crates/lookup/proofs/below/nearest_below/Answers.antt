-- `below::nearest_below` meets its contract.
use Rattle.lookup.proofs.below.NearestWalkLaws.{nearest-misshapen, nearest-well}
use Rattle.lookup.proofs.below.nearest_below.Goals as goal

pub returns-then-not-check_records : goal.returns-then-not-check_records
returns-then-not-check_records c = search nearest-misshapen

pub returns : goal.returns
returns c = rw c.ok_or.ensures.value (search nearest-well)
