-- `look::pezgok_nearest_below` meets its contract: the numbers are those of the answer of `nearest_below`.
use Rattle.pezgok.proofs.LookLaws.{nearest-told}
use Rattle.pezgok.proofs.look.pezgok_nearest_below.Goals as goal

pub returns : goal.returns
returns c = search nearest-told
