-- `look::pezgok_functions_inside` meets its contract: the numbers are those of the answer of `functions_inside`.
use Rattle.pezgok.proofs.LookLaws.{list-told}
use Rattle.pezgok.proofs.look.pezgok_functions_inside.Goals as goal

pub returns : goal.returns
returns c = search list-told
