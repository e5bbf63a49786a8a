-- `look::pezgok_look_up` meets its contract: the numbers are those of the answer of `look_up`.
use Rattle.pezgok.proofs.LookLaws.{exports-look_up}
use Rattle.pezgok.proofs.look.pezgok_look_up.Goals as goal

pub returns : goal.returns
returns c = search exports-look_up
