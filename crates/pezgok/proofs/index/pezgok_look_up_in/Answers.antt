-- `index::pezgok_look_up_in` meets its contract: the numbers are those of the answer of `look_up_in`.
use Rattle.pezgok.proofs.LookLaws.{exports-look_up_in}
use Rattle.pezgok.proofs.index.pezgok_look_up_in.Goals as goal

pub returns : goal.returns
returns c = search exports-look_up_in
