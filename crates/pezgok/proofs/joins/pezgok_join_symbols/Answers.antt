-- `joins::pezgok_join_symbols` meets its contract: the numbers are those of the answer of `join_symbols_with`.
use Rattle.pezgok.proofs.joins.JoinedLaws.{exports-join}
use Rattle.pezgok.proofs.joins.pezgok_join_symbols.Goals as goal

pub returns : goal.returns
returns c = search exports-join
