-- `join::symbol_range` meets its contract.
use Rattle.symbols.proofs.JoinWalkLaws.{symbol_range-is}
use Rattle.symbols.proofs.join.symbol_range.Goals as goal

pub returns : goal.returns
returns c = search symbol_range-is
