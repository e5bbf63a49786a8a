-- `join::is_held` meets its contract.
use mathlib.Core.Path.{◌∙◌}
use Rattle.symbols.proofs.JoinWalkLaws.{held-as}
use Rattle.symbols.proofs.join.is_held.Goals as goal

pub returns : goal.returns
returns c = c.is_some.ensures ∙ held-as _ _ _ c.function_at.ensures
