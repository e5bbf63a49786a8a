-- `window::functions_crossing` meets its contract.
use borrow.Author.Rules.{rules}
use Rattle.lookup.specs.Window.{crosses, functions_crossing}
use Rattle.lookup.proofs.window.functions_crossing.Goals as goal

pub returns : goal.returns
unfolding functions_crossing
returns c = c.list_functions.ensures.listed (crosses (record { start = c.args.start; end = c.args.end })) (λ r b fits post. search rules)
