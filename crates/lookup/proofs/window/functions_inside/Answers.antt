-- `window::functions_inside` meets its contract.
use borrow.Author.Rules.{rules}
use Rattle.lookup.specs.Window.{inside, functions_inside}
use Rattle.lookup.proofs.window.functions_inside.Goals as goal

pub returns : goal.returns
unfolding functions_inside
returns c = c.list_functions.ensures.listed (inside (record { start = c.args.start; end = c.args.end })) (λ r b fits post. search rules)
