-- `keys::chain_of` meets its contract.
use borrow.Author.Rules.{rules}
use Rattle.references.specs.Keys.{chain_of}
use Rattle.references.proofs.keys.chain_of.Goals as goal

pub returns : goal.returns
unfolding chain_of
returns c = search rules
