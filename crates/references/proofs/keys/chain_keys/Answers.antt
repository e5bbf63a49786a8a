-- `keys::chain_keys` meets its contract: the heads lead nowhere at first, then to the newest of those that joined.
use Rattle.references.proofs.ChainLaws.{chaining-start, chaining-done}
use Rattle.references.proofs.keys.chain_keys.Goals as goal

pub loop-i-init : goal.loop-i-init
loop-i-init c = chaining-start _ c.keys_from-base.ensures c.fill_zero.ensures

pub returns : goal.returns
returns c = chaining-done _ c.keys_from-base.ensures c.fill_zero.ensures c.loop-i.invariant c.loop-i-test.false
