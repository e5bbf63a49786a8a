-- `keys::chain_key` meets its contract: the target links to what its head led to.
use native.Mathlib.Omega.{arith}
use Rattle.references.proofs.ChainLaws.{chain-small, joined-chain}
use Rattle.references.proofs.keys.chain_key.Goals as goal

pub overflow_mul-head : goal.overflow_mul-head
overflow_mul-head c = let s = chain-small c.args.x.now _ c.chain_of-c.ensures c.chain_count-chains.ensures in omega arith

pub overflow_add-head : goal.overflow_add-head
overflow_add-head c = let s = chain-small c.args.x.now _ c.chain_of-c.ensures c.chain_count-chains.ensures in omega arith

pub read-link-requires : goal.read-link-requires
read-link-requires c = let s = chain-small c.args.x.now _ c.chain_of-c.ensures c.chain_count-chains.ensures in omega arith

pub write-requires-2 : goal.write-requires-2
write-requires-2 c = let s = chain-small c.args.x.now _ c.chain_of-c.ensures c.chain_count-chains.ensures in omega arith

pub returns : goal.returns
returns c = joined-chain c.requires.chained c.chain_count-chains.ensures c.keys_from.ensures
    c.chain_of-c.ensures c.read.ensures c.read-link.ensures c.write.ensures c.write-2.ensures
