-- `keys::is_visited` meets its contract. Many targets are sought along a chain, which leads to ever older ones.
use native.Mathlib.Omega.{arith}
use Rattle.references.proofs.ChainLaws.{chain-small, many-chained, walk_start, walk-less, walk-found, walk_step, walk_none}
use Rattle.references.proofs.keys.is_visited.Goals as goal

pub overflow_mul-c : goal.overflow_mul-c
overflow_mul-c c = let s = chain-small c.args.x.now _ c.chain_of-c.ensures c.chain_count.ensures in omega arith

pub overflow_add-x : goal.overflow_add-x
overflow_add-x c = let s = chain-small c.args.x.now _ c.chain_of-c.ensures c.chain_count.ensures in omega arith

pub read-k-requires : goal.read-k-requires
read-k-requires c = let s = chain-small c.args.x.now _ c.chain_of-c.ensures c.chain_count.ensures in omega arith

pub loop-k-init : goal.loop-k-init
loop-k-init c = walk_start (many-chained c.requires c.is_many.ensures c.if-not-is_many.false) c.chain_count.ensures c.chain_of-c.ensures c.read-k.ensures

pub returns-then-is_key : goal.returns-then-is_key
returns-then-is_key c = walk-found (many-chained c.requires c.is_many.ensures c.if-not-is_many.false) c.keys_from-in-loop-k.ensures c.loop-k.invariant c.loop-k-test.true
    c.is_key.ensures c.if-is_key.true

pub loop-k-smaller : goal.loop-k-smaller
loop-k-smaller c = walk-less (many-chained c.requires c.is_many.ensures c.if-not-is_many.false) c.keys_from-in-loop-k.ensures c.loop-k.invariant c.loop-k-test.true
    c.read-k-in-loop-k.ensures

pub loop-k-preserved : goal.loop-k-preserved
loop-k-preserved c = walk_step (many-chained c.requires c.is_many.ensures c.if-not-is_many.false) c.keys_from-in-loop-k.ensures c.loop-k.invariant c.loop-k-test.true
    c.is_key.ensures c.if-is_key.false c.read-k-in-loop-k.ensures

pub returns : goal.returns
returns c = walk_none c.loop-k.invariant c.loop-k-test.false
