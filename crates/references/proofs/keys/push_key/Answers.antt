-- `keys::push_key` meets its contract: a target that makes them many has all join their chains, a later one its own.
use mathlib.Core.Path.{refl}
use Rattle.references.proofs.ChainLaws.{many-small}
use Rattle.references.proofs.KeyLaws.{written-chains, pushed_few, pushed-chained}
use Rattle.references.proofs.keys.push_key.Goals as goal

pub returns-then-not-is_many : goal.returns-then-not-is_many
returns-then-not-is_many c = pushed_few _ _ c.args.key.source c.keys_from.ensures c.write.ensures c.write-2.ensures
    refl c.is_many.ensures c.if-not-is_many.true

pub chain_key-requires-clause-linkable : goal.chain_key-requires-clause-linkable
chain_key-requires-clause-linkable c = many-small _ c.is_many.ensures c.if-not-is_many.false

pub chain_key-requires-clause-chained : goal.chain_key-requires-clause-chained
chain_key-requires-clause-chained c = written-chains _ _ c.args.key.source c.keys_from.ensures c.write.ensures c.write-2.ensures
    c.requires c.is_many-2.ensures c.if-is_many.true

pub returns-then-is_many : goal.returns-then-is_many
returns-then-is_many c = pushed-chained _ _ c.args.key.source c.keys_from.ensures c.write.ensures c.write-2.ensures
    refl c.chain_key.ensures

pub chain_keys-requires-clause-linkable : goal.chain_keys-requires-clause-linkable
chain_keys-requires-clause-linkable c = many-small _ c.is_many.ensures c.if-not-is_many.false

pub returns : goal.returns
returns c = pushed-chained _ _ c.args.key.source c.keys_from.ensures c.write.ensures c.write-2.ensures
    refl c.chain_keys.ensures
