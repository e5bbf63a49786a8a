-- `keys::chain_keys` meets its contract: the heads lead nowhere at first, then to the newest of those that joined.
use Rattle.references.proofs.ChainLaws.{Chaining}
use Rattle.references.proofs.keys.chain_keys.Given as goal

abbrev pub invariant-loop-i : goal.invariant-loop-i
invariant-loop-i l = Chaining l.initial.work l.work l.x l.n l.i
