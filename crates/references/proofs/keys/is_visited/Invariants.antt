-- `keys::is_visited` meets its contract. Many targets are sought along a chain, which leads to ever older ones.
use Rattle.references.proofs.ChainLaws.{Front}
use Rattle.references.proofs.keys.is_visited.Given as goal

abbrev pub invariant-loop-k : goal.invariant-loop-k
invariant-loop-k l = Front l.work l.x l.key.source l.key.offset l.n l.k

abbrev pub decreases-loop-k : goal.decreases-loop-k
decreases-loop-k l = l.k
