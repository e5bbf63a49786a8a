-- `address::chain_at` meets its contract: what is gathered and what is left make the chain.
use Prim.Native.Nat.{◌-◌}
use lib.ListN.{length}
use Rattle.lookup.specs.Walk.{StandsOwn}
use Rattle.lookup.proofs.address.ChainWalkLaws.{left_at, Gathering}
use Rattle.lookup.proofs.address.chain_at.Given as goal

abbrev pub invariant-loop-field : goal.invariant-loop-field
invariant-loop-field l = StandsOwn l.s l.p × Gathering (left_at l.s l.own l.address 0) l.places (left_at l.s l.p l.address l.nodes) l.nodes

abbrev pub decreases-loop-field : goal.decreases-loop-field
decreases-loop-field l = length l.s - l.p
