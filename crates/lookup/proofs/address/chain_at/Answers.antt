-- `address::chain_at` meets its contract.
use Rattle.lookup.proofs.OwnLaws.{own-stands_next, node-first}
use Rattle.lookup.proofs.address.ChainWalkLaws.{chain-none, chain-function, chain-other, chain-leaves}
use Rattle.lookup.proofs.address.ChainWalkLaws.{chain-deeper, chain-room, chain-passes, chain-takes}
use Rattle.lookup.proofs.address.chain_at.Goals as goal
use Rattle.lookup.proofs.address.chain_at.Goals.{else-depth-nodes-2-via-then-depth-nodes-2+else-node_holds, else-depth-nodes-2-via-else-depth-nodes-2}

pub read-depth-requires : goal.read-depth-requires
read-depth-requires c = search (node-first, c.in-Some.ensures)

pub node_holds-requires : goal.node_holds-requires
node_holds-requires c = search (own-stands_next, c.in-Some.ensures)

pub bounds-places-nodes : goal.bounds-places-nodes
bounds-places-nodes c = search (chain-room, c.in-Some.ensures)

pub loop-field-preserved-then-node_holds : goal.loop-field-preserved-then-node_holds
loop-field-preserved-then-node_holds c = (search (own-stands_next, c.in-Some.ensures), search (chain-takes, c.in-Some.ensures))

pub loop-field-preserved-else-depth-nodes-2 : goal.loop-field-preserved-else-depth-nodes-2
loop-field-preserved-else-depth-nodes-2 c = (
  search (own-stands_next, c.in-Some.ensures),
  elim c.else-depth-nodes-2.branch [
    | else-depth-nodes-2-via-then-depth-nodes-2+else-node_holds w ↦ search (chain-passes, c.in-Some.ensures)
    | else-depth-nodes-2-via-else-depth-nodes-2 w ↦ search (chain-deeper, c.in-Some.ensures)
  ],
)

pub loop-field-preserved : goal.loop-field-preserved
loop-field-preserved c = (search (own-stands_next, c.in-Some.ensures), search (chain-other, c.in-Some.ensures))

pub returns-then-field-eq-TRAY_FUNCTION_TAG : goal.returns-then-field-eq-TRAY_FUNCTION_TAG
returns-then-field-eq-TRAY_FUNCTION_TAG c = search (chain-function, c.in-Some.ensures)

pub returns-then-depth-nodes : goal.returns-then-depth-nodes
returns-then-depth-nodes c = search (chain-leaves, c.in-Some.ensures)

pub returns-in_default : goal.returns-in_default
returns-in_default c = search (chain-none, c.in_default.ensures)
