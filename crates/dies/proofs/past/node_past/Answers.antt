-- `past::node_past` meets its contract.
use Rattle.dies.proofs.PastLaws.{past-rooted, past-alone}
use Rattle.dies.proofs.past.node_past.Goals as goal

pub returns-then-nodes-eq0 : goal.returns-then-nodes-eq0
returns-then-nodes-eq0 c = past-rooted _ _ _ _ _ c.if-nodes-eq0.true c.is_past.ensures

pub returns : goal.returns
returns c = past-alone _ _ _ _ _ c.if-nodes-eq0.false c.is_past-2.ensures
