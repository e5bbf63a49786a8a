-- `nodes::put_inline_node` meets its contract.
use Rattle.dies.proofs.NodeStepLaws.{node-put}
use Rattle.dies.proofs.nodes.put_inline_node.Goals as goal

pub returns : goal.returns
returns c = search node-put
