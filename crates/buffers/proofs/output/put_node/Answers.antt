-- `put_node` meets its contract: the head, and then the parts of the payload one after the other.
use Rattle.buffers.specs.Output.{node_payload}
use Rattle.buffers.proofs.PayloadLaws.{node-length}
use Rattle.buffers.proofs.OutputLaws.{put_four, put-headed}
use Rattle.buffers.proofs.output.put_node.Goals as goal

pub returns : goal.returns
unfolding node_payload
returns c = search (put-headed, put_four, node-length)
