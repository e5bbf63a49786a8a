-- `put_line` meets its contract: the head, and then the parts of the payload one after the other.
use Rattle.buffers.specs.Output.{row_payload}
use Rattle.buffers.proofs.PayloadLaws.{row-length}
use Rattle.buffers.proofs.OutputLaws.{put-headed, put_four}
use Rattle.buffers.proofs.output.put_line.Goals as goal

pub returns : goal.returns
unfolding row_payload
returns c = search (put-headed, put_four, row-length)
