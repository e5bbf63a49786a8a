-- `put_range` meets its contract: the head, and then the parts of the payload one after the other.
use Rattle.buffers.specs.Output.{range_payload}
use Rattle.buffers.proofs.PayloadLaws.{range_length}
use Rattle.buffers.proofs.BufferLaws.{◌then◌}
use Rattle.buffers.proofs.OutputLaws.{put-headed}
use Rattle.buffers.proofs.output.put_range.Goals as goal

pub returns : goal.returns
unfolding range_payload
returns c = search (put-headed, ◌then◌, range_length)
