-- `put_warning` meets its contract: the head, and then the parts of the payload one after the other.
use Rattle.buffers.proofs.BufferLaws.{◌then◌}
use Rattle.buffers.proofs.OutputLaws.{put-headed, numbers-length}
use Rattle.buffers.proofs.output.put_warning.Goals as goal

pub returns : goal.returns
returns c = search (put-headed, ◌then◌, numbers-length)
