-- `put_file` meets its contract: the head, and then the parts of the payload one after the other.
use Rattle.buffers.specs.Output.{file_payload}
use Rattle.buffers.proofs.PayloadLaws.{file-length}
use Rattle.buffers.proofs.BufferLaws.{◌then◌}
use Rattle.buffers.proofs.OutputLaws.{put-headed}
use Rattle.buffers.proofs.output.put_file.Goals as goal

pub returns : goal.returns
unfolding file_payload
returns c = search (put-headed, ◌then◌, file-length)
