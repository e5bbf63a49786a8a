-- `put_function` meets its contract: the head, and then the parts of the payload one after the other.
use Rattle.buffers.specs.Output.{function_payload}
use Rattle.buffers.proofs.PayloadLaws.{function-length}
use Rattle.buffers.proofs.BufferLaws.{◌then◌}
use Rattle.buffers.proofs.OutputLaws.{put-headed}
use Rattle.buffers.proofs.output.put_function.Goals as goal

pub returns : goal.returns
unfolding function_payload
returns c = search (put-headed, ◌then◌, function-length)
