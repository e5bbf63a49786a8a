-- `put_malformed_ranges` meets its contract: the head, and then the parts of the payload one after the other.
use Rattle.buffers.specs.Output.{warning_payload}
use Rattle.buffers.proofs.OutputLaws.{put-headed, put-said, reason-length}
use Rattle.buffers.proofs.output.put_malformed_ranges.Goals as goal

pub returns : goal.returns
unfolding warning_payload
returns c = rw (← c.malformed_kind-kind.ensures) (search (put-headed, put-said, reason-length))
