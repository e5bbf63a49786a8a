-- `put_call_site` meets its contract: the head, and then the parts of the payload one after the other.
use Rattle.buffers.specs.Output.{site_payload}
use Rattle.buffers.proofs.PayloadLaws.{site-length}
use Rattle.buffers.proofs.BufferLaws.{◌then◌}
use Rattle.buffers.proofs.OutputLaws.{put-headed, put-said}
use Rattle.buffers.proofs.output.put_call_site.Goals as goal

pub returns : goal.returns
unfolding site_payload
returns c = search (put-headed, ◌then◌, put-said, site-length)
