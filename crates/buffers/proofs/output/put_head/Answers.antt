-- `put_head` meets its contract: a byte and then the length.
use Rattle.buffers.proofs.BufferLaws.{put-cons}
use Rattle.buffers.proofs.output.put_head.Goals as goal

pub returns : goal.returns
returns c = search put-cons
