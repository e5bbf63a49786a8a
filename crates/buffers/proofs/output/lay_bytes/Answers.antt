-- `lay_bytes` meets its contract. The loop's invariant: the bytes so far are put.
use Rattle.buffers.proofs.BufferLaws.{put_next}
use Rattle.buffers.proofs.output.lay_bytes.Goals as goal

pub loop-i-preserved : goal.loop-i-preserved
loop-i-preserved c = search put_next
