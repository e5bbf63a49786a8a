-- `put_each` meets its contract. The loop's invariant: the bytes so far are put.
use Rattle.buffers.proofs.BufferLaws.{put-more}
use Rattle.buffers.proofs.output.put_each.Goals as goal

pub loop-b-preserved : goal.loop-b-preserved
loop-b-preserved c = search put-more
