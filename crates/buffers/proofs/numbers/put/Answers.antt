-- The number at once where it fits, else its bytes one by one.
use Rattle.std.proofs.Common.{arith}
use Rattle.tlv.proofs.ByteLaws.{length-bytes_of}
use Rattle.buffers.proofs.BufferLaws.{put-out, put_as, wrote_put, wrote-front}
use Rattle.buffers.proofs.numbers.put.Goals as goal

pub returns-then-has_room : goal.returns-then-has_room
returns-then-has_room g c = rw c.WIDTH-then-has_room.ensures (wrote_put (rw (← c.WIDTH.ensures) c.has_room.ensures) c.if-has_room.true c.write.ensures (omega arith))

pub returns-then-buffer-at : goal.returns-then-buffer-at
returns-then-buffer-at g c = put-out (omega arith) (omega arith) (length-bytes_of g.N.Number.WIDTH _) (rw (← c.WIDTH-then-buffer-at.ensures) c.advance.ensures)

pub returns : goal.returns
returns g c = put_as (rw c.WIDTH-2.ensures (wrote-front c.write-2.ensures g.met.N.Number.narrow)) c.put_each.ensures
