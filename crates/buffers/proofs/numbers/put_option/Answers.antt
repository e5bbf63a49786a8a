-- A number behind a byte 1, or a byte 0.
use Rattle.buffers.proofs.OptionLaws.{put_some, put_missing}
use Rattle.buffers.proofs.numbers.put_option.Goals as goal

pub returns-in-Some : goal.returns-in-Some
returns-in-Some g c = rw c.in-Some.is (put_some c.write.ensures c.write-in-Some.ensures)

pub returns-in-None : goal.returns-in-None
returns-in-None g c = rw c.in-None.is (put_missing _ c.write-in-None.ensures)
