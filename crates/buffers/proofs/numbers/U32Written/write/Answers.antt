-- A number is written by its halves.
use Rattle.buffers.proofs.TableLaws.{wrote_halves}
use Rattle.buffers.proofs.numbers.U32Written.write.Goals as goal

pub returns : goal.returns
returns c = search (wrote_halves 2 2)
