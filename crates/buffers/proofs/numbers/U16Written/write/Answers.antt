-- A number is written by its halves.
use Rattle.buffers.proofs.TableLaws.{wrote_halves}
use Rattle.buffers.proofs.numbers.U16Written.write.Goals as goal

pub returns : goal.returns
returns c = search (wrote_halves 1 1)
