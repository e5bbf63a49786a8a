-- A byte is stored: the number of one byte is there.
use Rattle.std.proofs.Common.{rules}
use Rattle.buffers.proofs.TableLaws.{wrote_byte}
use Rattle.buffers.proofs.numbers.U8Written.write.Goals as goal

pub returns : goal.returns
returns c = wrote_byte _ _ _ (search rules) (search rules)
