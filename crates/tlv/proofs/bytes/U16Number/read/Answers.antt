-- Two halves are one number.
use Rattle.std.proofs.Common.{arith}
use Rattle.tlv.proofs.WidthLaws.{join}
use Rattle.tlv.proofs.bytes.U16Number.read.Goals as goal

pub returns : goal.returns
returns c = join 1 1 _ _ _ _ (omega arith) c.read.ensures c.read-2.ensures
