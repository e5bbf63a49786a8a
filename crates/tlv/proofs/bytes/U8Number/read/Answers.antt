-- A byte is the number of one byte at its place.
use Rattle.std.proofs.Common.{sym, rules}
use Rattle.tlv.proofs.WidthLaws.{le_at-one}
use Rattle.tlv.proofs.bytes.U8Number.read.Goals as goal

pub returns : goal.returns
returns c = sym (le_at-one _ _ (search rules))
