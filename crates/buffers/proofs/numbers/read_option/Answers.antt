-- A number behind a byte 1, or another byte.
use Rattle.buffers.proofs.OptionLaws.{option_some, option_none}
use Rattle.buffers.proofs.numbers.read_option.Goals as goal

pub returns-then-read-eq1 : goal.returns-then-read-eq1
returns-then-read-eq1 g c = option_some _ _ _ c.read.ensures c.if-read-eq1.true c.read-then-read-eq1.ensures

pub returns : goal.returns
returns g c = option_none _ _ _ c.read.ensures c.if-read-eq1.false
