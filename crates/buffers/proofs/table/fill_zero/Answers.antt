-- `fill_zero` meets its contract: zeros take the place of as many bytes.
use native.Mathlib.Omega.{arith}
use Rattle.buffers.proofs.ZeroLaws.{zeros_laid}
use Rattle.buffers.proofs.table.fill_zero.Goals as goal

pub returns : goal.returns
returns c = zeros_laid (c.fill.ensures.after (λ y e. e)) (omega arith) (omega arith)
