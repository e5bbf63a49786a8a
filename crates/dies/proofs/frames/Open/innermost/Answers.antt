-- `frames::Open::innermost` meets its contract.
use native.Mathlib.Omega.{arith}
use mathlib.Core.Path.{refl}
use Rattle.dies.proofs.FrameLaws.{top-some, top-none}
use Rattle.dies.proofs.frames.Open.innermost.Goals as goal

pub returns-then-self-eq0 : goal.returns-then-self-eq0
returns-then-self-eq0 c = top-none _ c.requires (omega arith) refl

pub returns : goal.returns
returns c = top-some _ c.requires (omega arith) refl
