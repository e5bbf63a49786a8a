-- `frames::Open::finish_inlines` meets its contract.
use mathlib.Core.Path.{refl}
use native.Mathlib.Omega.{arith}
use Rattle.dies.proofs.FrameLaws.{popping-start, popping_next, popping_stop, popping_end}
use Rattle.dies.proofs.frames.Open.finish_inlines.Goals as goal

pub loop-i-init : goal.loop-i-init
loop-i-init c = popping-start _ _ c.requires

pub loop-i-preserved : goal.loop-i-preserved
loop-i-preserved c = popping_next c.loop-i.invariant (omega arith) (omega arith) refl refl refl

pub returns-then-frame-depth-clause-popped : goal.returns-then-frame-depth-clause-popped
returns-then-frame-depth-clause-popped c = popping_stop c.loop-i.invariant c.requires (omega arith) (omega arith)

pub returns-clause-popped : goal.returns-clause-popped
returns-clause-popped c = popping_end c.loop-i.invariant c.requires (omega arith)
