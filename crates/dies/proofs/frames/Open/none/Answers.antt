-- `frames::Open::none` meets its contract.
use mathlib.Core.Path.{refl}
use native.Mathlib.Omega.{arith}
use Rattle.dies.specs.FrameStack.{Stacked}
use Rattle.dies.proofs.frames.Open.none.Goals as goal

pub returns : goal.returns
unfolding Stacked
returns c = record { ready = record { few = omega arith; full = refl; stacked = refl }; none = refl; used = refl }
