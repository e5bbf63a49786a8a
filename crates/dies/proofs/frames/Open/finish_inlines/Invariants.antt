-- `frames::Open::finish_inlines` meets its contract. The loop's invariant: what popping makes of the frames that are left is what it makes of all.
use Rattle.dies.proofs.FrameLaws.{Popping}
use Rattle.dies.proofs.frames.Open.finish_inlines.Given as goal

abbrev pub invariant-loop-i : goal.invariant-loop-i
invariant-loop-i l = Popping l.initial.self l.depth l.i l.self
