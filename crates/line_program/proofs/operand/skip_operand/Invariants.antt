-- `operand::skip_operand` meets its contract. What is left of the operand is passed over as the whole is.
use Prim.Native.Nat.{◌-◌}
use lib.ListN.{length, drop}
use Rattle.line_program.specs.Program.{skip_operand}
use Rattle.line_program.proofs.SkipLaws.{Passing}
use Rattle.line_program.proofs.operand.skip_operand.Given as goal

abbrev pub invariant-loop-p : goal.invariant-loop-p
invariant-loop-p g l = Passing g.B.TenthByte.fits (skip_operand g.B.TenthByte.kind (drop l.at l.program)) l.program l.at l.left l.p

abbrev pub decreases-loop-p : goal.decreases-loop-p
decreases-loop-p g l = length l.program - l.p
