-- `operand::read_line_uleb` meets its contract. The value so far, what a bit more is worth, and what is left.
use Prim.Native.Nat.{◌-◌}
use lib.ListN.{length}
use Rattle.line_program.proofs.UlebLaws.{Reading}
use Rattle.line_program.proofs.operand.read_line_uleb.Given as goal

abbrev pub invariant-loop-p : goal.invariant-loop-p
invariant-loop-p l = Reading l.program l.at l.value l.scale l.left l.p

abbrev pub decreases-loop-p : goal.decreases-loop-p
decreases-loop-p l = length l.program - l.p
