-- `operands::read_line_sleb` meets its contract: the value so far, what a bit more is worth, and what is left.
use Rattle.std.proofs.Common.{◌-◌, length}
use Rattle.machine.proofs.operands.SlebLaws.{ReadingSigned}
use Rattle.machine.proofs.operands.read_line_sleb.Given as goal

abbrev pub invariant-loop-p : goal.invariant-loop-p
invariant-loop-p l = ReadingSigned l.program l.at l.value l.scale l.left l.p

abbrev pub decreases-loop-p : goal.decreases-loop-p
decreases-loop-p l = length l.program - l.p
