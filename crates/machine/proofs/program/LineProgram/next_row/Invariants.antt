-- `LineProgram::next_row` meets its contract: the loop's invariant: the rows from here on are those that were asked for.
use Rattle.std.proofs.Common.{◌-◌, length}
use Rattle.machine.specs.Steps.{machine_of}
use Rattle.machine.proofs.program.RowLaws.{Running}
use Rattle.machine.proofs.program.LineProgram.next_row.Given as goal

abbrev pub invariant-loop-p : goal.invariant-loop-p
invariant-loop-p l = Running (machine_of l.self.encoding l.self.lengths.now (length l.self.program.now)) l.self.program.now l.initial.registers l.at l.registers l.p

abbrev pub decreases-loop-p : goal.decreases-loop-p
decreases-loop-p l = length l.self.program.now - l.p
