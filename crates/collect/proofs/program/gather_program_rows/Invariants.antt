-- `program::gather_program_rows` meets its contract: the rows that were written, and those from here on, are the program's.
use Prim.Native.Nat.{◌-◌}
use lib.ListN.{length}
use Rattle.collect.proofs.program.GatherLaws.{GatheringProgram}
use Rattle.collect.proofs.program.gather_program_rows.Given as goal

abbrev pub invariant-loop-emitted : goal.invariant-loop-emitted
invariant-loop-emitted l = GatheringProgram l.program.encoding l.program.lengths.now l.program.program.now l.initial.work l.work l.base l.registers l.at l.counted.lines l.counted.opened l.counted.sequences l.count

abbrev pub decreases-loop-emitted : goal.decreases-loop-emitted
decreases-loop-emitted l = length l.program.program.now - l.at
