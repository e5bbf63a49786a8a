-- `lines::scan_line_sequence_offsets` meets its contract. The table so far, and what is left of the program.
use Prim.Native.Nat.{◌-◌}
use lib.ListN.{length}
use Rattle.line_program.proofs.lines.ScanLaws.{Scanning}
use Rattle.line_program.proofs.lines.scan_line_sequence_offsets.Given as goal

abbrev pub invariant-loop-p : goal.invariant-loop-p
invariant-loop-p l = Scanning (record { base = l.opcode_base; lengths = l.lengths }) l.program l.initial.work l.work l.program_offset l.base l.n l.from l.p

abbrev pub decreases-loop-p : goal.decreases-loop-p
decreases-loop-p l = length l.program - l.p
