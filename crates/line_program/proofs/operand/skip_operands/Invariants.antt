-- `operand::skip_operands` meets its contract. What is left of the operands is passed over as all are.
use Rattle.std.proofs.Common.{◌-◌, ◌≤◌, drop, replicate}
use Rattle.line_program.specs.Program.{skip_operands}
use Rattle.line_program.specs.Standard.{unsigned}
use Rattle.line_program.proofs.SkipLaws.{Going}
use Rattle.line_program.proofs.operand.skip_operands.Given as goal

abbrev pub invariant-loop : goal.invariant-loop
invariant-loop l = (l.counter ≤ l.n) × Going l.program l.at l.p (skip_operands (replicate l.n unsigned) (drop l.at l.program)) (l.n - l.counter)
