-- `LineProgram::step` meets its contract: an extended, a standard or a special opcode.
use Rattle.std.proofs.Common.{arith}
use Rattle.machine.proofs.ExtendedLaws.{step-extended, step-standard, step-special}
use Rattle.machine.proofs.program.LineProgram.step.Goals as goal

pub returns : goal.returns
returns c = step-special _ _ _ _ _ _ _ _ c.if-opcode-eq0.false c.if-opcode-self.false (omega arith) c.step_special.ensures

pub returns-then-opcode-self : goal.returns-then-opcode-self
returns-then-opcode-self c = search step-standard

pub returns-then-opcode-eq0 : goal.returns-then-opcode-eq0
returns-then-opcode-eq0 c = search step-extended
