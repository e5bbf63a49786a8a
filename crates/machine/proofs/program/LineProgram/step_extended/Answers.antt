-- `LineProgram::step_extended` meets its contract: what is read, by its opcode.
use Rattle.std.proofs.Common.{rules}
use Rattle.tlv.proofs.AnswerLaws.{handed}
use Rattle.machine.proofs.ExtendedLaws.{extended-fault, extended-end, extended-address, extended-other}
use Rattle.machine.proofs.program.LineProgram.step_extended.Goals as goal

pub returns-in_err-instruction : goal.returns-in_err-instruction
returns-in_err-instruction c = rw (handed _ _ c.from_residual.ensures.1) (extended-fault c.in_err-instruction.ensures)

pub returns-in-1 : goal.returns-in-1
returns-in-1 c = extended-end c.in_ok-instruction.ensures c.in-1.is

pub returns-in-2 : goal.returns-in-2
returns-in-2 c = extended-address c.in_ok-instruction.ensures c.in-2.is c.step_set_address.ensures

pub returns-in_default : goal.returns-in_default
returns-in_default c = extended-other c.in_ok-instruction.ensures (search rules) (search rules)
