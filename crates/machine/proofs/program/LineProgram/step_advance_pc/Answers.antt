-- `LineProgram::step_advance_pc` meets its contract: an operand, then a move.
use Rattle.std.proofs.Common.{Ok, Err}
use Rattle.tlv.proofs.AnswerLaws.{handed}
use Rattle.machine.proofs.StepLaws.{advance-steps, unsigned-fault}
use Rattle.machine.proofs.program.LineProgram.step_advance_pc.Goals as goal

pub returns : goal.returns
returns c = advance-steps c.in_ok-operations.ensures (Ok _) c.in_ok-registers.ensures

pub returns-in_err-operations : goal.returns-in_err-operations
returns-in_err-operations c = rw (handed _ _ c.from_residual.ensures.1) (unsigned-fault _ c.in_err-operations.ensures)

pub returns-in_err-registers : goal.returns-in_err-registers
returns-in_err-registers c = rw (handed _ _ c.from_residual-in_err-registers.ensures.1)
    (advance-steps c.in_ok-operations.ensures (Err _) c.in_err-registers.ensures)
