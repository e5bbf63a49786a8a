-- `LineProgram::step_set_column` meets its contract: an operand, kept.
use Rattle.tlv.proofs.AnswerLaws.{handed}
use Rattle.machine.proofs.StepLaws.{column-steps, unsigned-fault}
use Rattle.machine.proofs.program.LineProgram.step_set_column.Goals as goal

pub returns : goal.returns
returns c = column-steps c.in_ok-column.ensures

pub returns-in_err-column : goal.returns-in_err-column
returns-in_err-column c = rw (handed _ _ c.from_residual.ensures.1) (unsigned-fault _ c.in_err-column.ensures)
