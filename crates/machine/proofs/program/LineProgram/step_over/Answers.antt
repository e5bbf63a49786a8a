-- `LineProgram::step_over` meets its contract: operands that are passed over.
use Rattle.tlv.proofs.AnswerLaws.{handed}
use Rattle.machine.proofs.StepLaws.{over-steps, over-fault}
use Rattle.machine.proofs.program.LineProgram.step_over.Goals as goal

pub returns : goal.returns
returns c = over-steps _ c.in_ok-next.ensures

pub returns-in_err-next : goal.returns-in_err-next
returns-in_err-next c = rw (handed _ _ c.from_residual.ensures.1) (over-fault _ c.in_err-next.ensures)
