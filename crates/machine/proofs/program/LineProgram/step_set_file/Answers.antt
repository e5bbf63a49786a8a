-- `LineProgram::step_set_file` meets its contract: an operand, kept.
use Rattle.tlv.proofs.AnswerLaws.{handed}
use Rattle.machine.proofs.StepLaws.{file-steps, unsigned-fault}
use Rattle.machine.proofs.program.LineProgram.step_set_file.Goals as goal

pub returns : goal.returns
returns c = file-steps c.in_ok-file.ensures

pub returns-in_err-file : goal.returns-in_err-file
returns-in_err-file c = rw (handed _ _ c.from_residual.ensures.1) (unsigned-fault _ c.in_err-file.ensures)
