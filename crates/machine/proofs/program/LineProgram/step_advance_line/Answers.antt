-- `LineProgram::step_advance_line` meets its contract: a signed operand, added.
use Rattle.tlv.proofs.AnswerLaws.{handed}
use Rattle.machine.proofs.StepLaws.{line-steps, line-fault}
use Rattle.machine.proofs.program.LineProgram.step_advance_line.Goals as goal

pub returns : goal.returns
returns c = line-steps c.in_ok-lines.ensures c.add_line.ensures

pub returns-in_err-lines : goal.returns-in_err-lines
returns-in_err-lines c = rw (handed _ _ c.from_residual.ensures.1) (line-fault c.in_err-lines.ensures)
