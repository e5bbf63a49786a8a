-- `LineProgram::step_special` meets its contract: the line, then the address, then a row.
use Rattle.std.proofs.Common.{Ok, Err}
use Rattle.tlv.proofs.AnswerLaws.{handed}
use Rattle.machine.proofs.StepLaws.{special-steps}
use Rattle.machine.proofs.program.LineProgram.step_special.Goals as goal

pub returns : goal.returns
returns c = special-steps (Ok _) c.add_special_line.ensures c.in_ok-registers.ensures

pub returns-in_err-registers : goal.returns-in_err-registers
returns-in_err-registers c = rw (handed _ _ c.from_residual.ensures.1) (special-steps (Err _) c.add_special_line.ensures c.in_err-registers.ensures)
