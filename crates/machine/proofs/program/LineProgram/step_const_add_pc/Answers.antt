-- `LineProgram::step_const_add_pc` meets its contract: a move by special opcode 255.
use Rattle.std.proofs.Common.{Ok, Err}
use Rattle.tlv.proofs.AnswerLaws.{handed}
use Rattle.machine.proofs.StepLaws.{const_steps}
use Rattle.machine.proofs.program.LineProgram.step_const_add_pc.Goals as goal

pub returns : goal.returns
returns c = const_steps (Ok _) c.in_ok-registers.ensures

pub returns-in_err-registers : goal.returns-in_err-registers
returns-in_err-registers c = rw (handed _ _ c.from_residual.ensures.1) (const_steps (Err _) c.in_err-registers.ensures)
