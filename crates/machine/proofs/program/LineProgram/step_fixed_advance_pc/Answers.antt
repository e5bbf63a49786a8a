-- `LineProgram::step_fixed_advance_pc` meets its contract: two bytes, then a move.
use Rattle.std.proofs.Common.{◌∙◌, arith, Ok, Err}
use Rattle.tlv.proofs.AnswerLaws.{handed}
use Rattle.machine.proofs.StepLaws.{half_cut, half_steps}
use Rattle.machine.proofs.program.LineProgram.step_fixed_advance_pc.Goals as goal

pub returns : goal.returns
returns c = half_steps (Ok _) c.requires (omega arith) (c.from.ensures ∙ c.read.ensures) c.in_ok-registers.ensures

pub returns-in_err-registers : goal.returns-in_err-registers
returns-in_err-registers c = rw (handed _ _ c.from_residual.ensures.1)
    (half_steps (Err _) c.requires (omega arith) (c.from.ensures ∙ c.read.ensures) c.in_err-registers.ensures)

pub returns-then-self-at-lt2 : goal.returns-then-self-at-lt2
returns-then-self-at-lt2 c = search half_cut
