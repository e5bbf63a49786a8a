-- `lines::skip_extended` meets its contract: what is read, by its opcode.
use Rattle.tlv.proofs.AnswerLaws.{handed}
use Rattle.line_program.proofs.InstructionLaws.{extended-fault, extended-end, extended-to}
use Rattle.line_program.proofs.lines.skip_extended.Goals as goal

pub returns-in_err-instruction : goal.returns-in_err-instruction
returns-in_err-instruction c = rw (handed _ _ c.from_residual.ensures.1) (extended-fault c.in_err-instruction.ensures)

pub returns-then-instruction-eq-DW_LNE_END_SEQUENCE : goal.returns-then-instruction-eq-DW_LNE_END_SEQUENCE
returns-then-instruction-eq-DW_LNE_END_SEQUENCE c = extended-end c.in_ok-instruction.ensures c.if-instruction-eq-DW_LNE_END_SEQUENCE.true

pub returns : goal.returns
returns c = extended-to c.in_ok-instruction.ensures c.if-instruction-eq-DW_LNE_END_SEQUENCE.false
