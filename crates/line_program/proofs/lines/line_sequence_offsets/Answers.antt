-- `lines::line_sequence_offsets` meets its contract. The place of the program, then its sequences.
use Rattle.tlv.proofs.AnswerLaws.{ok-some}
use Rattle.tlv.proofs.OrLaws.{none-refused}
use Rattle.line_program.proofs.lines.OffsetLaws.{header-past, header-at}
use Rattle.line_program.proofs.lines.line_sequence_offsets.Goals as goal

pub returns : goal.returns
returns c = header-at _ _ _ _ _ (rw (ok-some _ _ c.in_ok-offset.ensures.value) at c.program_offset.ensures) c.scan_line_sequence_offsets.ensures

pub returns-in_err-offset : goal.returns-in_err-offset
returns-in_err-offset c =
    let n = none-refused _ _ c.in_err-offset.ensures.value c.from_residual.ensures.1 in
    rw n.0 (header-past _ _ _ _ _ (rw n.1 at c.program_offset.ensures))
