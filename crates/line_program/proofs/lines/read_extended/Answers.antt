-- `lines::read_extended` meets its contract. The length is read, then its bytes are passed over.
use Rattle.std.proofs.Common.{arith, refl}
use Rattle.tlv.proofs.AnswerLaws.{handed}
use Rattle.line_program.proofs.InstructionLaws.{read-fault, read-zero, read-cut, read-past, read-all}
use Rattle.line_program.proofs.lines.read_extended.Goals as goal

pub returns-in_err-length : goal.returns-in_err-length
returns-in_err-length c = rw (handed _ _ c.from_residual.ensures.1) (read-fault c.in_err-length.ensures)

pub returns-then-length-eq0 : goal.returns-then-length-eq0
returns-then-length-eq0 c = read-zero c.in_ok-length.ensures c.if-length-eq0.true

pub returns-then-program-length : goal.returns-then-program-length
returns-then-program-length c = read-cut c.in_ok-length.ensures c.if-length-eq0.false (omega arith)

pub returns-in_err-next : goal.returns-in_err-next
returns-in_err-next c = rw (handed _ _ c.from_residual-in_err-next.ensures.1) (read-past c.in_ok-length.ensures c.if-length-eq0.false (omega arith) c.in_err-next.ensures)

pub returns : goal.returns
returns c = read-all c.in_ok-length.ensures c.if-length-eq0.false (omega arith) c.in_ok-next.ensures refl refl
