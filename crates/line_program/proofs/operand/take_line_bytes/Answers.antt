-- `operand::take_line_bytes` meets its contract. The bytes end past the last number, past the program, or in it.
use native.Mathlib.Omega.{arith}
use Rattle.tlv.proofs.AnswerLaws.{ok-some}
use Rattle.tlv.proofs.OrLaws.{none-refused}
use Rattle.line_program.proofs.InstructionLaws.{take_past, take_cut, take_to}
use Rattle.line_program.proofs.operand.take_line_bytes.Goals as goal

pub returns-then-program-end : goal.returns-then-program-end
returns-then-program-end c =
    let z = rw (ok-some _ _ c.in_ok-end.ensures.value) at c.checked_add.ensures in
    take_cut _ _ _ (omega arith) (omega (arith, z.1)) (omega (arith, z.0))

pub returns : goal.returns
returns c = let z = rw (ok-some _ _ c.in_ok-end.ensures.value) at c.checked_add.ensures in rw z.1 (take_to _ _ _ (omega arith) (omega (arith, z.1)))

pub returns-in_err-end : goal.returns-in_err-end
returns-in_err-end c =
    let n = none-refused _ _ c.in_err-end.ensures.value c.from_residual.ensures.1 in
    let z = rw n.1 at c.checked_add.ensures in
    rw n.0 (take_past _ _ _ (omega arith) (omega (arith, z)) (omega (arith, z)))
