-- `Encoding::advance` meets its contract: a product that is too large passes the last address.
use Rattle.std.proofs.Common.{arith}
use Rattle.tlv.proofs.AnswerLaws.{ok-some}
use Rattle.tlv.proofs.OrLaws.{none-refused}
use Rattle.machine.proofs.RegisterLaws.{advance-past, advance-by}
use Rattle.machine.proofs.registers.Encoding.advance.Goals as goal

pub returns : goal.returns
returns c =
    let z = rw (ok-some _ _ c.in_ok-bytes.ensures.value) at c.checked_mul.ensures in
    advance-by c.args.self c.args.r c.args.n c.from.result c.from.ensures _ (rw z.1 at c.move_by.ensures)

pub returns-in_err-bytes : goal.returns-in_err-bytes
returns-in_err-bytes c =
    let n = none-refused _ _ c.in_err-bytes.ensures.value c.from_residual.ensures.1 in
    let z = rw n.1 at c.checked_mul.ensures in
    rw n.0 (advance-past c.args.self c.args.r c.args.n c.from.result c.from.ensures (omega (arith, z)))
