-- `Registers::move_by` meets its contract: the registers further on, below 2^64.
use Rattle.std.proofs.Common.{arith}
use Rattle.tlv.proofs.AnswerLaws.{ok-some}
use Rattle.tlv.proofs.OrLaws.{none-refused}
use Rattle.machine.proofs.RegisterLaws.{move_past, move_done}
use Rattle.machine.proofs.registers.Registers.move_by.Goals as goal

pub returns : goal.returns
returns c =
    let z = rw (ok-some _ _ c.in_ok-address.ensures.value) at c.checked_add.ensures in
    rw z.1 (move_done c.args.self _ (omega arith) (omega (arith, z.0)))

pub returns-in_err-address : goal.returns-in_err-address
returns-in_err-address c =
    let n = none-refused _ _ c.in_err-address.ensures.value c.from_residual.ensures.1 in
    let z = rw n.1 at c.checked_add.ensures in
    rw n.0 (move_past _ _ (omega (arith, z)))
