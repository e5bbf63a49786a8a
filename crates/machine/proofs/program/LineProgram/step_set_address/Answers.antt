-- `LineProgram::step_set_address` meets its contract: an address of any number of bytes, then a move.
use Rattle.std.proofs.Common.{Ok, Err}
use Rattle.tlv.proofs.AnswerLaws.{handed, ok-some}
use Rattle.tlv.proofs.OrLaws.{none-refused}
use Rattle.machine.proofs.ExtendedLaws.{address-steps, address-past}
use Rattle.machine.proofs.program.LineProgram.step_set_address.Goals as goal

pub returns : goal.returns
returns c =
    let z = rw (ok-some _ _ c.in_ok-address.ensures.value) at c.address_operand.ensures in
    address-steps (Ok _) z c.in_ok-registers.ensures

pub returns-in_err-registers : goal.returns-in_err-registers
returns-in_err-registers c =
    let z = rw (ok-some _ _ c.in_ok-address.ensures.value) at c.address_operand.ensures in
    rw (handed _ _ c.from_residual-in_err-registers.ensures.1) (address-steps (Err _) z c.in_err-registers.ensures)

pub returns-in_err-address : goal.returns-in_err-address
returns-in_err-address c =
    let n = none-refused _ _ c.in_err-address.ensures.value c.from_residual.ensures.1 in
    rw n.0 (address-past (rw n.1 at c.address_operand.ensures))
