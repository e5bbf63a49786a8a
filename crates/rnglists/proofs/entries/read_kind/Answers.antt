-- `entries::read_kind` meets its contract: at each kind the Standard's operands.
use Rattle.std.proofs.Common.{refl, sym}
use Rattle.tlv.proofs.AnswerLaws.{handed}
use Rattle.rnglists.proofs.entries.ReadLaws.{slots0, slots1, slots2, slots3, slots4, slots5, slots6, slots7, nothing_read, number_read, kind-unknown, first-refused, second-refused, operands_read}
use Rattle.rnglists.proofs.entries.read_kind.Goals as goal

pub returns-in-0 : goal.returns-in-0
returns-in-0 c = rw c.until.ensures (operands_read (slots0 c.in-0.is) (nothing_read c.requires) (nothing_read c.requires) (sym c.in-0.is) refl refl)

pub returns-in_err-index-in-1 : goal.returns-in_err-index-in-1
returns-in_err-index-in-1 c = rw (handed _ _ c.from_residual.ensures.1) (first-refused (slots1 c.in-1.is) (number_read c.in_err-index-in-1.ensures))

pub returns-in_ok-index-in-1 : goal.returns-in_ok-index-in-1
returns-in_ok-index-in-1 c = rw c.until-in-1.ensures (let P = (number_read c.in_ok-index-in-1.ensures) in operands_read (slots1 c.in-1.is) P (nothing_read P.within.1) (sym c.in-1.is) refl refl)

pub returns-in_err-start-in-2 : goal.returns-in_err-start-in-2
returns-in_err-start-in-2 c = rw (handed _ _ c.from_residual-in_err-start-in-2.ensures.1) (first-refused (slots2 c.in-2.is) (number_read c.in_err-start-in-2.ensures))

pub returns-in_err-end-in-2 : goal.returns-in_err-end-in-2
returns-in_err-end-in-2 c = rw (handed _ _ c.from_residual-in_err-end-in-2.ensures.1) (second-refused (slots2 c.in-2.is) (number_read c.in_ok-start-in-2.ensures) (number_read c.in_err-end-in-2.ensures))

pub returns-in_ok-end-in-2 : goal.returns-in_ok-end-in-2
returns-in_ok-end-in-2 c = rw c.until-in-2.ensures (operands_read (slots2 c.in-2.is) (number_read c.in_ok-start-in-2.ensures) (number_read c.in_ok-end-in-2.ensures) (sym c.in-2.is) refl refl)

pub returns-in_err-start-in-3 : goal.returns-in_err-start-in-3
returns-in_err-start-in-3 c = rw (handed _ _ c.from_residual-in_err-start-in-3.ensures.1) (first-refused (slots3 c.in-3.is) (number_read c.in_err-start-in-3.ensures))

pub returns-in_err-length-in-3 : goal.returns-in_err-length-in-3
returns-in_err-length-in-3 c = rw (handed _ _ c.from_residual-in_err-length-in-3.ensures.1) (second-refused (slots3 c.in-3.is) (number_read c.in_ok-start-in-3.ensures) (number_read c.in_err-length-in-3.ensures))

pub returns-in_ok-length-in-3 : goal.returns-in_ok-length-in-3
returns-in_ok-length-in-3 c = rw c.until-in-3.ensures (operands_read (slots3 c.in-3.is) (number_read c.in_ok-start-in-3.ensures) (number_read c.in_ok-length-in-3.ensures) (sym c.in-3.is) refl refl)

pub returns-in_err-start-in-4 : goal.returns-in_err-start-in-4
returns-in_err-start-in-4 c = rw (handed _ _ c.from_residual-in_err-start-in-4.ensures.1) (first-refused (slots4 c.in-4.is) (number_read c.in_err-start-in-4.ensures))

pub returns-in_err-end-in-4 : goal.returns-in_err-end-in-4
returns-in_err-end-in-4 c = rw (handed _ _ c.from_residual-in_err-end-in-4.ensures.1) (second-refused (slots4 c.in-4.is) (number_read c.in_ok-start-in-4.ensures) (number_read c.in_err-end-in-4.ensures))

pub returns-in_ok-end-in-4 : goal.returns-in_ok-end-in-4
returns-in_ok-end-in-4 c = rw c.until-in-4.ensures (operands_read (slots4 c.in-4.is) (number_read c.in_ok-start-in-4.ensures) (number_read c.in_ok-end-in-4.ensures) (sym c.in-4.is) refl refl)

pub returns-in_err-base-in-5 : goal.returns-in_err-base-in-5
returns-in_err-base-in-5 c = rw (handed _ _ c.from_residual-in_err-base-in-5.ensures.1) (first-refused (slots5 c.in-5.is) c.in_err-base-in-5.ensures)

pub returns-in_ok-base-in-5 : goal.returns-in_ok-base-in-5
returns-in_ok-base-in-5 c = rw c.until-in-5.ensures (let P = c.in_ok-base-in-5.ensures in operands_read (slots5 c.in-5.is) P (nothing_read P.within.1) (sym c.in-5.is) refl refl)

pub returns-in_err-start-in-6 : goal.returns-in_err-start-in-6
returns-in_err-start-in-6 c = rw (handed _ _ c.from_residual-in_err-start-in-6.ensures.1) (first-refused (slots6 c.in-6.is) c.in_err-start-in-6.ensures)

pub returns-in_err-end-in-6 : goal.returns-in_err-end-in-6
returns-in_err-end-in-6 c = rw (handed _ _ c.from_residual-in_err-end-in-6.ensures.1) (second-refused (slots6 c.in-6.is) c.in_ok-start-in-6.ensures c.in_err-end-in-6.ensures)

pub returns-in_ok-end-in-6 : goal.returns-in_ok-end-in-6
returns-in_ok-end-in-6 c = rw c.until-in-6.ensures (operands_read (slots6 c.in-6.is) c.in_ok-start-in-6.ensures c.in_ok-end-in-6.ensures (sym c.in-6.is) refl refl)

pub returns-in_err-start-in-7 : goal.returns-in_err-start-in-7
returns-in_err-start-in-7 c = rw (handed _ _ c.from_residual-in_err-start-in-7.ensures.1) (first-refused (slots7 c.in-7.is) c.in_err-start-in-7.ensures)

pub returns-in_err-length-in-7 : goal.returns-in_err-length-in-7
returns-in_err-length-in-7 c = rw (handed _ _ c.from_residual-in_err-length-in-7.ensures.1) (second-refused (slots7 c.in-7.is) c.in_ok-start-in-7.ensures (number_read c.in_err-length-in-7.ensures))

pub returns-in_ok-length-in-7 : goal.returns-in_ok-length-in-7
returns-in_ok-length-in-7 c = rw c.until-in-7.ensures (operands_read (slots7 c.in-7.is) c.in_ok-start-in-7.ensures (number_read c.in_ok-length-in-7.ensures) (sym c.in-7.is) refl refl)

pub returns-in_default : goal.returns-in_default
returns-in_default c = search kind-unknown
