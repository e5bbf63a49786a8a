-- `AddressTable::meaning_of` meets its contract: at each kind the definition's clause.
use Rattle.tlv.proofs.AnswerLaws.{handed}
use Rattle.rnglists.proofs.lists.MeaningLaws.{says-end, says-base, says-pair, says-between, says-length, past-base, past-start, past-length, found-base, found-length, past_end, found-end}
use Rattle.rnglists.proofs.lists.AddressTable.meaning_of.Goals as goal

pub returns-in_err-base-in-BaseAddressx : goal.returns-in_err-base-in-BaseAddressx
returns-in_err-base-in-BaseAddressx c = rw (handed _ _ c.from_residual.ensures.1, c.in-BaseAddressx.is) (past-base c.in_err-base-in-BaseAddressx.ensures)

pub returns-in_err-start-in-StartxEndx : goal.returns-in_err-start-in-StartxEndx
returns-in_err-start-in-StartxEndx c = rw (handed _ _ c.from_residual-in_err-start-in-StartxEndx.ensures.1, c.in-StartxEndx.is)
    (past-start c.in_err-start-in-StartxEndx.ensures)

pub returns-in_err-end-in-StartxEndx : goal.returns-in_err-end-in-StartxEndx
returns-in_err-end-in-StartxEndx c = rw (handed _ _ c.from_residual-in_err-end-in-StartxEndx.ensures.1, c.in-StartxEndx.is)
    (past_end c.in_ok-start-in-StartxEndx.ensures c.in_err-end-in-StartxEndx.ensures)

pub returns-in_err-start-in-StartxLength : goal.returns-in_err-start-in-StartxLength
returns-in_err-start-in-StartxLength c = rw (handed _ _ c.from_residual-in_err-start-in-StartxLength.ensures.1, c.in-StartxLength.is)
    (past-length c.in_err-start-in-StartxLength.ensures)

pub returns-in_ok-base-in-BaseAddressx : goal.returns-in_ok-base-in-BaseAddressx
returns-in_ok-base-in-BaseAddressx c = rw c.in-BaseAddressx.is (found-base c.in_ok-base-in-BaseAddressx.ensures)

pub returns-in_ok-end-in-StartxEndx : goal.returns-in_ok-end-in-StartxEndx
returns-in_ok-end-in-StartxEndx c = rw c.in-StartxEndx.is
    (found-end c.in_ok-start-in-StartxEndx.ensures c.in_ok-end-in-StartxEndx.ensures c.largest-top.ensures c.bounded.ensures)

pub returns-in_ok-start-in-StartxLength : goal.returns-in_ok-start-in-StartxLength
returns-in_ok-start-in-StartxLength c = rw c.in-StartxLength.is
    (found-length c.in_ok-start-in-StartxLength.ensures c.largest-top.ensures c.bounded_length.ensures)

pub returns-in-EndOfList : goal.returns-in-EndOfList
returns-in-EndOfList c = rw c.in-EndOfList.is says-end

pub returns-in-BaseAddress : goal.returns-in-BaseAddress
returns-in-BaseAddress c = rw c.in-BaseAddress.is says-base

pub returns-in-OffsetPair : goal.returns-in-OffsetPair
returns-in-OffsetPair c = rw c.in-OffsetPair.is (says-pair c.largest-top.ensures c.offset_pair.ensures)

pub returns-in-StartEnd : goal.returns-in-StartEnd
returns-in-StartEnd c = rw c.in-StartEnd.is (says-between c.largest-top.ensures c.bounded-in-StartEnd.ensures)

pub returns-in-StartLength : goal.returns-in-StartLength
returns-in-StartLength c = rw c.in-StartLength.is (says-length c.largest-top.ensures c.bounded_length-in-StartLength.ensures)
