-- `convert::Conversion::finish_lines` meets its contract: the conversion of the rows, with the warning before it and the stored lines after it.
use native.Mathlib.Omega.{arith}
use mathlib.Core.Path.{refl}
use Rattle.tlv.proofs.AnswerLaws.{handed}
use Rattle.collect.proofs.UnitRowsLaws.{rows-still, ready-still}
use Rattle.collect.proofs.finish.FinishLaws.{conversion-room, conversion-below, finishes-refused, rows-below}
use Rattle.collect.proofs.finish.FinishLaws.{store_below, store-room, finishes-done}
use Rattle.collect.proofs.convert.Conversion.finish_lines.Goals as goal

pub convert_rows-requires-clause-rows_ready : goal.convert_rows-requires-clause-rows_ready
convert_rows-requires-clause-rows_ready c = ready-still c.args.given.rows c.requires.rows_ready (conversion-below c.requires.conversion_in c.requires.rows_counted) refl

pub convert_rows-requires-clause-lines_fit : goal.convert_rows-requires-clause-lines_fit
convert_rows-requires-clause-lines_fit c = conversion-room c.requires.conversion_in c.requires.rows_counted c.requires.lines_fit

pub returns-in_err-st : goal.returns-in_err-st
returns-in_err-st c = rw (handed _ _ c.from_residual.ensures.1) (finishes-refused c.requires.conversion_in c.requires.rows_counted c.in_err-st.ensures refl)

pub store_lines-lines-requires-clause-rows_ready : goal.store_lines-lines-requires-clause-rows_ready
store_lines-lines-requires-clause-rows_ready c = let same = rows-still c.args.given.rows c.requires.rows_ready c.in_ok-st.ensures.rest (rows-below c.requires.conversion_in c.requires.rows_counted c.in_ok-st.ensures) in
    rw same (ready-still c.args.given.rows c.requires.rows_ready (store_below c.requires.conversion_in c.requires.rows_counted c.in_ok-st.ensures refl) c.convert_rows.auto.work)

pub store_lines-lines-requires-clause-lines_fit : goal.store_lines-lines-requires-clause-lines_fit
store_lines-lines-requires-clause-lines_fit c = let same = rows-still c.args.given.rows c.requires.rows_ready c.in_ok-st.ensures.rest (rows-below c.requires.conversion_in c.requires.rows_counted c.in_ok-st.ensures) in
    rw same (store-room c.requires.conversion_in c.requires.rows_counted c.in_ok-st.ensures refl (omega (arith, c.requires.lines_fit, c.convert_rows.auto.work)))

pub returns : goal.returns
returns c = let same = rows-still c.args.given.rows c.requires.rows_ready c.in_ok-st.ensures.rest (rows-below c.requires.conversion_in c.requires.rows_counted c.in_ok-st.ensures) in
    finishes-done c.requires.conversion_in c.requires.rows_counted c.in_ok-st.ensures refl (rw same at c.store_lines-lines.ensures) c.warn_mismatch.ensures c.store_lines-lines.auto.work
