-- `convert::Conversion::convert_rows` meets its contract. The loop's invariant: the rows that are left, with what the others have become, give what was asked.
use native.Mathlib.Omega.{arith}
use Rattle.tlv.proofs.AnswerLaws.{handed}
use Rattle.collect.proofs.walks.ConvertingLaws.{converting-start, converting-full, converting-over, converting-ended, converting-known}
use Rattle.collect.proofs.walks.ConvertingLaws.{converting-refused, converting-more}
use Rattle.collect.proofs.convert.Conversion.convert_rows.Goals as goal

pub loop-found-init : goal.loop-found-init
loop-found-init c = converting-start c.requires.rows_ready c.requires.conversion_in c.requires.lines_fit (omega (arith, c.well_formed.1.1.1.1.0)) (omega (arith, c.well_formed.1.1.1.1.1.1.0)) (omega (arith, c.well_formed.1.1.1.1.1.0))

pub returns-then-more-eq0 : goal.returns-then-more-eq0
returns-then-more-eq0 c = converting-full c.loop-found.invariant c.if-more-eq0.true

pub loop-found-preserved-then-found : goal.loop-found-preserved-then-found
loop-found-preserved-then-found c = converting-ended c.loop-found.invariant c.in-Some.ensures c.if-more-eq0.false c.if-found.true

pub loop-found-preserved-then-convert_known : goal.loop-found-preserved-then-convert_known
loop-found-preserved-then-convert_known c = converting-known c.loop-found.invariant c.in-Some.ensures c.if-more-eq0.false c.if-found.false
    (rw c.if-convert_known.true at c.convert_known.ensures) c.convert_known.auto.work

pub returns-in_err-state : goal.returns-in_err-state
returns-in_err-state c = rw (handed _ _ c.from_residual.ensures.1) (converting-refused c.loop-found.invariant c.in-Some.ensures c.if-more-eq0.false c.if-found.false
    (rw c.if-convert_known.false at c.convert_known.ensures) c.in_err-state.ensures)

pub loop-found-preserved : goal.loop-found-preserved
loop-found-preserved c = converting-more c.loop-found.invariant c.in-Some.ensures c.if-more-eq0.false c.if-found.false
    (rw c.if-convert_known.false at c.convert_known.ensures) c.in_ok-state.ensures c.convert_row.auto.work c.convert_row.auto.files c.convert_row.auto.warnings

pub returns : goal.returns
returns c = converting-over c.loop-found.invariant c.in_default.ensures
