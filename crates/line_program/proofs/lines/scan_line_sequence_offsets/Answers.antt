-- `lines::scan_line_sequence_offsets` meets its contract. The table so far, and what is left of the program.
use Rattle.std.proofs.Common.{arith}
use Rattle.std.proofs.lemmas.Result.{err_from_is_err_and}
use Rattle.tlv.proofs.AnswerLaws.{ok-some}
use Rattle.tlv.proofs.OrLaws.{none-refused}
use Rattle.line_program.proofs.lines.ScanLaws.{scan-start, scan-done, scan-err, scan-to, scan-past, scan-ended}
use Rattle.line_program.proofs.lines.scan_line_sequence_offsets.Goals as goal

pub loop-p-preserved-in-To : goal.loop-p-preserved-in-To
loop-p-preserved-in-To c = let P = rw c.in-To.is at c.in_ok-next.ensures in scan-to c.loop-p.invariant c.loop-p-test.true P

pub returns-in_err-next : goal.returns-in_err-next
returns-in_err-next c =
    let p = err_from_is_err_and c.from_residual.result c.from_residual.ensures.1 in
    rw (p.1, p.2) (scan-err c.loop-p.invariant c.loop-p-test.true c.in_err-next.ensures)

pub loop-p-preserved : goal.loop-p-preserved
loop-p-preserved c = let P = rw c.in-Ended.is at c.in_ok-next.ensures in
    let z = rw (ok-some _ _ c.in_ok-from-in-Ended.ensures.value) at c.checked_add.ensures in
    let S = scan-ended c.loop-p.invariant c.loop-p-test.true P c.write.ensures (omega (arith, z)) c.write.auto.w in rw z.1 S

pub returns-in_err-from-in-Ended : goal.returns-in_err-from-in-Ended
returns-in_err-from-in-Ended c =
    let P = rw c.in-Ended.is at c.in_ok-next.ensures in
    let n = none-refused _ _ c.in_err-from-in-Ended.ensures.value c.from_residual-in_err-from-in-Ended.ensures.1 in
    let z = rw n.1 at c.checked_add.ensures in
    rw n.0 (scan-past c.loop-p.invariant c.loop-p-test.true P c.write.ensures (omega (arith, z)))

pub loop-p-init : goal.loop-p-init
loop-p-init c = search scan-start

pub returns : goal.returns
returns c = search scan-done
