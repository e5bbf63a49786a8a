-- `program::gather_program_rows` meets its contract: the rows that were written, and those from here on, are the program's.
use Rattle.std.proofs.Common.{◌≡◌, rules}
use Rattle.tlv.proofs.AnswerLaws.{handed}
use Rattle.collect.proofs.program.GatherLaws.{gather-refused, gather-start, gather-fault, gather-end, gather-plain, gather-ended}
use Rattle.collect.proofs.program.gather_program_rows.Goals as goal

pub loop-emitted-init : goal.loop-emitted-init
loop-emitted-init c = let m = c.in_ok-program.ensures in
    let none : c.default-counted.result ≡ record { lines = 0; opened = 0; sequences = 0 } = search rules in
    rw (m.0, m.1, m.2, none) (gather-start _ _ _ _ _ _ m.3 c.initial-registers.ensures c.requires)

pub returns-in_err-program : goal.returns-in_err-program
returns-in_err-program c = rw (handed _ _ c.from_residual.ensures.1) (gather-refused _ _ _ _ _ c.in_err-program.ensures)

pub returns-in_err-emitted : goal.returns-in_err-emitted
returns-in_err-emitted c = let m = c.in_ok-program.ensures in
    rw (handed _ _ c.from_residual-in_err-emitted.ensures.1) (rw (m.0, m.1, m.2) at (gather-fault c.loop-emitted.invariant c.in_err-emitted.ensures))

pub loop-emitted-preserved-in-Plain : goal.loop-emitted-preserved-in-Plain
loop-emitted-preserved-in-Plain c = rw c.count_row.ensures (gather-plain c.loop-emitted.invariant (rw (c.in-Some.is, c.in-Plain.is) at c.in_ok-emitted.ensures) c.put_row.ensures c.put_row.auto.work)

pub loop-emitted-preserved : goal.loop-emitted-preserved
loop-emitted-preserved c = rw c.end_sequence.ensures (gather-ended c.loop-emitted.invariant (rw (c.in-Some.is, c.in-Ended.is) at c.in_ok-emitted.ensures) _ c.put_row-in-Ended.ensures c.put_row-in-Ended.auto.work c.initial-registers-in-Ended.ensures)

pub returns : goal.returns
returns c = let m = c.in_ok-program.ensures in
    rw (m.0, m.1, m.2) at (gather-end c.loop-emitted.invariant (rw c.in_default.is at c.in_ok-emitted.ensures) c.new-2.ensures.based c.new-2.ensures.counted)
