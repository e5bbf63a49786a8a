-- `LineProgram::next_row` meets its contract: the loop's invariant: the rows from here on are those that were asked for.
use Rattle.tlv.proofs.AnswerLaws.{handed}
use Rattle.machine.proofs.program.RowLaws.{running-less, running-quiet, running-row, running-fault, running-end}
use Rattle.machine.proofs.program.LineProgram.next_row.Goals as goal

pub loop-p-smaller : goal.loop-p-smaller
loop-p-smaller c = running-less c.loop-p.invariant c.loop-p-test.true (rw c.in-Quiet.is at c.in_ok-moved.ensures)

pub loop-p-preserved : goal.loop-p-preserved
loop-p-preserved c = running-quiet c.loop-p.invariant c.loop-p-test.true (rw c.in-Quiet.is at c.in_ok-moved.ensures)

pub returns-in-Row : goal.returns-in-Row
returns-in-Row c = running-row c.loop-p.invariant c.loop-p-test.true _ (rw c.in-Row.is at c.in_ok-moved.ensures)

pub returns-in_err-moved : goal.returns-in_err-moved
returns-in_err-moved c = rw (handed _ _ c.from_residual.ensures.1) (running-fault c.loop-p.invariant c.loop-p-test.true c.in_err-moved.ensures)

pub returns : goal.returns
returns c = search running-end
