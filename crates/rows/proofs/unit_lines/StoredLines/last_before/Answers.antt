-- `StoredLines::last_before` meets its contract. What is looked for stands among the first i rows.
use Rattle.rows.proofs.unit_lines.EarlierLaws.{back_start, back-next, back_found, back_none}
use Rattle.rows.proofs.unit_lines.StoredLines.last_before.Goals as goal

pub returns : goal.returns
returns c = back_none c.loop-i.invariant c.loop-i-test.false

pub loop-i-init : goal.loop-i-init
loop-i-init c = search back_start

pub loop-i-preserved : goal.loop-i-preserved
loop-i-preserved c = search back-next

pub returns-then-belongs_to : goal.returns-then-belongs_to
returns-then-belongs_to c = back_found c.loop-i.invariant c.read-row.result.statement_sequence c.loop-i-test.true c.read-row.ensures.sequence c.belongs_to.ensures c.if-belongs_to.true c.read-row.ensures.entry
