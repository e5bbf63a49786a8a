-- `StoredLines::earlier_row` meets its contract.
use Rattle.rows.proofs.unit_lines.EarlierLaws.{earlier-some, earlier-none}
use Rattle.rows.proofs.unit_lines.StoredLines.earlier_row.Goals as goal

pub returns : goal.returns
returns c = earlier-some _ _ _ c.args.asked c.in_ok-own.own c.last_before.result c.in_ok-own.ensures (rw c.or.ensures at c.last_before.ensures)

pub returns-in_err-own : goal.returns-in_err-own
returns-in_err-own c = rw c.from_residual.ensures (earlier-none _ _ _ _ c.in_err-own.ensures)
