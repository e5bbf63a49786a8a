-- `StoredLines::put_earlier` meets its contract.
use Rattle.rows.proofs.ForRangeLaws.{front_put}
use Rattle.rows.proofs.unit_lines.StoredLines.put_earlier.Goals as goal

pub returns : goal.returns
returns c = front_put _ _ c.requires.count_bound (rw (c.new-own.ensures.based, c.new-own.ensures.counted) at c.starts_late.ensures) c.if-not-starts_late.false c.earlier_row.result c.earlier_row.ensures c.in-Some.is c.put_entry.ensures c.new.ensures.based c.new.ensures.counted
