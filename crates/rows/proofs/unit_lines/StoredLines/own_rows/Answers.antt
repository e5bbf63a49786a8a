-- `StoredLines::own_rows` meets its contract.
use Rattle.rows.proofs.unit_lines.OwnRowLaws.{own-start, own-past, own-not, own-take, own-done}
use Rattle.rows.proofs.unit_lines.StoredLines.own_rows.Goals as goal
use Rattle.rows.proofs.unit_lines.StoredLines.own_rows.Goals.{then-takes_row, else-takes_row}

pub returns-then-range-address : goal.returns-then-range-address
returns-then-range-address c = own-past c.loop-i.invariant c.requires.rows_below_target c.loop-i-test.true c.address_at-address.ensures c.if-range-address.true

pub loop-i-init : goal.loop-i-init
loop-i-init c = search own-start

pub loop-i-preserved : goal.loop-i-preserved
loop-i-preserved c = elim c.if-takes_row.branch [
  | then-takes_row w ↦ rw (w.work-is, w.count-is) (own-take c.loop-i.invariant c.requires.rows_below_target c.loop-i-test.true c.address_at-address.ensures
      c.if-range-address.false c.takes_row.ensures w.if-takes_row.true w.copy_record.ensures w.copy_record.auto.w)
  | else-takes_row w ↦ rw (w.work-is, w.count-is) (own-not c.loop-i.invariant c.requires.rows_below_target c.loop-i-test.true c.address_at-address.ensures
      c.if-range-address.false c.takes_row.ensures w.if-takes_row.false)
]

pub returns : goal.returns
returns c = search own-done
