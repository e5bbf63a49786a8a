-- `StoredLines::own_rows` meets its contract.
use Rattle.rows.proofs.unit_lines.OwnRowLaws.{Owning}
use Rattle.rows.proofs.unit_lines.StoredLines.own_rows.Given as goal

abbrev pub invariant-loop-i : goal.invariant-loop-i
invariant-loop-i l = Owning l.initial.work l.work l.self l.range l.asked l.to l.i l.count
