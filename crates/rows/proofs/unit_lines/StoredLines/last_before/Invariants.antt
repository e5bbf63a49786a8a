-- `StoredLines::last_before` meets its contract. What is looked for stands among the first i rows.
use Rattle.rows.specs.Stored.{sequence_of}
use Rattle.rows.proofs.unit_lines.EarlierLaws.{Backwards}
use Rattle.rows.proofs.unit_lines.StoredLines.last_before.Given as goal

abbrev pub invariant-loop-i : goal.invariant-loop-i
invariant-loop-i l = Backwards l.work l.self.lines.base l.self.lines.count l.address (sequence_of l.asked) l.i
