-- `compact_line_rows`: what the loop keeps of the lists is in `CompactLaws`.
use Rattle.lines.specs.Lines.{same_line}
use Rattle.normalize.proofs.CompactLaws.{Dropping, none}
use Rattle.normalize.proofs.compact_line_rows.Given as goal

abbrev pub invariant-loop-i : goal.invariant-loop-i
invariant-loop-i l = Dropping same_line none l.initial.lines l.lines l.last l.i
