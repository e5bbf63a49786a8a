-- `compact_line_rows` meets its contract: no row, the first, a row like the last one, another, and the end.
use mathlib.Core.Path.{sym, ◌∙◌}
use Rattle.std.proofs.Common.{◌<◌, ◌≤◌, length, arith}
use borrow.Author.Tests.{eqb-true, eqb-false}
use Rattle.lines.specs.Lines.{same_line}
use Rattle.normalize.proofs.CompactLaws.{none, dropping-start, dropping_same, dropping-other, compacts_none, compacts}
use Rattle.normalize.proofs.compact_line_rows.Goals as goal
use Rattle.normalize.proofs.compact_line_rows.Goals.{then-not-same_line, else-not-same_line}

pub returns-then-is_empty : goal.returns-then-is_empty
returns-then-is_empty c = compacts_none _ (eqb-true _ _ (sym c.is_empty.ensures ∙ c.if-is_empty.true))

pub loop-i-init : goal.loop-i-init
loop-i-init c =
    let some : 0 < length c.args.lines.now = omega (arith, eqb-false _ _ (sym c.is_empty.ensures ∙ c.if-is_empty.false)) in
    dropping-start same_line none _ some

pub loop-i-preserved : goal.loop-i-preserved
loop-i-preserved c = elim c.if-not-same_line.branch [
  | then-not-same_line w ↦ rw (w.lines-is, w.last-is) (dropping-other c.loop-i.invariant c.loop-i-test.true (sym c.same_line.ensures ∙ w.if-not-same_line.true))
  | else-not-same_line w ↦ rw (w.lines-is, w.last-is) (dropping_same c.loop-i.invariant c.loop-i-test.true (sym c.same_line.ensures ∙ w.if-not-same_line.false))
]

pub returns : goal.returns
returns c = let past : length c.args.lines.now ≤ c.loop-i.i = omega arith in compacts c.loop-i.invariant past
