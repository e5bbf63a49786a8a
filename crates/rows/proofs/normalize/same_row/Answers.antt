-- `normalize::same_row` meets its contract: the address, the file and the line, the sequence.
use mathlib.Core.Path.{sym, ◌∙◌}
use borrow.Author.Tests.{eqb-true}
use Rattle.rows.proofs.StoredLaws.{same-is}
use Rattle.rows.proofs.normalize.SameLaws.{addresses-differ, lines-differ, sequences-decide}
use Rattle.rows.proofs.normalize.same_row.Goals as goal
use Rattle.rows.proofs.normalize.same_row.Goals.{then-address_at, else-address_at}

pub returns-then-same_line : goal.returns-then-same_line
returns-then-same_line c = elim c.if-address_at.branch [
  | then-address_at w ↦ sequences-decide c.args.work.now c.args.p c.args.q c.address_at.ensures c.address_at-2.ensures w.if-address_at.true w.same_line.ensures
      (sym w.value-is ∙ c.if-same_line.true) c.sequence_at.ensures c.sequence_at-then-same_line.ensures (c.eq.ensures ∙ same-is c.sequence_at.result c.sequence_at-then-same_line.result)
  | else-address_at w ↦ absurd (w.if-address_at.false (eqb-true _ _ (sym w.value-is ∙ c.if-same_line.true)))
]

pub returns-else-same_line : goal.returns-else-same_line
returns-else-same_line c = elim c.if-address_at.branch [
  | then-address_at w ↦ rw c.if-same_line.false (lines-differ c.args.work.now c.args.p c.args.q c.address_at.ensures c.address_at-2.ensures w.if-address_at.true w.same_line.ensures (sym w.value-is ∙ c.if-same_line.false))
  | else-address_at w ↦ rw w.value-is (addresses-differ c.args.work.now c.args.p c.args.q c.address_at.ensures c.address_at-2.ensures w.if-address_at.false)
]
