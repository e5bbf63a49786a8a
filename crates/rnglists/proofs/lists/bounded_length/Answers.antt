-- `lists::bounded_length` meets its contract.
use Rattle.std.proofs.Common.{inl, inr}
use Rattle.rnglists.proofs.lists.MeaningLaws.{bounded-any, length-wide}
use Rattle.rnglists.proofs.lists.bounded_length.Goals as goal
use Rattle.rnglists.proofs.lists.bounded_length.Goals.{then-top-start-via-then-top-start, then-top-start-via-else-top-start+then-top-start-2}

pub returns-then-top-start : goal.returns-then-top-start
returns-then-top-start c = elim c.then-top-start.branch [
  | then-top-start-via-then-top-start w ↦ length-wide c.if-start-top.false (inl w.if-top-start.true)
  | then-top-start-via-else-top-start+then-top-start-2 w ↦ length-wide c.if-start-top.false (inr (w.if-top-start.false, w.if-top-start-2.true))
]

pub returns-then-start-top : goal.returns-then-start-top
returns-then-start-top c = search bounded-any
