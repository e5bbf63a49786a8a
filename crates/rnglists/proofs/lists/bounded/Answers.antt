-- `lists::bounded` meets its contract.
use Rattle.rnglists.proofs.lists.MeaningLaws.{bounded-dead, bounded-wide, bounded-live}
use Rattle.rnglists.proofs.lists.bounded.Goals as goal

pub returns-then-top-start : goal.returns-then-top-start
returns-then-top-start c = bounded-wide c.if-start-top.false c.then-top-start.either

pub returns : goal.returns
returns c = search bounded-live

pub returns-then-start-top : goal.returns-then-start-top
returns-then-start-top c = search bounded-dead
