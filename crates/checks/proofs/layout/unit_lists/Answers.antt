-- `layout::unit_lists` meets its contract.
use Rattle.checks.proofs.WorkLaws.{lists-here, known-listed}
use Rattle.checks.proofs.layout.unit_lists.Goals as goal

pub returns-then-l : goal.returns-then-l
returns-then-l c = lists-here c.requires.unit_placed c.list_count.ensures

pub returns-else-l : goal.returns-else-l
returns-else-l c = known-listed _ _ c.requires.unit_of.0 c.requires.unit_of.1 c.if-l.false
