-- `below::ending_below` meets its contract.
use mathlib.Core.Path.{refl}
use borrow.Author.Rules.{rules}
use Rattle.lookup.specs.Tray.{functions_at}
use Rattle.lookup.proofs.StepLaws.{stands-next, function-long}
use Rattle.lookup.proofs.below.NearestWalkLaws.{nearest-none, nearest-other, nearest-above, nearest-takes, nearest-leaves}
use Rattle.lookup.proofs.below.ending_below.Goals as goal
use Rattle.lookup.proofs.below.ending_below.Goals.{else-latest-end-via-then-latest-end+else-end-address, else-latest-end-via-else-latest-end}

pub loop-field-init : goal.loop-field-init
unfolding functions_at
loop-field-init c = (search rules, refl, refl)

pub read-end-requires : goal.read-end-requires
read-end-requires c = search (rules, function-long, c.in-Some.ensures)

pub loop-field-preserved-then-end-address : goal.loop-field-preserved-then-end-address
loop-field-preserved-then-end-address c = (search (stands-next, c.in-Some.ensures), search (nearest-takes, c.in-Some.ensures), tt)

pub loop-field-preserved-else-latest-end : goal.loop-field-preserved-else-latest-end
loop-field-preserved-else-latest-end c = (
  search (stands-next, c.in-Some.ensures),
  elim c.else-latest-end.branch [
    | else-latest-end-via-then-latest-end+else-end-address w ↦ search (nearest-above, c.in-Some.ensures)
    | else-latest-end-via-else-latest-end w ↦ search (nearest-leaves, c.in-Some.ensures)
  ],
  search rules,
)

pub loop-field-preserved : goal.loop-field-preserved
loop-field-preserved c = (search (stands-next, c.in-Some.ensures), search (nearest-other, c.in-Some.ensures), search rules)

pub returns : goal.returns
returns c = search (nearest-none, c.in_default.ensures)
