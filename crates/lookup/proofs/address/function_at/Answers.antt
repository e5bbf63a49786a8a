-- `address::function_at` meets its contract.
use mathlib.Core.Path.{refl}
use borrow.Author.Rules.{rules}
use Rattle.lookup.specs.Tray.{functions_at}
use Rattle.lookup.proofs.StepLaws.{stands-next, function-long}
use Rattle.lookup.proofs.address.WalkLaws.{found-none, found-other, found-not, found_here}
use Rattle.lookup.proofs.address.function_at.Goals as goal
use Rattle.lookup.proofs.address.function_at.Goals.{else-field-eq-TRAY_FUNCTION_TAG-via-then-field-eq-TRAY_FUNCTION_TAG+else-holds, else-field-eq-TRAY_FUNCTION_TAG-via-else-field-eq-TRAY_FUNCTION_TAG}

pub loop-field-init : goal.loop-field-init
unfolding functions_at
loop-field-init c = (search rules, refl)

pub read-requires : goal.read-requires
read-requires c = search (rules, function-long, c.in-Some.ensures)

pub loop-field-preserved : goal.loop-field-preserved
loop-field-preserved c = (
  search (stands-next, c.in-Some.ensures),
  elim c.else-field-eq-TRAY_FUNCTION_TAG.branch [
    | else-field-eq-TRAY_FUNCTION_TAG-via-then-field-eq-TRAY_FUNCTION_TAG+else-holds w ↦ search (found-not, c.in-Some.ensures, w.if-holds.ensures)
    | else-field-eq-TRAY_FUNCTION_TAG-via-else-field-eq-TRAY_FUNCTION_TAG w ↦ search (found-other, c.in-Some.ensures)
  ],
)

pub returns : goal.returns
returns c = search (found-none, c.in_default.ensures)

pub returns-then-holds : goal.returns-then-holds
returns-then-holds c = search (found_here, c.in-Some.ensures, c.if-holds.ensures)
