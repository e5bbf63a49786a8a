-- `address::row_in_force` meets its contract.
use mathlib.Core.Path.{sym}
use borrow.Author.Rules.{rules}
use Rattle.lookup.proofs.OwnLaws.{own-stands_next, row_first, row-long}
use Rattle.lookup.proofs.address.WalkLaws.{or-none, row-none, row-function, row_other, row-above, row-taken}
use Rattle.lookup.proofs.address.row_in_force.Goals as goal
use Rattle.lookup.proofs.address.row_in_force.Goals.{else-field-eq-TRAY_ROW_TAG-via-then-field-eq-TRAY_ROW_TAG+else-read-address, else-field-eq-TRAY_ROW_TAG-via-else-field-eq-TRAY_ROW_TAG}

pub loop-field-init : goal.loop-field-init
loop-field-init c = (search rules, sym (or-none _))

pub returns-then-field-eq-TRAY_FUNCTION_TAG : goal.returns-then-field-eq-TRAY_FUNCTION_TAG
returns-then-field-eq-TRAY_FUNCTION_TAG c = search (row-function, c.in-Some.ensures)

pub read-requires : goal.read-requires
read-requires c = search (row_first, c.in-Some.ensures)

pub loop-field-preserved-then-read-address : goal.loop-field-preserved-then-read-address
loop-field-preserved-then-read-address c = (search (own-stands_next, c.in-Some.ensures), search (row-taken, row-long, c.in-Some.ensures))

pub loop-field-preserved : goal.loop-field-preserved
loop-field-preserved c = (
  search (own-stands_next, c.in-Some.ensures),
  elim c.else-field-eq-TRAY_ROW_TAG.branch [
    | else-field-eq-TRAY_ROW_TAG-via-then-field-eq-TRAY_ROW_TAG+else-read-address w ↦ search (row-above, row-long, c.in-Some.ensures)
    | else-field-eq-TRAY_ROW_TAG-via-else-field-eq-TRAY_ROW_TAG w ↦ search (row_other, c.in-Some.ensures)
  ],
)

pub returns : goal.returns
returns c = search (row-none, c.in_default.ensures)
