-- `address::node_holds` meets its contract.
use borrow.Author.Rules.{rules}
use Rattle.lookup.proofs.OwnLaws.{own-stands_next, range-long}
use Rattle.lookup.proofs.address.WalkLaws.{held-none, held-function, held-node, held-other, held-not, held-this}
use Rattle.lookup.proofs.address.node_holds.Goals as goal
use Rattle.lookup.proofs.address.node_holds.Goals.{then-field-eq-TRAY_FUNCTION_TAG-via-then-field-eq-TRAY_FUNCTION_TAG, then-field-eq-TRAY_FUNCTION_TAG-via-else-field-eq-TRAY_FUNCTION_TAG+then-field-eq-TRAY_NODE_TAG}
use Rattle.lookup.proofs.address.node_holds.Goals.{else-field-eq-TRAY_RANGE_TAG-via-then-field-eq-TRAY_RANGE_TAG+else-holds, else-field-eq-TRAY_RANGE_TAG-via-else-field-eq-TRAY_RANGE_TAG}

pub read-requires : goal.read-requires
read-requires c = search (rules, range-long, c.in-Some.ensures)

pub returns-then-field-eq-TRAY_FUNCTION_TAG : goal.returns-then-field-eq-TRAY_FUNCTION_TAG
returns-then-field-eq-TRAY_FUNCTION_TAG c = elim c.then-field-eq-TRAY_FUNCTION_TAG.branch [
  | then-field-eq-TRAY_FUNCTION_TAG-via-then-field-eq-TRAY_FUNCTION_TAG w ↦ search (held-function, c.in-Some.ensures)
  | then-field-eq-TRAY_FUNCTION_TAG-via-else-field-eq-TRAY_FUNCTION_TAG+then-field-eq-TRAY_NODE_TAG w ↦ search (held-node, c.in-Some.ensures)
]

pub returns-then-holds : goal.returns-then-holds
returns-then-holds c = search (held-this, c.in-Some.ensures, c.if-holds.ensures)

pub loop-field-preserved : goal.loop-field-preserved
loop-field-preserved c = (
  search (own-stands_next, c.in-Some.ensures),
  elim c.else-field-eq-TRAY_RANGE_TAG.branch [
    | else-field-eq-TRAY_RANGE_TAG-via-then-field-eq-TRAY_RANGE_TAG+else-holds w ↦ search (held-not, c.in-Some.ensures, w.if-holds.ensures)
    | else-field-eq-TRAY_RANGE_TAG-via-else-field-eq-TRAY_RANGE_TAG w ↦ search (held-other, c.in-Some.ensures)
  ],
)

pub returns : goal.returns
returns c = search (held-none, c.in_default.ensures)
