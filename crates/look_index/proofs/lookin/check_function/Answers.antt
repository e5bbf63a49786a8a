-- `lookin::check_function` meets its contract.
use Rattle.lookup.proofs.LookLaws.{none-refused}
use Rattle.look_index.proofs.HereLaws.{here_end, here-other, here-misformed, here-own, here-formed}
use Rattle.look_index.proofs.lookin.check_function.Goals.{then-field-ne-TRAY_FUNCTION_TAG-via-then-field-ne-TRAY_FUNCTION_TAG}
use Rattle.look_index.proofs.lookin.check_function.Goals.{then-field-ne-TRAY_FUNCTION_TAG-via-else-field-ne-TRAY_FUNCTION_TAG+then-not-function_formed, then-field-ne-TRAY_FUNCTION_TAG-via-else-field-ne-TRAY_FUNCTION_TAG+else-not-function_formed+then-not-own_formed}
use Rattle.look_index.proofs.lookin.check_function.Goals as goal

pub returns-in_err-field : goal.returns-in_err-field
returns-in_err-field c =
    let n = none-refused _ _ c.in_err-field.ensures.value c.from_residual.ensures.1 in
    rw n.0 (here_end _ _ (rw n.1 at c.next_field.ensures))

pub returns-then-field-ne-TRAY_FUNCTION_TAG : goal.returns-then-field-ne-TRAY_FUNCTION_TAG
returns-then-field-ne-TRAY_FUNCTION_TAG c = let given = rw c.in_ok-field.ensures.ok_part at c.next_field.ensures in elim c.then-field-ne-TRAY_FUNCTION_TAG.branch [
  | then-field-ne-TRAY_FUNCTION_TAG-via-then-field-ne-TRAY_FUNCTION_TAG w ↦ here-other _ _ _ given w.if-field-ne-TRAY_FUNCTION_TAG.true
  | then-field-ne-TRAY_FUNCTION_TAG-via-else-field-ne-TRAY_FUNCTION_TAG+then-not-function_formed w ↦
      here-misformed _ _ _ given w.if-field-ne-TRAY_FUNCTION_TAG.false _ w.payload.ensures w.if-not-function_formed.ensures
  | then-field-ne-TRAY_FUNCTION_TAG-via-else-field-ne-TRAY_FUNCTION_TAG+else-not-function_formed+then-not-own_formed w ↦
      here-own _ _ _ given w.if-field-ne-TRAY_FUNCTION_TAG.false _ w.payload.ensures w.if-not-function_formed.ensures w.if-not-own_formed.ensures
]

pub returns : goal.returns
returns c =
    let given = rw c.in_ok-field.ensures.ok_part at c.next_field.ensures in
    here-formed _ _ _ given c.if-field-ne-TRAY_FUNCTION_TAG.false _ c.payload.ensures c.if-not-function_formed.ensures c.if-not-own_formed.ensures
