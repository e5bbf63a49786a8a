-- `window::put_functions` meets its contract: who lays the fields from here on has laid all.
use native.Mathlib.Omega.{arith}
use borrow.Author.Rules.{rules}
use Rattle.tlv.proofs.FieldLaws.{next-within}
use Rattle.tlv.proofs.PlaceFacts.{slice-bytes}
use Rattle.buffers.proofs.BufferLaws.{left-start, left-same, left-done}
use Rattle.lookup.specs.Tray.{functions_at}
use Rattle.lookup.proofs.StepLaws.{stands-next, function-long}
use Rattle.lookup.proofs.window.ListingLaws.{left-none, left_other, left_not, left_laid, part-below}
use Rattle.lookup.proofs.window.put_functions.Goals as goal
use Rattle.lookup.proofs.window.put_functions.Goals.{else-field-eq-TRAY_FUNCTION_TAG-via-then-field-eq-TRAY_FUNCTION_TAG+else-is_wanted, else-field-eq-TRAY_FUNCTION_TAG-via-else-field-eq-TRAY_FUNCTION_TAG}

pub loop-field-init : goal.loop-field-init
unfolding functions_at
loop-field-init g c = record { stands = search rules; left = λ test t. left-start _ _ _ (omega arith) (omega arith) }

pub read-requires : goal.read-requires
read-requires g c = search (rules, function-long, c.in-Some.ensures)

pub slice_bounds-put_bytes-count : goal.slice_bounds-put_bytes-count
slice_bounds-put_bytes-count g c = part-below _ _ _ c.in-Some.ensures

pub slice_bounds-put_bytes-start : goal.slice_bounds-put_bytes-start
slice_bounds-put_bytes-start g c = part-below _ _ _ c.in-Some.ensures

pub slice_bounds-put_bytes-end : goal.slice_bounds-put_bytes-end
slice_bounds-put_bytes-end g c = next-within _ _ _ c.in-Some.ensures

pub loop-field-preserved-then-is_wanted : goal.loop-field-preserved-then-is_wanted
loop-field-preserved-then-is_wanted g c = record {
  stands = search (stands-next, c.in-Some.ensures);
  left = λ test t. left_laid _ test _ _ _ _ _ (c.loop-field.invariant.left test t) c.in-Some.ensures c.if-field-eq-TRAY_FUNCTION_TAG.true c.payload.ensures
      c.read.ensures.of_rest (t _ _ (search rules, search rules) c.is_wanted.ensures) c.if-is_wanted.true (slice-bytes _ c.type_inv.s) c.put_bytes-at.ensures;
}

pub loop-field-preserved : goal.loop-field-preserved
loop-field-preserved g c = record {
  stands = search (stands-next, c.in-Some.ensures);
  left = λ test t. elim c.else-field-eq-TRAY_FUNCTION_TAG.branch [
    | else-field-eq-TRAY_FUNCTION_TAG-via-then-field-eq-TRAY_FUNCTION_TAG+else-is_wanted w ↦ left-same (c.loop-field.invariant.left test t) (left_not _ test _ _ c.in-Some.ensures _ _ _ w.if-field-eq-TRAY_FUNCTION_TAG.true w.payload.ensures
        w.read.ensures.of_rest (t _ _ (search rules, search rules) w.is_wanted.ensures) w.if-is_wanted.false)
    | else-field-eq-TRAY_FUNCTION_TAG-via-else-field-eq-TRAY_FUNCTION_TAG w ↦ left-same (c.loop-field.invariant.left test t) (left_other _ test _ _ c.in-Some.ensures w.if-field-eq-TRAY_FUNCTION_TAG.false)
  ];
}

pub returns : goal.returns
returns g c = record { laid = λ test t. left-done (c.loop-field.invariant.left test t) (left-none _ test _ c.in_default.ensures) }
