-- `extents::gather_functions` meets its contract.
use borrow.Author.Rules.{rules}
use Rattle.lookup.proofs.StepLaws.{function-long}
use Rattle.symbols.proofs.extents.GatherLaws.{gathering-start, gathered-all, gathering-other, gathering-this}
use Rattle.symbols.proofs.extents.gather_functions.Goals as goal

pub loop-field-init : goal.loop-field-init
loop-field-init c = search gathering-start

pub read-requires : goal.read-requires
read-requires c = search (rules, function-long, c.in-Some.ensures)

pub loop-field-preserved : goal.loop-field-preserved
loop-field-preserved c = gathering-other c.loop-field.invariant c.in-Some.ensures c.if-field-eq-TRAY_FUNCTION_TAG.false

pub loop-field-preserved-else-work-n-lt-RANGE_RECORD : goal.loop-field-preserved-else-work-n-lt-RANGE_RECORD
loop-field-preserved-else-work-n-lt-RANGE_RECORD c = gathering-this c.loop-field.invariant c.in-Some.ensures _ _ c.if-field-eq-TRAY_FUNCTION_TAG.true
    c.payload.ensures c.read.ensures.of_rest c.if-work-n-lt-RANGE_RECORD.false c.put_range_at.ensures c.put_range_at.auto.w

pub returns : goal.returns
returns c = record { is = gathered-all c.loop-field.invariant c.in_default.ensures }
