-- `layout::count_tags` meets its contract. The loop's invariant: of each tag what is counted and what is left to count make the whole.
use Rattle.tlv.proofs.FieldLaws.{next-less}
use Rattle.checks.proofs.layout.TallyLaws.{tally-start, tally-none, tally-one, tally-other}
use Rattle.checks.proofs.layout.count_tags.Goals as goal

pub loop-field-init : goal.loop-field-init
loop-field-init c = tally-start _

pub loop-field-smaller-then-field-lt32 : goal.loop-field-smaller-then-field-lt32
loop-field-smaller-then-field-lt32 c = next-less _ _ _ c.in-Some.ensures

pub loop-field-preserved-then-field-lt32 : goal.loop-field-preserved-then-field-lt32
loop-field-preserved-then-field-lt32 c = tally-one _ _ _ c.loop-field.invariant _ c.in-Some.ensures c.if-field-lt32.true

pub loop-field-smaller : goal.loop-field-smaller
loop-field-smaller c = next-less _ _ _ c.in-Some.ensures

pub loop-field-preserved : goal.loop-field-preserved
loop-field-preserved c = tally-other _ _ _ c.loop-field.invariant _ c.in-Some.ensures c.if-field-lt32.false

pub returns : goal.returns
returns c = tally-none _ _ _ c.loop-field.invariant c.in_default.ensures
