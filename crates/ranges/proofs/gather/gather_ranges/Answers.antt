-- `gather::gather_ranges` meets its contract. The loop's invariant: the ranges put so far, and those of the fields from here on that fit, are all that fit.
use Rattle.ranges.proofs.GatherLaws.{gathering-start, gathering-within, gathering_turn, gathering_done}
use Rattle.ranges.proofs.gather.gather_ranges.Goals as goal

pub loop-field-init : goal.loop-field-init
loop-field-init c = search gathering-start

pub read-requires : goal.read-requires
read-requires c = gathering-within c.loop-field.invariant c.in-Some.ensures

pub loop-field-preserved : goal.loop-field-preserved
loop-field-preserved c = search (gathering_turn, c.in-Some.ensures)

pub returns : goal.returns
returns c = gathering_done c.loop-field.invariant c.in_default.ensures
