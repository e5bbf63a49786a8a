-- `inlined::list_ranges` meets its contract.
use Rattle.ranges.proofs.InlinedLaws.{list-nonempty}
use Rattle.ranges.proofs.inlined.list_ranges.Goals as goal

pub coalesce_at-requires-clause-nonempty : goal.coalesce_at-requires-clause-nonempty
coalesce_at-requires-clause-nonempty c = rw (c.new.ensures.based, c.new.ensures.counted) (list-nonempty c.in_ok-n.ensures)
