-- `inlined::field_ranges` meets its contract.
use Rattle.std.proofs.Common.{rules}
use Rattle.ranges.proofs.InlinedLaws.{field-refused, field-merged}
use Rattle.ranges.proofs.inlined.field_ranges.Goals as goal

pub returns-then-is_some : goal.returns-then-is_some
returns-then-is_some c = field-refused _ (search rules) c.next_own.ensures

pub returns : goal.returns
returns c = field-merged _ (search rules) c.next_own.ensures c.coalesce_ranges.ensures
