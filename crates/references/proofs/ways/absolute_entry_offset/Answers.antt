-- `ways::absolute_entry_offset` meets its contract.
use native.Mathlib.Omega.{arith}
use Rattle.references.proofs.FollowLaws.{offset-inside, offset_sum}
use Rattle.references.proofs.ways.absolute_entry_offset.Goals as goal

pub read-requires : goal.read-requires
read-requires c = offset-inside _ c.requires.placed c.requires.listed

pub returns : goal.returns
returns c = rw c.ok_or.ensures.value (offset_sum _ c.requires.placed c.requires.listed _ _ c.read.ensures _ c.checked_add.ensures)

pub overflow_add-unit : goal.overflow_add-unit
overflow_add-unit c = omega (arith, offset-inside _ c.requires.placed c.requires.listed)
