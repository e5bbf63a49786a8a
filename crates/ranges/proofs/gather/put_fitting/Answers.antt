-- `gather::put_fitting` meets its contract.
use Rattle.ranges.proofs.RangeTableLaws.{fit-empty, fit-out, fit-in}
use Rattle.ranges.proofs.gather.put_fitting.Goals.{then-is_empty-via-then-is_empty, then-is_empty-via-else-is_empty+then-not-lies_in}
use Rattle.ranges.proofs.gather.put_fitting.Goals as goal

pub returns-then-is_empty : goal.returns-then-is_empty
returns-then-is_empty c = elim c.then-is_empty.branch [
  | then-is_empty-via-then-is_empty w ↦ fit-empty _ _ _ _ _ _ c.is_empty.ensures w.if-is_empty.true
  | then-is_empty-via-else-is_empty+then-not-lies_in w ↦
      fit-out _ _ _ _ _ _ c.is_empty.ensures w.if-is_empty.false w.lies_in.ensures w.if-not-lies_in.true
]

pub returns : goal.returns
returns c = search fit-in
