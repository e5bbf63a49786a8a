-- `spans::FileUnit::counted` meets its contract. One less before version 5, where the number is not 0, and from version 5 on the number.
use Rattle.files.proofs.PieceLaws.{counted-before, counted-after}
use Rattle.files.proofs.spans.FileUnit.counted.Goals as goal

pub returns-then-counts_from_one : goal.returns-then-counts_from_one
returns-then-counts_from_one c = counted-before _ _ c.counts_from_one.ensures c.if-counts_from_one.true _ c.checked_sub.ensures

pub returns : goal.returns
returns c = counted-after _ _ c.counts_from_one.ensures c.if-counts_from_one.false
