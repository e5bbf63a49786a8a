-- `convert::Conversion::sought_file` meets its contract.
use Rattle.collect.proofs.SoughtLaws.{sought_zero, sought_early, sought_late}
use Rattle.collect.proofs.convert.Conversion.sought_file.Goals as goal
use Rattle.collect.proofs.convert.Conversion.sought_file.Goals.{else-counts_from_one-via-then-counts_from_one+else-file-eq0, else-counts_from_one-via-else-counts_from_one}

pub returns-then-file-eq0 : goal.returns-then-file-eq0
returns-then-file-eq0 c = sought_zero _ _ c.counts_from_one.ensures c.if-counts_from_one.true c.if-file-eq0.true c.zero_file.ensures

pub returns : goal.returns
returns c = elim c.else-counts_from_one.branch [
  | else-counts_from_one-via-then-counts_from_one+else-file-eq0 w ↦ sought_early _ _ c.counts_from_one.ensures w.if-counts_from_one.true w.if-file-eq0.false c.listed_file.ensures
  | else-counts_from_one-via-else-counts_from_one w ↦ sought_late _ _ c.counts_from_one.ensures w.if-counts_from_one.false c.listed_file.ensures
]
