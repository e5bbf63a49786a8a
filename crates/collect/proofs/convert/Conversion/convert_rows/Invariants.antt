-- `convert::Conversion::convert_rows` meets its contract. The loop's invariant: the rows that are left, with what the others have become, give what was asked; the
-- measure is what lies ahead of the rows that are left.
use Prim.Native.Nat.{◌+◌, ◌-◌}
use lib.ListN.{length}
use Rattle.collect.specs.Walks.{begin_at}
use Rattle.collect.proofs.walks.ConvertingLaws.{ConvertingRows}
use Rattle.collect.proofs.convert.Conversion.convert_rows.Given as goal

abbrev pub invariant-loop-found : goal.invariant-loop-found
invariant-loop-found l = ConvertingRows l.self.sheets.main.now l.self.sheets.supplementary.now l.initial.work l.work l.initial.files l.files l.initial.warnings l.warnings l.self l.initial.state l.state l.initial.rest l.rest l.left l.sequence l.more

abbrev pub decreases-loop-found : goal.decreases-loop-found
decreases-loop-found l = length l.self.sheets.main.now + length l.work - begin_at l.rest
