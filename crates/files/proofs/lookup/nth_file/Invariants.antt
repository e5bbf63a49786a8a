-- `lookup::nth_file` meets its contract. The loop's invariant: the file that is looked for has the number `left` among those from `at` on; the measure is
-- what is left of the sheet.
use Prim.Native.Nat.{◌-◌}
use lib.ListN.{length}
use Rattle.files.proofs.lookup.LookupLaws.{Passing}
use Rattle.files.proofs.lookup.nth_file.Given as goal

abbrev pub invariant-loop-field : goal.invariant-loop-field
invariant-loop-field l = Passing l.s l.p l.n l.at l.left

abbrev pub decreases-loop-field : goal.decreases-loop-field
decreases-loop-field l = length l.s - l.at
