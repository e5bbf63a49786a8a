-- `passes::count_rows` meets its contract. The loop's invariant: the rows from here on, with the counts so far, count as all of them.
use Prim.Native.Nat.{◌-◌}
use lib.ListN.{length}
use Rattle.collect.proofs.passes.CountLaws.{CountingRows}
use Rattle.collect.proofs.passes.count_rows.Given as goal

abbrev pub invariant-loop-field : goal.invariant-loop-field
invariant-loop-field l = CountingRows l.s l.p l.at l.counted.lines l.counted.opened l.counted.sequences

abbrev pub decreases-loop-field : goal.decreases-loop-field
decreases-loop-field l = length l.s - l.at
