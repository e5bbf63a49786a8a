-- `join::join_all` meets its contract: what stands in the result and what is left of the list make the whole, and the tables hold what the records hold.
use Prim.Native.Nat.{◌-◌}
use lib.ListN.{length, take}
use Rattle.symbols.specs.Walk.{ranges_in}
use Rattle.symbols.specs.Extents.{Known}
use Rattle.symbols.proofs.join.ResultLaws.{Joins}
use Rattle.symbols.proofs.join.join_all.Given as goal

abbrev pub invariant-loop-field : goal.invariant-loop-field
invariant-loop-field l = record {
  joins : Joins l.symbols l.initial.res l.res l.from l.p l.at;
  known : Known (ranges_in (take l.at l.res)) l.work l.tables;
}

abbrev pub decreases-loop-field : goal.decreases-loop-field
decreases-loop-field l = length l.symbols - l.p
