-- `search::lower_bound` meets its contract. The loop's invariant: the numbers below lo are passed, and none from hi on.
use mathlib.Core.Bool.{true, false}
use Prim.Native.Nat.{◌-◌, ◌≤◌, ◌<◌}
use Rattle.buffers.proofs.search.lower_bound.Given as goal

abbrev pub invariant-loop-lo : goal.invariant-loop-lo
invariant-loop-lo g l = record {
  within : l.lo ≤ l.hi;
  inside : l.hi ≤ l.n;
  passed : 0 < l.lo → goal.F-post g l.test (l.lo - 1) true;
  next : l.hi < l.n → goal.F-post g l.test l.hi false;
}

abbrev pub decreases-loop-lo : goal.decreases-loop-lo
decreases-loop-lo g l = l.hi - l.lo
