-- `answer_all` meets its contract. The loop's invariant: the calls that are left, made from here on, make all.
use Rattle.std.proofs.Common.{◌-◌, ◌≤◌}
use Rattle.streams.specs.Calls.{Says, Made}
use Rattle.streams.proofs.answer_all.Given as goal

abbrev pub invariant-loop : goal.invariant-loop
invariant-loop g l = record {
  callable : goal.F-IsAlwaysCallable g l.next;
  within : l.counter ≤ l.count;
  left : (t : _) → Made (Says g.F.FnMut) (l.count - l.counter) (l.next, l.input) t
      → Made (Says g.F.FnMut) l.count (l.fn.next, l.initial.input) t;
}
