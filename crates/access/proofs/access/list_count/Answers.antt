-- `access::list_count` meets its contract. The loop's invariant: what is counted and what is left to count make the whole.
use Prim.Native.Nat.{◌+◌, ◌≤◌}
use native.Mathlib.Omega.{arith}
use Rattle.access.proofs.ListCountLaws.{counted-end, counted-unit, count-below, counting_one, counting-other}
use Rattle.access.proofs.access.list_count.Goals as goal

pub returns-then-field-eq-UNIT_TAG : goal.returns-then-field-eq-UNIT_TAG
returns-then-field-eq-UNIT_TAG c = search (counted-unit, c.in-Some.ensures)

pub overflow_add-n : goal.overflow_add-n
overflow_add-n c = let below : c.loop-field.n + 1 ≤ c.in-Some.field.next = search (count-below, c.in-Some.ensures) in
    omega arith

pub loop-field-preserved-then-field-eq-LIST_TAG : goal.loop-field-preserved-then-field-eq-LIST_TAG
loop-field-preserved-then-field-eq-LIST_TAG c = search (counting_one, c.in-Some.ensures)

pub loop-field-preserved : goal.loop-field-preserved
loop-field-preserved c = search (counting-other, c.in-Some.ensures)

pub returns : goal.returns
returns c = search (counted-end, c.in_default.ensures)
