-- `passes::count_rows` meets its contract. The loop's invariant: the rows from here on, with the counts so far, count as all of them.
use Prim.Native.Nat.{◌+◌, ◌≤◌}
use native.Mathlib.Omega.{arith}
use lib.ListN.{length}
use Rattle.tlv.specs.Grammar.{row_field_size}
use Rattle.collect.proofs.RowsFromLaws.{row_within}
use Rattle.collect.proofs.passes.CountLaws.{counting_done, counting-failed, counting-end, counting-plain}
use Rattle.collect.proofs.passes.count_rows.Goals as goal

pub read-kind-requires : goal.read-kind-requires
read-kind-requires c = let w : c.in-Some.field.start + row_field_size ≤ length c.args.s.now = row_within c.args.s.now _ _ c.in-Some.ensures c.loop-field.invariant.placed in omega arith

pub returns-then-kind-eq-FAILED_ROW : goal.returns-then-kind-eq-FAILED_ROW
returns-then-kind-eq-FAILED_ROW c = counting-failed _ _ _ _ _ _ c.loop-field.invariant _ c.in-Some.ensures _ c.read-kind.ensures c.if-kind-eq-FAILED_ROW.true

pub loop-field-preserved-then-kind-eq-END_ROW : goal.loop-field-preserved-then-kind-eq-END_ROW
loop-field-preserved-then-kind-eq-END_ROW c = rw c.end_sequence.ensures (counting-end _ _ _ _ _ _ c.loop-field.invariant _ c.in-Some.ensures _ c.read-kind.ensures c.if-kind-eq-FAILED_ROW.false c.if-kind-eq-END_ROW.true)

pub loop-field-preserved : goal.loop-field-preserved
loop-field-preserved c = rw c.count_row.ensures (counting-plain _ _ _ _ _ _ c.loop-field.invariant _ c.in-Some.ensures _ c.read-kind.ensures c.if-kind-eq-FAILED_ROW.false c.if-kind-eq-END_ROW.false)

pub returns : goal.returns
returns c = counting_done _ _ _ _ _ _ c.loop-field.invariant c.in_default.ensures
