-- `units::index_units` meets its contract. The loop's invariant: what is written and the units that are left make the table.
use Prim.Native.Nat.{◌+◌, ◌*◌, ◌≤◌}
use native.Mathlib.Omega.{arith}
use lib.ListN.{length}
use Rattle.access.proofs.UnitsLaws.{listing_start, listing-end, offset_read, length-read, unit-room, turn-listed, turn-passed}
use Rattle.access.proofs.units.index_units.Goals as goal

pub returns-clause-indexed : goal.returns-clause-indexed
returns-clause-indexed c = search (listing-end, c.in_default.ensures, c.new.ensures.counted)

pub read-requires : goal.read-requires
read-requires c = search (offset_read, c.in-Some.ensures)

pub read-requires-then-field-eq-UNIT_TAG : goal.read-requires-then-field-eq-UNIT_TAG
read-requires-then-field-eq-UNIT_TAG c = search (length-read, c.in-Some.ensures)

pub overflow_mul-n : goal.overflow_mul-n
overflow_mul-n c = let room : c.args.base + c.loop-field.n * 24 + 24 ≤ length c.loop-field.work = search (unit-room, c.in-Some.ensures) in
    omega arith

pub overflow_add-base : goal.overflow_add-base
overflow_add-base c = let room : c.args.base + c.loop-field.n * 24 + 24 ≤ length c.loop-field.work = search (unit-room, c.in-Some.ensures) in
    omega arith

pub write-requires : goal.write-requires
write-requires c = search (unit-room, c.in-Some.ensures)

pub overflow_add-n : goal.overflow_add-n
overflow_add-n c = let room : c.args.base + c.loop-field.n * 24 + 24 ≤ length c.loop-field.work = search (unit-room, c.in-Some.ensures) in
    omega arith

pub loop-field-preserved-then-field-eq-UNIT_TAG : goal.loop-field-preserved-then-field-eq-UNIT_TAG
loop-field-preserved-then-field-eq-UNIT_TAG c = search (turn-listed, c.in-Some.ensures)

pub loop-field-preserved : goal.loop-field-preserved
loop-field-preserved c = search (turn-passed, c.in-Some.ensures)

pub loop-field-init : goal.loop-field-init
loop-field-init c = search listing_start
