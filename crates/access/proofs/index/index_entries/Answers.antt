-- `index::index_entries` meets its contract. The loop's invariant: what is written and the entries that are left make the index.
use Prim.Native.Nat.{◌+◌, ◌*◌, ◌^◌, ◌≤◌, ◌<◌}
use native.Mathlib.Omega.{arith}
use lib.ListN.{length}
use Rattle.access.proofs.IndexLaws.{indexing-start, indexing_end, unit-read, entry_read, sum_fits, entry-room, turn-unit, turn-entry, turn-other}
use Rattle.access.proofs.index.index_entries.Goals as goal

pub returns-clause-indexed : goal.returns-clause-indexed
returns-clause-indexed c = search (indexing_end, c.in_default.ensures, c.new.ensures.counted)

pub read-offset-requires : goal.read-offset-requires
read-offset-requires c = search (unit-read, c.in-Some.ensures)

pub loop-field-preserved-then-field-eq-UNIT_TAG : goal.loop-field-preserved-then-field-eq-UNIT_TAG
loop-field-preserved-then-field-eq-UNIT_TAG c = search (turn-unit, c.in-Some.ensures)

pub read-own-requires : goal.read-own-requires
read-own-requires c = search (entry_read, c.in-Some.ensures)

pub overflow_mul-n : goal.overflow_mul-n
overflow_mul-n c = let room : c.args.base + c.loop-field.n * 16 + 16 ≤ length c.loop-field.work = search (entry-room, c.in-Some.ensures) in
    omega arith

pub overflow_add-base : goal.overflow_add-base
overflow_add-base c = let room : c.args.base + c.loop-field.n * 16 + 16 ≤ length c.loop-field.work = search (entry-room, c.in-Some.ensures) in
    omega arith

pub overflow_add-offset : goal.overflow_add-offset
overflow_add-offset c = let small : c.read-own.result < 2 ^ 64 = omega arith in
    let sum : c.loop-field.offset + c.read-own.result < 2 ^ 64 = search (sum_fits, c.in-Some.ensures) in
    omega arith

pub write-requires-clause-record_fits : goal.write-requires-clause-record_fits
write-requires-clause-record_fits c = let room : c.args.base + c.loop-field.n * 16 + 16 ≤ length c.loop-field.work = search (entry-room, c.in-Some.ensures) in
    omega arith

pub overflow_add-n : goal.overflow_add-n
overflow_add-n c = let room : c.args.base + c.loop-field.n * 16 + 16 ≤ length c.loop-field.work = search (entry-room, c.in-Some.ensures) in
    omega arith

pub loop-field-preserved-then-field-eq-ENTRY_TAG : goal.loop-field-preserved-then-field-eq-ENTRY_TAG
loop-field-preserved-then-field-eq-ENTRY_TAG c = search (turn-entry, c.in-Some.ensures)

pub loop-field-preserved : goal.loop-field-preserved
loop-field-preserved c = search (turn-other, c.in-Some.ensures)

pub loop-field-init : goal.loop-field-init
loop-field-init c = search indexing-start
