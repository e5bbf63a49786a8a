-- `spans::index_directories` meets its contract. The loop's invariant: the spans that are written and the directories that are left make the unit's.
use Prim.Native.Nat.{◌+◌, ◌*◌, ◌≤◌}
use native.Mathlib.Omega.{arith}
use lib.ListN.{length}
use Rattle.files.proofs.DirectoryLaws.{listing_start, listing-done, listing-room, listing_step}
use Rattle.files.proofs.spans.index_directories.Goals as goal

pub overflow_mul-n : goal.overflow_mul-n
overflow_mul-n c = let room : c.args.base + c.loop-field.n * 8 + 8 ≤ length c.loop-field.work = search (listing-room, c.in-Some.ensures) in
    omega arith

pub overflow_add-base : goal.overflow_add-base
overflow_add-base c = let room : c.args.base + c.loop-field.n * 8 + 8 ≤ length c.loop-field.work = search (listing-room, c.in-Some.ensures) in
    omega arith

pub write-requires-clause-record_fits : goal.write-requires-clause-record_fits
write-requires-clause-record_fits c = search (listing-room, c.in-Some.ensures)

pub overflow_add-n : goal.overflow_add-n
overflow_add-n c = let room : c.args.base + c.loop-field.n * 8 + 8 ≤ length c.loop-field.work = search (listing-room, c.in-Some.ensures) in
    omega arith

pub loop-field-preserved : goal.loop-field-preserved
loop-field-preserved c = search (listing_step, (rw c.from.ensures at c.write.ensures), c.in-Some.ensures)

pub returns-clause-directories_in : goal.returns-clause-directories_in
returns-clause-directories_in c = rw c.new.ensures.counted (search (listing-done, c.in_default.ensures))

pub loop-field-init : goal.loop-field-init
loop-field-init c = search listing_start
