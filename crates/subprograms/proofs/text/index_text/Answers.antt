-- `text::index_text` meets its contract.
use native.Mathlib.Omega.{arith}
use Rattle.buffers.specs.Table.{chunk}
use Rattle.subprograms.proofs.text.TextLaws.{text-within, listing_start, listing-within, listing-room, listing-turn, listing-done}
use Rattle.subprograms.proofs.text.index_text.Goals as goal

pub overflow_add-p : goal.overflow_add-p
overflow_add-p c = let w = text-within c.requires.placed c.requires.unit_in in omega arith

pub loop-field-init : goal.loop-field-init
loop-field-init c = search listing_start

pub read-range-requires : goal.read-range-requires
read-range-requires c = listing-within c.loop-field.invariant c.in-Some.ensures

pub overflow_mul-count : goal.overflow_mul-count
overflow_mul-count c = omega (arith, listing-room c.loop-field.invariant c.in-Some.ensures c.requires.place_in_bounds)

pub overflow_add-base : goal.overflow_add-base
overflow_add-base c = omega (arith, listing-room c.loop-field.invariant c.in-Some.ensures c.requires.place_in_bounds)

pub put_range_at-requires : goal.put_range_at-requires
put_range_at-requires c = listing-room c.loop-field.invariant c.in-Some.ensures c.requires.place_in_bounds

pub overflow_add-count : goal.overflow_add-count
overflow_add-count c = omega (arith, listing-room c.loop-field.invariant c.in-Some.ensures c.requires.place_in_bounds)

pub loop-field-preserved : goal.loop-field-preserved
unfolding chunk
loop-field-preserved c = listing-turn c.loop-field.invariant c.in-Some.ensures c.read-range.ensures.of_part c.put_range_at.ensures c.put_range_at.auto.w

pub returns : goal.returns
returns c = listing-done c.loop-field.invariant c.new.ensures.based c.new.ensures.counted c.in_default.ensures
