-- `write_fields` lends payloads within the buffer, and ends.
use native.Mathlib.Omega.{arith}
use Rattle.tlv.proofs.FieldLaws.{field-within, next-less}
use Rattle.listing.proofs.write_fields.Goals as goal

pub slice_bounds-write_field-count : goal.slice_bounds-write_field-count
slice_bounds-write_field-count g c = let w = field-within _ _ _ c.in-Some.ensures in omega arith

pub slice_bounds-write_field-start : goal.slice_bounds-write_field-start
slice_bounds-write_field-start g c = let w = field-within _ _ _ c.in-Some.ensures in omega arith

pub slice_bounds-write_field-end : goal.slice_bounds-write_field-end
slice_bounds-write_field-end g c = let w = field-within _ _ _ c.in-Some.ensures in omega arith

pub loop-field-smaller : goal.loop-field-smaller
loop-field-smaller g c = next-less _ _ _ c.in-Some.ensures
