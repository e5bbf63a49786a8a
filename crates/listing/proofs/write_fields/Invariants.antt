-- `write_fields` ends: what is left of the buffer falls.
use Rattle.std.proofs.Common.{length, ◌-◌}
use Rattle.listing.proofs.write_fields.Given as goal

abbrev pub decreases-loop-field : goal.decreases-loop-field
decreases-loop-field g l = length l.s - l.p
