-- The cycle of resolve, resolve_reference and resolve_absolute: thrice the number of entries that are left falls.
use Rattle.std.proofs.Common.{◌+◌, ◌*◌, ◌-◌}
use Rattle.declarations.proofs.declarations.+resolve_resolve_absolute_resolve_reference.Given as goal

abbrev pub decreases-resolve : goal.decreases-resolve
decreases-resolve l = 3 * l.here.now.at.left

abbrev pub decreases-resolve_absolute : goal.decreases-resolve_absolute
decreases-resolve_absolute l = 3 * l.at.left + 1

abbrev pub decreases-resolve_reference : goal.decreases-resolve_reference
decreases-resolve_reference l = 3 * (l.here.now.at.left - 1) + 2
