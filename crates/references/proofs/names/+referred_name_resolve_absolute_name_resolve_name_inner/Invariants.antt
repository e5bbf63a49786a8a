-- The cycle of resolve_name_inner, referred_name and resolve_absolute_name: thrice the number of entries that are left falls.
use Rattle.std.proofs.Common.{◌+◌, ◌*◌, ◌-◌}
use Rattle.references.proofs.names.+referred_name_resolve_absolute_name_resolve_name_inner.Given as goal

abbrev pub decreases-resolve_absolute_name : goal.decreases-resolve_absolute_name
decreases-resolve_absolute_name l = 3 * l.at.now.left + 1

abbrev pub decreases-resolve_name_inner : goal.decreases-resolve_name_inner
decreases-resolve_name_inner l = 3 * l.at.now.left

abbrev pub decreases-referred_name : goal.decreases-referred_name
decreases-referred_name l = 3 * (l.at.now.left - 1) + 2
