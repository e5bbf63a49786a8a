-- `checks::is_missing` meets its contract, a case for each answer.
use mathlib.Core.Path.{◌≡◌}
use lib.ListN.{length}
use borrow.Author.Rules.{rules}
use Rattle.std.specs.Prelude.{◌≢◌}
use Rattle.checks.proofs.CheckLaws.{missing-all, missing-found, missing-filled, missing-bare}
use Rattle.checks.proofs.checks.is_missing.Goals as goal

pub returns-in_default : goal.returns-in_default
returns-in_default c = missing-all _ _ c.in_default.is

pub returns-then-not-is_empty : goal.returns-then-not-is_empty
returns-then-not-is_empty c = let h : length c.args.main.now ≢ 0 = search rules in rw c.if-not-is_empty.true (missing-filled _ _ c.in-Some.is c.in-None.ensures h)

pub returns-else-not-is_empty : goal.returns-else-not-is_empty
returns-else-not-is_empty c = let z : length c.args.main.now ≡ 0 = search rules in missing-bare _ _ c.in-Some.is c.in-None.ensures z

pub returns-in-Some-unit_by_ordinal : goal.returns-in-Some-unit_by_ordinal
returns-in-Some-unit_by_ordinal c = missing-found _ _ c.in-Some.is c.in-Some-unit_by_ordinal.ensures
