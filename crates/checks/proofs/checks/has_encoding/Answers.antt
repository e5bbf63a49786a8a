-- `checks::has_encoding` meets its contract: the unit has an encoding where it has a field 1d of its own.
use mathlib.Core.Path.{◌∙◌}
use Rattle.files.proofs.UnitLaws.{unit-next}
use Rattle.checks.proofs.WorkLaws.{encoding-told}
use Rattle.checks.proofs.checks.has_encoding.Goals as goal

pub next_before_rows-requires : goal.next_before_rows-requires
next_before_rows-requires c = unit-next c.requires

pub returns : goal.returns
returns c = c.is_some.ensures ∙ encoding-told c.requires _ c.next_before_rows.ensures
