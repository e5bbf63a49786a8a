-- `layout::unit_encoded` meets its contract.
use mathlib.Core.Path.{◌∙◌}
use Rattle.checks.proofs.WorkLaws.{known-encoded}
use Rattle.checks.proofs.layout.unit_encoded.Goals as goal

pub returns-else-l : goal.returns-else-l
returns-else-l c = c.if-l.false ∙ known-encoded _ _ c.requires.unit_of.0 c.requires.unit_of.1 c.if-l.false
