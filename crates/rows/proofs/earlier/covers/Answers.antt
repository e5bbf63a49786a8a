-- `earlier::covers` meets its contract.
use mathlib.Core.Path.{◌∙◌, refl}
use Rattle.lines.specs.Rows.{contains}
use Rattle.rows.proofs.earlier.covers.Goals as goal

pub returns-then-belongs_to : goal.returns-then-belongs_to
unfolding contains
returns-then-belongs_to c = c.holds.ensures ∙ rw (← c.read-sequence.ensures.sequence, ← c.belongs_to.ensures, c.if-belongs_to.true, ← c.read-sequence.ensures.range) refl
