-- `records::source_at` meets its contract.
use mathlib.Core.Path.{◌∙◌}
use Rattle.files.proofs.StoreLaws.{got-source}
use Rattle.files.proofs.records.source_at.Goals as goal

pub returns : goal.returns
returns c = c.from.ensures ∙ got-source _ _ c.read.ensures
