-- The output buffers are the same ones, step after step.
use mathlib.Core.Path.{refl, ◌∙◌}
use Rattle.subprograms.specs.declared.model.Outputs.{Outputs}
use Rattle.subprograms.specs.Outputs.{SameOutputs}

pub outputs-start : {t : Outputs} → SameOutputs t t
outputs-start = record { records = refl; files = refl; warnings = refl; records-len = refl; files-len = refl; warnings-len = refl }

pub outputs-then : {t u v : Outputs} → SameOutputs t u → SameOutputs u v → SameOutputs t v
outputs-then A B = record {
  records = B.records ∙ A.records;
  files = B.files ∙ A.files;
  warnings = B.warnings ∙ A.warnings;
  records-len = B.records-len ∙ A.records-len;
  files-len = B.files-len ∙ A.files-len;
  warnings-len = B.warnings-len ∙ A.warnings-len;
}
