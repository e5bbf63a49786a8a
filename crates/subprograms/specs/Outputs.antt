-- Contract. What a step leaves of the output buffers.
use Rattle.std.specs.Prelude.{◌≡◌, ℕ, length, replicate}
use Rattle.subprograms.specs.declared.model.Outputs.{Outputs}

-- the same three output buffers, each as long as before
-- Stays a clause: it is of the buffers before and after a call, and no type of one value holds both.
pub record SameOutputs (t u : Outputs) : Type 0 where
  pub records : u.records.ghost_name ≡ t.records.ghost_name
  pub files : u.files.ghost_name ≡ t.files.ghost_name
  pub warnings : u.warnings.ghost_name ≡ t.warnings.ghost_name
  pub records-len : length u.records.now ≡ length t.records.now
  pub files-len : length u.files.now ≡ length t.files.now
  pub warnings-len : length u.warnings.now ≡ length t.warnings.now

-- all three hold the byte b only
pub record Filled (b : ℕ) (t u : Outputs) : Type 0 where
  pub same : SameOutputs t u
  pub records : u.records.now ≡ replicate (length t.records.now) b
  pub files : u.files.now ≡ replicate (length t.files.now) b
  pub warnings : u.warnings.now ≡ replicate (length t.warnings.now) b
