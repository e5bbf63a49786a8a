-- Contract. The sheet that a byte in the work slice names: the number of the source that was written there.
use Rattle.std.specs.Prelude.{ℕ, cond, eqb}
use Rattle.tlv.specs.declared.model.DebugSource.{DebugSource}

abbrev pub source_of_byte : ℕ → DebugSource
source_of_byte n = cond (eqb n 0) DebugSource.Main DebugSource.Supplementary
