-- Theorem. E12: "longest joined path included": both ways to the longest file of the files tray, each string as long as one may be. That every file fits its
-- field is `Producing` of imports.
use Rattle.std.specs.Prelude.{ℕ, ◌≡◌, [], ◌∷◌, ◌++◌, length, replicate}
use Rattle.std.proofs.Math.Option.{Option, none, some}
use Rattle.tlv.specs.Outcome.{Outcome, refused, done}
use Rattle.tlv.specs.Limits.{string_limit}
use Rattle.tlv.specs.Model.{CompilationUnit}
use Rattle.buffers.specs.Output.{FileEntry, file_payload}
use Rattle.line_program.specs.Standard.{slash}
use Rattle.paths.specs.Paths.{file_entry}
use Rattle.lines.specs.Differences.{file, unit_of, header, given}

-- the compilation directory and directory 1, of letters a and b
abbrev pub longest_unit : CompilationUnit
longest_unit = unit_of (some (replicate string_limit 0x61)) (given (replicate string_limit 0x62) ∷ [])

-- bytes of a file's field, without its tag and length
unfoldable pub field_length : Outcome (Option FileEntry) → ℕ
field_length (refused n) = 0
field_length (done none) = 0
field_length (done (some e)) = length (file_payload e)

pub record Longest : Type 0 where
  -- a name without a slash
  pub plain : field_length (file_entry longest_unit (header 4) (file 1 (replicate string_limit 0x63))) ≡ 18342
  -- a name of one byte behind a slash: the directory has 18,339
  pub behind_slash : field_length (file_entry longest_unit (header 4) (file 1 (replicate 6111 0x63 ++ (slash ∷ 0x64 ∷ [])))) ≡ 18342
