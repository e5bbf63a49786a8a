-- Contract. What the compaction of a caller's rows promises.
use Rattle.std.specs.Prelude.{ℕ, ◌≡◌, List, ◌++◌, length, drop}
use Rattle.tlv.specs.declared.model.LineEntry.{LineEntry}
use Rattle.lines.specs.Rows.{compact_line_rows}

-- document 01: "compact_line_rows is also offered over a caller's slice of rows, shortened where it is"
pub record CompactsRows (before after : List LineEntry) (r : ℕ) : Type 0 where
  pub count : r ≡ length (compact_line_rows before)
  pub rows : after ≡ compact_line_rows before ++ drop r before  -- rows past the count stay as they were
