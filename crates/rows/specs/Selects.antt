-- Contract. A unit's lines in the work slice, and what the functions that select a function's rows promise.
use Rattle.std.specs.Prelude.{ℕ, Bool, suc, ◌+◌, ◌*◌, ◌≤◌, ◌<◌, ◌≡◌, cond, List, [], ◌++◌, length, take, Option as Maybe, Some, None}
use Rattle.std.proofs.Math.Option.{Option, none, some}
use Rattle.tlv.specs.declared.model.AddressRange.{AddressRange}
use Rattle.tlv.specs.Lists.{first, map_option}
use Rattle.tlv.specs.declared.model.LineEntry.{LineEntry}
use Rattle.buffers.specs.declared.table.Stored.{Stored}
use Rattle.buffers.specs.Table.{Kept}
use Rattle.lines.specs.Lines.{LineSequenceRange, UnitLines}
use Rattle.lines.specs.Rows.{earlier_row, starts_late, for_range}
use Rattle.rows.specs.declared.unit_lines.StoredLines.{StoredLines}
use Rattle.rows.specs.declared.unit_lines.OwnRows.{OwnRows}
use Rattle.rows.specs.declared.unit_lines.FunctionRows.{FunctionRows}
use Rattle.rows.specs.Sizes.{entry_size, line_size, sequence_range_size}
use Rattle.rows.specs.Stored.{sequence_of, lines_of, range_at, ranges_of, entries_of}
use Rattle.rows.specs.Sorts.{Sorted, leading}
use Rattle.rows.specs.Front.{front_rows}

-- the unit's lines that stand in w; which files its numbers mean is kept elsewhere
unfoldable pub unit_lines_of : List ℕ → StoredLines → UnitLines
unit_lines_of w l = record {
  entries = lines_of w l.lines.base l.lines.count;
  files = [];
  sequences = ranges_of w l.sequences.base l.sequences.count;
}

-- rows and sequences stand below the buffer, which has room for a function's rows and one more; the rows are sorted
-- Stays a clause: it speaks of rows in the work slice, which is lent and written, so no type that outlives a write can hold it.
pub record RowsIn (w : List ℕ) (l : StoredLines) : Type 0 where
  pub lines : l.lines.base + l.lines.count * line_size ≤ l.buffer
  pub sequences : l.sequences.base + l.sequences.count * sequence_range_size ≤ l.buffer
  pub buffer : l.buffer + entry_size + l.lines.count * entry_size ≤ length w
  pub sorted : Sorted 0 (lines_of w l.lines.base l.lines.count)

-- the first `below` rows of the table lie below the range
pub record RowsBelow (w : List ℕ) (l : StoredLines) (range : AddressRange) (below : ℕ) : Type 0 where
  pub start : below ≤ leading range.start (lines_of w l.lines.base l.lines.count)
  pub end : below ≤ leading range.end (lines_of w l.lines.base l.lines.count)

-- the rows that the loop from the front of the table gives stand at `to`, and its place was handed back
pub record Owned (w w' : List ℕ) (l : StoredLines) (range : AddressRange) (asked : Maybe ℕ) (to : ℕ) (r : OwnRows) : Type 0 where
  pub rows : entries_of w' to r.count ≡ (front_rows range (sequence_of asked) (lines_of w l.lines.base l.lines.count)).rows
  pub past : r.past ≡ (front_rows range (sequence_of asked) (lines_of w l.lines.base l.lines.count)).past
  pub within : r.count ≤ l.lines.count
  pub rest : Kept w w' to (l.lines.count * entry_size)

-- two answers of the loop: where the first ended at a row, and the other's table is alike through that row, they are the same (document 02, E5)
abbrev pub OwnedAlike : Type 0
OwnedAlike = (w w' v v' : List ℕ) (l m : StoredLines) (range : AddressRange) (asked : Maybe ℕ) (to at : ℕ) (r q : OwnRows)
    → Owned w w' l range asked to r → Owned v v' m range asked at q → r.past < l.lines.count
    → take (suc r.past) (lines_of v m.lines.base m.lines.count) ≡ take (suc r.past) (lines_of w l.lines.base l.lines.count)
    → (q.past ≡ r.past) × (q.count ≡ r.count) × (entries_of v' at q.count ≡ entries_of w' to r.count)

-- the number of the first of n sequences that passes a test
abbrev pub FirstAt : (LineSequenceRange → Bool) → List ℕ → ℕ → ℕ → Maybe ℕ → Type 0
FirstAt test w base n (Some i) = (i < n) × (first test (ranges_of w base n) ≡ some (range_at w (base + i * sequence_range_size)))
FirstAt test w base n None = first test (ranges_of w base n) ≡ none

-- an answer's sequence is that of the sequence q
abbrev pub covering_of : Maybe (Maybe ℕ) → Option LineSequenceRange → Type 0
covering_of (Some s) q = map_option (λ x. x.statement_sequence) q ≡ some (sequence_of s)
covering_of None q = q ≡ none

-- of the `count` rows that stand a row past the buffer's begin, with the row in force before them where they start late
pub record Fronted (w w' : List ℕ) (l : StoredLines) (range : AddressRange) (asked : Maybe ℕ) (count : ℕ) (r : Stored LineEntry) : Type 0 where
  pub rows : entries_of w' r.base r.count
      ≡ cond (starts_late range.start (entries_of w (l.buffer + entry_size) count))
      (earlier_row (unit_lines_of w l) range (sequence_of asked) ++ entries_of w (l.buffer + entry_size) count)
      (entries_of w (l.buffer + entry_size) count)
  pub from : l.buffer ≤ r.base
  pub within : r.base + r.count * entry_size ≤ l.buffer + entry_size + l.lines.count * entry_size
  pub rest : Kept w w' l.buffer entry_size

-- for_range: the rows stand in the buffer, and nothing else was written
pub record ForRange (w w' : List ℕ) (l : StoredLines) (range : AddressRange) (requested : Maybe ℕ) (r : FunctionRows) : Type 0 where
  pub rows : entries_of w' r.rows.base r.rows.count ≡ (for_range (unit_lines_of w l) range (sequence_of requested)).rows
  pub invalid : r.invalid ≡ (for_range (unit_lines_of w l) range (sequence_of requested)).invalid
  pub from : l.buffer ≤ r.rows.base
  pub within : r.rows.base + r.rows.count * entry_size ≤ l.buffer + entry_size + l.lines.count * entry_size
  pub rest : Kept w w' l.buffer (entry_size + l.lines.count * entry_size)
