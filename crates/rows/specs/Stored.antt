-- Contract. Rows and sequences as records in a list of bytes (document 01: the work slice), and what the functions that read and write one promise.
use Rattle.std.specs.Prelude.{ℕ, ◌≡◌, List, Option as Maybe, Some, None}
use Rattle.std.proofs.Math.Option.{Option, none, some}
use Rattle.tlv.specs.declared.model.AddressRange.{AddressRange}
use Rattle.tlv.specs.declared.model.LineEntry.{LineEntry}
use Rattle.tlv.specs.Bytes.{le_at}
use Rattle.buffers.specs.Table.{chunk, records, Kept}
use Rattle.buffers.specs.Options.{option_at}
use Rattle.lines.specs.Lines.{SequencedLine, LineSequenceRange}
use Rattle.rows.specs.Sizes.{column_at, entry_size, line_size, range_sequence_at, sequence_range_size}

-- what the code's Option says, in the definitions' own
abbrev pub sequence_of : Maybe ℕ → Option ℕ
sequence_of (Some n) = some n
sequence_of None = none

-- whether there is an offset, and the offset: a number of 8 bytes that may be missing
unfoldable pub stored_sequence : List ℕ → ℕ → Option ℕ
stored_sequence b p = option_at 8 b p

-- ---- a function's row

unfoldable pub entry_of : List ℕ → LineEntry
entry_of b = record { address = le_at 8 b 0; file = record { 0 = le_at 4 b 8 }; line = le_at 4 b 12; column = le_at 2 b column_at }

unfoldable pub entries_of : List ℕ → ℕ → ℕ → List LineEntry
entries_of w base n = records entry_of entry_size w base n

-- ---- a unit's row: a function's row, and its sequence

unfoldable pub line_of : List ℕ → SequencedLine
line_of b = record { entry = entry_of b; statement_sequence = stored_sequence b entry_size }

unfoldable pub line_at : List ℕ → ℕ → SequencedLine
line_at w p = line_of (chunk w p line_size)

unfoldable pub lines_of : List ℕ → ℕ → ℕ → List SequencedLine
lines_of w base n = records line_of line_size w base n

-- ---- a sequence: the start, the end, its offset

unfoldable pub range_of : List ℕ → LineSequenceRange
range_of b = record { range = record { start = le_at 8 b 0; end = le_at 8 b 8 }; statement_sequence = stored_sequence b range_sequence_at }

unfoldable pub range_at : List ℕ → ℕ → LineSequenceRange
range_at w p = range_of (chunk w p sequence_range_size)

unfoldable pub ranges_of : List ℕ → ℕ → ℕ → List LineSequenceRange
ranges_of w base n = records range_of sequence_range_size w base n

-- ---- what the writes promise

pub record PutEntry (w w' : List ℕ) (p : ℕ) (l : LineEntry) : Type 0 where
  pub entry : entry_of (chunk w' p entry_size) ≡ l
  pub rest : Kept w w' p entry_size

pub record PutLine (w w' : List ℕ) (p : ℕ) (l : LineEntry) (s : Maybe ℕ) : Type 0 where
  pub line : line_at w' p ≡ record { entry = l; statement_sequence = sequence_of s }
  pub rest : Kept w w' p line_size

pub record PutSequenceRange (w w' : List ℕ) (p : ℕ) (r : AddressRange) (s : Maybe ℕ) : Type 0 where
  pub range : range_at w' p ≡ record { range = r; statement_sequence = sequence_of s }
  pub rest : Kept w w' p sequence_range_size
