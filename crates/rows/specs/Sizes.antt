-- Contract. How many bytes rows and sequences have as records, each named once. The code's constants of these names are in `line`.
use Rattle.std.specs.Prelude.{ℕ, ◌+◌, ◌*◌}

-- a sequence's offset: whether there is one, 1 byte, and the offset, 8
abbrev pub sequence_size : ℕ
sequence_size = 9

-- a function's row: the address 8, the file 4, the line 4, the column 2
abbrev pub column_at : ℕ
column_at = 16

abbrev pub entry_size : ℕ
entry_size = column_at + 2

-- a unit's row: a function's row, and its sequence
abbrev pub line_size : ℕ
line_size = entry_size + sequence_size

-- a sequence: the start 8, the end 8, then its offset
abbrev pub range_sequence_at : ℕ
range_sequence_at = 16

abbrev pub sequence_range_size : ℕ
sequence_range_size = range_sequence_at + sequence_size

-- a unit's row, and as much again while rows are sorted
abbrev pub row_room : ℕ
row_room = 2 * line_size
