-- Definition. The rows that a function takes (the Rust's UnitLines::for_range, normalize.rs; document 01, "Rows sort stably by address ..").
use Rattle.std.specs.Prelude.{ℕ, Bool, true, cond, ◌&&◌, not, List, [], ◌∷◌, ◌++◌, map, leb, ltb}
use Rattle.std.proofs.Math.Option.{Option, none, some}
use Rattle.tlv.specs.declared.model.AddressRange.{AddressRange}
use Rattle.tlv.specs.declared.model.LineEntry.{LineEntry}
use Rattle.tlv.specs.Lists.{filter, first, last, or_else, exists, is_empty}
use Rattle.lines.specs.Lines.{SequencedLine, LineSequenceRange, UnitLines, same_sequence, same_line, drop_neighbours}

-- AddressRange::contains
unfoldable pub contains : AddressRange → ℕ → Bool
contains r a = leb r.start a && ltb a r.end

-- a row or a sequence belongs to the sequence that is asked for; to any, where none is
abbrev pub belongs : Option ℕ → Option ℕ → Bool
belongs none s = true
belongs (some n) s = same_sequence (some n) s

-- compact_line_rows: "rows repeating their neighbour's file and line drop"
unfoldable pub compact_line_rows : List LineEntry → List LineEntry
compact_line_rows = drop_neighbours same_line

-- the table's rows in a range, of the sequence that is asked for
unfoldable pub own_rows : UnitLines → AddressRange → Option ℕ → List LineEntry
own_rows l r s = map (λ x. x.entry) (filter (λ x. contains r x.entry.address && belongs s x.statement_sequence) l.entries)

-- a row moved to an address; E7: it "brings its column"
abbrev pub moved_to : ℕ → Option SequencedLine → List LineEntry
moved_to a none = []
moved_to a (some x) = record { address = a; file = x.entry.file; line = x.entry.line; column = x.entry.column } ∷ []

-- "the last earlier row of that sequence (of any, if neither it nor the request has an offset) is put first, moved to the start"
abbrev pub earlier_in : UnitLines → ℕ → Option ℕ → Option LineSequenceRange → List LineEntry
earlier_in l start s none = []
earlier_in l start s (some q) =
    moved_to start (last (λ x. ltb x.entry.address start && belongs (or_else s q.statement_sequence) x.statement_sequence) l.entries)

-- of the first sequence that covers the start
unfoldable pub earlier_row : UnitLines → AddressRange → Option ℕ → List LineEntry
earlier_row l r s = earlier_in l r.start s (first (λ q. belongs s q.statement_sequence && contains q.range r.start) l.sequences)

-- "If it has none, or its first is above its start"
abbrev pub starts_late : ℕ → List LineEntry → Bool
starts_late start [] = true
starts_late start (x ∷ xs) = ltb start x.address

-- a requested statement sequence exists
abbrev pub sequence_exists : UnitLines → Option ℕ → Bool
sequence_exists l none = true
sequence_exists l (some n) = exists (λ q. same_sequence (some n) q.statement_sequence) l.sequences

-- "A statement sequence that does not exist selects all rows"
unfoldable pub selected_sequence : UnitLines → Option ℕ → Option ℕ
selected_sequence l requested = cond (sequence_exists l requested) requested none

unfoldable pub rows_for : UnitLines → AddressRange → Option ℕ → List LineEntry
rows_for l r s = compact_line_rows (cond (starts_late r.start (own_rows l r s)) (earlier_row l r s ++ own_rows l r s) (own_rows l r s))

pub record FunctionRows : Type 0 where
  pub rows : List LineEntry
  pub invalid : Bool  -- the request names no sequence, and rows were found all the same

-- for_range
unfoldable pub for_range : UnitLines → AddressRange → Option ℕ → FunctionRows
for_range l r requested =
    let rows = rows_for l r (selected_sequence l requested) in
    record { rows = rows; invalid = not (sequence_exists l requested) && not (is_empty rows) }
