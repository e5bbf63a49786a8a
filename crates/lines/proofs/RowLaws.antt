-- The rows that a function takes stay in its range, never fall, never repeat a neighbour, and fit their fields.
use mathlib.Core.Path.{◌≡◌, refl, ap, sym, ◌∙◌}
use mathlib.Core.Bool.{Bool, true, ◌&&◌, true≢false}
use mathlib.Core.List.{List, [], ◌∷◌, ◌++◌}
use mathlib.Core.Option.{Option, none, some}
use Prim.Native.Nat.{ℕ, ◌^◌, ◌≤◌, ◌<◌}
use native.Mathlib.Omega.{arith}
use borrow.Author.Tests.{leb-true, ltb-true, eq-eqb}
use lib.Dec.{leb, ltb}
use Rattle.tlv.specs.declared.model.AddressRange.{AddressRange}
use Rattle.tlv.specs.declared.model.FileIndex.{FileIndex}
use Rattle.tlv.specs.declared.model.LineEntry.{LineEntry}
use Rattle.tlv.specs.Addresses.{RangeHolds, Nonempty}
use Rattle.tlv.specs.Lists.{All, filter, first, last, or_else}
use Rattle.tlv.specs.Accepted.{Given}
use Rattle.tlv.proofs.TestLaws.{by_test, and_left, and_right}
use Rattle.tlv.proofs.ListLaws.{all_map, all-each, all_append, all_filter, all-last, all-image}
use Rattle.tlv.proofs.SortLaws.{ascending-lower, ascending-from, ascending-filter, ascending-image}
use Rattle.buffers.specs.Fits.{LineFits}
use Rattle.lines.specs.Lines.{SequencedLine, LineSequenceRange, UnitLines, same_line, drop_after, drop_neighbours}
use Rattle.lines.specs.Rows.{contains, belongs, compact_line_rows, own_rows, moved_to, earlier_in, earlier_row, starts_late, selected_sequence, rows_for, for_range}
use Rattle.lines.specs.RowsAgree.{Rising, Repeats, Distinct, RowsAgree}
use Rattle.lines.proofs.Bounds.{Sorted, LinesFit}
use Rattle.lines.proofs.OrderLaws.{all-drop_neighbours, ascending-drop_neighbours}

-- ---- no neighbour repeats

repeats_same : (x y : LineEntry) → Repeats x y → same_line x y ≡ true
repeats_same x y h = rw (eq-eqb x.file.0 y.file.0 (ap (λ (i : FileIndex). i.0) h.0), eq-eqb x.line y.line h.1)

drop_after-distinct : (x : LineEntry) (ys : List LineEntry) → Distinct (x ∷ drop_after same_line x ys)
unfolding drop_after
drop_after-distinct x [] = tt
drop_after-distinct x (y ∷ ys) =
    by_test (λ ls. Distinct (x ∷ ls)) (same_line x y) (λ e. drop_after-distinct x ys) (λ e. (λ r. true≢false (sym (repeats_same x y r) ∙ e), drop_after-distinct y ys))

compact-distinct : (ls : List LineEntry) → Distinct (compact_line_rows ls)
unfolding compact_line_rows drop_neighbours
compact-distinct [] = tt
compact-distinct (x ∷ xs) = drop_after-distinct x xs

-- ---- the table's rows in a range, and the row put first

contains-holds : (r : AddressRange) (a : ℕ) (more : Bool) → contains r a && more ≡ true → RangeHolds r a
unfolding contains
contains-holds r a more e =
    let h = and_left (leb r.start a && ltb a r.end) more e in
    (leb-true r.start a (and_left (leb r.start a) (ltb a r.end) h), ltb-true a r.end (and_right (leb r.start a) (ltb a r.end) h))

-- what is known of a row's file, line and column, whatever its address
module _ (Q : FileIndex → ℕ → ℕ → Type 0) where
  abbrev Known : SequencedLine → Type 0
  Known x = Q x.entry.file x.entry.line x.entry.column

  -- a row in the range
  abbrev Own : AddressRange → LineEntry → Type 0
  Own r x = RangeHolds r x.address × Q x.file x.line x.column

  -- a row that was moved to an address
  abbrev Moved : ℕ → LineEntry → Type 0
  Moved a x = (x.address ≡ a) × Q x.file x.line x.column

  moved-known : (a : ℕ) (o : Option SequencedLine) → Given Known o → All (Moved a) (moved_to a o)
  moved-known a none f = tt
  moved-known a (some x) f = ((refl, f), tt)

moved-rising : (a : ℕ) (o : Option SequencedLine) (ls : List LineEntry) → Rising a ls → Rising a (moved_to a o ++ ls)
moved-rising a none ls h = h
moved-rising a (some x) ls h = (omega arith, h)

earlier-rising : (l : UnitLines) (a : ℕ) (s : Option ℕ) (o : Option LineSequenceRange) (ls : List LineEntry) → Rising a ls → Rising a (earlier_in l a s o ++ ls)
earlier-rising l a s none ls h = h
earlier-rising l a s (some q) ls h =
    moved-rising a (last (λ x. ltb x.entry.address a && belongs (or_else s q.statement_sequence) x.statement_sequence) l.entries) ls h

-- ---- the rows of a function

module _ (Q : FileIndex → ℕ → ℕ → Type 0) (l : UnitLines) (known : All (Known Q) l.entries) (sorted : Sorted 0 l.entries) (r : AddressRange) (s : Option ℕ) where
  own : SequencedLine → Bool
  own x = contains r x.entry.address && belongs s x.statement_sequence

  own-known : All (Own Q r) (own_rows l r s)
  unfolding own_rows own
  own-known = all-image (Own Q r) (λ x. x.entry) (filter own l.entries) (all_map (filter own l.entries) one (all_filter (Known Q) own l.entries known))
    where
      one : (x : SequencedLine) → Known Q x × (own x ≡ true) → Own Q r x.entry
      one x h = (contains-holds r x.entry.address (belongs s x.statement_sequence) h.1, h.0)

  own-rising : Rising r.start (own_rows l r s)
  unfolding own_rows own
  own-rising =
      ascending-from (λ x. x.address) r.start 0 (own_rows l r s) (all_map (own_rows l r s) (λ x h. h.0.0) own-known)
      (ascending-image (λ x. x.address) (λ x. x.entry) 0 (filter own l.entries) (ascending-filter (λ x. x.entry.address) own 0 l.entries sorted))

  -- the first sequence that covers the start
  covering : Option LineSequenceRange
  covering = first (λ q. belongs s q.statement_sequence && contains q.range r.start) l.sequences

  -- the last earlier row, moved to the start
  earlier-known : (o : Option LineSequenceRange) → All (Moved Q r.start) (earlier_in l r.start s o)
  earlier-known none = tt
  earlier-known (some q) = moved-known Q r.start (last before l.entries) (all-last (Known Q) before l.entries known)
    where
      before : SequencedLine → Bool
      before x = ltb x.entry.address r.start && belongs (or_else s q.statement_sequence) x.statement_sequence

  -- a row is one of the table's in the range, or one moved to the start
  rows_all : (P : LineEntry → Type 0) → ((x : LineEntry) → Own Q r x → P x) → ((x : LineEntry) → Moved Q r.start x → P x) → All P (rows_for l r s)
  unfolding rows_for compact_line_rows earlier_row covering
  rows_all P f g =
      let owned = all_map (own_rows l r s) f own-known in
      all-drop_neighbours P same_line _ (by_test (All P) (starts_late r.start (own_rows l r s))
      (λ e. all_append P (earlier_row l r s) (own_rows l r s) (all_map (earlier_row l r s) g (earlier-known covering)) owned) (λ e. owned))

  rows-rising : Rising r.start (rows_for l r s)
  unfolding rows_for compact_line_rows earlier_row covering
  rows-rising = ascending-drop_neighbours (λ x. x.address) same_line r.start _
      (by_test (Rising r.start) (starts_late r.start (own_rows l r s)) (λ e. earlier-rising l r.start s covering (own_rows l r s) own-rising) (λ e. own-rising))

rows-distinct : (l : UnitLines) (r : AddressRange) (s : Option ℕ) → Distinct (rows_for l r s)
unfolding rows_for
rows-distinct l r s = compact-distinct _

abbrev Anything : FileIndex → ℕ → ℕ → Type 0
Anything i n c = Unit {0}

pub rows_agree : (l : UnitLines) (r : AddressRange) (requested : Option ℕ) → Sorted 0 l.entries → Nonempty r → RowsAgree r (for_range l r requested).rows
unfolding for_range
rows_agree l r requested sorted filled =
    let s = selected_sequence l requested in
    let known = all-each l.entries (λ x. tt) in
    record {
      within = rows_all Anything l known sorted r s (λ x. RangeHolds r x.address) (λ x h. h.0) (λ x h. omega (arith, h.0));
      rising = ascending-lower (λ x. x.address) 0 r.start (rows_for l r s) (omega arith) (rows-rising Anything l known sorted r s);
      distinct = rows-distinct l r s;
    }

abbrev Fitting : FileIndex → ℕ → ℕ → Type 0
Fitting i n c = (i.0 < 2 ^ 32) × (n < 2 ^ 32) × (c < 2 ^ 16)

pub rows_fit : (l : UnitLines) (r : AddressRange) (requested : Option ℕ) → LinesFit l → r.end ≤ 2 ^ 64 → Nonempty r → All LineFits (for_range l r requested).rows
unfolding for_range
rows_fit l r requested fits small filled =
    rows_all Fitting l (all_map l.entries (λ x h. (h.file, h.line, h.column)) fits.entries) fits.sorted r (selected_sequence l requested) LineFits
    (λ x h. record { address = omega (arith, h.0); file = h.1.0; line = h.1.1; column = h.1.2 })
    (λ x h. record { address = omega (arith, h.0); file = h.1.0; line = h.1.1; column = h.1.2 })
