-- A function's rows: its own, with the row in force before them where they start late, freed of neighbours that repeat.
use mathlib.Core.Path.{◌≡◌, refl, sym, ap, ◌∙◌}
use mathlib.Core.Bool.{Bool, true, false, cond, ◌&&◌, not}
use mathlib.Core.Logic.{inl, inr}
use mathlib.Core.List.{List, [], ◌∷◌}
use mathlib.Core.Option.{none}
use Prim.Native.Nat.{ℕ, zero, suc, ◌+◌, ◌*◌, ◌≤◌, ◌<◌}
use native.Mathlib.Omega.{arith}
use lib.Dec.{ltb, eqb}
use lib.ListN.{length}
use borrow.Author.Tests.{eq-eqb, ne_eqb}
use Rattle.std.specs.Prelude.{Option as Maybe, Some}
use Rattle.std.specs.Option.{option_to_list}
use Rattle.tlv.specs.declared.model.AddressRange.{AddressRange}
use Rattle.tlv.specs.declared.model.LineEntry.{LineEntry}
use Rattle.tlv.specs.Bytes.{le_at}
use Rattle.tlv.specs.Lists.{is_empty}
use Rattle.buffers.specs.Table.{chunk, tab, records, Kept}
use Rattle.buffers.proofs.ChunkLaws.{le_at-front}
use Rattle.buffers.proofs.TableLaws.{kept_trans, kept-wide}
use Rattle.buffers.proofs.RecordLaws.{records-nil, records-rest_cons, records-add, records-kept}
use Rattle.lines.specs.Rows.{compact_line_rows, own_rows, earlier_row, starts_late, sequence_exists, selected_sequence, rows_for, for_range}
use Rattle.rows.specs.declared.unit_lines.StoredLines.{StoredLines}
use Rattle.rows.specs.declared.unit_lines.OwnRows.{OwnRows}
use Rattle.buffers.specs.declared.table.Stored.{Stored}
use Rattle.rows.specs.Sizes.{entry_size, line_size, sequence_range_size}
use Rattle.rows.specs.Stored.{sequence_of, entry_of, entries_of, line_of, lines_of, range_of, ranges_of, PutEntry}
use Rattle.rows.specs.Sorts.{Compacted}
use Rattle.rows.specs.Selects.{unit_lines_of, RowsIn, Owned, Fronted, ForRange}
use Rattle.rows.proofs.FrontLaws.{same_rows}

-- ---- rows that start late

pub late-none : (w : List ℕ) (p start : ℕ) {count : ℕ} → count ≡ 0 → eqb count 0 ≡ starts_late start (entries_of w p count)
unfolding entries_of
late-none w p start e = rw (e, records-nil entry_of entry_size w p)

pub late-some : (w : List ℕ) (p start : ℕ) {count v : ℕ} → (count ≡ 0 → ⊥) → v ≡ le_at 8 w p → ltb start v ≡ starts_late start (entries_of w p count)
unfolding entries_of entry_of
late-some w p start {count} {v} h e =
    let z : p + 0 * entry_size ≡ p = omega arith in
    let some : 0 < count = omega (arith, h) in
    rw (records-rest_cons entry_of entry_size w p count 0 some, z, le_at-front 8 w p entry_size (omega arith), e)

-- ---- the row in force put before them

only : (w : List ℕ) (p : ℕ) {x : LineEntry} → entry_of (chunk w p entry_size) ≡ x → records entry_of entry_size w p 1 ≡ x ∷ []
unfolding records tab
only w p e = let z : p + 0 * entry_size ≡ p = omega arith in rw (z, e)

module _ {w : List ℕ} {l : StoredLines} (r : AddressRange) (asked : Maybe ℕ) {count : ℕ} {t : Bool}
    (h : count ≤ l.lines.count) (s : t ≡ starts_late r.start (entries_of w (l.buffer + entry_size) count)) where
  module _ (f : t ≡ true) (e : Maybe LineEntry) (E : option_to_list e ≡ earlier_row (unit_lines_of w l) r (sequence_of asked)) where
    pub front_put : {w' : List ℕ} {x : LineEntry} {all : Stored LineEntry} → e ≡ Some x → PutEntry w w' l.buffer x → all.base ≡ l.buffer → all.count ≡ count + 1
        → Fronted w w' l r asked count all
    unfolding entries_of
    front_put {w'} {x} is P based counted =
        let one : count + 1 ≡ 1 + count = omega arith in
        let next : l.buffer + 1 * entry_size ≡ l.buffer + entry_size = omega arith in
        let first : records entry_of entry_size w' l.buffer 1 ≡ x ∷ [] = only w' l.buffer P.entry in
        record {
          rows = rw (based, counted, ← s, f, ← E, is, one, records-add entry_of entry_size w' l.buffer 1 count, first, next, records-kept entry_of entry_size (l.buffer + entry_size) count P.rest (inr (omega arith)));
          from = omega arith;
          within = omega arith;
          rest = P.rest;
        }

-- ---- what own_rows writes changes no lines

module _ {w w' : List ℕ} {l : StoredLines} (K : Kept w w' (l.buffer + entry_size) (l.lines.count * entry_size)) (R : RowsIn w l) where
  lines_same : lines_of w' l.lines.base l.lines.count ≡ lines_of w l.lines.base l.lines.count
  unfolding lines_of
  lines_same = records-kept line_of line_size l.lines.base l.lines.count K (inl (omega (arith, R.lines)))

  unit-same : unit_lines_of w' l ≡ unit_lines_of w l
  unfolding unit_lines_of ranges_of
  unit-same = rw (lines_same, records-kept range_of sequence_range_size l.sequences.base l.sequences.count K (inl (omega (arith, R.sequences))))

  pub rows-in_kept : length w' ≡ length w → RowsIn w' l
  rows-in_kept e = record { lines = R.lines; sequences = R.sequences; buffer = omega (arith, R.buffer); sorted = rw lines_same R.sorted }

-- ---- all of it

empty-entries : (w : List ℕ) (p n : ℕ) → is_empty (entries_of w p n) ≡ eqb n 0
unfolding entries_of records tab
empty-entries w p zero = sym (eq-eqb zero 0 refl)
empty-entries w p (suc n) = sym (ne_eqb (suc n) 0 (λ e. omega arith))

module _ {w w₁ w₂ w₃ : List ℕ} {l : StoredLines} {r : AddressRange} (requested asked : Maybe ℕ) {exists : Bool} {own : OwnRows} {left : ℕ} {f all : Stored LineEntry}
    (R : RowsIn w l) (E : exists ≡ sequence_exists (unit_lines_of w l) (sequence_of requested)) (S : sequence_of asked ≡ cond exists (sequence_of requested) none)
    (O : Owned w w₁ l r asked (l.buffer + entry_size) own) (F : Fronted w₁ w₂ l r asked own.count f) (C : Compacted w₂ w₃ f.base f.count left)
    (based : all.base ≡ f.base) (counted : all.count ≡ left) where
  selected : sequence_of asked ≡ selected_sequence (unit_lines_of w l) (sequence_of requested)
  unfolding selected_sequence
  selected = S ∙ ap (λ (b : Bool). cond b (sequence_of requested) none) E

  own-are : entries_of w₁ (l.buffer + entry_size) own.count ≡ own_rows (unit_lines_of w l) r (sequence_of asked)
  unfolding unit_lines_of
  own-are = O.rows ∙ same_rows (unit_lines_of w l) r (sequence_of asked) R.sorted

  rows_are : entries_of w₃ f.base left ≡ rows_for (unit_lines_of w l) r (sequence_of asked)
  unfolding rows_for
  rows_are = C.rows ∙ ap compact_line_rows F.rows ∙ rw (own-are, unit-same O.rest R)

  rows-for : entries_of w₃ f.base left ≡ (for_range (unit_lines_of w l) r (sequence_of requested)).rows
  unfolding for_range
  rows-for = rows_are ∙ ap (rows_for (unit_lines_of w l) r) selected

  pub for-range : (invalid : Bool) → invalid ≡ (not exists && not (eqb left 0)) → ForRange w w₃ l r requested (record { rows = all; invalid = invalid })
  unfolding for_range
  for-range invalid e = record {
    rows = rw (based, counted) rows-for;
    invalid = e ∙ rw (E, ← (empty-entries w₃ f.base left), rows-for);
    from = omega (arith, based, F.from);
    within = omega (arith, based, counted, F.within, C.within);
    rest =
        kept_trans (kept-wide l.buffer (entry_size + l.lines.count * entry_size) O.rest (omega arith) (omega arith))
        (kept_trans (kept-wide l.buffer (entry_size + l.lines.count * entry_size) F.rest (omega arith) (omega arith))
        (kept-wide l.buffer (entry_size + l.lines.count * entry_size) C.rest F.from (omega (arith, F.within))));
  }

  -- the sequence does not exist, or it does
  pub for-missing : not exists ≡ true → ForRange w w₃ l r requested (record { rows = all; invalid = not (eqb left 0) })
  for-missing n = for-range (not (eqb left 0)) (rw n)

  pub for-found : not exists ≡ false → ForRange w w₃ l r requested (record { rows = all; invalid = not exists })
  for-found n = for-range (not exists) (rw n)
