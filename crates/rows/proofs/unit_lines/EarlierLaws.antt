-- The row in force at an address: the search backwards for it, and the sequence in which it is looked for.
use mathlib.Core.Path.{◌≡◌, refl, sym, ap, ◌∙◌}
use mathlib.Core.Bool.{Bool, true, false, cond, ◌&&◌}
use mathlib.Core.List.{List, [], ◌∷◌}
use mathlib.Core.Option.{Option, none, some}
use Prim.Native.Nat.{ℕ, ◌+◌, ◌-◌, ◌*◌, ◌≤◌, ◌<◌}
use native.Mathlib.Omega.{arith}
use lib.Dec.{ltb}
use lib.ListN.{drop}
use borrow.Author.Tests.{lt-ltb, le-ltb}
use Rattle.std.specs.Prelude.{Option as Maybe, Some, None}
use Rattle.std.specs.Option.{option_or, option_to_list}
use Rattle.tlv.specs.declared.model.AddressRange.{AddressRange}
use Rattle.tlv.specs.declared.model.LineEntry.{LineEntry}
use Rattle.tlv.specs.Lists.{first, last, or_else}
use Rattle.tlv.proofs.ListLaws.{all_map, mapped}
use Rattle.buffers.specs.Table.{tab, records}
use Rattle.lines.specs.Lines.{SequencedLine}
use Rattle.lines.specs.Rows.{belongs, moved_to, earlier_row}
use Rattle.rows.specs.declared.unit_lines.StoredLines.{StoredLines}
use Rattle.rows.specs.Sizes.{line_size}
use Rattle.rows.specs.Stored.{sequence_of, line_at, lines_of, ranges_of}
use Rattle.rows.specs.Sorts.{leading}
use Rattle.rows.specs.Selects.{unit_lines_of, RowsIn, covering_of}
use Rattle.rows.proofs.LeadingLaws.{leading-most, all_from, row_below}
use Rattle.rows.proofs.FilterLaws.{last-append, last-take}
use Rattle.rows.proofs.StoredLaws.{lines-take, lines-suc}
use Rattle.rows.proofs.SequenceLaws.{covers_at}

abbrev pub earlier_than : ℕ → Option ℕ → SequencedLine → Bool
earlier_than a s = λ x. ltb x.entry.address a && belongs s x.statement_sequence

-- what is looked for stands among the first i rows
pub record Backwards (w : List ℕ) (base n a : ℕ) (s : Option ℕ) (i : ℕ) : Type 0 where
  pub few : i ≤ leading a (lines_of w base n)
  pub most : i ≤ n
  pub left : last (earlier_than a s) (lines_of w base n) ≡ last (earlier_than a s) (lines_of w base i)

too-late : (a : ℕ) (s : Option ℕ) (x : SequencedLine) → a ≤ x.entry.address → earlier_than a s x ≡ false
too-late a s x h = rw (le-ltb x.entry.address a h)

pub back_start : {w : List ℕ} {l : StoredLines} {a i : ℕ} (s : Option ℕ) → RowsIn w l → i ≡ leading a (lines_of w l.lines.base l.lines.count) → Backwards w l.lines.base l.lines.count a s i
back_start {w} {l} {a} {i} s R e =
    let xs : List SequencedLine = lines_of w l.lines.base l.lines.count in
    let h : i ≤ l.lines.count = omega (arith, leading-most w l.lines.base l.lines.count a) in
    record {
      few = omega arith;
      most = h;
      left =
          last-take (earlier_than a s) i xs (all_map (drop i xs) (too-late a s) (all_from a 0 xs i R.sorted (omega arith)))
          ∙ ap (last (earlier_than a s)) (lines-take w l.lines.base l.lines.count i h);
    }

module _ {w : List ℕ} {base n a i : ℕ} {s : Option ℕ} (B : Backwards w base n a s i) where
  module _ (own : Maybe ℕ) {t : Bool} (h : 0 < i) (q : sequence_of own ≡ (line_at w (base + (i - 1) * line_size)).statement_sequence) (e : t ≡ belongs s (sequence_of own)) where
    back-test : earlier_than a s (line_at w (base + (i - 1) * line_size)) ≡ t
    back-test =
        rw (lt-ltb (line_at w (base + (i - 1) * line_size)).entry.address a (row_below w base n a (i - 1) (omega (arith, B.most)) (omega (arith, B.few))))
        (ap (belongs s) (sym q) ∙ sym e)

    -- row i - 1 is the last of the i
    last_row : last (earlier_than a s) (lines_of w base i) ≡ or_else (cond t (some (line_at w (base + (i - 1) * line_size))) none) (last (earlier_than a s) (lines_of w base (i - 1)))
    unfolding last or_else
    last_row =
        let is : i ≡ i - 1 + 1 = omega arith in
        ap (λ (k : ℕ). last (earlier_than a s) (lines_of w base k)) is
        ∙ ap (last (earlier_than a s)) (lines-suc w base (i - 1))
        ∙ last-append (earlier_than a s) (lines_of w base (i - 1)) (line_at w (base + (i - 1) * line_size) ∷ [])
        ∙ rw back-test

    pub back-next : t ≡ false → Backwards w base n a s (i - 1)
    unfolding or_else
    back-next f = record { few = omega (arith, B.few); most = omega (arith, B.most); left = B.left ∙ last_row ∙ rw f }

    pub back_found : {x : LineEntry} → t ≡ true → x ≡ (line_at w (base + (i - 1) * line_size)).entry
        → option_to_list (Some (record { address = a; file = x.file; line = x.line; column = x.column })) ≡ moved_to a (last (earlier_than a s) (lines_of w base n))
    unfolding or_else
    back_found {x} f is = rw (B.left, last_row, f, is)

  pub back_none : i ≤ 0 → option_to_list {X = LineEntry} None ≡ moved_to a (last (earlier_than a s) (lines_of w base n))
  unfolding last lines_of records tab
  back_none h = let z : i ≡ 0 = omega arith in rw (B.left, z)

-- ---- in the sequence that is asked for, or else the first that covers the start

or-is : (a b : Maybe ℕ) → sequence_of (option_or a b) ≡ or_else (sequence_of a) (sequence_of b)
unfolding or_else
or-is None b = refl
or-is (Some m) b = refl

module _ (w : List ℕ) (l : StoredLines) (r : AddressRange) (asked : Maybe ℕ) where
  pub earlier-none : covering_of None (first (covers_at (sequence_of asked) r.start) (ranges_of w l.sequences.base l.sequences.count))
      → option_to_list {X = LineEntry} None ≡ earlier_row (unit_lines_of w l) r (sequence_of asked)
  unfolding earlier_row unit_lines_of
  earlier-none C = rw C

  pub earlier-some : (own : Maybe ℕ) (e : Maybe LineEntry)
      → covering_of (Some own) (first (covers_at (sequence_of asked) r.start) (ranges_of w l.sequences.base l.sequences.count))
      → option_to_list e ≡ moved_to r.start (last (earlier_than r.start (sequence_of (option_or asked own))) (lines_of w l.lines.base l.lines.count))
      → option_to_list e ≡ earlier_row (unit_lines_of w l) r (sequence_of asked)
  unfolding earlier_row unit_lines_of
  earlier-some own e C h =
      let m = mapped (λ x. x.statement_sequence) (first (covers_at (sequence_of asked) r.start) (ranges_of w l.sequences.base l.sequences.count)) (sequence_of own) C in
      rw (m.1, m.2, ← or-is asked own) h
