-- Rows at the front of a table that lie below a range, counted one after another.
use mathlib.Core.Path.{◌≡◌, refl, ap}
use mathlib.Core.List.{List, [], ◌∷◌}
use Prim.Native.Nat.{ℕ, zero, suc, ◌+◌, ◌*◌, ◌≤◌, ◌<◌}
use native.Mathlib.Omega.{arith}
use lib.ListN.{length, get_or}
use borrow.Author.Tests.{lt-ltb, le-ltb}
use Rattle.tlv.specs.declared.model.AddressRange.{AddressRange}
use Rattle.tlv.proofs.TestLaws.{by_less}
use Rattle.buffers.proofs.RecordLaws.{records-length, records-at}
use Rattle.lines.specs.Lines.{SequencedLine}
use Rattle.rows.specs.declared.unit_lines.StoredLines.{StoredLines}
use Rattle.rows.specs.Sizes.{line_size}
use Rattle.rows.specs.Stored.{line_of, line_at, lines_of}
use Rattle.rows.specs.Sorts.{leading}
use Rattle.rows.specs.Selects.{RowsBelow}

leading-more : (a : ℕ) (d : SequencedLine) (xs : List SequencedLine) (i : ℕ)
    → i ≤ leading a xs → i < length xs → (get_or xs i d).entry.address < a → suc i ≤ leading a xs
unfolding leading
leading-more a d [] i h n g = absurd (omega arith)
leading-more a d (x ∷ xs) zero h n g = rw (lt-ltb x.entry.address a g) (omega arith)
leading-more a d (x ∷ xs) (suc i) h n g =
    by_less _ x.entry.address a
    (λ l.
    let k = rw (lt-ltb x.entry.address a l) at h in
    rw (lt-ltb x.entry.address a l) (omega (arith, leading-more a d xs i (omega arith) (omega arith) g)))
    (λ l. let k = rw (le-ltb x.entry.address a l) at h in absurd (omega arith))

-- row i is below an address too
row_more : (w : List ℕ) (base n i a v : ℕ) → i < n → v ≡ (line_at w (base + i * line_size)).entry.address → v < a
    → i ≤ leading a (lines_of w base n) → suc i ≤ leading a (lines_of w base n)
unfolding lines_of line_at
row_more w base n i a v h e g b =
    let is : (get_or (lines_of w base n) i (line_of [])).entry.address ≡ (line_at w (base + i * line_size)).entry.address =
    ap (λ (x : SequencedLine). x.entry.address) (records-at line_of line_size w base n i (line_of []) h) in
    leading-more a (line_of []) (lines_of w base n) i b (rw (records-length line_of line_size w base n) h) (rw (is, ← e) g)

-- row i lies below a range
pub record Below (w : List ℕ) (l : StoredLines) (range : AddressRange) (i : ℕ) : Type 0 where
  pub start : (line_at w (l.lines.base + i * line_size)).entry.address < range.start
  pub end : (line_at w (l.lines.base + i * line_size)).entry.address < range.end

pub all_below : (w : List ℕ) (l : StoredLines) (range : AddressRange) (n : ℕ) → n ≤ l.lines.count
    → ((i : ℕ) → i < n → Below w l range i) → RowsBelow w l range n
all_below w l range zero h f = record { start = omega arith; end = omega arith }
all_below w l range (suc n) h f =
    let B = all_below w l range n (omega arith) (λ i k. f i (omega arith)) in
    let row = f n (omega arith) in
    record {
      start = row_more w l.lines.base l.lines.count n range.start _ (omega arith) refl row.start B.start;
      end = row_more w l.lines.base l.lines.count n range.end _ (omega arith) refl row.end B.end;
    }
