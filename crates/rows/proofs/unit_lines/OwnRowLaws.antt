-- The loop that copies a range's own rows from the front of the table on.
use mathlib.Core.Path.{◌≡◌, refl, sym, ap, ◌∙◌}
use mathlib.Core.Bool.{Bool, true, false, ◌&&◌}
use mathlib.Core.Logic.{inl}
use mathlib.Core.List.{List, [], ◌∷◌, ◌++◌, append_assoc, append-nil}
use Prim.Native.Nat.{ℕ, suc, ◌+◌, ◌*◌, ◌≤◌, ◌<◌}
use native.Mathlib.Omega.{arith}
use lib.ListN.{length, drop}
use lib.Dec.{leb}
use Rattle.std.specs.Prelude.{Option as Maybe}
use Rattle.tlv.specs.declared.model.AddressRange.{AddressRange}
use Rattle.buffers.specs.Table.{chunk, Kept, CopiedBytes}
use Rattle.buffers.proofs.TableLaws.{kept_refl, kept_trans, kept-wide}
use Rattle.buffers.proofs.RecordLaws.{records-nil, records-copy_push}
use Rattle.lines.specs.Lines.{SequencedLine}
use Rattle.lines.specs.Rows.{belongs}
use Rattle.rows.specs.declared.unit_lines.StoredLines.{StoredLines}
use Rattle.rows.specs.Sizes.{entry_size, line_size}
use Rattle.rows.specs.Stored.{sequence_of, stored_sequence, entry_of, entries_of, line_at, lines_of}
use Rattle.rows.specs.Front.{FrontRows, front_rows}
use Rattle.rows.specs.Selects.{RowsBelow, Owned}
use Rattle.rows.proofs.LeadingLaws.{leading-most}
use Rattle.rows.proofs.FrontLaws.{front_ends, front_takes, front_skips, front_below}
use Rattle.rows.proofs.StoredLaws.{sequence-kept, line_kept, line-sequence, line-entry, lines-rest_cons, lines-rest_none}

-- ---- the test of a row

-- ---- the loop

-- what the loop gives from row i on, behind the `count` rows copied so far, is what it gives from the front
pub record Owning (w₀ w : List ℕ) (l : StoredLines) (range : AddressRange) (asked : Maybe ℕ) (to i count : ℕ) : Type 0 where
  pub most : i ≤ l.lines.count
  pub few : count ≤ i
  pub rows : entries_of w to count ++ (front_rows range (sequence_of asked) (drop i (lines_of w₀ l.lines.base l.lines.count))).rows
      ≡ (front_rows range (sequence_of asked) (lines_of w₀ l.lines.base l.lines.count)).rows
  pub past : i + (front_rows range (sequence_of asked) (drop i (lines_of w₀ l.lines.base l.lines.count))).past
      ≡ (front_rows range (sequence_of asked) (lines_of w₀ l.lines.base l.lines.count)).past
  pub rest : Kept w₀ w to (l.lines.count * entry_size)
  pub size : length w ≡ length w₀

pub own-start : {w₀ : List ℕ} {l : StoredLines} {range : AddressRange} {asked : Maybe ℕ} {to below : ℕ}
    → RowsBelow w₀ l range below → Owning w₀ w₀ l range asked to below 0
unfolding entries_of
own-start {w₀} {l} {range} {asked} {to} {below} B =
    let skip = front_below range (sequence_of asked) (lines_of w₀ l.lines.base l.lines.count) below B.start B.end in
    record {
      most = omega (arith, B.start, leading-most w₀ l.lines.base l.lines.count range.start);
      few = omega arith;
      rows = rw (records-nil entry_of entry_size w₀ to) (sym (ap (λ (f : FrontRows). f.rows) skip));
      past = sym (ap (λ (f : FrontRows). f.past) skip);
      rest = kept_refl w₀ to (l.lines.count * entry_size);
      size = refl;
    }

module _ {w₀ w : List ℕ} {l : StoredLines} {range : AddressRange} {asked : Maybe ℕ} {to i count : ℕ}
    (O : Owning w₀ w l range asked to i count) where
  -- what the loop gives from row n on
  abbrev from : ℕ → FrontRows
  from n = front_rows range (sequence_of asked) (drop n (lines_of w₀ l.lines.base l.lines.count))

  -- the loop gives nothing more
  ends : from i ≡ record { rows = []; past = 0 } → Owned w₀ w l range asked to (record { count = count; past = i })
  ends e = record {
    rows = sym (append-nil (entries_of w to count)) ∙ rw e at O.rows;
    past = let p = rw e at O.past in omega arith;
    within = omega (arith, O.few, O.most);
    rest = O.rest;
  }

  pub own-done : l.lines.count ≤ i → Owned w₀ w l range asked to (record { count = count; past = l.lines.count })
  unfolding front_rows
  own-done h =
      let last : i ≡ l.lines.count = omega (arith, O.most) in
      rw last at (ends (rw (lines-rest_none w₀ l.lines.base l.lines.count i h)))

  module _ (b : l.lines.base + l.lines.count * line_size ≤ to) (h : i < l.lines.count) {address : ℕ} (a : address ≡ (line_at w (l.lines.base + i * line_size)).entry.address) where
    abbrev x : SequencedLine
    x = line_at w₀ (l.lines.base + i * line_size)

    abbrev rest : List SequencedLine
    rest = drop (i + 1) (lines_of w₀ l.lines.base l.lines.count)

    cons : drop i (lines_of w₀ l.lines.base l.lines.count) ≡ x ∷ rest
    cons = lines-rest_cons w₀ l.lines.base l.lines.count i h

    same : line_at w (l.lines.base + i * line_size) ≡ x
    same = line_kept (l.lines.base + i * line_size) O.rest (inl (omega arith))

    address_is : address ≡ x.entry.address
    address_is = a ∙ ap (λ (y : SequencedLine). y.entry.address) same

    pub own-past : range.end ≤ address → Owned w₀ w l range asked to (record { count = count; past = i })
    own-past g = ends (rw cons (front_ends range (sequence_of asked) x rest (rw address_is at g)))

    module _ {t : Bool} (near : address < range.end)
        (e : t ≡ (leb range.start address && belongs (sequence_of asked) (stored_sequence w (l.lines.base + i * line_size + entry_size)))) where
      near-is : x.entry.address < range.end
      near-is = rw address_is at near

      tested : t ≡ (leb range.start x.entry.address && belongs (sequence_of asked) x.statement_sequence)
      tested =
          e ∙ (λ k. leb range.start (address_is k) && belongs (sequence_of asked)
          ((sequence-kept (l.lines.base + i * line_size + entry_size) O.rest (inl (omega arith)) ∙ sym (line-sequence w₀ (l.lines.base + i * line_size))) k))

      pub own-not : t ≡ false → Owning w₀ w l range asked to (i + 1) count
      own-not f =
          let turn : from i ≡ record { rows = (from (i + 1)).rows; past = suc (from (i + 1)).past } =
          rw cons (front_skips range (sequence_of asked) x rest near-is tested f) in
          let p = rw turn at O.past in
          record {
            most = omega arith;
            few = omega (arith, O.few);
            rows = rw turn at O.rows;
            past = omega arith;
            rest = O.rest;
            size = O.size;
          }

      pub own-take : {w' : List ℕ} → t ≡ true → CopiedBytes w w' (l.lines.base + i * line_size) (to + count * entry_size) entry_size → length w' ≡ length w
          → Owning w₀ w' l range asked to (i + 1) (count + 1)
      unfolding entries_of
      own-take {w'} f C n =
          let turn : from i ≡ record { rows = x.entry ∷ (from (i + 1)).rows; past = suc (from (i + 1)).past } =
          rw cons (front_takes range (sequence_of asked) x rest near-is tested f) in
          let is : entry_of (chunk w (l.lines.base + i * line_size) entry_size) ≡ x.entry =
          ap entry_of (O.rest.same (l.lines.base + i * line_size) entry_size (inl (omega arith))) ∙ sym (line-entry w₀ (l.lines.base + i * line_size)) in
          let p = rw turn at O.past in
          record {
            most = omega arith;
            few = omega (arith, O.few);
            rows = rw (records-copy_push entry_of entry_size to count C, is) (append_assoc (entries_of w to count) (x.entry ∷ []) (from (i + 1)).rows)
                ∙ rw turn at O.rows;
            past = omega arith;
            rest = kept_trans O.rest (kept-wide to (l.lines.count * entry_size) C.rest (omega arith) (omega (arith, O.few)));
            size = n ∙ O.size;
          }
