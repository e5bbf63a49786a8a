-- A unit's lines are stored: its sequences behind its lines, and these sorted and freed of equal neighbours.
use mathlib.Core.Path.{◌≡◌, sym, ap, ◌∙◌}
use mathlib.Core.Logic.{inl, inr}
use mathlib.Core.List.{List}
use mathlib.Core.Option.{none}
use Prim.Native.Nat.{ℕ, ◌+◌, ◌*◌, ◌≤◌}
use native.Mathlib.Omega.{arith}
use lib.ListN.{length, length-map}
use Rattle.tlv.specs.Model.{LineRow}
use Rattle.buffers.specs.declared.table.Stored.{Stored}
use Rattle.buffers.proofs.TableLaws.{here, kept-wide, kept_trans}
use Rattle.buffers.proofs.RecordLaws.{records-but}
use Rattle.line_program.specs.Scan.{offsets_at}
use Rattle.lines.specs.Lines.{sort_rows, same_row, drop_neighbours}
use Rattle.rows.specs.declared.line.LineSequenceRange.{LineSequenceRange}
use Rattle.rows.specs.declared.line.SequencedLine.{SequencedLine}
use Rattle.rows.specs.Sizes.{entry_size, line_size, sequence_range_size, row_room}
use Rattle.rows.specs.Stored.{lines_of, range_of, ranges_of}
use Rattle.rows.specs.Sorts.{SortedRows, Deduped}
use Rattle.rows.proofs.StoredLaws.{lines-kept, ranges-length, ranges-kept}
use Rattle.rows.proofs.SortLaws.{sort_sorted, neighbours-sorted}
use Rattle.collect.specs.Passes.{sequences_from, with_offset, SequencesIn}
use Rattle.collect.specs.Stages.{StoresLines}
use Rattle.collect.proofs.FrameLaws.{kept-one}

module _ {rows : List LineRow} {w w₁ : List ℕ} {offsets n m : ℕ} (lines count : ℕ) (S : SequencesIn rows w w₁ offsets n (lines + count * line_size) m) where
  pub sequences-counted : m ≡ length (sequences_from rows 0 none)
  sequences-counted = sym (ranges-length w₁ (lines + count * line_size) m) ∙ ap length S.is ∙ length-map (sequences_from rows 0 none) (with_offset (offsets_at w offsets n))

  module _ {w₂ w₃ : List ℕ} {r : ℕ} (T : SortedRows w₁ w₂ lines (lines + count * line_size + m * sequence_range_size) count) (D : Deduped w₂ w₃ lines count r) where
    entries-are : lines_of w₃ lines r ≡ drop_neighbours same_row (sort_rows (lines_of w lines count))
    entries-are = D.rows ∙ ap (drop_neighbours same_row) (T.rows ∙ ap sort_rows (lines-kept lines count S.rest (inl (omega arith))))

    ranges-are : ranges_of w₃ (lines + count * line_size) m ≡ ranges_of w₁ (lines + count * line_size) m
    unfolding ranges_of
    ranges-are =
        ranges-kept (lines + count * line_size) m D.rest (inr (omega arith))
        ∙ records-but range_of sequence_range_size (lines + count * line_size) m T.rest (inr (omega arith), (inl (omega arith), tt))

    pub stored_lines : lines + count * row_room + sequence_range_size * length (sequences_from rows 0 none) + entry_size ≤ length w → length w₃ ≡ length w
        → {kept : Stored SequencedLine} {found : Stored LineSequenceRange} → kept.base ≡ lines → kept.count ≡ r → found.base ≡ lines + count * line_size
        → found.count ≡ m
        → StoresLines rows w w₃ offsets n lines count (record { lines = kept; sequences = found; buffer = lines + count * line_size + m * sequence_range_size })
    stored_lines room size kept_from kept_many found_from found_many =
        let k = sequences-counted in
        let few = D.within in
        let all = count * row_room + sequence_range_size * length (sequences_from rows 0 none) + entry_size in
        record {
          from = kept_from;
          entries = rw (kept_from, kept_many) entries-are;
          ranges = rw (found_from, found_many) (ranges-are ∙ S.is);
          rows = record {
            lines = omega arith;
            sequences = omega arith;
            buffer = omega arith;
            sorted = rw (kept_from, kept_many, entries-are) (neighbours-sorted same_row 0 (sort_rows (lines_of w lines count)) (sort_sorted (lines_of w lines count)));
          };
          sequences = omega arith;
          within = omega arith;
          rest =
              kept_trans (kept-wide lines all S.rest (omega arith) (omega arith))
              (kept_trans (kept-one lines all T.rest (here (omega arith) (omega arith), (here (omega arith) (omega arith), tt)))
              (kept-wide lines all D.rest (omega arith) (omega arith)));
        }
