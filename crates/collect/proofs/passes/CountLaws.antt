-- The loop that counts the row fields of a unit: its start, its turns and its ends.
use mathlib.Core.Path.{◌≡◌, ◌∙◌}
use mathlib.Core.List.{List}
use Prim.Native.Nat.{ℕ, ◌+◌, ◌≤◌}
use native.Mathlib.Omega.{arith}
use borrow.Author.Tests.{eq-eqb, ne_eqb}
use Rattle.std.specs.Prelude.{Some, None, Ok, Err}
use Rattle.tlv.specs.declared.fields.FieldSpan.{FieldSpan}
use Rattle.tlv.specs.declared.refusal.Refusal.{Refusal}
use Rattle.tlv.specs.Grammar.{row_kind_at}
use Rattle.tlv.specs.Bytes.{le_at}
use Rattle.tlv.specs.Checked.{Placed}
use Rattle.access.specs.Access.{NextOwn}
use Rattle.access.proofs.OwnLaws.{own-within, own-placed}
use Rattle.collect.specs.Passes.{rows_from, count_rows, counted_of}
use Rattle.collect.proofs.RowsFromLaws.{rows_end, rows_next, row-kind}

-- the rows from `at` on, with the counts so far, count as those from p on; each row counted takes a byte at least
pub record CountingRows (s : List ℕ) (p at lines opened n : ℕ) : Type 0 where
  pub placed : Placed s at
  pub same : count_rows (rows_from s p) 0 0 0 ≡ count_rows (rows_from s at) lines opened n
  pub small : lines + opened + n ≤ at

module _ (s : List ℕ) (p at lines opened n : ℕ) (inv : CountingRows s p at lines opened n) where
  pub counting_done : NextOwn s at 0x16 None → counted_of (Ok (record { lines = lines; opened = opened; sequences = n })) ≡ count_rows (rows_from s p) 0 0 0
  unfolding count_rows
  counting_done own = rw (inv.same, rows_end s at own)

  module _ (f : FieldSpan) (own : NextOwn s at 0x16 (Some f)) (kind : ℕ) (read : kind ≡ le_at 1 s (f.start + row_kind_at)) where
    pub counting-failed : kind ≡ 2 → counted_of (Err Refusal.Decoder) ≡ count_rows (rows_from s p) 0 0 0
    unfolding count_rows
    counting-failed two = rw (inv.same, rows_next s at f own, row-kind s at f own inv.placed kind read, eq-eqb kind 2 two)

    placed-next : Placed s f.next
    placed-next = own-placed s at 0x16 f own inv.placed

    module _ (two : kind ≡ 2 → ⊥) where
      pub counting-end : kind ≡ 1 → CountingRows s p f.next (lines + opened) 0 (n + 1)
      unfolding count_rows
      counting-end one =
          let w = own-within s at 0x16 f own in
          let b = inv.small in
          record {
            placed = placed-next;
            same = inv.same ∙ rw (rows_next s at f own, row-kind s at f own inv.placed kind read, ne_eqb kind 2 two, eq-eqb kind 1 one);
            small = omega arith;
          }

      pub counting-plain : (kind ≡ 1 → ⊥) → CountingRows s p f.next lines (opened + 1) n
      unfolding count_rows
      counting-plain one =
          let w = own-within s at 0x16 f own in
          let b = inv.small in
          record {
            placed = placed-next;
            same = inv.same ∙ rw (rows_next s at f own, row-kind s at f own inv.placed kind read, ne_eqb kind 2 two, ne_eqb kind 1 one);
            small = omega arith;
          }
