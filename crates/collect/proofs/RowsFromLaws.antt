-- One step of a walk over the rows of a unit: the next field of a row is the first row, and the others follow it.
use mathlib.Core.Path.{◌≡◌, refl, ap, sym}
use mathlib.Core.List.{List, [], ◌∷◌, map}
use Prim.Native.Nat.{ℕ, ◌+◌, ◌≤◌}
use native.Mathlib.Omega.{arith}
use lib.ListN.{length, take, drop}
use Rattle.std.specs.Prelude.{Some, None}
use Rattle.tlv.specs.declared.fields.FieldSpan.{FieldSpan}
use Rattle.tlv.specs.Grammar.{row_field_size, row_kind_at}
use Rattle.tlv.specs.Cursor.{step_at}
use Rattle.tlv.specs.Bytes.{le_at}
use Rattle.tlv.specs.Model.{row_of}
use Rattle.tlv.specs.Checked.{Placed}
use Rattle.tlv.proofs.ShapeLaws.{number_at}
use Rattle.tlv.proofs.PlacePromises.{placed_row}
use Rattle.access.specs.Access.{NextOwn}
use Rattle.access.proofs.OwnLaws.{own-field, own-within}
use Rattle.collect.specs.Passes.{rows_from}

module _ (s : List ℕ) (p : ℕ) where
  pub rows_end : NextOwn s p 0x16 None → rows_from s p ≡ []
  unfolding rows_from
  rows_end own = ap (map row_of) (sym own.is)

  module _ (f : FieldSpan) (own : NextOwn s p 0x16 (Some f)) where
    pub rows_next : rows_from s p ≡ row_of (take f.len (drop f.start s)) ∷ rows_from s f.next
    unfolding rows_from
    rows_next = ap (map row_of) (sym own.is)

    module _ (h : Placed s p) where
      pub row-long : f.len ≡ row_field_size
      row-long = let x = own-field s p 0x16 f own h in placed_row s x.place (step_at s x.place) 0x16 f.start f.len f.next x.here refl x.is refl

      -- the whole row can be read
      pub row_within : f.start + row_field_size ≤ length s
      row_within = let l = row-long in let w = own-within s p 0x16 f own in omega arith

      -- a number of the row, read in the whole
      pub row_number : (k j n : ℕ) → j + k ≤ row_field_size → n ≡ le_at k s (f.start + j) → le_at k (take f.len (drop f.start s)) j ≡ n
      row_number k j n fits is = let l = row-long in number_at s f.start f.len k j n (omega arith) is

      pub row-kind : (k : ℕ) → k ≡ le_at 1 s (f.start + row_kind_at) → (row_of (take f.len (drop f.start s))).kind ≡ k
      unfolding row_of
      row-kind k is = row_number 1 row_kind_at k (omega arith) is
