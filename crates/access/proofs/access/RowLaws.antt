-- A row at a place of an accepted sheet: its length is known from its tag alone.
use mathlib.Core.Path.{◌≡◌, refl}
use mathlib.Core.List.{List}
use Prim.Native.Nat.{ℕ, ◌+◌, ◌-◌, ◌≤◌, ◌<◌}
use native.Mathlib.Omega.{arith}
use native.Mathlib.Decide.{dec_le}
use lib.ListN.{length, get_or}
use Rattle.std.specs.Prelude.{Some}
use Rattle.tlv.specs.Grammar.{row_field_size}
use Rattle.tlv.specs.Bytes.{le_at}
use Rattle.tlv.specs.Cursor.{field_here, step_at, span_of, field_from}
use Rattle.tlv.specs.Checked.{Placed}
use Rattle.tlv.proofs.CursorLaws.{step-short, step_cut, step_field}
use Rattle.tlv.proofs.PlaceFacts.{placed-whole}
use Rattle.tlv.proofs.PlacePromises.{placed_row}
use Rattle.access.specs.Access.{NextOwn}
use Rattle.access.proofs.OwnLaws.{looking-start, own-found}

module _ (s : List ℕ) (p : ℕ) (here : Placed s p) (inside : p < length s) (row : get_or s p 0 ≡ 0x16) where
  long : 3 ≤ length s - p
  long = elim (dec_le 3 (length s - p)) [
    | yes h ↦ h
    | no h ↦ absurd (placed-whole s p (step_at s p) here refl (step-short s p inside (omega arith)))
  ]

  whole : le_at 2 s (p + 1) ≤ length s - (p + 3)
  whole = elim (dec_le (le_at 2 s (p + 1)) (length s - (p + 3))) [
    | yes h ↦ h
    | no h ↦ absurd (placed-whole s p (step_at s p) here refl (step_cut s p inside long (omega arith)))
  ]

  step : step_at s p ≡ field_here (get_or s p 0) (p + 3) (le_at 2 s (p + 1)) (p + 3 + le_at 2 s (p + 1))
  step = step_field s p inside long whole

  size : le_at 2 s (p + 1) ≡ row_field_size
  size = placed_row s p (step_at s p) (get_or s p 0) (p + 3) (le_at 2 s (p + 1)) (p + 3 + le_at 2 s (p + 1)) here refl step row

  behind : p + 3 + le_at 2 s (p + 1) ≡ p + (3 + row_field_size)
  behind = omega (arith, size)

  row_step : step_at s p ≡ field_here 0x16 (p + 3) row_field_size (p + (3 + row_field_size))
  row_step = rw (behind, size, row) at step

  row_field : Some (record { tag = 0x16; start = p + 3; len = row_field_size; next = p + (3 + row_field_size) }) ≡ field_from s p
  unfolding span_of
  row_field = rw row_step

  pub row_here : NextOwn s p 0x16 (Some (record { tag = 0x16; start = p + 3; len = row_field_size; next = p + (3 + row_field_size) }))
  row_here = own-found s p 0x16 p (looking-start s p 0x16) _ row_field (λ e. omega (arith, e)) (λ e. omega (arith, e)) refl
