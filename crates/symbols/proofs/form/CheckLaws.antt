-- The test of a list of symbols, field by field.
use mathlib.Core.Path.{◌≡◌, sym, ◌∙◌}
use mathlib.Core.Bool.{Bool, true, false, ◌&&◌}
use mathlib.Core.Logic.{◌⊎◌, inl, inr}
use mathlib.Core.List.{List}
use Prim.Native.Nat.{ℕ, ◌-◌, ◌^◌, ◌≤◌, ◌<◌}
use lib.Dec.{leb}
use lib.ListN.{length, take, drop}
use borrow.Author.Tests.{le-leb, lt-leb, ne_eqb, eq-eqb}
use Rattle.std.specs.Prelude.{Some, None}
use Rattle.tlv.specs.declared.fields.FieldSpan.{FieldSpan}
use Rattle.tlv.specs.Bytes.{le_at}
use Rattle.tlv.specs.Fields.{fields}
use Rattle.tlv.specs.Cursor.{field_from}
use Rattle.tlv.proofs.CursorLaws.{fields-at, step_end}
use Rattle.tlv.proofs.FieldLaws.{cut-here, fields-field}
use Rattle.tlv.proofs.ShapeLaws.{room-leb}
use Rattle.symbols.specs.Symbols.{symbol_formed, symbols_form}

module _ (t : ℕ) (g : List ℕ) where
  pub formed-not : (t ≡ 0x50 → ⊥) ⊎ ((t ≡ 0x50) × (length g < 16)) → false ≡ symbol_formed (record { tag = t; payload = g })
  unfolding symbol_formed
  formed-not (inl h) = rw (ne_eqb t 0x50 h)
  formed-not (inr h) = rw (eq-eqb t 0x50 h.0, lt-leb 16 (length g) h.1)

  pub formed-is : (a n : ℕ) → t ≡ 0x50 → 16 ≤ length g → a < 2 ^ 64 → a ≡ le_at 8 g 0 → n ≡ le_at 8 g 8
      → leb n (18446744073709551615 - a) ≡ symbol_formed (record { tag = t; payload = g })
  unfolding symbol_formed
  formed-is a n e h small ea en = rw (eq-eqb t 0x50 e, le-leb 16 (length g) h, ← ea, ← en, room-leb a n small)

module _ (s : List ℕ) (p : ℕ) (v : Bool) (inv : v ≡ symbols_form (fields (drop p s))) where
  pub turn_end : length s ≤ p → true ≡ v
  unfolding symbols_form
  turn_end h = sym (inv ∙ rw (fields-at s p, step_end s p h))

  -- bytes that are left and are no whole field
  pub turn-cut : p < length s → None ≡ field_from s p → false ≡ v
  unfolding symbols_form
  turn-cut h at = sym (inv ∙ rw (fields-at s p, cut-here s p at h))

  module _ (f : FieldSpan) (at : Some f ≡ field_from s p) (g : List ℕ) (is : g ≡ take f.len (drop f.start s)) where
    here : v ≡ (symbol_formed (record { tag = f.tag; payload = g }) && symbols_form (fields (drop f.next s)))
    unfolding symbols_form
    here = inv ∙ rw (fields-field s p f at, ← is)

    pub turn-not : false ≡ symbol_formed (record { tag = f.tag; payload = g }) → false ≡ v
    turn-not h = sym (here ∙ rw (← h))

    pub turn-next : true ≡ symbol_formed (record { tag = f.tag; payload = g }) → v ≡ symbols_form (fields (drop f.next s))
    turn-next h = here ∙ rw (← h)
