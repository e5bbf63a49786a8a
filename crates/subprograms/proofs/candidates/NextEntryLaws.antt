-- The place of the next entry: no field that is passed over on the way to it is an entry or a unit.
use mathlib.Core.Path.{◌≡◌, refl, sym, ◌∙◌}
use mathlib.Core.List.{List}
use Prim.Native.Nat.{ℕ}
use Rattle.std.specs.Prelude.{Some}
use Rattle.tlv.specs.declared.fields.FieldSpan.{FieldSpan}
use Rattle.tlv.specs.Checked.{Placed}
use Rattle.tlv.specs.Cursor.{step_at, field_from}
use Rattle.tlv.proofs.FieldLaws.{is-step}
use Rattle.tlv.proofs.PlaceFacts.{placed-next}
use Rattle.dies.specs.Details.{EntriesKnown}
use Rattle.dies.proofs.EntryWalkLaws.{from-other, known-other}
use Rattle.subprograms.specs.Entries.{BeginsAt}

pub begins-after : {s : List ℕ} {unit p q r : ℕ} → BeginsAt s unit p q → BeginsAt s unit q r → BeginsAt s unit p r
begins-after A B = record { placed = B.placed; known = B.known; same = B.same ∙ A.same }

-- on the way from place p on, at place `at`
pub record Seeking (s : List ℕ) (p at : ℕ) : Type 0 where
  pub placed : Placed s at
  pub begins : (unit : ℕ) → EntriesKnown s unit p → BeginsAt s unit p at

pub seeking-next : {s : List ℕ} {p at : ℕ} {f : FieldSpan} → Seeking s p at → Some f ≡ field_from s at → (f.tag ≡ 0x10 → ⊥) → (f.tag ≡ 0x17 → ⊥) → Seeking s p f.next
seeking-next {s} {p} {at} {f} S there h k =
    let here : Placed s f.next = placed-next s at (step_at s at) f.tag f.start f.len f.next S.placed refl (is-step s at f there) in
    record {
      placed = here;
      begins = λ unit K.
          let B = S.begins unit K in
          begins-after B (record { placed = here; known = known-other s at f there B.known h k; same = sym (from-other s at f there h k) });
    }
