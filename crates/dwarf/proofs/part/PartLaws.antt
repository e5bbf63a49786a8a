-- A unit's part of the line program, from its field 1e.
use mathlib.Core.Path.{◌≡◌, refl, sym, ap, ◌∙◌}
use mathlib.Core.Logic.{⊎_elim}
use mathlib.Core.List.{List, []}
use mathlib.Core.Option.{none, some}
use Prim.Native.Nat.{ℕ, ◌+◌, ◌-◌, ◌≤◌, min}
use native.Mathlib.Omega.{arith}
use lib.ListN.{length, take, drop, length-drop, drop_of_length-le}
use lib.Seq.{take_all, take-nil, take-length}
use Rattle.std.specs.Prelude.{Some, None}
use Rattle.std.specs.Prelude as std
use Rattle.tlv.specs.declared.fields.FieldSpan.{FieldSpan}
use Rattle.tlv.specs.Lists.{map_option}
use Rattle.tlv.specs.Bytes.{le_at}
use Rattle.tlv.specs.Fields.{head_of, payload_of}
use Rattle.tlv.specs.Tags.{part_tag}
use Rattle.tlv.specs.Cursor.{step_at}
use Rattle.tlv.specs.Checked.{Placed, Accepted}
use Rattle.tlv.specs.Model.{part_of, program_of}
use Rattle.tlv.proofs.PlaceFacts.{placed-start}
use Rattle.tlv.proofs.PlacePromises.{placed-part}
use Rattle.tlv.proofs.ShapeLaws.{number_at, number-first}
use Rattle.buffers.proofs.TableLaws.{le-or_lt}
use Rattle.access.specs.Access.{own_payloads, NextOwn}
use Rattle.access.specs.Places.{unit_here}
use Rattle.access.proofs.OwnLaws.{own-within, own-field}
use Rattle.access.proofs.UnitFacts.{unit-part}
use Rattle.files.specs.Pieces.{UnitPlaced}
use Rattle.files.proofs.UnitLaws.{unit-next, unit-within}
use Rattle.collect.specs.Collects.{UnitIn}
use Rattle.collect.proofs.HeaderPlaces.{unit-stands}
use Rattle.dwarf.specs.Part.{PartOf}

-- ---- a part that is cut off at the end

-- what would be cut off there is not there anyway
cut-same : (a n size : ℕ) (xs : List ℕ) → length xs ≡ size → take (min (a + n) size - min a size) (drop (min a size) xs) ≡ take n (drop a xs)
cut-same a n size xs e =
    ⊎_elim
    (λ (h : size ≤ a).
    let none : drop a xs ≡ [] = drop_of_length-le xs {i = a} (omega arith) in
    let x : min a size ≡ size = omega arith in
    let y : min (a + n) size - size ≡ 0 = omega arith in
    rw (x, y, none, take-nil n))
    (λ h.
    let x : min a size ≡ a = omega arith in
    ⊎_elim
    (λ (g : size ≤ a + n).
    let y : min (a + n) size - a ≡ size - a = omega arith in
    rw (x, y) (take_all (size - a) (drop a xs) (rw length-drop (omega arith)) ∙ sym (take_all n (drop a xs) (rw length-drop (omega arith)))))
    (λ g.
    let y : min (a + n) size - a ≡ n = omega arith in
    rw (x, y))
    (le-or_lt size (a + n)))
    (le-or_lt size a)

-- ---- the field

module _ {s : List ℕ} {place : ℕ} (A : Accepted s) (U : UnitIn s place) where
  stands : UnitPlaced s place
  stands = unit-stands (placed-start s A.number A.is) U

  pub part-place : place + 21 ≤ length s
  part-place = unit-within stands

  pub part-from : Placed s (place + 21)
  part-from = unit-next stands

  part-is : (r : std.Option FieldSpan) → NextOwn s (place + 21) part_tag r → (unit_here s place).part ≡ map_option part_of (head_of (own_payloads s part_tag r))
  unfolding payload_of
  part-is r own = unit-part s place (step_at s place) 0x10 (place + 3) 18 (place + 21) refl stands.is ∙ ap (λ (ps : List (List ℕ)). map_option part_of (head_of ps)) (sym own.is)

  pub whole_part : (size : ℕ) → NextOwn s (place + 21) part_tag None → PartOf s place size (record { start = 0; end = size })
  unfolding map_option program_of
  whole_part size own = record {
    order = omega arith;
    within = omega arith;
    is = λ program l.
        let none_is : (unit_here s place).part ≡ none = part-is None own in
        let z : size - 0 ≡ length program = omega arith in
        rw (none_is, z) (take-length program);
  }

  module _ {f : FieldSpan} (own : NextOwn s (place + 21) part_tag (Some f)) where
    part-long : f.len ≡ 16
    part-long =
        let x = own-field s (place + 21) part_tag f own part-from in
        placed-part s x.place (step_at s x.place) part_tag f.start f.len f.next x.here refl x.is refl

    pub part-inside : f.start + 16 ≤ length s
    part-inside = let w = own-within s (place + 21) part_tag f own in omega (arith, part-long)

    pub named-part : {a n x y : ℕ} (size : ℕ) → a ≡ le_at 8 s f.start → n ≡ le_at 8 s (f.start + 8) → x ≡ min a size → y ≡ min (a + n) size
        → PartOf s place size (record { start = x; end = y })
    unfolding map_option program_of part_of
    named-part {a} {n} {x} {y} size ea en ex ey = record {
      order = omega arith;
      within = omega arith;
      is = λ program l.
          let some_is : (unit_here s place).part ≡ some (part_of (take f.len (drop f.start s))) = part-is (Some f) own in
          let first : le_at 8 (take f.len (drop f.start s)) 0 ≡ a = number-first s f.start f.len 8 a (omega (arith, part-long)) ea in
          let second : le_at 8 (take f.len (drop f.start s)) 8 ≡ n = number_at s f.start f.len 8 8 n (omega (arith, part-long)) en in
          rw (ex, ey, some_is, first, second) (cut-same a n size program l);
    }
