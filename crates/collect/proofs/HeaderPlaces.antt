-- The unit at a place and its line header: where they stand in the sheet, and what is read there.
use mathlib.Core.Path.{◌≡◌, refl, sym, ap, ◌∙◌}
use mathlib.Core.List.{List}
use mathlib.Core.Option.{none, some}
use Prim.Native.Nat.{ℕ, ◌+◌, ◌≤◌}
use native.Mathlib.Omega.{arith}
use lib.ListN.{length, take, drop, length-take, length-drop}
use Rattle.std.specs.Prelude.{Some, None}
use Rattle.tlv.specs.declared.fields.FieldSpan.{FieldSpan}
use Rattle.tlv.specs.Lists.{at, map_option}
use Rattle.tlv.specs.Fields.{payload_of, fields}
use Rattle.tlv.specs.Tags.{encoding_tag}
use Rattle.tlv.specs.Model.{header_of, encoding_of, units}
use Rattle.tlv.specs.Cursor.{field_here, step_at}
use Rattle.tlv.specs.Checked.{Placed}
use Rattle.tlv.proofs.CursorLaws.{field-within}
use Rattle.tlv.proofs.PlacePromises.{placed-unit, placed-header}
use Rattle.access.specs.Places.{unit_here, own_fields}
use Rattle.access.specs.Access.{NextOwn}
use Rattle.access.proofs.OwnLaws.{own-within, own-field}
use Rattle.access.proofs.UnitPlaceLaws.{units-at}
use Rattle.access.proofs.UnitFacts.{unit-placed, unit-header, unit-encoding, unit-rows}
use Rattle.line_program.specs.declared.lines.Header.{Header}
use Rattle.line_program.specs.Scan.{header_with}
use Rattle.files.specs.Pieces.{header_here, UnitPlaced}
use Rattle.files.specs.Interns.{Listed}
use Rattle.files.proofs.UnitLaws.{first-none, first_found, unit-next}
use Rattle.files.proofs.ListedLaws.{listed}
use Rattle.collect.specs.Passes.{rows_from}
use Rattle.collect.specs.Collects.{UnitIn}
use Rattle.collect.specs.Headers.{HeaderRead}
use Rattle.collect.specs.Stages.{HeaderIn}

-- ---- the unit

-- the header of the unit
pub header_is : {s payload : List ℕ} {p : ℕ} → HeaderIn s p payload → header_here s p ≡ header_of payload
unfolding header_here
header_is H = rw H.is

module _ {s : List ℕ} {p : ℕ} (h : Placed s 0) (U : UnitIn s p) where
  pub unit-stands : UnitPlaced s p
  unit-stands =
      let k = U.number in
      let a = unit-placed s k p (sym U.is) h in
      let w = field-within s p (step_at s p) 0x10 a.start a.len a.next refl a.is in
      let l = placed-unit s p (step_at s p) 0x10 a.start a.len a.next a.placed refl a.is refl in
      let e₁ : a.start ≡ p + 3 = w.0 in
      let e₂ : a.next ≡ p + 21 = omega arith in
      record { placed = a.placed; is = a.is ∙ (λ i. field_here 0x10 (e₁ i) (l i) (e₂ i)) }

  unit-is : at (units s) U.number ≡ some (unit_here s p)
  unfolding map_option
  unit-is = units-at s U.number ∙ ap (map_option (unit_here s)) U.is

  -- its files are ones that an import can meet
  pub unit-listed : {payload : List ℕ} (supplementary : List ℕ) → HeaderIn s p payload → Listed s supplementary (unit_here s p) (header_here s p)
  unit-listed {payload} supplementary H = rw (header_is H) (listed s supplementary U.number (unit_here s p) (header_of payload) unit-is H.is)

-- its rows are those behind its field
pub rows-here : {s : List ℕ} {p : ℕ} → UnitPlaced s p → (unit_here s p).rows ≡ rows_from s (p + 21)
unfolding rows_from
rows-here {s} {p} U = unit-rows s p (step_at s p) 0x10 (p + 3) 18 (p + 21) refl U.is

-- its encoding is the first field 1d behind its field
pub encoding-here : {s : List ℕ} {p : ℕ} → UnitPlaced s p
    → (unit_here s p).encoding ≡ map_option encoding_of (payload_of encoding_tag (own_fields (fields (drop (p + 21) s))))
encoding-here {s} {p} U = unit-encoding s p (step_at s p) 0x10 (p + 3) 18 (p + 21) refl U.is

-- ---- its header

module _ {s : List ℕ} {p : ℕ} (U : UnitPlaced s p) where
  header-first : (unit_here s p).header ≡ map_option header_of (payload_of 0x13 (own_fields (fields (drop (p + 21) s))))
  header-first = unit-header s p (step_at s p) 0x10 (p + 3) 18 (p + 21) refl U.is

  pub header-none : NextOwn s (p + 21) 0x13 None → (unit_here s p).header ≡ none
  unfolding map_option
  header-none own = header-first ∙ ap (map_option header_of) (first-none s (p + 21) 0x13 own)

  module _ {f : FieldSpan} (own : NextOwn s (p + 21) 0x13 (Some f)) where
    pub header-within : f.start + f.len ≤ length s
    header-within = (own-within s (p + 21) 0x13 f own).0

    -- its payload, in any form that is this one
    pub header-found : {payload : List ℕ} → payload ≡ take f.len (drop f.start s) → HeaderIn s p payload
    unfolding map_option
    header-found e = record { is = rw e (header-first ∙ ap (map_option header_of) (first_found s (p + 21) 0x13 f own)) }

    pub header-long : {payload : List ℕ} → payload ≡ take f.len (drop f.start s) → 19 ≤ length payload
    header-long e =
        let x = own-field s (p + 21) 0x13 f own (unit-next U) in
        let long = placed-header s x.place (step_at s x.place) 0x13 f.start f.len f.next x.here refl x.is refl in
        let fits = header-within in
        rw e (omega (arith, length-take f.len (drop f.start s), length-drop f.start s, long))

-- what was read of a header, with its opcode lengths, is the header
pub header-with : {s lengths : List ℕ} {r : Header} → HeaderRead s r → lengths ≡ drop 19 s → header_with r lengths ≡ header_of s
unfolding header_of
header-with R e = λ i. record {
  offset = R.offset i;
  header_length = R.header-length i;
  version = R.version i;
  word_size = R.word_size i;
  opcode_base = R.opcode_base-is i;
  opcode_lengths = e i;
}
