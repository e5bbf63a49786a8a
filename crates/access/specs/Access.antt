-- Contract. What is read at the places of a sheet: the next field of a tag, the value of an attribute, the place of a unit.
use Rattle.std.specs.Prelude.{Option, Some, None, ◌≡◌, Bool, cond, List, [], ◌∷◌, ℕ, ◌+◌, ◌≤◌, ◌<◌, eqb, length, take, drop}
use Rattle.std.proofs.Math.Option.{none, some}
use Rattle.std.proofs.Math.Option as math
use Rattle.tlv.specs.declared.fields.FieldSpan.{FieldSpan}
use Rattle.tlv.specs.Fields.{fields, payloads}
use Rattle.tlv.specs.Model.{Attribute}
use Rattle.tlv.specs.Cursor.{field_from}
use Rattle.tlv.specs.Checked.{Placed}
use Rattle.access.specs.declared.access.Value.{Value}
use Rattle.access.specs.Places.{own_fields}

-- ---- the next field of a tag before the next entry or unit

-- the payloads that an answer begins
abbrev pub own_payloads : List ℕ → ℕ → Option FieldSpan → List (List ℕ)
own_payloads s tag (Some f) = take f.len (drop f.start s) ∷ payloads tag (own_fields (fields (drop f.next s)))
own_payloads s tag None = []

abbrev pub OwnWithin : List ℕ → ℕ → Option FieldSpan → Type 0
OwnWithin s p (Some f) = (f.start + f.len ≤ length s) × (p < f.next) × (f.next ≤ length s)
OwnWithin s p None = Unit

-- the field stands at a place, and that is a place of an accepted sheet where p is one
pub record Standing (s : List ℕ) (p tag : ℕ) (f : FieldSpan) : Type 0 where
  pub place : ℕ
  pub reads : Some f ≡ field_from s place
  pub tagged : f.tag ≡ tag
  pub placed : Placed s p → Placed s place

abbrev pub OwnStanding : List ℕ → ℕ → ℕ → Option FieldSpan → Type 0
OwnStanding s p tag (Some f) = Standing s p tag f
OwnStanding s p tag None = Unit

pub record NextOwn (s : List ℕ) (p tag : ℕ) (r : Option FieldSpan) : Type 0 where
  pub is : own_payloads s tag r ≡ payloads tag (own_fields (fields (drop p s)))
  pub within : OwnWithin s p r
  pub stands : OwnStanding s p tag r

-- ---- attributes: "Kinds: 1 unsigned, 2 file number, 3 string, 4 unit reference, 5 section reference, 6 supplementary reference,
-- 7 section offset, 8 line offset, 9 address, 10 failed (no value)."

pub data Meaning : Type 0 where
  absent : Meaning
  unsigned : ℕ → Meaning
  file_number : ℕ → Meaning
  text : List ℕ → Meaning
  unit_reference : ℕ → Meaning
  section_reference : ℕ → Meaning
  supplementary_reference : ℕ → Meaning
  section_offset : ℕ → Meaning
  line_offset : ℕ → Meaning
  address : ℕ → Meaning
  failed : Meaning

abbrev pub is_named : ℕ → Attribute → Bool
is_named name = λ a. eqb a.name name

-- what an attribute means
unfoldable pub value_of : Attribute → Meaning
value_of a =
    let k = a.kind in
    let n = a.value in
    cond (eqb k 1) (unsigned n)
    (cond (eqb k 2) (file_number n)
    (cond (eqb k 3) (text a.text)
    (cond (eqb k 4) (unit_reference n)
    (cond (eqb k 5) (section_reference n)
    (cond (eqb k 6) (supplementary_reference n)
    (cond (eqb k 7) (section_offset n)
    (cond (eqb k 8) (line_offset n)
    (cond (eqb k 9) (address n)
    failed))))))))

unfoldable pub meaning_of : math.Option Attribute → Meaning
meaning_of none = absent
meaning_of (some a) = value_of a

-- the value of a number of kind k
unfoldable pub number_value : ℕ → ℕ → Value
number_value k n =
    cond (eqb k 1) (Value.Unsigned n)
    (cond (eqb k 2) (Value.FileNumber n)
    (cond (eqb k 4) (Value.UnitReference n)
    (cond (eqb k 5) (Value.SectionReference n)
    (cond (eqb k 6) (Value.SupplementaryReference n)
    (cond (eqb k 7) (Value.SectionOffset n)
    (cond (eqb k 8) (Value.LineOffset n)
    (cond (eqb k 9) (Value.Address n)
    Value.Failed)))))))

-- what a value that is handed out means, in its sheet
abbrev pub meant : List ℕ → Value → Meaning
meant s (Value.Unsigned n) = unsigned n
meant s (Value.FileNumber n) = file_number n
meant s (Value.Text start len) = text (take len (drop start s))
meant s (Value.UnitReference n) = unit_reference n
meant s (Value.SectionReference n) = section_reference n
meant s (Value.SupplementaryReference n) = supplementary_reference n
meant s (Value.SectionOffset n) = section_offset n
meant s (Value.LineOffset n) = line_offset n
meant s (Value.Address n) = address n
meant s Value.Failed = failed

-- a text lies inside the sheet
abbrev pub ValueWithin : List ℕ → Value → Type 0
ValueWithin s (Value.Unsigned n) = Unit
ValueWithin s (Value.FileNumber n) = Unit
ValueWithin s (Value.Text start len) = start + len ≤ length s
ValueWithin s (Value.UnitReference n) = Unit
ValueWithin s (Value.SectionReference n) = Unit
ValueWithin s (Value.SupplementaryReference n) = Unit
ValueWithin s (Value.SectionOffset n) = Unit
ValueWithin s (Value.LineOffset n) = Unit
ValueWithin s (Value.Address n) = Unit
ValueWithin s Value.Failed = Unit

-- .. and where there is none
abbrev pub said : List ℕ → Option Value → Meaning
said s (Some v) = meant s v
said s None = absent

abbrev pub SaidWithin : List ℕ → Option Value → Type 0
SaidWithin s (Some v) = ValueWithin s v
SaidWithin s None = Unit

pub record Says (s : List ℕ) (r : Option Value) (m : Meaning) : Type 0 where
  pub is : said s r ≡ m
  pub within : SaidWithin s r

-- ---- the place of a unit

abbrev pub place_of : Option ℕ → math.Option ℕ
place_of (Some p) = some p
place_of None = none
