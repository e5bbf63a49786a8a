-- Contract. Units and entries by place: each is known by the place of its field 10 or 17 in the sheet.
use Rattle.std.specs.Prelude.{◌≡◌, cond, ◌||◌, not, List, [], ◌∷◌, ℕ, ◌+◌, eqb, length, drop}
use Rattle.tlv.specs.Tags.{entry_tag, list_tag, unit_tag}
use Rattle.tlv.specs.Lists.{take_while, Any}
use Rattle.tlv.specs.Bytes.{le_at}
use Rattle.tlv.specs.Fields.{Field, FieldList, end, cut, more, fields, whole_fields, payloads}
use Rattle.tlv.specs.Model.{Entry, CompilationUnit, entry_of, unit_of}

-- the fields up to the next unit or entry: those of an entry, or a unit's own
unfoldable pub own_fields : FieldList → List Field
own_fields fs = take_while (λ f. not (eqb f.tag entry_tag || eqb f.tag unit_tag)) (whole_fields fs)

-- the fields up to the next unit
unfoldable pub unit_fields : FieldList → List Field
unit_fields fs = take_while (λ f. not (eqb f.tag unit_tag)) (whole_fields fs)

abbrev pub no_field : Field
no_field = record { tag = 0; payload = [] }

-- the entry whose field these begin with
abbrev pub entry_from : FieldList → Entry
entry_from end = entry_of (record { head = no_field; rest = [] })
entry_from cut = entry_of (record { head = no_field; rest = [] })
entry_from (more f fs) = entry_of (record { head = f; rest = own_fields fs })

-- the entry at a place
unfoldable pub entry_here : List ℕ → ℕ → Entry
entry_here s p = entry_from (fields (drop p s))

abbrev pub unit_from : FieldList → CompilationUnit
unit_from end = unit_of (record { head = no_field; rest = [] })
unit_from cut = unit_of (record { head = no_field; rest = [] })
unit_from (more f fs) = unit_of (record { head = f; rest = unit_fields fs })

-- the unit at a place
unfoldable pub unit_here : List ℕ → ℕ → CompilationUnit
unit_here s p = unit_from (fields (drop p s))

-- how many fields 1f stand from a place on before the next unit
unfoldable pub lists_from : List ℕ → ℕ → ℕ
lists_from s p = length (payloads list_tag (unit_fields (fields (drop p s))))

-- the place behind a field that stands at p
abbrev pub behind : ℕ → Field → ℕ
behind p f = p + 3 + length f.payload

-- the places of the units, from place p on
unfoldable pub unit_places : ℕ → FieldList → List ℕ
unit_places p end = []
unit_places p cut = []
unit_places p (more f fs) = cond (eqb f.tag unit_tag) (p ∷ unit_places (behind p f) fs) (unit_places (behind p f) fs)

-- an entry in the index of a sheet: its offset in the section, its place and its unit's
pub record IndexedEntry : Type 0 where
  pub offset : ℕ
  pub place : ℕ
  pub unit : ℕ

-- the entries from place p on, in a unit whose place is q and whose offset is o
unfoldable pub entry_index : ℕ → ℕ → ℕ → FieldList → List IndexedEntry
entry_index p q o end = []
entry_index p q o cut = []
entry_index p q o (more f fs) =
    cond (eqb f.tag unit_tag) (entry_index (behind p f) p (le_at 8 f.payload 0) fs)
    (cond (eqb f.tag entry_tag) (record { offset = o + le_at 8 f.payload 0; place = p; unit = q } ∷ entry_index (behind p f) q o fs)
    (entry_index (behind p f) q o fs))

-- q is the place of a unit's field 10
-- Stays a clause: a type of the sheet and the place would be made anew at each call.
abbrev pub UnitOf : List ℕ → ℕ → Type 0
UnitOf s q = Any (λ p. p ≡ q) (unit_places 0 (fields s))
