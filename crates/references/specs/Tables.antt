-- Contract. The index of a sheet in the work slice, as the searches use it, and what is read of an entry.
use Rattle.std.specs.Prelude.{ℕ, ◌+◌, ◌-◌, ◌*◌, ◌≤◌, ◌≡◌, cond, List, [], map, eqb, length, Result, Ok, Err, Some, None}
use denote.Bor.{Bor}
use Rattle.std.proofs.Math.Option.{Option, none, some}
use Rattle.std.specs.declared.option.Option.{Option as Given}
use Rattle.tlv.specs.declared.refusal.Refusal.{Refusal}
use Rattle.tlv.specs.Outcome.{Outcome, refused, done}
use Rattle.tlv.specs.Lists.{Any}
use Rattle.tlv.specs.Fields.{fields}
use Rattle.tlv.specs.Checked.{Accepts}
use Rattle.tlv.specs.Model.{Attribute, units}
use Rattle.buffers.specs.Table.{records}
use Rattle.access.specs.declared.access.Value.{Value}
use Rattle.access.specs.Places.{IndexedEntry, entry_index, entry_here, unit_here, unit_places}
use Rattle.access.specs.Index.{indexed_of, entry_record}
use Rattle.access.specs.Units.{indexed_unit, unit_of24, unit_record}
use Rattle.references.specs.declared.tables.Index.{Index}
use Rattle.references.specs.declared.tables.NoEntry.{NoEntry}
use Rattle.access.specs.declared.index.EntryPlace.{EntryPlace}
use Rattle.references.specs.declared.attributes.Reference.{Reference}
use Rattle.references.specs.Search.{attribute, if_empty, name_from, own_name, name_attributes, entry_at, unit_containing}

-- a sheet that the grammar accepts, whose units and entries stand in tables
pub record IndexIn (s w : List ℕ) (x : Index) : Type 0 where
  pub number : ℕ
  pub accepted : Accepts s number
  pub units : records unit_of24 unit_record w x.units.base x.units.count ≡ map (indexed_unit s) (unit_places 0 (fields s))
  pub entries : records indexed_of entry_record w x.entries.base x.entries.count ≡ entry_index 0 0 0 (fields s)
  pub units-within : x.units.base + unit_record * x.units.count ≤ length w
  pub entries-within : x.entries.base + entry_record * x.entries.count ≤ length w

-- the entry at place p of the unit at place q
-- Stays a clause: an entry that held its sheet would have to be told equal to the sheet of the tables, which most of these functions take too.
pub record EntryKnown (s : List ℕ) (q p : ℕ) : Type 0 where
  pub entry : IndexedEntry
  pub listed : Any (λ e. e ≡ entry) (entry_index 0 0 0 (fields s))
  pub place : entry.place ≡ p
  pub unit : entry.unit ≡ q

-- ---- where an offset of the section leads

-- the entry, and its unit, which has the offset
abbrev pub EntryAt : List ℕ → ℕ → EntryPlace → Type 0
EntryAt s o e =
    (unit_containing (units s) o ≡ some (unit_here s e.unit)) × (entry_at (unit_here s e.unit) (o - (unit_here s e.unit).offset) ≡ done (entry_here s e.place))
    × EntryKnown s e.unit e.place

-- outside all units, to an entry, or into the unit at a place, where no entry starts
abbrev pub TargetTo : List ℕ → ℕ → Result (Given EntryPlace) NoEntry → Type 0
TargetTo s o (Ok None) = unit_containing (units s) o ≡ none
TargetTo s o (Err e) = (unit_containing (units s) o ≡ some (unit_here s e.unit)) × (entry_at (unit_here s e.unit) (o - (unit_here s e.unit).offset) ≡ refused 13)
TargetTo s o (Ok (Some e)) = EntryAt s o e

pub record LeadsTo (s : List ℕ) (o : ℕ) (r : Result (Given EntryPlace) NoEntry) : Type 0 where
  pub is : TargetTo s o r

-- in a unit where no entry starts
pub record NoEntryAt (s : List ℕ) (o : ℕ) : Type 0 where
  pub unit : ℕ
  pub containing : unit_containing (units s) o ≡ some (unit_here s unit)
  pub missing : entry_at (unit_here s unit) (o - (unit_here s unit).offset) ≡ refused 13

abbrev pub TargetIs : List ℕ → ℕ → Result (Given EntryPlace) Refusal → Type 0
TargetIs s o (Ok None) = unit_containing (units s) o ≡ none
TargetIs s o (Err e) = (e ≡ Refusal.NoEntry) × NoEntryAt s o
TargetIs s o (Ok (Some e)) = EntryAt s o e

pub record Leads (s : List ℕ) (o : ℕ) (r : Result (Given EntryPlace) Refusal) : Type 0 where
  pub is : TargetIs s o r

-- where an offset of the unit at q leads
abbrev pub OwnTargetIs : List ℕ → ℕ → ℕ → Given ℕ → Type 0
OwnTargetIs s q o None = entry_at (unit_here s q) o ≡ refused 13
OwnTargetIs s q o (Some p) = (entry_at (unit_here s q) o ≡ done (entry_here s p)) × EntryKnown s q p

pub record LeadsIn (s : List ℕ) (q o : ℕ) (r : Given ℕ) : Type 0 where
  pub is : OwnTargetIs s q o r

-- ---- an entry's attributes

-- the reference that an attribute is
unfoldable pub reference_of : Option Attribute → Given Reference
reference_of none = None
reference_of (some a) =
    cond (eqb a.kind 4) (Some (Reference.Unit a.value))
    (cond (eqb a.kind 5) (Some (Reference.Section a.value))
    (cond (eqb a.kind 6) (Some (Reference.Supplementary a.value))
    None))

-- the reference that a value is
abbrev pub reference_in : Given Value → Given Reference
reference_in (Some (Value.UnitReference n)) = Some (Reference.Unit n)
reference_in (Some (Value.SectionReference n)) = Some (Reference.Section n)
reference_in (Some (Value.SupplementaryReference n)) = Some (Reference.Supplementary n)
reference_in v = None

-- a number, where there is one
abbrev pub number_given : Option ℕ → Given ℕ
number_given none = None
number_given (some n) = Some n

-- the file number that a value is
abbrev pub file_number_in : Given Value → Given ℕ
file_number_in (Some (Value.Unsigned n)) = Some n
file_number_in (Some (Value.FileNumber n)) = Some n
file_number_in v = None

-- the line that a value is
abbrev pub line_number_in : Given Value → Given ℕ
line_number_in (Some (Value.Unsigned n)) = Some n
line_number_in v = None

-- what a refusal's number, 0 for none, and bytes make of the attributes of the later names: an empty name is none
unfoldable pub name_then : ℕ → List ℕ → Outcome (List ℕ) → Outcome (List ℕ)
name_then st r other = cond (eqb st 0) (if_empty r other) (refused st)

-- the attribute of a name, as a part of the entry's own name
pub record NameRead (s : List ℕ) (p name st : ℕ) (r : List ℕ) : Type 0 where
  pub is : (other : Outcome (List ℕ)) → name_from (attribute (entry_here s p) name) other ≡ name_then st r other

-- the bytes that were found: none where it is refused
abbrev pub bytes_of : Result (Bor (List ℕ)) Refusal → List ℕ
bytes_of (Ok r) = r.now
bytes_of (Err e) = []

-- the answer that a refusal's number, 0 for none, and bytes stand for
unfoldable pub bytes_given : ℕ → List ℕ → Outcome (List ℕ)
bytes_given st r = cond (eqb st 0) (done r) (refused st)

pub record OwnNamed (s : List ℕ) (p st : ℕ) (r : List ℕ) : Type 0 where
  pub is : bytes_given st r ≡ own_name (entry_here s p) name_attributes
