-- Contract. What the name searches promise: the name as a part of a sheet, the followed targets in the work slice.
use Rattle.std.specs.Prelude.{ℕ, ◌+◌, ◌-◌, ◌*◌, ◌≤◌, ◌≡◌, Bool, true, false, cond, not, List, [], ◌∷◌, eqb, Result, Ok, Err, Some, None}
use Rattle.std.proofs.Math.Option.{Option, none, some}
use Rattle.std.specs.declared.option.Option.{Option as Given}
use denote.Bor.{Bor}
use Rattle.tlv.specs.declared.model.DebugSource.{DebugSource}
use Rattle.tlv.specs.declared.refusal.Refusal.{Refusal}
use Rattle.tlv.specs.Outcome.{Outcome, refused, done}
use Rattle.tlv.specs.Lists.{exists, is_empty}
use Rattle.tlv.specs.Model.{CompilationUnit, Entry, Attribute, units}
use Rattle.buffers.specs.Table.{Kept}
use Rattle.access.specs.declared.index.EntryPlace.{EntryPlace}
use Rattle.access.specs.Places.{entry_here, unit_here}
use Rattle.access.specs.Units.{unit_record}
use Rattle.access.specs.Index.{entry_record}
use Rattle.files.specs.Pieces.{source_in}
use Rattle.references.specs.declared.tables.Index.{Index}
use Rattle.references.specs.declared.tables.Tables.{Tables}
use Rattle.references.specs.declared.keys.DieKey.{DieKey}
use Rattle.references.specs.declared.ways.EntryAt.{EntryAt}
use Rattle.references.specs.declared.ways.OffsetAt.{OffsetAt}
use Rattle.references.specs.declared.ways.Way.{Way}
use Rattle.tlv.specs.Refusals.{number_of}
use Rattle.references.specs.Search.{chain_limit, Dwarf, main_source, supplementary_source, Place, Trail, same_key}
use Rattle.references.specs.Search.{visit_entry, Followed, same_unit, followed_nothing}
use Rattle.references.specs.Search.{attribute, follow_unit, follow_absolute, follow, Named, resolve_reference_name}
use Rattle.references.specs.Reads.{Counted, after, ◌>>>◌, counted_name_at, counted_name}
use Rattle.references.specs.Tables.{IndexIn, EntryKnown, bytes_given}
use Rattle.references.specs.Keys.{keys_at, key_in, PossibleKey, KeysIn, keys_from, keys_extent}

-- the units of both sheets
abbrev pub dwarf_of : List ℕ → List ℕ → Dwarf
dwarf_of main supplementary = record { main = units main; supplementary = units supplementary; lists = []; addresses = [] }

abbrev pub search_source : DebugSource → Rattle.references.specs.Search.DebugSource
search_source DebugSource.Main = main_source
search_source DebugSource.Supplementary = supplementary_source

-- the tables of a source's sheet
abbrev pub index_in : Tables → DebugSource → Index
index_in x DebugSource.Main = x.main
index_in x DebugSource.Supplementary = x.supplementary

-- where a search stands
abbrev pub place_at : List ℕ → List ℕ → EntryAt → Place
place_at main supplementary at = record {
  input = search_source at.input;
  source = search_source at.source;
  unit = unit_here (source_in main supplementary at.input) at.entry.unit;
  entry = entry_here (source_in main supplementary at.input) at.entry.place;
}

-- an entry of the main sheet, where a search starts
abbrev pub start_at : EntryPlace → EntryAt
start_at e = record { input = DebugSource.Main; source = DebugSource.Main; entry = e; left = chain_limit }

-- at the entry of an offset that it followed
abbrev pub at_entry : OffsetAt → EntryPlace → EntryAt
at_entry at e = record { input = at.input; source = at.key.source; entry = e; left = at.left }

-- entries of the main sheet are remembered under no other source
abbrev pub Sourced : DebugSource → DebugSource → Type 0
Sourced DebugSource.Main source = source ≡ DebugSource.Main
Sourced DebugSource.Supplementary source = Unit

-- a search can stand there
-- Stays a clause: it ties a place to the sheets, which the tables hold and a place does not.
pub record Stands (main supplementary : List ℕ) (at : EntryAt) : Type 0 where
  pub known : EntryKnown (source_in main supplementary at.input) at.entry.unit at.entry.place
  pub sourced : Sourced at.input at.source

-- a search can come to follow that target
pub record Aims (main supplementary : List ℕ) (at : OffsetAt) : Type 0 where
  pub possible : PossibleKey main supplementary (key_in at.key.source at.key.offset)
  pub sourced : Sourced at.input at.key.source

-- the followed targets that stand in w
abbrev pub trail_at : List ℕ → ℕ → ℕ → ℕ → Trail
trail_at w base n reads = record { visited = keys_at w base n; reads = reads }

-- both sheets' tables stand in w, below the n followed targets, for which there is room
-- Stays a clause: it speaks of the work slice, which is written between two calls.
pub record SearchIn (main supplementary w : List ℕ) (x : Tables) (n : ℕ) : Type 0 where
  pub main-index : IndexIn main w x.main
  pub supplementary-index : IndexIn supplementary w x.supplementary
  pub keys : KeysIn main supplementary w x n
  pub main-units : x.main.units.base + unit_record * x.main.units.count ≤ x.keys
  pub main-entries : x.main.entries.base + entry_record * x.main.entries.count ≤ x.keys
  pub supplementary-units : x.supplementary.units.base + unit_record * x.supplementary.units.count ≤ x.keys
  pub supplementary-entries : x.supplementary.entries.base + entry_record * x.supplementary.entries.count ≤ x.keys

-- ---- how a search goes on from a reference; f follows it

-- the reference to an offset of the own unit
unfoldable pub follow_unit_from : List ℕ → List ℕ → EntryAt → ℕ → Trail → Outcome Followed
follow_unit_from main supplementary at o t = follow_unit (place_at main supplementary at) t o

-- the reference that the attribute of a name is
unfoldable pub follow_from : List ℕ → List ℕ → EntryAt → ℕ → Trail → Outcome Followed
follow_from main supplementary at name t =
    follow (dwarf_of main supplementary) (place_at main supplementary at) t (attribute (place_at main supplementary at).entry name)

-- at an entry of the same unit, which was not followed yet
pub record EntryNext (f : Trail → Outcome Followed) (main supplementary w : List ℕ) (x : Tables) (n left : ℕ) (next : EntryAt)
    (key : DieKey) : Type 0 where
  pub is : (k : ℕ) → f (trail_at w (keys_from x) n k)
      ≡ done (record {
        trail = visit_entry (trail_at w (keys_from x) n k) (key_in key.source key.offset);
        target = same_unit (place_at main supplementary next);
      })
  pub stands : Stands main supplementary next
  pub deeper : next.left ≡ left - 1
  pub possible : PossibleKey main supplementary (key_in key.source key.offset)
  pub new : exists (same_key (key_in key.source key.offset)) (keys_at w (keys_from x) n) ≡ false

-- at an offset of a section
pub record OffsetNext (f : Trail → Outcome Followed) (main supplementary w : List ℕ) (x : Tables) (n left : ℕ) (next : OffsetAt) : Type 0 where
  pub is : (k : ℕ) → f (trail_at w (keys_from x) n k)
      ≡ follow_absolute (dwarf_of main supplementary) (search_source next.input) (search_source next.key.source) (trail_at w (keys_from x) n k) next.key.offset
  pub aims : Aims main supplementary next
  pub deeper : next.left ≡ left - 1

abbrev pub WayIs : (Trail → Outcome Followed) → List ℕ → List ℕ → List ℕ → Tables → ℕ → ℕ → Result (Given Way) Refusal → Type 0
WayIs f main supplementary w x n left (Ok None) = (k : ℕ) → f (trail_at w (keys_from x) n k) ≡ followed_nothing (trail_at w (keys_from x) n k)
WayIs f main supplementary w x n left (Err e) = (k : ℕ) → f (trail_at w (keys_from x) n k) ≡ refused (number_of e)
WayIs f main supplementary w x n left (Ok (Some (Way.Entry next key))) = EntryNext f main supplementary w x n left next key
WayIs f main supplementary w x n left (Ok (Some (Way.Offset next))) = OffsetNext f main supplementary w x n left next

pub record Ways (f : Trail → Outcome Followed) (main supplementary w : List ℕ) (x : Tables) (n left : ℕ) (r : Result (Given Way) Refusal) : Type 0 where
  pub is : WayIs f main supplementary w x n left r

-- ---- what a search gives

-- a search ends with a refusal's number, 0 for none, and a name: it is refused, or has found one
unfoldable pub is_answer : ℕ → List ℕ → Bool
is_answer st r = cond (eqb st 0) (not (is_empty r)) true

-- what was found by its bytes: no bytes are no name
abbrev pub found_name : List ℕ → Given (List ℕ)
found_name [] = None
found_name (b ∷ bs) = Some (b ∷ bs)

-- the bytes of a name, where there is one
abbrev pub name_given : Given (Bor (List ℕ)) → Given (List ℕ)
name_given None = None
name_given (Some r) = Some r.now

-- the answer that a refusal's number, 0 for none, a trail and bytes stand for
unfoldable pub named_given : ℕ → Trail → List ℕ → Outcome Named
named_given st t r = cond (eqb st 0) (done (record { trail = t; name = r })) (refused st)

-- the answer with its count
abbrev pub counted_given : ℕ → Trail → List ℕ → Counted Named
counted_given st t r = after t (named_given st t r)

-- a search f from the n targets of w on, a entries read, has answered with r or the refusal of number st, and left n' targets in w', b entries read
pub record Gives (f : Trail → Counted Named) (main supplementary : List ℕ) (x : Tables) (w : List ℕ) (n a : ℕ) (w' : List ℕ) (n' b st : ℕ)
    (r : List ℕ) : Type 0 where
  pub is : f (trail_at w (keys_from x) n a) ≡ counted_given st (trail_at w' (keys_from x) n' b) r
  pub few : b ≤ n' + 1
  pub ready : SearchIn main supplementary w' x n'
  pub rest : Kept w w' x.keys (keys_extent main supplementary x)

-- the name that the attribute of a name of an entry leads to; k is how many entries are left
unfoldable pub referred_name : ℕ → List ℕ → List ℕ → EntryAt → ℕ → Trail → Counted Named
referred_name k main supplementary at name t =
    after t (follow_from main supplementary at name t) >>> λ f. counted_name_at (counted_name k (dwarf_of main supplementary)) f.trail f.target

-- resolve_absolute_name: the name at an offset of the section; k is how many entries are left
unfoldable pub resolve_absolute_name : ℕ → Dwarf → Rattle.references.specs.Search.DebugSource → Rattle.references.specs.Search.DebugSource
    → ℕ → Trail → Counted Named
resolve_absolute_name k d input source target t =
    after t (follow_absolute d input source t target) >>> λ f. counted_name_at (counted_name k d) f.trail f.target

-- the name that an attribute refers to, where there is one
abbrev pub reference_name : Dwarf → CompilationUnit → Entry → Option Attribute → Outcome (List ℕ)
reference_name d u e none = done []
reference_name d u e (some a) = resolve_reference_name d u e a

-- a name was searched; what stood in the part of w for followed targets is gone
pub record Resolved (main supplementary : List ℕ) (x : Tables) (w w' : List ℕ) (o : Outcome (List ℕ)) (st : ℕ) (r : List ℕ) : Type 0 where
  pub is : bytes_given st r ≡ o
  pub rest : Kept w w' x.keys (keys_extent main supplementary x)
