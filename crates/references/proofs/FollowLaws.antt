-- How a search goes on from a reference: what stays when a target is written down, where a search stands, and the ways that a reference leads.
use mathlib.Core.Path.{◌≡◌, refl, sym, ◌∙◌}
use mathlib.Core.Bool.{false}
use mathlib.Core.Logic.{inl}
use mathlib.Core.List.{List}
use Prim.Native.Nat.{ℕ, ◌+◌, ◌*◌, ◌^◌, ◌≤◌, ◌<◌}
use native.Mathlib.Omega.{arith}
use lib.ListN.{length}
use borrow.Author.Tests.{le-ltb, lt-ltb}
use Rattle.std.specs.Prelude.{Some, None, SomeIff, ok_or}
use Rattle.std.specs.declared.option.Option.{Option as Given}
use Rattle.tlv.specs.declared.model.DebugSource.{DebugSource}
use Rattle.tlv.specs.declared.refusal.Refusal.{Refusal}
use Rattle.tlv.specs.Refusals.{as_outcome}
use Rattle.tlv.specs.Lists.{Any, exists}
use Rattle.tlv.specs.Bytes.{le_at}
use Rattle.tlv.specs.Fields.{fields}
use Rattle.tlv.specs.Checked.{Placed}
use Rattle.tlv.proofs.ListLaws.{any_one}
use Rattle.tlv.proofs.CursorLaws.{field-within}
use Rattle.tlv.proofs.PlaceFacts.{placed-start}
use Rattle.tlv.proofs.PlacePromises.{placed-unit}
use Rattle.buffers.specs.Table.{Kept, KeptBut, Clear}
use Rattle.buffers.proofs.TableLaws.{kept-wide, but_one}
use Rattle.buffers.proofs.RecordLaws.{records-but}
use Rattle.access.specs.Places.{unit_here, entry_here, unit_places, UnitOf}
use Rattle.access.specs.Index.{indexed_of}
use Rattle.access.specs.Units.{unit_of24}
use Rattle.access.proofs.UnitFacts.{UnitAt, all-unit_places, unit-offset}
use Rattle.files.specs.Pieces.{source_in}
use Rattle.references.specs.declared.tables.Index.{Index}
use Rattle.references.specs.declared.tables.Tables.{Tables}
use Rattle.references.specs.declared.attributes.Reference.{Reference}
use Rattle.references.specs.declared.ways.EntryAt.{EntryAt}
use Rattle.references.specs.Search.{DieKey, same_key, absolute_entry_offset, attribute}
use Rattle.references.specs.Tables.{IndexIn, EntryKnown, reference_of}
use Rattle.references.specs.Keys.{keys_at, key_in, Pushed, PossibleKey, KeysIn, keys_from, keys_extent, TrailIn}
use Rattle.references.specs.Names.{Sourced, Stands, index_in, SearchIn}
use Rattle.references.proofs.TargetLaws.{known-unit}
use Rattle.references.proofs.KeyLaws.{keys_below, room-left, keys-in_pushed, possible-main_unit, possible-supplementary_unit}

-- ---- a target is written down

-- the tables of a sheet lie clear of what is written
pub index-clear : {s w w' : List ℕ} {x : Index} {rs : List (ℕ × ℕ)} → IndexIn s w x → KeptBut w w' rs → Clear x.units.base (x.units.count * 24) rs → Clear x.entries.base (x.entries.count * 16) rs
    → length w' ≡ length w → IndexIn s w' x
index-clear {x = x} I K cu ce size = record {
  number = I.number;
  accepted = I.accepted;
  units = records-but unit_of24 24 x.units.base x.units.count K cu ∙ I.units;
  entries = records-but indexed_of 16 x.entries.base x.entries.count K ce ∙ I.entries;
  units-within = rw size I.units-within;
  entries-within = rw size I.entries-within;
}

-- .. at or above a place
pub index_kept : {s w w' : List ℕ} {x : Index} {p m : ℕ} → IndexIn s w x → Kept w w' p m → x.units.base + 24 * x.units.count ≤ p → x.entries.base + 16 * x.entries.count ≤ p → length w' ≡ length w
    → IndexIn s w' x
index_kept I K below-units below-entries size = index-clear I (but_one K) (inl (omega arith), tt) (inl (omega arith), tt) size

module _ {main supplementary w : List ℕ} {x : Tables} {n : ℕ} (S : SearchIn main supplementary w x n) where
  -- writes above the tables that leave the keys as they are said to be
  search_kept : {w' : List ℕ} {n' m : ℕ} → Kept w w' x.keys m → length w' ≡ length w → KeysIn main supplementary w' x n' → SearchIn main supplementary w' x n'
  search_kept K size keys = record {
    main-index = index_kept S.main-index K S.main-units S.main-entries size;
    supplementary-index = index_kept S.supplementary-index K S.supplementary-units S.supplementary-entries size;
    keys = keys;
    main-units = S.main-units;
    main-entries = S.main-entries;
    supplementary-units = S.supplementary-units;
    supplementary-entries = S.supplementary-entries;
  }

  module _ {k : DieKey} (possible : PossibleKey main supplementary k) (new : exists (same_key k) (keys_at w (keys_from x) n) ≡ false) where
    pub push_room : TrailIn w x n 1
    push_room = room-left S.keys k possible new

    module _ {w' : List ℕ} (P : Pushed w w' x n k) where
      pub push_kept : Kept w w' x.keys (keys_extent main supplementary x)
      push_kept = kept-wide x.keys (keys_extent main supplementary x) P.rest (omega arith) (omega (arith, keys_below S.keys k possible new))

      pub push_search : length w' ≡ length w → SearchIn main supplementary w' x (n + 1)
      push_search size = search_kept push_kept size (keys-in_pushed S.keys k possible new P size)

  -- ---- where a search stands

  pub index_at : (input : DebugSource) → IndexIn (source_in main supplementary input) w (index_in x input)
  index_at DebugSource.Main = S.main-index
  index_at DebugSource.Supplementary = S.supplementary-index

  module _ {s : List ℕ} (input : DebugSource) (is : s ≡ source_in main supplementary input) where
    pub placed_at : Placed s 0
    placed_at = rw is (placed-start (source_in main supplementary input) (index_at input).number (index_at input).accepted)

    pub index-here : {y : Index} → y ≡ index_in x input → IndexIn s w y
    index-here same = rw (is, same) (index_at input)

  pub stands_unit : {at : EntryAt} → Stands main supplementary at
      → Any (λ q. q ≡ at.entry.unit) (unit_places 0 (fields (source_in main supplementary at.input)))
  stands_unit {at} A = known-unit (index_at at.input).number (index_at at.input).accepted A.known

  -- a reference to an offset of the own unit can be remembered
  pub possible-unit : {at : EntryAt} {o : ℕ} (name : ℕ) → Stands main supplementary at
      → reference_of (attribute (entry_here (source_in main supplementary at.input) at.entry.place) name) ≡ Some (Reference.Unit o)
      → PossibleKey main supplementary (key_in at.source ((unit_here (source_in main supplementary at.input) at.entry.unit).offset + o))
  possible-unit {at} {o} name A is = go at.input A.known A.sourced is
    where
      go : (input : DebugSource) → EntryKnown (source_in main supplementary input) at.entry.unit at.entry.place → Sourced input at.source
          → reference_of (attribute (entry_here (source_in main supplementary input) at.entry.place) name) ≡ Some (Reference.Unit o)
          → PossibleKey main supplementary (key_in at.source ((unit_here (source_in main supplementary input) at.entry.unit).offset + o))
      go DebugSource.Main known sourced is = rw sourced (possible-main_unit name S.main-index.accepted known is)
      go DebugSource.Supplementary known sourced is = possible-supplementary_unit name S.supplementary-index.accepted known at.source is

-- ---- the offset of the unit at a place

module _ {s : List ℕ} (q : ℕ) (accepted : Placed s 0) (listed : UnitOf s q) where
  unit-at : UnitAt s q
  unit-at = any_one (unit_places 0 (fields s)) (λ y at same. rw same at at) (all-unit_places s 0 accepted) listed

  pub unit_offset : (unit_here s q).offset ≡ le_at 8 s (q + 3)
  unit_offset =
      let u = unit-at in
      let w = field-within s q _ 0x10 u.start u.len u.next refl u.is in
      rw w.0 at (unit-offset s q _ 0x10 u.start u.len u.next refl u.is u.placed refl)

  pub offset-inside : q + 3 + 8 ≤ length s
  offset-inside =
      let u = unit-at in
      let w = field-within s q _ 0x10 u.start u.len u.next refl u.is in
      let l = placed-unit s q _ 0x10 u.start u.len u.next u.placed refl u.is refl in
      omega arith

  -- an offset of the unit added to it
  pub offset_sum : (own o : ℕ) → own ≡ le_at 8 s (q + 3) → (r : Given ℕ) → SomeIff r (own + o < 2 ^ 64) (own + o)
      → as_outcome (ok_or r Refusal.Overflow) ≡ absolute_entry_offset (unit_here s q) o
  unfolding absolute_entry_offset
  offset_sum own o eo None h = let is : (unit_here s q).offset ≡ own = unit_offset ∙ sym eo in rw (is, le-ltb (own + o) (2 ^ 64) (omega (arith, h)))
  offset_sum own o eo (Some n) h = let is : (unit_here s q).offset ≡ own = unit_offset ∙ sym eo in rw (is, lt-ltb (own + o) (2 ^ 64) h.0, h.1)
