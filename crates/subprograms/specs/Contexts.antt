-- Contract. What is the same for every subprogram of a unit, as it stands in the work slice, and what an import writes to.
use Rattle.std.specs.Prelude.{◌≡◌, List, [], ◌∷◌, false, ℕ, ◌+◌, ◌-◌, ◌*◌, ◌≤◌}
use Rattle.tlv.specs.Limits.{list_limit}
use Rattle.access.specs.declared.index.EntryPlace.{EntryPlace}
use Rattle.access.specs.Places.{unit_here, UnitOf}
use Rattle.access.specs.Units.{unit_record}
use Rattle.access.specs.Index.{entry_record}
use Rattle.files.specs.declared.store.StoredFiles.{StoredFiles}
use Rattle.files.specs.Store.{extent, FilesIn}
use Rattle.files.specs.Indices.{index_record}
use Rattle.files.specs.Interns.{map_extent}
use Rattle.rows.specs.Sizes.{entry_size, line_size, sequence_range_size}
use Rattle.rows.specs.Selects.{RowsIn}
use Rattle.collect.specs.Collects.{UnitIn, lines_in}
use Rattle.references.specs.Names.{SearchIn}
use Rattle.references.specs.Keys.{keys_extent}
use Rattle.declarations.specs.declared.declaring.Places.{Places}
use Rattle.imports.specs.Import as import
use Rattle.ranges.specs.RangeTable.{ranges_at, range_record}
use Rattle.dies.specs.Details.{third, list_count, range_room, entry_count, dwarf_with, open_site, closed_site}
use Rattle.subprograms.specs.declared.model.ImportContext.{ImportContext}

-- both sheets
abbrev pub main_of : ImportContext → List ℕ
main_of q = q.context.tables.sheets.main.now

abbrev pub supplementary_of : ImportContext → List ℕ
supplementary_of q = q.context.tables.sheets.supplementary.now

-- the entry at a place of the unit
abbrev pub entry_of : ImportContext → ℕ → EntryPlace
entry_of q p = record { place = p; unit = q.context.unit }

-- what the search of a declaration is given
abbrev pub places_of : ImportContext → Places
places_of q = record { tables = q.context.tables; indices = q.context.indices; spans = q.spans; room = q.room }

-- the context that stands in w, with the list section and the address table
abbrev pub context_with : List ℕ → List ℕ → List ℕ → List ℕ → List ℕ → ImportContext → import.ImportContext
context_with main supplementary lists addresses w q = record {
  dwarf = dwarf_with main supplementary lists addresses;
  unit = unit_here main q.context.unit;
  lines = lines_in w q.lines q.context.indices;
  include_inlines = q.context.include_inlines;
  include_call_sites = q.context.include_call_sites;
}

-- .. of what is lent
abbrev pub context_now : List ℕ → ImportContext → import.ImportContext
context_now w q = context_with (main_of q) (supplementary_of q) q.context.lists.lists.now q.context.lists.addresses.now w q

-- the tables stand in order: the units and entries of both inputs, the file table t, the unit's map, its rows, its sequences, the rows of a function, the
-- executable ranges, the room for a unit that is reached, the ranges of open nodes, open and closed call sites, followed targets
pub record Ordered (main supplementary : List ℕ) (q : ImportContext) (t : StoredFiles) : Type 0 where
  pub main-units : q.context.tables.main.units.base + unit_record * q.context.tables.main.units.count ≤ t.base
  pub main-entries : q.context.tables.main.entries.base + entry_record * q.context.tables.main.entries.count ≤ t.base
  pub supplementary-units : q.context.tables.supplementary.units.base + unit_record * q.context.tables.supplementary.units.count ≤ t.base
  pub supplementary-entries : q.context.tables.supplementary.entries.base + entry_record * q.context.tables.supplementary.entries.count ≤ t.base
  pub table : t.base + extent t ≤ q.context.indices.base
  pub indices : q.context.indices.base + q.context.indices.count * index_record ≤ q.lines.lines.base
  pub lines : q.lines.lines.base + q.lines.lines.count * line_size ≤ q.lines.sequences.base
  pub sequences : q.lines.sequences.base + q.lines.sequences.count * sequence_range_size ≤ q.lines.buffer
  pub buffer : q.lines.buffer + entry_size + q.lines.lines.count * entry_size ≤ q.text.base
  pub text : q.text.base + q.text.count * range_record ≤ q.spans
  pub spans : q.spans + q.room ≤ q.context.ranges
  pub ranges : q.context.ranges + range_record * range_room main q.context ≤ q.context.stack
  pub stack : q.context.stack + open_site * entry_count main ≤ q.context.sites
  pub sites : q.context.sites + closed_site * entry_count main ≤ q.context.tables.keys
  pub room-main : (p : ℕ) → UnitOf main p → map_extent main p ≤ q.room
  pub room-supplementary : (p : ℕ) → UnitOf supplementary p → map_extent supplementary p ≤ q.room

-- the unit's tables and the file table t stand in w
-- Stays a clause: it speaks of the work slice, which each step writes to.
pub record ContextIn (main supplementary w : List ℕ) (q : ImportContext) (t : StoredFiles) : Type 0 where
  pub unit : UnitIn main q.context.unit
  pub tables : SearchIn main supplementary w q.context.tables 0
  pub rows : RowsIn w q.lines
  pub text : ranges_at w q.text.base q.text.count ≡ (unit_here main q.context.unit).text
  pub files : FilesIn main supplementary w t
  pub ordered : Ordered main supplementary q t
  pub third : 3 * third q.context.lists ≤ list_limit
  pub listless : q.context.with_lists ≡ false → list_count main q.context ≡ 0

-- how far the walk's part reaches, followed targets included
abbrev pub walk_extent : List ℕ → List ℕ → ImportContext → ℕ
walk_extent main supplementary q = q.context.tables.keys + keys_extent main supplementary q.context.tables - q.context.ranges

-- what an import of ranges writes to: the file table, the rows of a function, the room for a unit that is reached, the walk's part
unfoldable pub touched : List ℕ → List ℕ → ImportContext → StoredFiles → List (ℕ × ℕ)
touched main supplementary q t =
    (t.base, extent t) ∷ (q.lines.buffer, entry_size + q.lines.lines.count * entry_size) ∷ (q.spans, q.room)
    ∷ (q.context.ranges, walk_extent main supplementary q) ∷ []
