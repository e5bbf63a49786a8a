-- Contract. The tables of both inputs in the work slice, and the context of a unit that is made beside them.
use Rattle.std.specs.Prelude.{◌≡◌, Bool, List, [], ◌∷◌, ℕ, ◌+◌, ◌-◌, ◌*◌, ◌≤◌, length}
use Rattle.tlv.specs.Fields.{fields}
use Rattle.tlv.specs.declared.model.FileIndex.{FileIndex}
use Rattle.buffers.specs.declared.table.Stored.{Stored}
use Rattle.buffers.specs.Table.{Kept, KeptBut}
use Rattle.access.specs.Places.{unit_places}
use Rattle.access.specs.Units.{unit_record}
use Rattle.access.specs.Index.{entry_record}
use Rattle.files.specs.declared.store.StoredFiles.{StoredFiles}
use Rattle.files.specs.Store.{extent, FilesIn}
use Rattle.files.specs.Indices.{index_record}
use Rattle.rows.specs.declared.unit_lines.StoredLines.{StoredLines}
use Rattle.rows.specs.Sizes.{entry_size, line_size}
use Rattle.rows.specs.Selects.{RowsIn}
use Rattle.references.specs.declared.tables.Index.{Index}
use Rattle.references.specs.Tables.{IndexIn}
use Rattle.dies.specs.Details.{entry_count}
use Rattle.subprograms.specs.declared.model.ImportContext.{ImportContext}
use Rattle.subprograms.specs.Contexts.{main_of, supplementary_of, ContextIn}
use Rattle.checks.specs.declared.layout.Layout.{Layout}
use Rattle.checks.specs.declared.layout.UnitLayout.{UnitLayout}
use Rattle.checks.specs.Layout.{LaidOut}
use Rattle.dwarf.specs.declared.tables.Indexes.{Indexes}

-- ---- units and entries

-- an input's units stand in a table at `units`, its entries in one at `entries`
pub record IndexedAt (s w : List ℕ) (units entries : ℕ) (x : Index) : Type 0 where
  pub index : IndexIn s w x
  pub units-at : x.units.base ≡ units
  pub entries_at : x.entries.base ≡ entries
  pub unit-count : x.units.count ≡ length (unit_places 0 (fields s))
  pub entry-count : x.entries.count ≡ entry_count s

-- they were written there
pub record IndexesInput (s w w' : List ℕ) (units entries : ℕ) (r : Index) : Type 0 where
  pub here : IndexedAt s w' units entries r
  pub rest : KeptBut w w' ((units, unit_record * length (unit_places 0 (fields s))) ∷ (entries, entry_record * entry_count s) ∷ [])

-- the tables of both inputs stand where the layout has them
-- Stays a clause: it speaks of the work slice, which each step writes to.
pub record TablesIn (main supplementary program lists w : List ℕ) (l : Layout) (x : Indexes) : Type 0 where
  pub laid : LaidOut main supplementary program lists l
  pub of_main : IndexedAt main w 0 l.main_entries x.main
  pub of-supplementary : IndexedAt supplementary w l.supplementary_units l.supplementary_entries x.supplementary

-- they were written there
pub record IndexesInputs (main supplementary program lists w w' : List ℕ) (l : Layout) (r : Indexes) : Type 0 where
  pub layout-is : r.layout ≡ l
  pub tables : TablesIn main supplementary program lists w' r.layout r
  pub rest : Kept w w' 0 l.files

-- ---- a unit

-- the unit's lines and its map stand in w, below the place of its executable ranges
pub record LinesLaid (w : List ℕ) (l : Layout) (p : UnitLayout) (lines : StoredLines) (indices : Stored FileIndex) : Type 0 where
  pub rows : RowsIn w lines
  pub from : l.lines ≤ indices.base
  pub map : indices.base + indices.count * index_record ≤ lines.lines.base
  pub sequences : lines.lines.base + lines.lines.count * line_size ≤ lines.sequences.base
  pub within : lines.buffer + entry_size + lines.lines.count * entry_size ≤ p.text

-- the context of a unit was made behind its lines, which stay as they are
pub record MakesContext (main supplementary lists addresses w w' : List ℕ) (l : Layout) (p : UnitLayout) (unit : ℕ) (lines : StoredLines)
    (indices : Stored FileIndex) (inlines call_sites : Bool) (q : ImportContext) : Type 0 where
  pub context : (t : StoredFiles) → l.files ≤ t.base → t.base + extent t ≤ l.lines → FilesIn main supplementary w t
      → ContextIn main supplementary w' q t
  -- it reads what is lent
  pub main-is : main_of q ≡ main
  pub supplementary-is : supplementary_of q ≡ supplementary
  pub lists_is : q.context.lists.lists.now ≡ lists
  pub addresses-is : q.context.lists.addresses.now ≡ addresses
  pub unit-is : q.context.unit ≡ unit
  pub lines-is : q.lines ≡ lines
  pub indices-is : q.context.indices ≡ indices
  pub inlines-is : q.context.include_inlines ≡ inlines
  pub call_sites-is : q.context.include_call_sites ≡ call_sites
  -- where what is written for the unit stands
  pub spans-is : q.spans ≡ p.spans
  pub room-is : q.room ≡ l.span_room
  pub ranges-is : q.context.ranges ≡ p.ranges
  pub rest : Kept w w' p.text (p.spans - p.text)
