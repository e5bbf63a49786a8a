-- Contract. What the program's functions tell each other of two sheets: that there is room for what their searches need, and that it stands ready.
use Rattle.std.specs.Prelude.{ℕ, ◌+◌, ◌*◌, ◌≤◌, ◌<◌, ◌^◌, ◌≡◌, Bool, true, false, List, length}
use Rattle.tlv.specs.Limits.{joined_limit}
use Rattle.buffers.specs.Table.{Kept}
use Rattle.access.specs.Places.{UnitOf}
use Rattle.access.specs.Units.{unit_record}
use Rattle.access.specs.Index.{entry_record}
use Rattle.files.specs.Possible.{possible_files}
use Rattle.files.specs.declared.sheets.Sheets.{Sheets}
use Rattle.files.specs.Store.{file_record}
use Rattle.files.specs.Indices.{index_record}
use Rattle.files.specs.Interns.{map_extent}
use Rattle.references.specs.declared.tables.Index.{Index}
use Rattle.references.specs.Tables.{IndexIn}
use Rattle.references.specs.Names.{SearchIn}
use Rattle.declarations.specs.declared.declaring.Places.{Places}
use Rattle.search_answers.specs.declared.searches.Searches.{Searches}

-- sheets of so many bytes, of n and m fields: their files, their tables and the followed targets have room
pub record Room (main supplementary n m work : ℕ) : Type 0 where
  pub main-small : main < 2 ^ 32
  pub supplementary-small : supplementary < 2 ^ 32
  pub main-few : n ≤ 65536
  pub supplementary-few : m ≤ 65536
  pub within : n * 110 + m * 123 + (joined_limit + 54) ≤ work

abbrev pub RoomBy : ℕ → ℕ → ℕ → ℕ → ℕ → Bool → Type 0
RoomBy main supplementary n m work true = Room main supplementary n m work
RoomBy main supplementary n m work false = Unit {0}

pub record HasRoom (main supplementary n m work : ℕ) (r : Bool) : Type 0 where
  pub is : RoomBy main supplementary n m work r

-- the tables of a sheet of n fields were written, in the n * 40 bytes from base on
pub record IndexedSheet (s w w' : List ℕ) (base n : ℕ) (r : Index) : Type 0 where
  pub index : IndexIn s w' r
  pub units-above : base ≤ r.units.base
  pub entries-above : base ≤ r.entries.base
  pub units-below : r.units.base + unit_record * r.units.count ≤ base + n * 40
  pub entries_within : r.entries.base + entry_record * r.entries.count ≤ base + n * 40
  pub few : r.entries.count ≤ n
  pub rest : Kept w w' base (n * 40)
  pub size : length w' ≡ length w

-- both sheets' tables stand in w; below them is room for a table of so many files and for the directories and the map of any unit
pub record SearchesIn (main supplementary w : List ℕ) (d : Places) (files : ℕ) : Type 0 where
  pub search-tables : SearchIn main supplementary w d.tables 0
  pub few : length (possible_files main supplementary) < files
  pub small : files < 2 ^ 32
  pub main-small : length main < 2 ^ 32
  pub supplementary-small : length supplementary < 2 ^ 32
  pub table : files * file_record + joined_limit ≤ d.indices.base
  pub indices : d.indices.base + d.indices.count * index_record ≤ d.spans
  pub main-units : d.spans + d.room ≤ d.tables.main.units.base
  pub main-entries : d.spans + d.room ≤ d.tables.main.entries.base
  pub supplementary-units : d.spans + d.room ≤ d.tables.supplementary.units.base
  pub supplementary-entries : d.spans + d.room ≤ d.tables.supplementary.entries.base
  pub room-main : (q : ℕ) → UnitOf main q → map_extent main q ≤ d.room
  pub room-supplementary : (q : ℕ) → UnitOf supplementary q → map_extent supplementary q ≤ d.room

-- they were written, with the sheets that they are of
pub record BuildsTables (sheets : Sheets) (w : List ℕ) (files : ℕ) (d : Places) : Type 0 where
  pub of-sheets : d.tables.sheets ≡ sheets
  pub here : SearchesIn d.tables.sheets.main.now d.tables.sheets.supplementary.now w d files

-- what the searches of these sheets need stands ready in w
-- Stays a clause: it speaks of the work slice, which each search writes to.
abbrev pub Ready : Searches → List ℕ → Type 0
Ready s w = SearchesIn s.places.tables.sheets.main.now s.places.tables.sheets.supplementary.now w s.places s.files
