-- Contract. Where the tables of an import stand in the work slice, and that they fit document 01's length.
use Rattle.std.specs.Prelude.{◌≡◌, Bool, false, cond, List, ℕ, ◌+◌, ◌*◌, ◌/◌, ◌≤◌, ◌<◌, ◌^◌, length, get_or}
use Rattle.tlv.specs.Tags.{attribute_tag, directory_tag, encoding_tag, entry_tag, file_tag, file_zero_tag, list_tag, range_tag, row_tag, text_tag, unit_tag}
use Rattle.tlv.specs.Limits.{program_limit, list_limit, work_of_field, work_besides, joined_limit}
use Rattle.tlv.specs.Fields.{fields, count_of}
use Rattle.tlv.specs.Checked.{Accepts, Accepted}
use Rattle.access.specs.Places.{unit_here, unit_places, UnitOf}
use Rattle.access.specs.Units.{unit_record}
use Rattle.access.specs.Index.{entry_record}
use Rattle.line_program.specs.Scan.{offset_record, sequence_least}
use Rattle.files.specs.Possible.{possible_files}
use Rattle.files.specs.Store.{file_record}
use Rattle.files.specs.Interns.{map_extent}
use Rattle.rows.specs.Sizes.{row_room}
use Rattle.rnglists.specs.Room.{open_lists, range_least}
use Rattle.collect.specs.Collects.{lines_extent}
use Rattle.references.specs.Keys.{possible_keys, key_record, chain_head}
use Rattle.ranges.specs.RangeTable.{range_record}
use Rattle.dies.specs.Details.{range_count, entry_count, open_site, closed_site}
use Rattle.checks.specs.declared.layout.Layout.{Layout}
use Rattle.checks.specs.declared.layout.UnitLayout.{UnitLayout}
use Rattle.checks.specs.declared.layout.Counts.{Counts}
use Rattle.checks.specs.Checks.{is_encoded}

-- ---- counts

-- a table by tag of how many fields an input has of each tag below 32
pub record TagsCounted (s counts : List ℕ) : Type 0 where
  pub is : (tag : ℕ) → tag < 32 → get_or counts tag 0 ≡ count_of tag s

pub record Sized (s : List ℕ) (c : Counts) : Type 0 where
  pub units : c.units ≡ count_of unit_tag s
  pub text : c.text ≡ count_of text_tag s
  pub directories : c.directories ≡ count_of directory_tag s
  pub files : c.files ≡ count_of file_tag s
  pub zeros : c.zeros ≡ count_of file_zero_tag s
  pub encodings : c.encodings ≡ count_of encoding_tag s
  pub rows : c.rows ≡ count_of row_tag s
  pub entries : c.entries ≡ count_of entry_tag s
  pub attributes : c.attributes ≡ count_of attribute_tag s
  pub ranges : c.ranges ≡ count_of range_tag s
  pub lists : c.lists ≡ count_of list_tag s

-- how many fields the counts are of
abbrev pub total_of : Counts → ℕ
total_of c =
    c.units + c.text + c.directories + c.files + c.zeros + c.encodings + c.rows + c.entries + c.attributes + c.ranges + c.lists

-- ---- the tables that serve all units

-- what the targets that a search can follow need, with a chain's head for each entry and one more
abbrev pub keys_room : List ℕ → List ℕ → ℕ
keys_room main supplementary = (entry_count main + entry_count supplementary + 1) * chain_head + key_record * length (possible_keys main supplementary)

-- where what belongs to one unit ends, but for what its program and its lists add
abbrev pub rooms_end : Layout → ℕ
rooms_end l = l.lines + l.line_room + l.text_room + l.span_room + l.range_room + l.stack_room + l.site_room

-- all of it is far below the largest place
pub record RoomsSmall (l : Layout) : Type 0 where
  pub rooms : rooms_end l < 2 ^ 32
  pub size : l.size ≤ program_limit
  pub third : 3 * l.third ≤ list_limit

-- it is known which tags the main input does not have
-- Stays a clause: it ties a sheet to its layout, and a type of both would be made for the three functions alone that ask it.
pub record TagsKnown (main : List ℕ) (l : Layout) : Type 0 where
  pub encodings : l.with_encodings ≡ false → count_of encoding_tag main ≡ 0
  pub lists : l.with_lists ≡ false → count_of list_tag main ≡ 0

-- the most rows that a program of so many bytes gives (document 02, E8): each takes a byte
abbrev pub program_rows : ℕ → Bool → ℕ
program_rows size encoded = cond encoded size 0

-- the tables stand one behind the other, each with room for what the inputs can bring; and so do the parts of each unit
pub record LaidOut (main supplementary program lists : List ℕ) (l : Layout) : Type 0 where
  pub few : length (possible_files main supplementary) < l.room
  pub small : l.room < 2 ^ 32
  pub main-entries : unit_record * length (unit_places 0 (fields main)) ≤ l.main_entries
  pub supplementary-units : l.main_entries + entry_record * entry_count main ≤ l.supplementary_units
  pub supplementary-entries : l.supplementary_units + unit_record * length (unit_places 0 (fields supplementary)) ≤ l.supplementary_entries
  pub files : l.supplementary_entries + entry_record * entry_count supplementary ≤ l.files
  pub lines : l.files + (l.room * file_record + joined_limit) ≤ l.lines
  pub line-room : (q : ℕ) → UnitOf main q → lines_extent main q program
      ≤ l.line_room + row_room * program_rows l.size (is_encoded (unit_here main q))
  pub text-room : (q : ℕ) → UnitOf main q → range_record * length (unit_here main q).text ≤ l.text_room
  pub room-main : (q : ℕ) → UnitOf main q → map_extent main q ≤ l.span_room
  pub room-supplementary : (q : ℕ) → UnitOf supplementary q → map_extent supplementary q ≤ l.span_room
  pub range-room : range_record * (1 + range_count main) ≤ l.range_room
  pub stack-room : open_site * entry_count main ≤ l.stack_room
  pub site-room : closed_site * entry_count main ≤ l.site_room
  pub within : (m n : ℕ) → Accepts main m → Accepts supplementary n
      → rooms_end l + keys_room main supplementary ≤ work_of_field * (m + n) + l.size / sequence_least * offset_record + work_besides
  pub size_is : l.size ≡ length program
  pub third-is : l.third ≡ length lists / range_least
  pub tags : TagsKnown main l
  pub rooms : RoomsSmall l

-- the places, from the counts m and s of any two accepted inputs and the sizes of any program and any lists
pub record LaysOut (m s : Counts) (size bytes : ℕ) (l : Layout) : Type 0 where
  pub laid : (main supplementary program lists : List ℕ) → Accepted main → Accepted supplementary → Sized main m → Sized supplementary s
      → length program ≡ size → length lists ≡ bytes → LaidOut main supplementary program lists l

-- ---- the parts of a unit

-- behind its lines: whether its rows come from the program, and how many lists it has
unfoldable pub unit_layout : Layout → Bool → ℕ → UnitLayout
unit_layout l encoded lists =
    let text = l.lines + l.line_room + row_room * program_rows l.size encoded in
    let spans = text + l.text_room in
    let ranges = spans + l.span_room in
    let stack = ranges + l.range_room + range_record * (l.third * open_lists lists) in
    let sites = stack + l.stack_room in
    record { text = text; spans = spans; ranges = ranges; stack = stack; sites = sites; keys = sites + l.site_room }

-- the parts of the unit at a place stand one behind the other, each with room for what it needs, and end within a work slice of so many bytes
pub record UnitLaid (main supplementary program : List ℕ) (size : ℕ) (l : Layout) (unit : ℕ) (p : UnitLayout) : Type 0 where
  pub text : l.lines + lines_extent main unit program ≤ p.text
  pub spans : p.text + range_record * length (unit_here main unit).text ≤ p.spans
  pub ranges : p.spans + l.span_room ≤ p.ranges
  pub stack : p.ranges + range_record * (1 + range_count main + l.third * open_lists (unit_here main unit).lists) ≤ p.stack
  pub sites : p.stack + open_site * entry_count main ≤ p.sites
  pub keys : p.sites + closed_site * entry_count main ≤ p.keys
  pub room : p.keys + keys_room main supplementary ≤ size
