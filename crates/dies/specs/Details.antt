-- Contract. The entries of a unit by place, and what the extraction of a function's inline nodes and call sites promises.
use Rattle.std.specs.Prelude.{Result, Ok, Err, ℕ, ◌+◌, ◌-◌, ◌*◌, ◌/◌, ◌≤◌, ◌≡◌, Bool, false, List, ◌++◌, map, length, drop}
use Rattle.tlv.specs.Tags.{entry_tag, range_tag, tray_site_tag}
use Rattle.tlv.specs.declared.model.AddressRange.{AddressRange}
use Rattle.tlv.specs.declared.refusal.Refusal.{Refusal}
use Rattle.tlv.specs.Refusals.{number_of}
use Rattle.tlv.specs.Outcome.{refused, done}
use Rattle.tlv.specs.Fields.{fields, encode, grouped, payloads, whole_fields, count_of}
use Rattle.tlv.specs.Limits.{list_limit}
use Rattle.tlv.specs.Model.{Entry, entry_of, units}
use Rattle.tlv.specs.Lists.{Any, All}
use Rattle.buffers.specs.Buffer.{Put}
use Rattle.buffers.specs.Table.{Kept}
use Rattle.buffers.specs.Output.{each_of, node_bytes, site_payload, warnings_bytes}
use Rattle.access.specs.Places.{unit_fields, unit_here, entry_index, lists_from}
use Rattle.access.specs.Units.{unit_record}
use Rattle.access.specs.Index.{entry_record}
use Rattle.files.specs.Indices.{indices_in, index_record}
use Rattle.rnglists.specs.declared.lists.RangeLists.{RangeLists}
use Rattle.rnglists.specs.Room.{open_lists, range_least}
use Rattle.references.specs.Search.{Dwarf}
use Rattle.references.specs.Names.{SearchIn}
use Rattle.references.specs.Keys.{keys_extent}
use Rattle.imports.specs.Tree.{DetailContext, Descendants, extract_subprogram_details}
use Rattle.imports.specs.Import.{descendants_of, rooted}
use Rattle.ranges.specs.RangeTable.{range_record}
use Rattle.dies.specs.declared.details.UnitContext.{UnitContext}
use Rattle.dies.specs.declared.details.Details.{Details}
use Rattle.dies.specs.declared.dies.Extracted.{Extracted}
use Rattle.dies.specs.Past.{is_past}

-- the entries of the unit, from the field at place p on
unfoldable pub entries_from : List ℕ → ℕ → List Entry
entries_from s p = map entry_of (grouped entry_tag (unit_fields (fields (drop p s)))).groups

-- the sheets of what is the same at every step
abbrev pub main_of : Details → List ℕ
main_of d = d.context.tables.sheets.main.now

abbrev pub supplementary_of : Details → List ℕ
supplementary_of d = d.context.tables.sheets.supplementary.now

-- a third of the bytes of the range lists: the most ranges that one list can give (document 02, E9)
abbrev pub third : RangeLists → ℕ
third x = length x.lists.now / range_least

-- the units of both sheets, with the list section and the address table
abbrev pub dwarf_with : List ℕ → List ℕ → List ℕ → List ℕ → Dwarf
dwarf_with main supplementary lists addresses = record { main = units main; supplementary = units supplementary; lists = lists; addresses = addresses }

-- what is the same at every step, as it stands in w
abbrev pub context_in : List ℕ → List ℕ → List ℕ → List ℕ → List ℕ → Details → DetailContext
context_in main supplementary lists addresses w d = record {
  dwarf = dwarf_with main supplementary lists addresses;
  unit = unit_here main d.context.unit;
  function_range = d.range;
  file_indices = indices_in w d.context.indices;
  include_inlines = d.context.include_inlines;
  include_call_sites = d.context.include_call_sites;
}

-- .. of its own sheets and lists
abbrev pub context_now : List ℕ → Details → DetailContext
context_now w d = context_in (main_of d) (supplementary_of d) d.context.lists.lists.now d.context.lists.addresses.now w d

-- how many ranges, and how many entries, the main sheet has
abbrev pub range_count : List ℕ → ℕ
range_count s = count_of range_tag s

abbrev pub entry_count : List ℕ → ℕ
entry_count s = count_of entry_tag s

-- bytes of an open and of a closed call site
abbrev pub open_site : ℕ
open_site = 14

abbrev pub closed_site : ℕ
closed_site = 12

-- how many range lists (document 02, E9) the unit has
abbrev pub list_count : List ℕ → UnitContext → ℕ
list_count main c = (unit_here main c.unit).lists

-- the room of range lists in the stack of ranges: one list, of `third` ranges at the most, for each of the 256 nodes that can be open, and one that is read
unfoldable pub list_room : List ℕ → UnitContext → ℕ
list_room main c = third c.lists * open_lists (list_count main c)

-- the room of the stack of ranges: the function's own, the fields 19, the lists
abbrev pub range_room : List ℕ → UnitContext → ℕ
range_room main c = 1 + range_count main + list_room main c

-- what stands from place p on belongs to the unit at q: the index goes on there with the unit's entries, no more ranges and entries follow than the sheet has,
-- and no more lists than the unit has
-- Stays a clause: it speaks of a place of the sheet and holds which entry of the index stands there, so it is no proposition that a ghost field takes.
pub record EntriesKnown (s : List ℕ) (q p : ℕ) : Type 0 where
  pub listed : All (λ e. Any (λ x. x ≡ e) (entry_index 0 0 0 (fields s))) (entry_index p q (unit_here s q).offset (fields (drop p s)))
  pub ranges : length (payloads range_tag (whole_fields (fields (drop p s)))) ≤ range_count s
  pub entries : length (payloads entry_tag (whole_fields (fields (drop p s)))) ≤ entry_count s
  pub lists : lists_from s p ≤ (unit_here s q).lists

-- the search's tables and the unit's map stand below the stack of ranges, this below the open call sites, these below the closed ones, these below the
-- followed targets
-- Stays a clause: it speaks of the lent work slice, which each step writes to.
pub record DetailsIn (main supplementary w : List ℕ) (d : Details) : Type 0 where
  pub tables : SearchIn main supplementary w d.context.tables 0
  pub indices : d.context.indices.base + d.context.indices.count * index_record ≤ d.context.ranges
  pub main-units : d.context.tables.main.units.base + unit_record * d.context.tables.main.units.count ≤ d.context.ranges
  pub main-entries : d.context.tables.main.entries.base + entry_record * d.context.tables.main.entries.count ≤ d.context.ranges
  pub supplementary-units : d.context.tables.supplementary.units.base + unit_record * d.context.tables.supplementary.units.count ≤ d.context.ranges
  pub supplementary-entries : d.context.tables.supplementary.entries.base + entry_record * d.context.tables.supplementary.entries.count ≤ d.context.ranges
  pub ranges : d.context.ranges + range_record * range_room main d.context ≤ d.context.stack
  pub stack : d.context.stack + open_site * entry_count main ≤ d.context.sites
  pub sites : d.context.sites + closed_site * entry_count main ≤ d.context.tables.keys
  pub third : 3 * third d.context.lists ≤ list_limit
  pub listless : d.context.with_lists ≡ false → list_count main d.context ≡ 0

-- the bytes of a function's nodes, with the root above them, and of its call sites
abbrev pub detail_bytes : List ℕ → AddressRange → Descendants → List ℕ
detail_bytes name r x = each_of node_bytes (rooted name r x.inlines) ++ each_of (λ s. encode tray_site_tag (site_payload s)) x.call_sites

-- its bytes and its warnings were written, and its nodes counted
pub record ExtractedIn (main supplementary lists addresses w : List ℕ) (d : Details) (name : List ℕ) (p depth at warned : ℕ)
    (records records' warnings warnings' : List ℕ) (nodes at' warned' : ℕ) (past : Bool) : Type 0 where
  pub descendants : Descendants
  pub is : extract_subprogram_details (context_in main supplementary lists addresses w d) (descendants_of depth (entries_from main p)) ≡ done descendants
  pub count : nodes ≡ length descendants.inlines
  pub put : Put at (detail_bytes name d.range descendants) records records' at'
  pub warns : Put warned (warnings_bytes descendants.warnings) warnings warnings' warned'
  pub passes : past ≡ is_past at (length (detail_bytes name d.range descendants))

-- the outcome of the extraction over the entries that follow place p and are deeper than `depth`: refused, or its bytes were written
abbrev pub ExtractedBy : List ℕ → List ℕ → List ℕ → List ℕ → List ℕ → Details → List ℕ → ℕ → ℕ → ℕ → ℕ → List ℕ
    → List ℕ → List ℕ → List ℕ → Result Extracted Refusal → Type 0
ExtractedBy main supplementary lists addresses w d name p depth at warned records records' warnings warnings' (Err e) =
    extract_subprogram_details (context_in main supplementary lists addresses w d) (descendants_of depth (entries_from main p)) ≡ refused (number_of e)
ExtractedBy main supplementary lists addresses w d name p depth at warned records records' warnings warnings' (Ok x) =
    ExtractedIn main supplementary lists addresses w d name p depth at warned records records' warnings warnings' x.nodes x.at x.warned x.past

pub record Extracts (main supplementary lists addresses w w' : List ℕ) (d : Details) (name : List ℕ) (p depth at warned : ℕ)
    (records records' warnings warnings' : List ℕ) (r : Result Extracted Refusal) : Type 0 where
  pub is : ExtractedBy main supplementary lists addresses w d name p depth at warned records records' warnings warnings' r
  pub rest : Kept w w' d.context.ranges (d.context.tables.keys + keys_extent main supplementary d.context.tables - d.context.ranges)

-- .. by the details' own sheets, lists, name and depth
abbrev pub ExtractsTo : Details → List ℕ → List ℕ → ℕ → ℕ → ℕ → List ℕ → List ℕ → List ℕ → List ℕ → Result Extracted Refusal → Type 0
ExtractsTo d w w' p at warned t t' u u' r =
    Extracts (main_of d) (supplementary_of d) d.context.lists.lists.now d.context.lists.addresses.now w w' d d.name.now p d.depth at warned t t' u u' r
