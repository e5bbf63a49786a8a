-- Worked examples of the walk below a subprogram and of records, computed: what the demand rules out shows here as another value.
use mathlib.Core.Path.{◌≡◌, refl}
use mathlib.Core.Bool.{true, false}
use mathlib.Core.List.{List, [], ◌∷◌, map}
use mathlib.Core.Option.{none}
use Prim.Native.Nat.{ℕ, zero, suc}
use lib.ListN.{length}
use Rattle.tlv.specs.declared.model.AddressRange.{AddressRange}
use Rattle.tlv.specs.Outcome.{Outcome, refused, done}
use Rattle.tlv.specs.Model.{CompilationUnit, Entry}
use Rattle.references.specs.Search.{Dwarf}
use Rattle.imports.specs.Tree.{DetailContext, Descendants, extract_subprogram_details}
use Rattle.imports.specs.Import.{State, import_unit}
use Rattle.imports.specs.Answer.{no_stats}
use Rattle.imports.specs.Agree.{TreeNode, tree_node}

abbrev from-to : ℕ → ℕ → AddressRange
from-to s e = record { start = s; end = e }

-- an entry of a depth and a tag, whose name is one letter
abbrev named : ℕ → ℕ → ℕ → List AddressRange → Entry
named depth tag letter ranges = record {
  offset = 0;
  depth = depth;
  tag = tag;
  attributes = record { name = 0x03; kind = 3; value = 0; text = letter ∷ [] } ∷ [];
  ranges = map (λ r. record { range = r; tombstone = false }) ranges;
  failure = none;
  list = none;
}

abbrev inlined : ℕ → ℕ → List AddressRange → Entry
inlined depth letter ranges = named depth 0x1d letter ranges

abbrev nameless : ℕ → List AddressRange → Entry
nameless depth ranges = record {
  offset = 0;
  depth = depth;
  tag = 0x1d;
  attributes = [];
  ranges = map (λ r. record { range = r; tombstone = false }) ranges;
  failure = none;
  list = none;
}

-- a unit with text from 0 to 100
abbrev unit_of : List Entry → CompilationUnit
unit_of entries = record {
  offset = 0;
  length = 1;
  version = 5;
  word_size = 4;
  directory = none;
  text = from-to 0 100 ∷ [];
  header = none;
  encoding = none;
  part = none;
  directories = [];
  file_zero = none;
  files = [];
  rows = [];
  entries = entries;
  lists = 0;
}

abbrev no_units : Dwarf
no_units = record { main = []; supplementary = []; lists = []; addresses = [] }

abbrev context : AddressRange → DetailContext
context f = record { dwarf = no_units; unit = unit_of []; function_range = f; file_indices = []; include_inlines = true; include_call_sites = false }

shapes : Outcome Descendants → Outcome (List TreeNode)
shapes (refused n) = refused n
shapes (done w) = done (map tree_node w.inlines)

-- touching ranges of the ancestor hold a range that crosses the seam; a block and a nameless entry are passed through; a range that sticks out of the ancestor, or is
-- empty, is left out; the last entry is no child of the first
example-nested :
    shapes (extract_subprogram_details (context (from-to 0 100))
    (inlined 2 97 (from-to 4 8 ∷ from-to 0 4 ∷ from-to 90 101 ∷ []) ∷ named 3 0x0b 120 (from-to 0 8 ∷ []) ∷ inlined 4 98 (from-to 2 6 ∷ from-to 7 9 ∷ [])
    ∷ nameless 3 (from-to 0 8 ∷ []) ∷ inlined 4 99 (from-to 7 8 ∷ from-to 5 5 ∷ []) ∷ inlined 5 100 (from-to 6 7 ∷ []) ∷ inlined 2 101 (from-to 50 60 ∷ []) ∷ []))
    ≡ done
    (record { depth = 1; name = 97 ∷ []; ranges = from-to 0 8 ∷ [] } ∷ record { depth = 2; name = 98 ∷ []; ranges = from-to 2 6 ∷ [] } ∷ record { depth = 2; name = 99 ∷ []; ranges = from-to 7 8 ∷ [] }
    ∷ record { depth = 1; name = 101 ∷ []; ranges = from-to 50 60 ∷ [] } ∷ [])
unfolding shapes Rattle.tlv.specs.Outcome.◌>>=◌ Rattle.tlv.specs.Lists.filter Rattle.tlv.specs.Lists.take_while Rattle.tlv.specs.Lists.drop_while Rattle.tlv.specs.Lists.first Rattle.tlv.specs.Lists.or_else Rattle.tlv.specs.Lists.last Rattle.tlv.specs.Lists.exists Rattle.tlv.specs.Lists.at Rattle.tlv.specs.Lists.map_option Rattle.tlv.specs.Lists.same Rattle.imports.specs.Tree.die_ranges Rattle.lines.specs.Rows.contains Rattle.lines.specs.Rows.compact_line_rows Rattle.lines.specs.Rows.own_rows Rattle.lines.specs.Rows.earlier_row Rattle.lines.specs.Rows.selected_sequence Rattle.lines.specs.Rows.rows_for Rattle.lines.specs.Rows.for_range Rattle.references.specs.Search.units_in Rattle.references.specs.Search.is_visited Rattle.references.specs.Search.attribute Rattle.references.specs.Search.unsigned_attribute Rattle.references.specs.Search.file_index_attribute Rattle.references.specs.Search.absolute_entry_offset Rattle.references.specs.Search.entry_at Rattle.references.specs.Search.unit_containing Rattle.references.specs.Search.follow_absolute Rattle.references.specs.Search.follow_unit Rattle.references.specs.Search.follow Rattle.references.specs.Search.own_name Rattle.references.specs.Search.referenced_name Rattle.references.specs.Search.resolve_name_inner Rattle.references.specs.Search.resolve_named Rattle.references.specs.Search.resolve_name Rattle.references.specs.Search.resolve_reference_name Rattle.imports.specs.Ranges.insert Rattle.imports.specs.Ranges.sort Rattle.imports.specs.Ranges.join Rattle.imports.specs.Ranges.join_all Rattle.imports.specs.Ranges.coalesce_ranges Rattle.imports.specs.Tree.fit Rattle.imports.specs.Tree.ranges_of Rattle.imports.specs.Tree.finish_inlines Rattle.imports.specs.Tree.finish Rattle.imports.specs.Tree.make_call_site Rattle.imports.specs.Tree.call_file_of Rattle.imports.specs.Tree.call_line_of Rattle.imports.specs.Tree.push_inline Rattle.imports.specs.Tree.make_inline_node Rattle.imports.specs.Tree.collect_entry Rattle.imports.specs.Tree.collect_entries Rattle.imports.specs.Tree.collect_descendants Rattle.imports.specs.Tree.extract_subprogram_details Rattle.imports.specs.Import.statement_sequence_offset Rattle.imports.specs.Import.is_live_range Rattle.imports.specs.Import.is_tombstone Rattle.imports.specs.Import.rejected Rattle.imports.specs.Import.add_function Rattle.imports.specs.Import.import_range Rattle.imports.specs.Import.import_ranges Rattle.imports.specs.Import.import_subprogram Rattle.imports.specs.Import.descendants_of Rattle.imports.specs.Import.import_unit_details Rattle.imports.specs.Import.import_unit
example-nested = refl

-- the limit: 256 one below the other are taken, 257 are refused
nest : ℕ → ℕ → List Entry
nest d zero = []
nest d (suc n) = inlined d 97 (from-to 0 9 ∷ []) ∷ nest (suc d) n

count : Outcome Descendants → ℕ
count (refused n) = 0
count (done w) = length w.inlines

example_256 : count (extract_subprogram_details (context (from-to 0 9)) (nest 1 256)) ≡ 256
unfolding nest count Rattle.tlv.specs.Outcome.◌>>=◌ Rattle.tlv.specs.Lists.filter Rattle.tlv.specs.Lists.take_while Rattle.tlv.specs.Lists.drop_while Rattle.tlv.specs.Lists.first Rattle.tlv.specs.Lists.or_else Rattle.tlv.specs.Lists.last Rattle.tlv.specs.Lists.exists Rattle.tlv.specs.Lists.at Rattle.tlv.specs.Lists.map_option Rattle.tlv.specs.Lists.same Rattle.imports.specs.Tree.die_ranges Rattle.lines.specs.Rows.contains Rattle.lines.specs.Rows.compact_line_rows Rattle.lines.specs.Rows.own_rows Rattle.lines.specs.Rows.earlier_row Rattle.lines.specs.Rows.selected_sequence Rattle.lines.specs.Rows.rows_for Rattle.lines.specs.Rows.for_range Rattle.references.specs.Search.units_in Rattle.references.specs.Search.is_visited Rattle.references.specs.Search.attribute Rattle.references.specs.Search.unsigned_attribute Rattle.references.specs.Search.file_index_attribute Rattle.references.specs.Search.absolute_entry_offset Rattle.references.specs.Search.entry_at Rattle.references.specs.Search.unit_containing Rattle.references.specs.Search.follow_absolute Rattle.references.specs.Search.follow_unit Rattle.references.specs.Search.follow Rattle.references.specs.Search.own_name Rattle.references.specs.Search.referenced_name Rattle.references.specs.Search.resolve_name_inner Rattle.references.specs.Search.resolve_named Rattle.references.specs.Search.resolve_name Rattle.references.specs.Search.resolve_reference_name Rattle.imports.specs.Ranges.insert Rattle.imports.specs.Ranges.sort Rattle.imports.specs.Ranges.join Rattle.imports.specs.Ranges.join_all Rattle.imports.specs.Ranges.coalesce_ranges Rattle.imports.specs.Tree.fit Rattle.imports.specs.Tree.ranges_of Rattle.imports.specs.Tree.finish_inlines Rattle.imports.specs.Tree.finish Rattle.imports.specs.Tree.make_call_site Rattle.imports.specs.Tree.call_file_of Rattle.imports.specs.Tree.call_line_of Rattle.imports.specs.Tree.push_inline Rattle.imports.specs.Tree.make_inline_node Rattle.imports.specs.Tree.collect_entry Rattle.imports.specs.Tree.collect_entries Rattle.imports.specs.Tree.collect_descendants Rattle.imports.specs.Tree.extract_subprogram_details Rattle.imports.specs.Import.statement_sequence_offset Rattle.imports.specs.Import.is_live_range Rattle.imports.specs.Import.is_tombstone Rattle.imports.specs.Import.rejected Rattle.imports.specs.Import.add_function Rattle.imports.specs.Import.import_range Rattle.imports.specs.Import.import_ranges Rattle.imports.specs.Import.import_subprogram Rattle.imports.specs.Import.descendants_of Rattle.imports.specs.Import.import_unit_details Rattle.imports.specs.Import.import_unit
example_256 = refl

example_257 : shapes (extract_subprogram_details (context (from-to 0 9)) (nest 1 257)) ≡ refused 14
unfolding shapes nest Rattle.tlv.specs.Outcome.◌>>=◌ Rattle.tlv.specs.Lists.filter Rattle.tlv.specs.Lists.take_while Rattle.tlv.specs.Lists.drop_while Rattle.tlv.specs.Lists.first Rattle.tlv.specs.Lists.or_else Rattle.tlv.specs.Lists.last Rattle.tlv.specs.Lists.exists Rattle.tlv.specs.Lists.at Rattle.tlv.specs.Lists.map_option Rattle.tlv.specs.Lists.same Rattle.imports.specs.Tree.die_ranges Rattle.lines.specs.Rows.contains Rattle.lines.specs.Rows.compact_line_rows Rattle.lines.specs.Rows.own_rows Rattle.lines.specs.Rows.earlier_row Rattle.lines.specs.Rows.selected_sequence Rattle.lines.specs.Rows.rows_for Rattle.lines.specs.Rows.for_range Rattle.references.specs.Search.units_in Rattle.references.specs.Search.is_visited Rattle.references.specs.Search.attribute Rattle.references.specs.Search.unsigned_attribute Rattle.references.specs.Search.file_index_attribute Rattle.references.specs.Search.absolute_entry_offset Rattle.references.specs.Search.entry_at Rattle.references.specs.Search.unit_containing Rattle.references.specs.Search.follow_absolute Rattle.references.specs.Search.follow_unit Rattle.references.specs.Search.follow Rattle.references.specs.Search.own_name Rattle.references.specs.Search.referenced_name Rattle.references.specs.Search.resolve_name_inner Rattle.references.specs.Search.resolve_named Rattle.references.specs.Search.resolve_name Rattle.references.specs.Search.resolve_reference_name Rattle.imports.specs.Ranges.insert Rattle.imports.specs.Ranges.sort Rattle.imports.specs.Ranges.join Rattle.imports.specs.Ranges.join_all Rattle.imports.specs.Ranges.coalesce_ranges Rattle.imports.specs.Tree.fit Rattle.imports.specs.Tree.ranges_of Rattle.imports.specs.Tree.finish_inlines Rattle.imports.specs.Tree.finish Rattle.imports.specs.Tree.make_call_site Rattle.imports.specs.Tree.call_file_of Rattle.imports.specs.Tree.call_line_of Rattle.imports.specs.Tree.push_inline Rattle.imports.specs.Tree.make_inline_node Rattle.imports.specs.Tree.collect_entry Rattle.imports.specs.Tree.collect_entries Rattle.imports.specs.Tree.collect_descendants Rattle.imports.specs.Tree.extract_subprogram_details Rattle.imports.specs.Import.statement_sequence_offset Rattle.imports.specs.Import.is_live_range Rattle.imports.specs.Import.is_tombstone Rattle.imports.specs.Import.rejected Rattle.imports.specs.Import.add_function Rattle.imports.specs.Import.import_range Rattle.imports.specs.Import.import_ranges Rattle.imports.specs.Import.import_subprogram Rattle.imports.specs.Import.descendants_of Rattle.imports.specs.Import.import_unit_details Rattle.imports.specs.Import.import_unit
example_257 = refl

-- a unit of three subprograms, the second below the first, the third of the first's range: each record has its own range and its own inlined entries,
-- and those below a nested subprogram are the outer one's too
records : Outcome State → Outcome (List (AddressRange × List TreeNode))
records (refused n) = refused n
records (done s) = done (map (λ f. (f.range, map tree_node f.inline)) s.records)

abbrev before : State
before = record { table = record { first = 1; entries = [] }; records = []; warnings = []; stats = no_stats }

abbrev node : ℕ → ℕ → AddressRange → TreeNode
node depth letter r = record { depth = depth; name = letter ∷ []; ranges = r ∷ [] }

example-three :
    records (import_unit no_units
    (unit_of (named 1 0x2e 65 (from-to 10 20 ∷ []) ∷ inlined 2 97 (from-to 11 12 ∷ [])
    ∷ named 2 0x2e 66 (from-to 13 16 ∷ []) ∷ inlined 3 98 (from-to 13 14 ∷ [])
    ∷ named 1 0x2e 67 (from-to 10 20 ∷ []) ∷ inlined 2 99 (from-to 15 16 ∷ []) ∷ []))
    [] true false before)
    ≡ done
    ((from-to 10 20, node 0 65 (from-to 10 20) ∷ node 1 97 (from-to 11 12) ∷ node 1 98 (from-to 13 14) ∷ [])
    ∷ (from-to 13 16, node 0 66 (from-to 13 16) ∷ node 1 98 (from-to 13 14) ∷ [])
    ∷ (from-to 10 20, node 0 67 (from-to 10 20) ∷ node 1 99 (from-to 15 16) ∷ []) ∷ [])
unfolding records Rattle.machine.specs.LineRows.collect_lines Rattle.lines.specs.Lines.drop_neighbours Rattle.references.specs.Search.resolve_declaration_line
    Rattle.references.specs.Search.resolve_declaration Rattle.references.specs.Search.own_declaration
    Rattle.references.specs.Search.referenced_declaration Rattle.tlv.specs.Outcome.◌>>=◌ Rattle.tlv.specs.Lists.filter Rattle.tlv.specs.Lists.take_while
    Rattle.tlv.specs.Lists.drop_while Rattle.tlv.specs.Lists.first Rattle.tlv.specs.Lists.or_else Rattle.tlv.specs.Lists.last
    Rattle.tlv.specs.Lists.exists Rattle.tlv.specs.Lists.at Rattle.tlv.specs.Lists.map_option Rattle.tlv.specs.Lists.same
    Rattle.imports.specs.Tree.die_ranges Rattle.lines.specs.Rows.contains Rattle.lines.specs.Rows.compact_line_rows Rattle.lines.specs.Rows.own_rows
    Rattle.lines.specs.Rows.earlier_row Rattle.lines.specs.Rows.selected_sequence Rattle.lines.specs.Rows.rows_for Rattle.lines.specs.Rows.for_range
    Rattle.references.specs.Search.units_in Rattle.references.specs.Search.is_visited Rattle.references.specs.Search.attribute
    Rattle.references.specs.Search.unsigned_attribute Rattle.references.specs.Search.file_index_attribute
    Rattle.references.specs.Search.absolute_entry_offset Rattle.references.specs.Search.entry_at Rattle.references.specs.Search.unit_containing
    Rattle.references.specs.Search.follow_absolute Rattle.references.specs.Search.follow_unit Rattle.references.specs.Search.follow
    Rattle.references.specs.Search.own_name Rattle.references.specs.Search.referenced_name Rattle.references.specs.Search.resolve_name_inner
    Rattle.references.specs.Search.resolve_named Rattle.references.specs.Search.resolve_name Rattle.references.specs.Search.resolve_reference_name
    Rattle.imports.specs.Ranges.insert Rattle.imports.specs.Ranges.sort Rattle.imports.specs.Ranges.join
    Rattle.imports.specs.Ranges.join_all Rattle.imports.specs.Ranges.coalesce_ranges Rattle.imports.specs.Tree.fit
    Rattle.imports.specs.Tree.ranges_of Rattle.imports.specs.Tree.finish_inlines Rattle.imports.specs.Tree.finish
    Rattle.imports.specs.Tree.make_call_site Rattle.imports.specs.Tree.call_file_of Rattle.imports.specs.Tree.call_line_of
    Rattle.imports.specs.Tree.push_inline Rattle.imports.specs.Tree.make_inline_node Rattle.imports.specs.Tree.collect_entry
    Rattle.imports.specs.Tree.collect_entries Rattle.imports.specs.Tree.collect_descendants
    Rattle.imports.specs.Tree.extract_subprogram_details Rattle.imports.specs.Import.statement_sequence_offset
    Rattle.imports.specs.Import.is_live_range Rattle.imports.specs.Import.is_tombstone Rattle.imports.specs.Import.rejected
    Rattle.imports.specs.Import.add_function Rattle.imports.specs.Import.import_range Rattle.imports.specs.Import.import_ranges
    Rattle.imports.specs.Import.import_subprogram Rattle.imports.specs.Import.descendants_of
    Rattle.imports.specs.Import.import_unit_details Rattle.imports.specs.Import.import_unit
example-three = refl
