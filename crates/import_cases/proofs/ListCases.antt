-- E9's cases, by computing.
use mathlib.Core.Path.{refl}
use Rattle.tlv.specs.Outcome
use Rattle.tlv.specs.Lists
use Rattle.tlv.specs.Bytes
use Rattle.tlv.specs.Fields
use Rattle.tlv.specs.Grammar
use Rattle.tlv.specs.Model
use Rattle.buffers.specs.Output
use Rattle.line_program.specs.Program
use Rattle.paths.specs.Paths
use Rattle.lines.specs.Files
use Rattle.lines.specs.Lines
use Rattle.lines.specs.Rows
use Rattle.machine.specs.LineRows
use Rattle.rnglists.specs.Standard
use Rattle.rnglists.specs.RangeLists
use Rattle.references.specs.Search
use Rattle.imports.specs.Ranges
use Rattle.imports.specs.Tree
use Rattle.imports.specs.Import
use Rattle.imports.specs.Answer
use Rattle.imports.specs.Sizes
use Rattle.import_cases.specs.ListCases.{ListCases}

pub list_cases-hold : ListCases
unfolding Outcome.◌>>=◌ Lists.filter Lists.take_while Lists.drop_while Lists.first Lists.or_else Lists.last Lists.exists Lists.at Lists.map_option Lists.same
    Bytes.bytes_of Bytes.le_at Fields.fields_from Fields.whole_fields Fields.encode Fields.grouped Fields.payloads Fields.payload_of Grammar.after
    Grammar.may_follow Grammar.unit_shaped Grammar.text_shaped Grammar.header_shaped Grammar.part_shaped Grammar.directory_shaped Grammar.file_shaped
    Grammar.row_shaped Grammar.entry_shaped Grammar.value_shaped Grammar.attribute_shaped Grammar.range_shaped Grammar.failure_shaped Grammar.list_shaped Grammar.payload_shaped
    Grammar.shaped Grammar.payload_limited Grammar.limited Grammar.next Grammar.check_from Grammar.check_input Model.range_of Model.header_of Model.part_of
    Model.directory_of Model.file_of Model.row_of Model.attribute_of Model.entry_range_of Model.failure_of Model.range_list_of Model.entry_of Model.unit_of Model.units Model.program_of
    LineRows.line_rows Tree.die_ranges Output.kind_number Output.function_payload Output.row_payload Output.node_payload Output.range_payload Output.site_payload
    Output.file_payload Output.warning_payload Output.each_of Output.node_bytes Output.function_bytes Output.records_bytes Output.files_bytes Output.warnings_bytes
    Program.uleb_within Program.uleb Program.sleb_within Program.sleb Program.operand_kinds Program.skip_operand Program.skip_operands Program.take_line_bytes
    Program.extended_body Program.extended Program.skip Program.sequences_within Program.scan_line_sequence_offsets Program.initial_length Program.version_bytes
    Program.program_offset Program.line_sequence_offsets Paths.is_separator Paths.starts_with_letter Paths.starts_doubled Paths.is_windows Paths.after_last
    Paths.root_length Paths.base_start Paths.basename_of Paths.directory_name Paths.starts_with Paths.ends_with Paths.is_drive Paths.is_share Paths.is_absolute
    Paths.append_path Paths.named_directory Paths.needs_compilation Paths.joined_directory Paths.file_entry Files.place_of Files.append_file Files.add_file
    Files.intern_file Files.intern_files Files.intern_header_files Files.get Files.header_file Lines.run_rows Lines.convert_line Lines.convert_row Lines.convert_rows
    Lines.insert_row Lines.sort_rows Lines.drop_after Lines.drop_neighbours Lines.collect_header LineRows.collect_lines Rows.contains Rows.compact_line_rows Rows.own_rows
    Rows.earlier_row Rows.selected_sequence Rows.rows_for Rows.for_range Search.units_in Search.is_visited Search.attribute Search.unsigned_attribute
    Search.file_index_attribute Search.absolute_entry_offset Search.entry_at Search.unit_containing Search.follow_absolute Search.follow_unit Search.follow
    Search.own_name Search.referenced_name Search.resolve_name_inner Search.resolve_named Search.resolve_name Search.resolve_reference_name Search.warn_declaration
    Search.own_declaration Search.referenced_declaration Search.resolve_declaration Search.resolve_declaration_line Ranges.insert Ranges.sort Ranges.join
    Ranges.join_all Ranges.coalesce_ranges Tree.fit Tree.ranges_of Tree.finish_inlines Tree.finish Tree.make_call_site Tree.call_file_of Tree.call_line_of
    Tree.push_inline Tree.make_inline_node Tree.collect_entry Tree.collect_entries Tree.collect_descendants Tree.extract_subprogram_details
    Import.statement_sequence_offset Import.is_live_range Import.is_tombstone Import.rejected Import.add_function Import.import_range Import.import_ranges
    Import.import_subprogram Import.descendants_of Import.import_unit_details Import.import_unit Import.import_units Answer.oversize Answer.work_of_unit
    Answer.work_of_units Answer.work_needed Answer.initial_state Answer.dwarf_of Answer.checked Answer.import_of Answer.import_dwarf_of Answer.written Answer.fitting
    Answer.outcome_of Answer.answer_of Answer.buffer_after Answer.afterwards Answer.after Answer.after_dwarf
    Standard.slots_of RangeLists.read_operand RangeLists.read_entry RangeLists.address_at RangeLists.largest RangeLists.bounded_by RangeLists.offset_pair
    RangeLists.meaning_of RangeLists.ranges_within RangeLists.ranges_in RangeLists.list_ranges RangeLists.decimal Sizes.measured Sizes.measuring Sizes.measure
list_cases-hold = refl
