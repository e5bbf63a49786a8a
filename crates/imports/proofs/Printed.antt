-- Document 01's printed import, by computing.
use mathlib.Core.Path.{refl}
use Rattle.imports.specs.Printed.{Printed}

pub printed : Printed
unfolding Rattle.tlv.specs.Outcome.◌>>=◌ Rattle.tlv.specs.Lists.filter Rattle.tlv.specs.Lists.take_while Rattle.tlv.specs.Lists.drop_while Rattle.tlv.specs.Lists.first Rattle.tlv.specs.Lists.or_else Rattle.tlv.specs.Lists.last Rattle.tlv.specs.Lists.exists Rattle.tlv.specs.Lists.at Rattle.tlv.specs.Lists.map_option Rattle.tlv.specs.Lists.same Rattle.tlv.specs.Bytes.bytes_of Rattle.tlv.specs.Bytes.le_at Rattle.tlv.specs.Fields.fields_from Rattle.tlv.specs.Fields.whole_fields Rattle.tlv.specs.Fields.encode Rattle.tlv.specs.Fields.grouped Rattle.tlv.specs.Fields.payloads Rattle.tlv.specs.Fields.payload_of Rattle.tlv.specs.Grammar.after Rattle.tlv.specs.Grammar.may_follow Rattle.tlv.specs.Grammar.unit_shaped Rattle.tlv.specs.Grammar.text_shaped Rattle.tlv.specs.Grammar.header_shaped Rattle.tlv.specs.Grammar.part_shaped Rattle.tlv.specs.Grammar.directory_shaped Rattle.tlv.specs.Grammar.file_shaped Rattle.tlv.specs.Grammar.row_shaped Rattle.tlv.specs.Grammar.entry_shaped Rattle.tlv.specs.Grammar.value_shaped Rattle.tlv.specs.Grammar.attribute_shaped Rattle.tlv.specs.Grammar.range_shaped Rattle.tlv.specs.Grammar.failure_shaped Rattle.tlv.specs.Grammar.payload_shaped Rattle.tlv.specs.Grammar.shaped Rattle.tlv.specs.Grammar.payload_limited Rattle.tlv.specs.Grammar.limited Rattle.tlv.specs.Grammar.next Rattle.tlv.specs.Grammar.check_from Rattle.tlv.specs.Grammar.check_input Rattle.tlv.specs.Model.range_of Rattle.tlv.specs.Model.header_of Rattle.tlv.specs.Model.part_of Rattle.tlv.specs.Model.directory_of Rattle.tlv.specs.Model.file_of Rattle.tlv.specs.Model.row_of Rattle.tlv.specs.Model.attribute_of Rattle.tlv.specs.Model.entry_range_of Rattle.tlv.specs.Model.failure_of Rattle.tlv.specs.Model.entry_of Rattle.tlv.specs.Model.unit_of Rattle.tlv.specs.Model.units Rattle.tlv.specs.Model.program_of Rattle.machine.specs.LineRows.line_rows Rattle.imports.specs.Tree.die_ranges Rattle.buffers.specs.Output.kind_number Rattle.buffers.specs.Output.function_payload Rattle.buffers.specs.Output.row_payload Rattle.buffers.specs.Output.node_payload Rattle.buffers.specs.Output.range_payload Rattle.buffers.specs.Output.site_payload Rattle.buffers.specs.Output.file_payload Rattle.buffers.specs.Output.warning_payload Rattle.buffers.specs.Output.each_of Rattle.buffers.specs.Output.node_bytes Rattle.buffers.specs.Output.function_bytes Rattle.buffers.specs.Output.records_bytes Rattle.buffers.specs.Output.files_bytes Rattle.buffers.specs.Output.warnings_bytes Rattle.line_program.specs.Program.uleb_within Rattle.line_program.specs.Program.uleb Rattle.line_program.specs.Program.sleb_within Rattle.line_program.specs.Program.sleb Rattle.line_program.specs.Program.operand_kinds Rattle.line_program.specs.Program.skip_operand Rattle.line_program.specs.Program.skip_operands Rattle.line_program.specs.Program.take_line_bytes Rattle.line_program.specs.Program.extended_body Rattle.line_program.specs.Program.extended Rattle.line_program.specs.Program.skip Rattle.line_program.specs.Program.sequences_within Rattle.line_program.specs.Program.scan_line_sequence_offsets Rattle.line_program.specs.Program.initial_length Rattle.line_program.specs.Program.version_bytes Rattle.line_program.specs.Program.program_offset Rattle.line_program.specs.Program.line_sequence_offsets Rattle.paths.specs.Paths.is_separator Rattle.paths.specs.Paths.starts_with_letter Rattle.paths.specs.Paths.starts_doubled Rattle.paths.specs.Paths.is_windows Rattle.paths.specs.Paths.after_last Rattle.paths.specs.Paths.root_length Rattle.paths.specs.Paths.base_start Rattle.paths.specs.Paths.basename_of Rattle.paths.specs.Paths.directory_name Rattle.paths.specs.Paths.starts_with Rattle.paths.specs.Paths.ends_with Rattle.paths.specs.Paths.is_drive Rattle.paths.specs.Paths.is_share Rattle.paths.specs.Paths.is_absolute Rattle.paths.specs.Paths.append_path Rattle.paths.specs.Paths.named_directory Rattle.paths.specs.Paths.needs_compilation Rattle.paths.specs.Paths.joined_directory Rattle.paths.specs.Paths.file_entry Rattle.lines.specs.Files.place_of Rattle.lines.specs.Files.append_file Rattle.lines.specs.Files.add_file Rattle.lines.specs.Files.intern_file Rattle.lines.specs.Files.intern_files Rattle.lines.specs.Files.intern_header_files Rattle.lines.specs.Files.get Rattle.lines.specs.Files.header_file Rattle.lines.specs.Lines.run_rows Rattle.lines.specs.Lines.convert_line Rattle.lines.specs.Lines.convert_row Rattle.lines.specs.Lines.convert_rows Rattle.lines.specs.Lines.insert_row Rattle.lines.specs.Lines.sort_rows Rattle.lines.specs.Lines.drop_after Rattle.lines.specs.Lines.drop_neighbours Rattle.lines.specs.Lines.collect_header Rattle.machine.specs.LineRows.collect_lines Rattle.lines.specs.Rows.contains Rattle.lines.specs.Rows.compact_line_rows Rattle.lines.specs.Rows.own_rows Rattle.lines.specs.Rows.earlier_row Rattle.lines.specs.Rows.selected_sequence Rattle.lines.specs.Rows.rows_for Rattle.lines.specs.Rows.for_range Rattle.references.specs.Search.units_in Rattle.references.specs.Search.is_visited Rattle.references.specs.Search.attribute Rattle.references.specs.Search.unsigned_attribute Rattle.references.specs.Search.file_index_attribute Rattle.references.specs.Search.absolute_entry_offset Rattle.references.specs.Search.entry_at Rattle.references.specs.Search.unit_containing Rattle.references.specs.Search.follow_absolute Rattle.references.specs.Search.follow_unit Rattle.references.specs.Search.follow Rattle.references.specs.Search.own_name Rattle.references.specs.Search.referenced_name Rattle.references.specs.Search.resolve_name_inner Rattle.references.specs.Search.resolve_named Rattle.references.specs.Search.resolve_name Rattle.references.specs.Search.resolve_reference_name Rattle.references.specs.Search.warn_declaration Rattle.references.specs.Search.own_declaration Rattle.references.specs.Search.referenced_declaration Rattle.references.specs.Search.resolve_declaration Rattle.references.specs.Search.resolve_declaration_line Rattle.imports.specs.Ranges.insert Rattle.imports.specs.Ranges.sort Rattle.imports.specs.Ranges.join Rattle.imports.specs.Ranges.join_all Rattle.imports.specs.Ranges.coalesce_ranges Rattle.imports.specs.Tree.fit Rattle.imports.specs.Tree.ranges_of Rattle.imports.specs.Tree.finish_inlines Rattle.imports.specs.Tree.finish Rattle.imports.specs.Tree.make_call_site Rattle.imports.specs.Tree.call_file_of Rattle.imports.specs.Tree.call_line_of Rattle.imports.specs.Tree.push_inline Rattle.imports.specs.Tree.make_inline_node Rattle.imports.specs.Tree.collect_entry Rattle.imports.specs.Tree.collect_entries Rattle.imports.specs.Tree.collect_descendants Rattle.imports.specs.Tree.extract_subprogram_details Rattle.imports.specs.Import.statement_sequence_offset Rattle.imports.specs.Import.is_live_range Rattle.imports.specs.Import.is_tombstone Rattle.imports.specs.Import.rejected Rattle.imports.specs.Import.add_function Rattle.imports.specs.Import.import_range Rattle.imports.specs.Import.import_ranges Rattle.imports.specs.Import.import_subprogram Rattle.imports.specs.Import.descendants_of Rattle.imports.specs.Import.import_unit_details Rattle.imports.specs.Import.import_unit Rattle.imports.specs.Import.import_units Rattle.imports.specs.Answer.oversize Rattle.imports.specs.Answer.work_of_unit Rattle.imports.specs.Answer.work_of_units Rattle.imports.specs.Answer.work_needed Rattle.imports.specs.Answer.initial_state Rattle.imports.specs.Answer.dwarf_of Rattle.imports.specs.Answer.checked Rattle.imports.specs.Answer.import_of Rattle.imports.specs.Answer.written Rattle.imports.specs.Answer.fitting Rattle.imports.specs.Answer.outcome_of Rattle.imports.specs.Answer.answer_of Rattle.imports.specs.Answer.buffer_after Rattle.imports.specs.Answer.afterwards Rattle.imports.specs.Answer.after
printed = refl
