-- Every ● case of document 01 holds, by computing.
use mathlib.Core.Path.{refl}
use Rattle.tlv.specs.Outcome.{◌>>=◌}
use Rattle.line_program.specs.Program
use Rattle.paths.specs.Paths
use Rattle.imports.specs.Ranges
use Rattle.imports.specs.Cases.{AllCases}

pub all-cases : AllCases
unfolding ◌>>=◌ Program.uleb Program.uleb_within Program.line_sequence_offsets Program.program_offset Program.initial_length Program.version_bytes Program.scan_line_sequence_offsets Program.sequences_within Program.skip Program.extended Program.extended_body Program.take_line_bytes Program.operand_kinds Program.skip_operands Program.skip_operand Ranges.coalesce_ranges Ranges.join_all Ranges.join Ranges.sort Ranges.insert Paths.directory_name Paths.basename_of Paths.is_separator Paths.is_drive Paths.starts_with_letter Paths.starts_doubled Paths.is_windows Paths.after_last Paths.root_length Paths.base_start
all-cases = (refl, (refl, (refl, (refl, (refl, (refl, (refl, (refl, (refl, (refl, ((refl, refl), ((refl, refl), tt))))))))))))
