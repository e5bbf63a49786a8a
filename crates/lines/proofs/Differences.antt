-- Each listed difference from the Standard is so, by computing.
use mathlib.Core.Path.{refl}
use Rattle.tlv.specs.Outcome
use Rattle.tlv.specs.Lists
use Rattle.line_program.specs.Standard
use Rattle.line_program.specs.Program
use Rattle.paths.specs.Paths
use Rattle.lines.specs.Differences.{AllDifferences}

pub differences : AllDifferences
unfolding Outcome.◌>>=◌ Lists.filter Lists.take_while Lists.drop_while Lists.first Lists.or_else Lists.last Lists.exists Lists.at Lists.map_option Lists.same
    Standard.and_then Standard.leb128 Standard.sleb128 Standard.standard_operands Standard.operands_of Standard.after_operand Standard.after_operands
    Standard.instruction Standard.sequences_within Standard.sequences Standard.relative_to Standard.directory_path Standard.file_path Program.uleb_within
    Program.uleb Program.sleb_within Program.sleb Program.operand_kinds Program.skip_operand Program.skip_operands Program.take_line_bytes Program.extended_body
    Program.extended Program.skip Program.sequences_within Program.scan_line_sequence_offsets Program.initial_length Program.version_bytes Program.program_offset
    Program.line_sequence_offsets Paths.is_separator Paths.starts_with_letter Paths.starts_doubled Paths.is_windows Paths.after_last Paths.root_length
    Paths.base_start Paths.basename_of Paths.directory_name Paths.starts_with Paths.ends_with Paths.is_drive Paths.is_share Paths.is_absolute Paths.append_path
    Paths.named_directory Paths.needs_compilation Paths.joined_directory Paths.file_entry
differences = record {
  program = record {
    padded = (refl, refl);
    wide = (refl, refl);
    wide_signed = (refl, refl);
    padded_signed = (refl, refl);
    declared = (refl, refl);
    past = (refl, refl);
  };
  path = record {
    windows = (refl, refl);
    doubled_backslash = (refl, refl);
    slashes = (refl, refl);
    closed = (refl, refl);
    root = (refl, refl);
    closed_entry = (refl, refl);
    empty_entry = (refl, refl);
    windows_entry = (refl, refl);
    unknown = (refl, refl);
    missing = (refl, refl);
    missing_first = (refl, refl);
    other = (refl, refl);
    folders = (refl, refl);
  };
}
