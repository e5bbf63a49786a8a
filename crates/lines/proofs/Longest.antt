-- The longest file of the files tray, by computing.
use mathlib.Core.Path.{refl}
use Rattle.tlv.specs.Bytes
use Rattle.tlv.specs.Lists
use Rattle.tlv.specs.Outcome
use Rattle.buffers.specs.Output
use Rattle.paths.specs.Paths
use Rattle.lines.specs.Longest
use Rattle.lines.specs.Longest.{Longest}

pub longest : Longest
unfolding Longest.field_length Output.file_payload Bytes.bytes_of Paths.file_entry Paths.named_directory Paths.joined_directory Paths.needs_compilation
    Paths.append_path Paths.is_absolute Paths.starts_with Paths.ends_with Paths.is_drive Paths.is_share Paths.is_separator Paths.starts_with_letter
    Paths.starts_doubled Paths.is_windows Paths.after_last Paths.base_start Paths.root_length Paths.basename_of Paths.directory_name Lists.at Lists.exists
    Outcome.◌>>=◌
longest = record { plain = refl; behind_slash = refl }
