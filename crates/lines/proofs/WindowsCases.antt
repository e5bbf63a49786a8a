-- E3's cases, by computing.
use mathlib.Core.Path.{refl}
use Rattle.tlv.specs.Outcome
use Rattle.tlv.specs.Lists
use Rattle.paths.specs.Paths
use Rattle.lines.specs.WindowsCases.{WindowsCases}

pub windows-cases : WindowsCases
unfolding Outcome.◌>>=◌ Lists.exists Lists.at Paths.is_separator Paths.starts_with Paths.ends_with Paths.is_drive Paths.is_share Paths.is_absolute
    Paths.starts_with_letter Paths.starts_doubled Paths.is_windows Paths.after_last Paths.base_start Paths.basename_of Paths.root_length Paths.directory_name
    Paths.append_path Paths.named_directory Paths.needs_compilation Paths.joined_directory Paths.file_entry
windows-cases = refl
