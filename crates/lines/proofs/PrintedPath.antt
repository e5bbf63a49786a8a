-- Document 01's printed file comes under the theorem on paths, which gives its path.
use Prim.Native.Nat.{ℕ}
use mathlib.Core.Path.{◌≡◌, refl, ap, ◌∙◌}
use mathlib.Core.List.{List, [], ◌∷◌, ◌++◌}
use mathlib.Core.Option.{some}
use native.Mathlib.Omega.{arith}
use lib.ListN.{length}
use Rattle.tlv.specs.Outcome
use Rattle.tlv.specs.Lists
use Rattle.line_program.specs.Standard.{slash, file_path}
use Rattle.paths.specs.Paths
use Rattle.paths.specs.PathConforms.{NamesFile, Relative, FirstDirectory, path_of}
use Rattle.paths.proofs.Paths.{paths}
use Rattle.lines.specs.Differences.{file, header, entry}
use Rattle.lines.specs.PrintedPath.{src, cue, printed_unit, PrintedPath}

names : NamesFile (file 0 cue)
unfolding Paths.is_drive Paths.starts_with_letter Paths.starts_doubled Paths.is_windows Paths.after_last Paths.base_start Paths.basename_of
names = record { read = refl; named = λ e. omega (arith, ap length e) }

relative : Relative cue
unfolding Paths.is_drive Paths.is_share Paths.is_separator Paths.starts_doubled
relative = record { relative = refl; unix = record { drive = refl; share = refl }; undoubled = refl }

directory : FirstDirectory printed_unit (header 5) (file 0 cue)
unfolding Paths.ends_with Lists.at
directory = record {
  version = omega arith;
  number = refl;
  path = src;
  shape = record { filled = λ e. omega (arith, ap length e); closed = λ e. let z : ◌≡◌ {A = ℕ} 0 1 = cc in absurd (omega arith) };
  read = refl;
}

listed : Paths.file_entry printed_unit (header 5) (file 0 cue) ≡ entry src cue
unfolding Paths.file_entry Paths.named_directory Paths.joined_directory Paths.needs_compilation Paths.append_path Paths.is_absolute
    Paths.starts_with Paths.ends_with Paths.is_drive Paths.is_share Paths.is_separator Paths.starts_with_letter Paths.starts_doubled Paths.is_windows Paths.after_last
    Paths.base_start Paths.root_length Paths.basename_of Paths.directory_name Lists.at Outcome.◌>>=◌
listed = refl

path : (compilation : List ℕ) → file_path 5 compilation (src ∷ []) 0 cue ≡ some (src ++ (slash ∷ cue))
unfolding Lists.same
path compilation =
    let (e, is, joins) = (paths printed_unit (header 5) (file 0 cue) compilation).in_first names relative directory in
    let same : e ≡ record { directory = src; basename = cue } = cc (is, listed) in
    joins ∙ ap (λ (e : _). some (path_of e)) same

pub printed_path : PrintedPath
printed_path = record { names = names; relative = relative; directory = directory; listed = listed; path = path }
