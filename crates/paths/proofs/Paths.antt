-- The path of a file is the Standard's, outside the named cases.
use mathlib.Core.Path.{◌≡◌, ap}
use mathlib.Core.Bool.{true}
use mathlib.Core.List.{List, [], ◌∷◌}
use mathlib.Core.Option.{some}
use Prim.Native.Nat.{ℕ}
use Rattle.tlv.specs.Outcome.{◌>>=◌}
use Rattle.tlv.specs.Lists.{map_option}
use Rattle.tlv.specs.Model.{CompilationUnit, LineHeader, HeaderFile}
use Rattle.tlv.proofs.TestLaws.{filled-empty}
use Rattle.line_program.specs.Standard.{slash, is_full, file_path}
use Rattle.paths.specs.Paths.{append_path, basename_of, directory_name, joined_directory, file_entry}
use Rattle.paths.specs.PathConforms.{NamesFile, Relative, Joins, Paths}
use Rattle.paths.proofs.Joining.{relative-windows, full-absolute, unix-absolute, path-full, path-below}
use Rattle.paths.proofs.Directories.{Directed, plain-directed, first-directed, full-directed}

module _ (u : CompilationUnit) (h : LineHeader) (f : HeaderFile) (c : List ℕ) where
  -- a full path
  joins_full : NamesFile f → is_full f.path ≡ true → (directory_name f.path ≡ slash ∷ [] → f.path ≡ slash ∷ basename_of f.path) → Joins u h f c
  unfolding file_entry file_path
  joins_full p e single = (
    record { directory = directory_name f.path; basename = basename_of f.path },
    rw (p.read, filled-empty (basename_of f.path) p.named, full-absolute f.path e),
    rw e (ap some (path-full f.path e single)),
  )

  -- a relative path, below its directory
  joins-below : NamesFile f → Relative f.path → Directed u h.version f.directory c f.path → Joins u h f c
  unfolding file_entry file_path joined_directory ◌>>=◌ map_option
  joins-below p r g = (
    record { directory = append_path g.whole (directory_name f.path); basename = basename_of f.path },
    rw (p.read, filled-empty (basename_of f.path) p.named, unix-absolute f.path r.unix, r.relative, g.read, g.joined),
    rw (r.relative, g.is) (ap some (path-below g.whole f.path g.below r.relative (relative-windows f.path r))),
  )

pub paths : Paths
paths u h f c = record {
  full = joins_full u h f c;
  relative = λ p r q. joins-below u h f c p r (plain-directed u h f c q);
  in_first = λ p r q. joins-below u h f c p r (first-directed u h f c q);
  in_full = λ p r q. joins-below u h f c p r (full-directed u h f c q);
}
