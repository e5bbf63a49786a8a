-- `spans::FileUnit::describe` meets its contract. Its three parts are those of the fields that follow its place.
use Rattle.files.proofs.UnitLaws.{unit-next, directories-room, described}
use Rattle.files.proofs.spans.FileUnit.describe.Goals as goal

pub compilation_span-compilation-requires : goal.compilation_span-compilation-requires
compilation_span-compilation-requires c = rw c.of-s.ensures (unit-next c.requires.unit_placed)

pub header_version-version-requires : goal.header_version-version-requires
header_version-version-requires c = rw c.of-s.ensures (unit-next c.requires.unit_placed)

pub index_directories-directories-requires-clause-placed : goal.index_directories-directories-requires-clause-placed
index_directories-directories-requires-clause-placed c = rw c.of-s.ensures (unit-next c.requires.unit_placed)

pub index_directories-directories-requires-clause-spans_fit : goal.index_directories-directories-requires-clause-spans_fit
index_directories-directories-requires-clause-spans_fit c = rw c.of-s.ensures (directories-room c.requires.unit_placed _ _ c.requires.spans_fit)

pub returns : goal.returns
returns c = described c.requires.unit_placed c.args.source _ c.index_directories-directories.ensures.based
    (rw c.of-s.ensures at c.header_version-version.ensures) (rw c.of-s.ensures at c.compilation_span-compilation.ensures)
    (rw c.of-s.ensures at c.index_directories-directories.ensures.directories_in)
