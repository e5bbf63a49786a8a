-- `spans::header_version` meets its contract. A byte of the first field 13 of the unit, or 0.
use Rattle.files.proofs.UnitLaws.{version-none, version-read, version-found}
use Rattle.files.proofs.spans.header_version.Goals as goal

pub returns-in_default : goal.returns-in_default
returns-in_default c = search (version-none, c.in_default.ensures)

pub read-requires : goal.read-requires
read-requires c = search (version-read, c.in-Some.ensures)

pub returns : goal.returns
returns c = search (version-found, c.in-Some.ensures)
