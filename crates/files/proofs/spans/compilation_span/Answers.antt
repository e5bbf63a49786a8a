-- `spans::compilation_span` meets its contract. The first field 11 of the unit, or none.
use Rattle.files.proofs.DirectoryLaws.{empty-span}
use Rattle.files.proofs.UnitLaws.{compilation-none, compilation-found}
use Rattle.files.proofs.spans.compilation_span.Goals as goal

pub returns-in_default : goal.returns-in_default
returns-in_default c = rw (empty-span c.default.ensures) (compilation-none c.args.s.now c.args.p c.in_default.ensures)

pub returns : goal.returns
returns c = rw c.from.ensures (compilation-found c.args.s.now c.args.p _ c.in-Some.ensures c.requires)
