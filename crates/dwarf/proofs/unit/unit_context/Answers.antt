-- `unit::unit_context` meets its contract: the executable ranges are written behind the lines.
use mathlib.Core.Path.{refl}
use Rattle.tlv.proofs.PlaceFacts.{placed-start}
use Rattle.dwarf.proofs.TablesLaws.{accepted-main}
use Rattle.dwarf.proofs.unit.UnitContextLaws.{makes-context}
use Rattle.dwarf.proofs.unit.unit_context.Goals as goal

pub index_text-text-requires-clause-placed : goal.index_text-text-requires-clause-placed
index_text-text-requires-clause-placed c = let A = accepted-main c.requires.tables_in in placed-start _ A.number A.is

pub returns : goal.returns
returns c = makes-context c.requires.unit_in c.requires.tables_in c.requires.unit_laid c.requires.lines_laid c.index_text-text.ensures c.index_text-text.auto.work
    c.args.inputs.sheets c.args.inputs.lists refl refl refl refl c.args.options.inlines c.args.options.call_sites
