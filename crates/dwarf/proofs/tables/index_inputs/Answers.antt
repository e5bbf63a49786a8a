-- `tables::index_inputs` meets its contract: the second input's tables stand behind the first one's.
use mathlib.Core.Path.{◌∙◌}
use Rattle.dwarf.proofs.TablesLaws.{indexes-inputs}
use Rattle.dwarf.proofs.tables.index_inputs.Goals as goal

pub returns : goal.returns
returns c = indexes-inputs c.args.work.now c.requires.laid_out c.requires.tables_fit c.index_input-main.ensures c.index_input-supplementary.ensures c.index_input-main.auto.work (c.index_input-supplementary.auto.work ∙ c.index_input-main.auto.work)
