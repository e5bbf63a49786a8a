-- `run::import_worked` meets its contract: the file table and the tables of both inputs stand before the first unit.
use mathlib.Core.Path.{◌≡◌, sym, ◌∙◌}
use Rattle.tlv.specs.Checked.{Accepted}
use Rattle.tlv.proofs.AnswerLaws.{handed}
use Rattle.subprograms.specs.declared.model.ConversionStats.{ConversionStats}
use Rattle.checks.specs.declared.layout.Counts.{Counts}
use Rattle.checks.specs.declared.layout.Layout.{Layout}
use Rattle.checks.specs.declared.options.Sizes.{Sizes}
use Rattle.checks.specs.Layout.{Sized, LaysOut}
use Rattle.checks.proofs.CountLaws.{total-small}
use Rattle.checks.proofs.WorkLaws.{most-least, each-enough}
use Rattle.dwarf.specs.declared.lent.Inputs.{Inputs}
use Rattle.dwarf.specs.Given.{SizesOf, LaidOutFor}
use Rattle.dwarf.proofs.EachLaws.{units-many}
use Rattle.dwarf.proofs.run.RunLaws.{files-room, ready-first, units-refused, writes-units}
use Rattle.dwarf.proofs.run.import_worked.Goals as goal

-- the tables of what is lent stand where they are laid out
laid : (i : Inputs) (z : Sizes) {m s : Counts} {l : Layout} → (Accepted i.sheets.main.now) × (Accepted i.sheets.supplementary.now) → Sized i.sheets.main.now m
    → Sized i.sheets.supplementary.now s → SizesOf i z → LaysOut m s z.program z.lists l → LaidOutFor i l
laid i z A M S Z O = O.laid i.sheets.main.now i.sheets.supplementary.now i.program.now i.lists.lists.now A.0 A.1 M S (sym Z.0) (sym Z.1)

-- the statistics of nothing
zeros : {s : ConversionStats} → (s.functions ≡ 0) × ((s.line_rows ≡ 0) × ((s.inline_nodes ≡ 0) × (s.rejected_ranges ≡ 0)))
    → s ≡ record { functions = 0; line_rows = 0; inline_nodes = 0; rejected_ranges = 0 }
zeros e = λ i. record { functions = e.0 i; line_rows = e.1.0 i; inline_nodes = e.1.1.0 i; rejected_ranges = e.1.1.1 i }

pub lay_out-layout-requires : goal.lay_out-layout-requires
lay_out-layout-requires c = (total-small c.requires.accepted.0 c.requires.sized, total-small c.requires.accepted.1 c.counts_of.ensures)

pub new-table-requires-clause-files_few : goal.new-table-requires-clause-files_few
new-table-requires-clause-files_few c = let L = laid c.args.inputs c.args.sizes c.requires.accepted c.requires.sized c.counts_of.ensures c.requires.sizes_are c.lay_out-layout.ensures in L.few

pub new-table-requires-clause-room_small : goal.new-table-requires-clause-room_small
new-table-requires-clause-room_small c = let L = laid c.args.inputs c.args.sizes c.requires.accepted c.requires.sized c.counts_of.ensures c.requires.sizes_are c.lay_out-layout.ensures in L.small

pub new-table-requires-clause-table_within : goal.new-table-requires-clause-table_within
new-table-requires-clause-table_within c = let L = laid c.args.inputs c.args.sizes c.requires.accepted c.requires.sized c.counts_of.ensures c.requires.sizes_are c.lay_out-layout.ensures in
    files-room c.requires.accepted.0 c.requires.accepted.1 c.requires.work_enough (most-least _ _ _) L

pub index_inputs-indexes-requires-clause-laid_out : goal.index_inputs-indexes-requires-clause-laid_out
index_inputs-indexes-requires-clause-laid_out c = laid c.args.inputs c.args.sizes c.requires.accepted c.requires.sized c.counts_of.ensures c.requires.sizes_are c.lay_out-layout.ensures

pub import_each-requires-clause-all : goal.import_each-requires-clause-all
import_each-requires-clause-all c = rw (c.index_inputs-indexes.auto.work ∙ c.new-table.auto.work)
    (each-enough c.args.inputs.program.now c.args.inputs.lists.lists.now (c.chosen_units-chosen.ensures.is _ (units-many c.index_inputs-indexes.ensures.tables)) c.requires.work_enough)

pub import_each-requires-clause-ready : goal.import_each-requires-clause-ready
import_each-requires-clause-ready c = let L = laid c.args.inputs c.args.sizes c.requires.accepted c.requires.sized c.counts_of.ensures c.requires.sizes_are c.lay_out-layout.ensures in
    rw c.index_inputs-indexes.ensures.layout-is (ready-first L c.new-table.ensures c.index_inputs-indexes.ensures c.index_inputs-indexes.auto.work (zeros c.default.ensures) _)

pub returns-in_err-state-clause-is : goal.returns-in_err-state-clause-is
returns-in_err-state-clause-is c = let L = laid c.args.inputs c.args.sizes c.requires.accepted c.requires.sized c.counts_of.ensures c.requires.sizes_are c.lay_out-layout.ensures in
    rw (handed _ _ c.from_residual.ensures.1)
    (units-refused L c.new-table.ensures c.index_inputs-indexes.ensures c.index_inputs-indexes.auto.work (zeros c.default.ensures) _ c.chosen_units-chosen.ensures
    (units-many c.index_inputs-indexes.ensures.tables) c.args.inputs.lists.addresses.now c.args.options.inlines c.args.options.call_sites c.in_err-state.ensures.is)

pub returns-clause-is : goal.returns-clause-is
returns-clause-is c = let L = laid c.args.inputs c.args.sizes c.requires.accepted c.requires.sized c.counts_of.ensures c.requires.sizes_are c.lay_out-layout.ensures in
    writes-units L c.new-table.ensures c.index_inputs-indexes.ensures c.index_inputs-indexes.auto.work (zeros c.default.ensures) _ c.chosen_units-chosen.ensures
    (units-many c.index_inputs-indexes.ensures.tables) c.args.inputs.lists.addresses.now c.args.options.inlines c.args.options.call_sites c.from.ensures c.in_ok-state.ensures.is
