-- `unit::import_at` meets its contract: its lines are collected, its context is made, its subprograms are imported.
use mathlib.Core.List.{List}
use mathlib.Core.Path.{◌≡◌}
use Prim.Native.Nat.{ℕ}
use lib.ListN.{length}
use Rattle.tlv.proofs.AnswerLaws.{handed}
use Rattle.tlv.proofs.PlaceFacts.{placed-start}
use Rattle.access.specs.Places.{unit_here}
use Rattle.collect.specs.Collects.{UnitIn}
use Rattle.collect.proofs.HeaderPlaces.{unit-stands}
use Rattle.subprograms.proofs.ContextLaws.{unit-of}
use Rattle.checks.specs.declared.layout.Layout.{Layout}
use Rattle.checks.specs.declared.layout.UnitLayout.{UnitLayout}
use Rattle.checks.specs.Checks.{is_encoded, UnitEnough}
use Rattle.checks.specs.Layout.{UnitLaid, unit_layout}
use Rattle.checks.proofs.LayoutLaws.{unit-laid}
use Rattle.dwarf.specs.declared.tables.Indexes.{Indexes}
use Rattle.dwarf.specs.Tables.{TablesIn}
use Rattle.dwarf.proofs.TablesLaws.{accepted-main, accepted-supplementary, tables-kept}
use Rattle.dwarf.proofs.unit.UnitStepLaws.{part-short, lines-room, collected-low, lines-laid, context-holds, unit-grows, unit-refused}
use Rattle.dwarf.proofs.unit.import_at.Goals as goal

-- the unit's parts stand where they are laid out
laid : {main supplementary program lists w : List ℕ} {l : Layout} {x : Indexes} {place : ℕ} {p : UnitLayout} → TablesIn main supplementary program lists w l x → UnitIn main place
    → UnitEnough main supplementary program lists (length w) (unit_here main place) → p ≡ unit_layout l (is_encoded (unit_here main place)) (unit_here main place).lists
    → UnitLaid main supplementary program (length w) l place p
laid {place = place} T U E e = unit-laid T.laid (accepted-main T) (accepted-supplementary T) place (unit-of U) E e

pub place_unit-parts-requires-clause-unit_placed : goal.place_unit-parts-requires-clause-unit_placed
place_unit-parts-requires-clause-unit_placed c = let A = accepted-main c.requires.tables_in in unit-stands (placed-start _ A.number A.is) c.requires.unit_in

pub place_unit-parts-requires-clause-unit_of : goal.place_unit-parts-requires-clause-unit_of
place_unit-parts-requires-clause-unit_of c = (unit-of c.requires.unit_in, c.requires.tables_in.laid.tags)

pub collect_lines-requires-clause-placed : goal.collect_lines-requires-clause-placed
collect_lines-requires-clause-placed c = let A = accepted-main c.requires.tables_in in placed-start _ A.number A.is

pub collect_lines-requires-clause-lines_room : goal.collect_lines-requires-clause-lines_room
collect_lines-requires-clause-lines_room c = lines-room c.requires.unit_in (laid c.requires.tables_in c.requires.unit_in c.requires.unit_enough c.place_unit-parts.ensures) c.requires.tables_in c.requires.ready _ (part-short _ _ _ c.program_part.ensures)

pub returns-in_err-collected-clause-is : goal.returns-in_err-collected-clause-is
returns-in_err-collected-clause-is c = rw (handed _ _ c.from_residual.ensures.1)
    (unit-refused c.requires.unit_in (laid c.requires.tables_in c.requires.unit_in c.requires.unit_enough c.place_unit-parts.ensures) c.requires.tables_in c.requires.ready _ (part-short _ _ _ c.program_part.ensures)
    c.in_err-collected.ensures c.program_part.ensures c.args.inputs.lists.addresses.now c.args.options.inlines c.args.options.call_sites)

pub unit_context-context-requires-clause-tables_in : goal.unit_context-context-requires-clause-tables_in
unit_context-context-requires-clause-tables_in c =
    tables-kept c.requires.tables_in (collected-low c.requires.unit_in (laid c.requires.tables_in c.requires.unit_in c.requires.unit_enough c.place_unit-parts.ensures) c.requires.tables_in c.requires.ready _ (part-short _ _ _ c.program_part.ensures) c.in_ok-collected.ensures)
    c.collect_lines.auto.work

pub unit_context-context-requires-clause-unit_laid : goal.unit_context-context-requires-clause-unit_laid
unit_context-context-requires-clause-unit_laid c = rw c.collect_lines.auto.work (laid c.requires.tables_in c.requires.unit_in c.requires.unit_enough c.place_unit-parts.ensures)

pub unit_context-context-requires-clause-lines_laid : goal.unit_context-context-requires-clause-lines_laid
unit_context-context-requires-clause-lines_laid c = lines-laid c.requires.unit_in (laid c.requires.tables_in c.requires.unit_in c.requires.unit_enough c.place_unit-parts.ensures) c.requires.tables_in c.requires.ready _ (part-short _ _ _ c.program_part.ensures) c.in_ok-collected.ensures c.in_ok-collected.ensures.is

pub import_unit_details-requires : goal.import_unit_details-requires
import_unit_details-requires c = record {
  context_in = context-holds c.requires.unit_in (laid c.requires.tables_in c.requires.unit_in c.requires.unit_enough c.place_unit-parts.ensures) c.requires.tables_in c.requires.ready _ (part-short _ _ _ c.program_part.ensures) c.in_ok-collected.ensures c.in_ok-collected.ensures.is c.unit_context-context.ensures;
}

pub returns-clause-is : goal.returns-clause-is
returns-clause-is c =
    unit-grows c.requires.unit_in (laid c.requires.tables_in c.requires.unit_in c.requires.unit_enough c.place_unit-parts.ensures) c.requires.tables_in c.requires.ready _ (part-short _ _ _ c.program_part.ensures) c.in_ok-collected.ensures c.in_ok-collected.ensures.is
    c.unit_context-context.ensures c.program_part.ensures _ c.collect_lines.auto.work c.unit_context-context.auto.work _ c.import_unit_details.ensures.is
