-- `ways::way_of` meets its contract.
use Rattle.references.proofs.FollowLaws.{placed_at, possible-unit}
use Rattle.references.proofs.WayLaws.{reference-is, way-missing, way_unit, way_section, way_no-units, way-inside, way-supplementary}
use Rattle.references.proofs.ways.way_of.Goals.{then-eq-via-then-eq, then-eq-via-else-eq+then-x-eq0}
use Rattle.references.proofs.ways.way_of.Goals as goal

pub reference_at-requires-clause-placed : goal.reference_at-requires-clause-placed
reference_at-requires-clause-placed c = placed_at c.requires.search_in c.args.at.now.input c.of.ensures

pub unit_way-requires-clause-possible_key : goal.unit_way-requires-clause-possible_key
unit_way-requires-clause-possible_key c = possible-unit c.requires.search_in _ c.requires.stands (reference-is _ c.requires.search_in c.requires.stands c.of.ensures c.reference_at.ensures (rw c.in-Some-Unit.field-0-is at c.in-Some-Unit.is))

pub returns-in-None : goal.returns-in-None
returns-in-None c = way-missing _ c.requires.search_in c.requires.stands c.of.ensures c.reference_at.ensures c.in-None.is

pub returns-in-Some-Unit : goal.returns-in-Some-Unit
returns-in-Some-Unit c = way_unit _ c.requires.search_in c.requires.stands c.of.ensures c.reference_at.ensures _ (rw c.in-Some-Unit.field-0-is at c.in-Some-Unit.is) c.unit_way.ensures

pub returns-in-Some-Section : goal.returns-in-Some-Section
returns-in-Some-Section c = rw c.saturating_sub-left.ensures (way_section _ c.requires.search_in c.requires.stands c.of.ensures c.reference_at.ensures _ (rw c.in-Some-Section.field-0-is at c.in-Some-Section.is))

pub returns-then-eq : goal.returns-then-eq
returns-then-eq c =
    let to = rw c.in-Some-Supplementary.field-0-is at c.in-Some-Supplementary.is in
    elim c.then-eq.branch [
      | then-eq-via-then-eq w ↦ way-inside _ c.requires.search_in c.requires.stands c.of.ensures c.reference_at.ensures _ to w.if-eq.true c.eq.ensures
      | then-eq-via-else-eq+then-x-eq0 w ↦ way_no-units _ c.requires.search_in c.requires.stands c.of.ensures c.reference_at.ensures _ to w.if-x-eq0.true
    ]

pub returns-else-x-eq0 : goal.returns-else-x-eq0
returns-else-x-eq0 c =
    rw c.saturating_sub-left.ensures (way-supplementary _ c.requires.search_in c.requires.stands c.of.ensures c.reference_at.ensures _ (rw c.in-Some-Supplementary.field-0-is at c.in-Some-Supplementary.is)
    c.if-eq.false c.eq.ensures c.if-x-eq0.false)
