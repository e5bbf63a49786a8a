-- `ways::unit_way` meets its contract.
use Rattle.tlv.proofs.AnswerLaws.{handed}
use Rattle.references.proofs.KeyLaws.{keys-inside}
use Rattle.tlv.proofs.AnswerLaws.{ok-some, err-none}
use Rattle.references.proofs.FollowLaws.{placed_at}
use Rattle.references.proofs.WayLaws.{way-listed, way_sum, way_overflow, way_seen, way_no-entry, way-entry}
use Rattle.references.proofs.ways.unit_way.Goals as goal

pub absolute_entry_offset-requires-clause-placed : goal.absolute_entry_offset-requires-clause-placed
absolute_entry_offset-requires-clause-placed c = placed_at c.requires.search_in c.args.at.now.input c.of-s.ensures

pub absolute_entry_offset-requires-clause-listed : goal.absolute_entry_offset-requires-clause-listed
absolute_entry_offset-requires-clause-listed c = way-listed c.args.offset c.requires.search_in c.requires.stands c.of-s.ensures

pub returns-in_err-target : goal.returns-in_err-target
returns-in_err-target c = rw (handed _ _ c.from_residual.ensures.1) (way_overflow c.args.offset c.requires.search_in c.requires.stands c.of-s.ensures _ c.in_err-target.ensures)

pub is_visited-requires : goal.is_visited-requires
is_visited-requires c = keys-inside c.requires.search_in.keys

pub returns-then-is_visited : goal.returns-then-is_visited
returns-then-is_visited c = way_seen c.args.offset c.requires.search_in c.requires.stands c.of-s.ensures c.in_ok-target.ensures _ c.is_visited.ensures c.if-is_visited.true

pub target_in-requires-clause-unit_listed : goal.target_in-requires-clause-unit_listed
target_in-requires-clause-unit_listed c = way-listed c.args.offset c.requires.search_in c.requires.stands c.of-s.ensures

pub target_in-requires-clause-offset_sum : goal.target_in-requires-clause-offset_sum
target_in-requires-clause-offset_sum c = way_sum c.args.offset c.requires.search_in c.requires.stands c.of-s.ensures c.in_ok-target.ensures

pub returns-in_err-place : goal.returns-in_err-place
returns-in_err-place c =
    let none = err-none _ c.in_err-place.ensures.value in
    rw (handed _ _ c.from_residual-in_err-place.ensures.1, none.1)
    (way_no-entry c.args.offset c.requires.search_in c.requires.stands c.of-s.ensures c.in_ok-target.ensures _ c.is_visited.ensures c.if-is_visited.false (rw none.0 at c.target_in.ensures))

pub returns : goal.returns
returns c = rw c.saturating_sub.ensures (way-entry c.args.offset c.requires.search_in c.requires.stands c.of-s.ensures c.in_ok-target.ensures _ c.is_visited.ensures c.if-is_visited.false (rw (ok-some _ _ c.in_ok-place.ensures.value) at c.target_in.ensures) c.requires.possible_key)
