-- The functions of this cycle meet their contracts.
use borrow.Author.Rules.{rules}
use mathlib.Core.Path.{refl, ap}
use native.Mathlib.Omega.{arith}
use Rattle.std.specs.Prelude.{Ok}
use Rattle.tlv.proofs.AnswerLaws.{numbered, handed}
use Rattle.references.proofs.KeyLaws.{keys-inside}
use Rattle.references.proofs.FollowLaws.{placed_at}
use Rattle.references.proofs.GivesLaws.{offset-room, offset-search, absolute-seen, absolute-no-entry, absolute-stands, absolute-outside, absolute-at}
use Rattle.references.proofs.NameLaws.{refused-answer, named_answer, no-name, entry-room, entry-stands, entry-deeper, entry-search, from-entry, from-offset, inner_deep, inner-named, inner_goes, from_nothing, from-refused, turn-ends, turn-goes, last-turn}
use Rattle.references.proofs.names.+referred_name_resolve_absolute_name_resolve_name_inner.Goals as goal

pub resolve_absolute_name-is_visited-requires : goal.resolve_absolute_name-is_visited-requires
resolve_absolute_name-is_visited-requires t c = keys-inside c.requires.search_in.keys

pub resolve_absolute_name-returns-then-is_visited : goal.resolve_absolute_name-returns-then-is_visited
resolve_absolute_name-returns-then-is_visited t c = absolute-seen _ c.requires.search_in c.requires.aims c.is_visited.ensures c.args.trail.now.few refl c.if-is_visited.true

pub resolve_absolute_name-returns-in_err-found : goal.resolve_absolute_name-returns-in_err-found
resolve_absolute_name-returns-in_err-found t c = rw (handed _ _ c.from_residual.ensures.1) (absolute-no-entry _ c.requires.search_in c.requires.aims c.is_visited.ensures c.if-is_visited.false c.of.ensures c.in_err-found.ensures _ refl c.args.trail.now.few)

pub resolve_absolute_name-push_key-requires : goal.resolve_absolute_name-push_key-requires
resolve_absolute_name-push_key-requires t c = offset-room c.requires.search_in c.requires.aims c.is_visited.ensures c.if-is_visited.false

pub resolve_absolute_name-with_target-requires : goal.resolve_absolute_name-with_target-requires
resolve_absolute_name-with_target-requires t c = let room = offset-room c.requires.search_in c.requires.aims c.is_visited.ensures c.if-is_visited.false in
    omega arith

pub resolve_absolute_name-with_entry-requires : goal.resolve_absolute_name-with_entry-requires
resolve_absolute_name-with_entry-requires t c = let room = offset-room c.requires.search_in c.requires.aims c.is_visited.ensures c.if-is_visited.false in
    omega arith

pub resolve_absolute_name-resolve_name_inner-requires : goal.resolve_absolute_name-resolve_name_inner-requires
resolve_absolute_name-resolve_name_inner-requires t c = (
  rw c.to_entry-next.ensures (omega arith),
  (
    rw c.with_entry.ensures.one_followed (offset-search c.requires.search_in c.requires.aims c.is_visited.ensures c.if-is_visited.false c.push_key.ensures (search rules)),
    rw c.to_entry-next.ensures (absolute-stands c.args.at.now.left c.requires.search_in c.requires.aims c.is_visited.ensures c.if-is_visited.false c.of.ensures c.in_ok-found.ensures _ (ap Ok c.in-Some.is)),
  ),
)

pub resolve_absolute_name-returns-in_default : goal.resolve_absolute_name-returns-in_default
resolve_absolute_name-returns-in_default t c =
    rw (c.with_target.ensures.one_followed, c.with_target.ensures.none_read)
    (absolute-outside _ c.requires.search_in c.requires.aims c.is_visited.ensures c.if-is_visited.false c.of.ensures c.in_ok-found.ensures c.push_key.ensures (ap Ok c.in_default.is) (search rules) c.args.trail.now.few refl)

pub resolve_absolute_name-returns : goal.resolve_absolute_name-returns
resolve_absolute_name-returns t c =
    absolute-at _ c.requires.search_in c.requires.aims c.is_visited.ensures c.if-is_visited.false c.of.ensures c.in_ok-found.ensures c.push_key.ensures _ (ap Ok c.in-Some.is)
    (rw (c.with_entry.ensures.one_followed, c.with_entry.ensures.one_read, c.to_entry-next.ensures) at c.resolve_name_inner.ensures)

pub resolve_name_inner-returns-then-at-eq0 : goal.resolve_name_inner-returns-then-at-eq0
resolve_name_inner-returns-then-at-eq0 t c = inner_deep c.requires.search_in c.args.trail.now.few c.requires.stands c.if-at-eq0.true refl

pub resolve_name_inner-own_name-requires-clause-placed : goal.resolve_name_inner-own_name-requires-clause-placed
resolve_name_inner-own_name-requires-clause-placed t c = placed_at c.requires.search_in c.args.at.now.input c.of.ensures

pub resolve_name_inner-returns-in_err-own : goal.resolve_name_inner-returns-in_err-own
resolve_name_inner-returns-in_err-own t c = rw (handed _ _ c.from_residual.ensures.1) (inner-named c.requires.search_in c.args.trail.now.few c.requires.stands c.if-at-eq0.false c.of.ensures c.in_err-own.ensures (refused-answer _ _ (numbered _)) refl)

pub referred_name-returns-in_err-way_of : goal.referred_name-returns-in_err-way_of
referred_name-returns-in_err-way_of t c = rw (handed _ _ c.from_residual.ensures.1) (from-refused _ _ c.requires.search_in _ _ c.in_err-way_of.ensures c.args.trail.now.few)

pub referred_name-push_key-requires : goal.referred_name-push_key-requires
referred_name-push_key-requires t c = entry-room _ _ c.requires.search_in c.in_ok-way_of.ensures _ _ (rw c.in-Some-Entry.field-0-is at c.in-Some-Entry.is)

pub referred_name-with_entry-requires : goal.referred_name-with_entry-requires
referred_name-with_entry-requires t c = let room = entry-room _ _ c.requires.search_in c.in_ok-way_of.ensures _ _ (rw c.in-Some-Entry.field-0-is at c.in-Some-Entry.is) in
    omega arith

pub referred_name-resolve_name_inner-requires : goal.referred_name-resolve_name_inner-requires
referred_name-resolve_name_inner-requires t c = let deeper = entry-deeper _ _ c.requires.search_in c.in_ok-way_of.ensures _ _ (rw c.in-Some-Entry.field-0-is at c.in-Some-Entry.is) in (
  omega arith,
  (
    rw c.with_entry.ensures.one_followed (entry-search _ _ c.requires.search_in c.in_ok-way_of.ensures _ _ (rw c.in-Some-Entry.field-0-is at c.in-Some-Entry.is) c.push_key.ensures (search rules)),
    entry-stands _ _ c.requires.search_in c.in_ok-way_of.ensures _ _ (rw c.in-Some-Entry.field-0-is at c.in-Some-Entry.is),
  ),
)

pub referred_name-returns-in-None : goal.referred_name-returns-in-None
referred_name-returns-in-None t c = from_nothing _ _ c.requires.search_in c.in_ok-way_of.ensures _ c.in-None.is c.args.trail.now.few refl

pub referred_name-returns-in-Some-Entry : goal.referred_name-returns-in-Some-Entry
referred_name-returns-in-Some-Entry t c = from-entry _ _ c.requires.search_in c.in_ok-way_of.ensures _ _ (rw c.in-Some-Entry.field-0-is at c.in-Some-Entry.is) c.push_key.ensures
    (rw (c.with_entry.ensures.one_followed, c.with_entry.ensures.one_read) at c.resolve_name_inner.ensures)

pub referred_name-returns-in-Some-Offset : goal.referred_name-returns-in-Some-Offset
referred_name-returns-in-Some-Offset t c = from-offset _ _ c.requires.search_in c.in_ok-way_of.ensures _ (rw c.in-Some-Offset.field-0-is at c.in-Some-Offset.is) c.resolve_absolute_name.ensures

pub resolve_name_inner-returns-then-not-is_empty : goal.resolve_name_inner-returns-then-not-is_empty
resolve_name_inner-returns-then-not-is_empty t c = inner-named c.requires.search_in c.args.trail.now.few c.requires.stands c.if-at-eq0.false c.of.ensures c.in_ok-own.ensures (named_answer _ c.is_empty.ensures c.if-not-is_empty.true) refl

pub resolve_name_inner-returns-in_err-origin : goal.resolve_name_inner-returns-in_err-origin
resolve_name_inner-returns-in_err-origin t c = rw (handed _ _ c.from_residual-in_err-origin.ensures.1)
    (turn-ends (inner_goes c.requires.search_in c.args.trail.now.few c.requires.stands c.if-at-eq0.false c.of.ensures c.in_ok-own.ensures (no-name _ c.is_empty.ensures c.if-not-is_empty.false) refl)
    c.in_err-origin.ensures (refused-answer _ _ (numbered _)) refl)

pub resolve_name_inner-returns-then-not-is_empty-2 : goal.resolve_name_inner-returns-then-not-is_empty-2
resolve_name_inner-returns-then-not-is_empty-2 t c =
    turn-ends (inner_goes c.requires.search_in c.args.trail.now.few c.requires.stands c.if-at-eq0.false c.of.ensures c.in_ok-own.ensures (no-name _ c.is_empty.ensures c.if-not-is_empty.false) refl)
    c.in_ok-origin.ensures (named_answer _ c.is_empty-2.ensures c.if-not-is_empty-2.true) refl

pub resolve_name_inner-referred_name-requires-2 : goal.resolve_name_inner-referred_name-requires-2
resolve_name_inner-referred_name-requires-2 t c = (omega (arith, c.if-at-eq0.false), (c.in_ok-origin.ensures.ready, c.requires.stands))

pub resolve_name_inner-returns : goal.resolve_name_inner-returns
resolve_name_inner-returns t c =
    last-turn (turn-goes (inner_goes c.requires.search_in c.args.trail.now.few c.requires.stands c.if-at-eq0.false c.of.ensures c.in_ok-own.ensures (no-name _ c.is_empty.ensures c.if-not-is_empty.false) refl)
    c.in_ok-origin.ensures (no-name _ c.is_empty-2.ensures c.if-not-is_empty-2.false) refl c.referred_name.auto.work)
    c.referred_name-2.ensures c.referred_name-2.auto.work
