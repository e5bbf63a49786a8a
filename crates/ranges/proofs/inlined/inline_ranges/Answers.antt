-- `inlined::inline_ranges` meets its contract.
use Rattle.ranges.proofs.InlinedLaws.{inline-missing, list-within, list-word, inline-list}
use Rattle.ranges.proofs.inlined.inline_ranges.Goals as goal

pub read-list-requires-clause-in_bounds : goal.read-list-requires-clause-in_bounds
read-list-requires-clause-in_bounds c = list-within c.in-Some.ensures c.requires.placed

pub read-list-requires-clause-size_known : goal.read-list-requires-clause-size_known
read-list-requires-clause-size_known c = list-word c.in-Some.ensures c.requires.placed

pub returns : goal.returns
returns c = inline-list c.in-Some.ensures c.requires.placed _ _ c.read-list.ensures c.list_ranges.ensures

pub returns-in_default : goal.returns-in_default
returns-in_default c = inline-missing _ _ c.in_default.ensures c.field_ranges.ensures
