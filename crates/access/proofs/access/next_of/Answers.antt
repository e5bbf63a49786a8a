-- `access::next_of` meets its contract. The loop's invariant: the payloads of the tag from here on are those from p on.
use Rattle.access.proofs.OwnLaws.{own-end, own-over, own-found, own_row, own-next}
use Rattle.access.proofs.access.next_of.Goals as goal

pub returns-then-field-eq-ENTRY_TAG : goal.returns-then-field-eq-ENTRY_TAG
returns-then-field-eq-ENTRY_TAG c = search (own-over, c.in-Some.ensures)

pub returns-then-field-tag : goal.returns-then-field-tag
returns-then-field-tag c = search (own-found, c.in-Some.ensures)

pub returns-then-field-eq-ROW_TAG : goal.returns-then-field-eq-ROW_TAG
returns-then-field-eq-ROW_TAG c = search (own_row, c.in-Some.ensures, c.requires)

pub loop-field-preserved : goal.loop-field-preserved
loop-field-preserved c = search (own-next, c.in-Some.ensures)

pub returns : goal.returns
returns c = search (own-end, c.in_default.ensures)
