-- `access::attribute` meets its contract. The loop's invariant: the attribute that is looked for is the first of its name from here on.
use Rattle.access.proofs.OrderLaws.{next-placed}
use Rattle.access.proofs.access.AttributeLaws.{absent-end, absent-other, found-shaped, name-within, attribute-found, attribute-passed}
use Rattle.access.proofs.access.attribute.Goals as goal

pub returns-then-field-ne-ATTRIBUTE_TAG : goal.returns-then-field-ne-ATTRIBUTE_TAG
returns-then-field-ne-ATTRIBUTE_TAG c = search (absent-other, c.in-Some.ensures)

pub read-requires : goal.read-requires
read-requires c = search (name-within, c.in-Some.ensures)

pub value_at-requires-clause-shaped : goal.value_at-requires-clause-shaped
value_at-requires-clause-shaped c = search (found-shaped, c.in-Some.ensures)

pub returns-then-read-name : goal.returns-then-read-name
returns-then-read-name c = search (attribute-found, c.in-Some.ensures)

pub loop-field-preserved : goal.loop-field-preserved
loop-field-preserved c = (search (next-placed, c.in-Some.ensures), search (attribute-passed, c.in-Some.ensures))

pub returns : goal.returns
returns c = search (absent-end, c.in_default.ensures)
