-- `attributes::attribute_at` meets its contract.
use native.Mathlib.Omega.{arith}
use Rattle.references.proofs.ReferenceLaws.{entry_next, entry-inside, attribute-says}
use Rattle.references.proofs.attributes.attribute_at.Goals as goal

pub overflow_add-entry : goal.overflow_add-entry
overflow_add-entry c = omega (arith, entry-inside c.requires.placed c.requires.entry_known)

pub attribute-requires : goal.attribute-requires
attribute-requires c = search entry_next

pub returns : goal.returns
returns c = attribute-says c.requires.placed c.requires.entry_known _ _ c.attribute.ensures
