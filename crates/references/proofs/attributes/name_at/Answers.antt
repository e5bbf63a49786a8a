-- `attributes::name_at` meets its contract.
use borrow.Author.Rules.{rules}
use mathlib.Core.Path.{refl}
use Rattle.references.proofs.ReferenceLaws.{name-absent, name-text, name-refused}
use Rattle.references.proofs.attributes.name_at.Goals as goal

pub returns-in_default : goal.returns-in_default
returns-in_default c = name-absent _ _ c.attribute_at.ensures c.in_default.is

pub returns-in_default-value : goal.returns-in_default-value
returns-in_default-value c = name-refused _ _ c.attribute_at.ensures c.in-Some.is (search rules)

pub returns-in-Text : goal.returns-in-Text
returns-in-Text c = name-text _ _ c.attribute_at.ensures c.in-Some.is c.in-Text.is refl
