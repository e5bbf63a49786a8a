-- `attributes::unsigned_attribute` meets its contract.
use Rattle.references.proofs.NumberLaws.{line_read}
use Rattle.references.proofs.attributes.unsigned_attribute.Goals as goal

pub returns : goal.returns
returns c = search line_read
