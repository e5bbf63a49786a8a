-- `attributes::reference_at` meets its contract.
use Rattle.references.proofs.ReferenceLaws.{reference-read}
use Rattle.references.proofs.attributes.reference_at.Goals as goal

pub returns : goal.returns
returns c = search reference-read
