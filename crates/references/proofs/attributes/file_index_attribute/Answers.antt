-- `attributes::file_index_attribute` meets its contract.
use Rattle.references.proofs.NumberLaws.{file-read}
use Rattle.references.proofs.attributes.file_index_attribute.Goals as goal

pub returns : goal.returns
returns c = search file-read
