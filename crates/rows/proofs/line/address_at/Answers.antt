-- `line::address_at` meets its contract.
use Rattle.rows.proofs.StoredLaws.{got-address}
use Rattle.rows.proofs.line.address_at.Goals as goal

pub returns : goal.returns
returns c = search got-address
