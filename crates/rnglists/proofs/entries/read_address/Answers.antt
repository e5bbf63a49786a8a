-- `entries::read_address` meets its contract.
use Rattle.std.proofs.Common.{arith}
use Rattle.rnglists.proofs.entries.ReadLaws.{address-cut, address_is}
use Rattle.rnglists.proofs.entries.read_address.Goals as goal

pub returns-then-lists-at : goal.returns-then-lists-at
returns-then-lists-at c = address-cut (omega arith)

pub returns : goal.returns
returns c = rw c.width-width.ensures (address_is c.requires (omega arith) c.read.ensures)
