-- `AddressTable::at` meets its contract.
use Rattle.std.proofs.Common.{arith}
use Rattle.rnglists.proofs.lists.MeaningLaws.{address-none, index-past, index-found}
use Rattle.rnglists.proofs.lists.AddressTable.at.Goals as goal

pub returns-then-len-self : goal.returns-then-len-self
returns-then-len-self c = address-none c.args.self.size (omega arith)

pub returns-then-room-width : goal.returns-then-room-width
returns-then-room-width c = index-past c.args.self.size (rw c.width-width.ensures at c.if-room-width.true)

pub returns : goal.returns
returns c = index-found c.args.self.size (rw c.width-width.ensures at c.if-room-width.false) (rw c.width-width.ensures at c.read.ensures)
