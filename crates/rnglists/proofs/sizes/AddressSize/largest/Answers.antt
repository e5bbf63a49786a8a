-- `sizes::AddressSize::largest` meets its contract.
use Rattle.rnglists.specs.RangeLists.{largest}
use Rattle.rnglists.proofs.sizes.AddressSize.largest.Goals as goal

pub returns-in-Four : goal.returns-in-Four
unfolding largest
returns-in-Four c = rw c.in-Four.is c.from.ensures

pub returns-in-Eight : goal.returns-in-Eight
unfolding largest
returns-in-Eight c = rw c.in-Eight.is
