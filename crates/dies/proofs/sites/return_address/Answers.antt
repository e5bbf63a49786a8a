-- `sites::return_address` meets its contract.
use Rattle.tlv.proofs.PlaceFacts.{slice-bytes}
use Rattle.dies.proofs.AttributeReads.{accepted-placed, address_read}
use Rattle.dies.proofs.sites.return_address.Goals as goal

pub attribute_at-requires-clause-placed : goal.attribute_at-requires-clause-placed
attribute_at-requires-clause-placed c = accepted-placed c.requires.accepted c.requires.entry_known

pub returns : goal.returns
returns c = address_read c.requires.accepted c.requires.entry_known (slice-bytes c.args.main.now c.type_inv.main) c.attribute_at.ensures c.address_in.ensures
