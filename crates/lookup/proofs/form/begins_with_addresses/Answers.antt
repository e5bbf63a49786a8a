-- `form::begins_with_addresses` meets its contract.
use Rattle.lookup.proofs.CheckLaws.{range-filled}
use Rattle.lookup.proofs.form.begins_with_addresses.Goals as goal

pub returns : goal.returns
returns c = range-filled c.args.payload.now c.read.ensures.of_rest c.is_empty.ensures
