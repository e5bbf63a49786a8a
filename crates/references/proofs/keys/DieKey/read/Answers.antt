-- `keys::DieKey::read` meets its contract.
use Rattle.references.proofs.VisitedLaws.{key-read}
use Rattle.references.proofs.keys.DieKey.read.Goals as goal

pub returns : goal.returns
returns c = key-read c.args.work.now c.args.p c.read.ensures c.from.ensures c.read-2.ensures
