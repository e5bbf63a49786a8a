-- `entries::read_entry` meets its contract.
use Rattle.std.proofs.Common.{refl, arith}
use Rattle.rnglists.proofs.entries.ReadLaws.{entry-none, entry-of-kind}
use Rattle.rnglists.proofs.entries.read_entry.Goals as goal

pub returns-then-lists-at : goal.returns-then-lists-at
returns-then-lists-at c = search entry-none

pub returns : goal.returns
returns c = entry-of-kind (omega arith) refl c.read_kind.ensures
