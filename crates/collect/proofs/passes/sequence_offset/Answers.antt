-- `passes::sequence_offset` meets its contract.
use Rattle.collect.proofs.SequencesList.{offset-known, offset-unknown}
use Rattle.collect.proofs.passes.sequence_offset.Goals as goal

pub returns : goal.returns
returns c = search offset-unknown

pub returns-then-sequence-offsets : goal.returns-then-sequence-offsets
returns-then-sequence-offsets c = search offset-known
