-- `hash::hash_bytes` meets its contract. The loop's invariant: the bytes that are left, from the hash so far, give the hash.
use Rattle.files.proofs.hash.HashLaws.{hash-step, hash-done}
use Rattle.files.proofs.hash.hash_bytes.Goals as goal

pub loop-b-preserved : goal.loop-b-preserved
loop-b-preserved c = hash-step c.loop-b.invariant c.loop-b-test.true

pub returns : goal.returns
returns c = hash-done c.loop-b.invariant c.loop-b-test.false
