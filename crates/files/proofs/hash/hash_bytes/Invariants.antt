-- `hash::hash_bytes` meets its contract. The loop's invariant: the bytes that are left, from the hash so far, give the hash.
use Rattle.files.proofs.hash.HashLaws.{Hashing}
use Rattle.files.proofs.hash.hash_bytes.Given as goal

abbrev pub invariant-loop-b : goal.invariant-loop-b
invariant-loop-b l = Hashing l.s l.h l.r l.b-index
