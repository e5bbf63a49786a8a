-- `put_each` meets its contract. The loop's invariant: the bytes so far are put.
use lib.ListN.{take}
use Rattle.buffers.specs.Buffer.{Put}
use Rattle.buffers.proofs.output.put_each.Given as goal

abbrev pub invariant-loop-b : goal.invariant-loop-b
invariant-loop-b l = Put l.at (take l.b-index l.bs) l.initial.buffer l.buffer l.p
