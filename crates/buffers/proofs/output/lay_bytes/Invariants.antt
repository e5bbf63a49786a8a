-- `lay_bytes` meets its contract. The loop's invariant: the bytes so far are put.
use Prim.Native.Nat.{◌+◌}
use lib.ListN.{take}
use Rattle.buffers.specs.Buffer.{Put}
use Rattle.buffers.proofs.output.lay_bytes.Given as goal

abbrev pub invariant-loop-i : goal.invariant-loop-i
invariant-loop-i l = Put l.at (take l.i l.bs) l.initial.buffer l.buffer (l.at + l.i)
