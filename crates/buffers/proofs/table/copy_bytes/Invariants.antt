-- `table::copy_bytes` meets its contract. The loop copies byte by byte.
use Rattle.buffers.proofs.TableLaws.{Copying}
use Rattle.buffers.proofs.table.copy_bytes.Given as goal

abbrev pub invariant-loop-i : goal.invariant-loop-i
invariant-loop-i l = Copying l.initial.w l.w l.from l.to l.size l.i
