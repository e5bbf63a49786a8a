-- `table::copy_words` meets its contract. The loop copies word by word.
use Prim.Native.Nat.{◌*◌}
use Rattle.buffers.proofs.TableLaws.{Copying}
use Rattle.buffers.proofs.table.copy_words.Given as goal

abbrev pub invariant-loop-i : goal.invariant-loop-i
invariant-loop-i l = Copying l.initial.w l.w l.from l.to l.size (l.i * 8)
