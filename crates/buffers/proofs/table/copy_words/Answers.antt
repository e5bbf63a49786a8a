-- `table::copy_words` meets its contract. The loop copies word by word, the first first.
use mathlib.Core.Path.{◌≡◌}
use Prim.Native.Nat.{◌+◌, ◌*◌}
use native.Mathlib.Omega.{arith}
use Rattle.buffers.proofs.TableLaws.{copying-start, copying_more}
use Rattle.buffers.proofs.table.copy_words.Goals as goal

pub loop-i-init : goal.loop-i-init
loop-i-init c = copying-start _ _ _ _ (omega arith) (omega arith)

pub loop-i-preserved : goal.loop-i-preserved
loop-i-preserved c = let e : c.loop-i.i * 8 + 8 ≡ (c.loop-i.i + 1) * 8 = omega arith in
    rw e at (copying_more c.loop-i.invariant c.requires.from_in_bounds c.requires.target_in_bounds c.requires.apart_or_below (omega arith) c.copy_word.ensures)
