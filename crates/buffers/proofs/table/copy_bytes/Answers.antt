-- `table::copy_bytes` meets its contract. The loop copies byte by byte, the first first.
use native.Mathlib.Omega.{arith}
use Rattle.buffers.proofs.TableLaws.{copying-start, copying_byte}
use Rattle.buffers.proofs.table.copy_bytes.Goals as goal

pub loop-i-init : goal.loop-i-init
loop-i-init c = copying-start _ _ _ _ (omega arith) (omega arith)

pub loop-i-preserved : goal.loop-i-preserved
loop-i-preserved c = search copying_byte
