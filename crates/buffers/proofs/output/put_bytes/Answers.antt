-- `put_bytes` meets its contract: all at once where they fit, else byte by byte.
use mathlib.Core.Path.{refl}
use native.Mathlib.Omega.{arith}
use Rattle.buffers.proofs.BufferLaws.{put-out}
use Rattle.buffers.proofs.output.put_bytes.Goals as goal

pub returns-then-buffer-at : goal.returns-then-buffer-at
returns-then-buffer-at c = put-out (omega arith) (omega arith) refl c.advance.ensures
