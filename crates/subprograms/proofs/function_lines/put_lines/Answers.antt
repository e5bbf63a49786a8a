-- `function_lines::put_lines` meets its contract. The loop's invariant: who lays the rows from here on has laid all.
use native.Mathlib.Omega.{arith}
use Rattle.buffers.proofs.BufferLaws.{left-put, left-done}
use Rattle.subprograms.proofs.function_lines.FunctionLineLaws.{lines-laid, lines-lay}
use Rattle.subprograms.proofs.function_lines.put_lines.Goals as goal

pub loop-i-preserved : goal.loop-i-preserved
loop-i-preserved c = (omega arith, search (left-put, lines-lay))

pub returns : goal.returns
returns c = search (left-done, lines-laid)
