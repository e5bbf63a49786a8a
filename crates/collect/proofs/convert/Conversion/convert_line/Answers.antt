-- `convert::Conversion::convert_line` meets its contract.
use native.Mathlib.Omega.{arith}
use Rattle.collect.proofs.LineLaws.{line-put, line-warned}
use Rattle.collect.proofs.convert.Conversion.convert_line.Goals as goal

pub returns-then-append_line : goal.returns-then-append_line
returns-then-append_line c = line-put (rw c.if-append_line.true at c.append_line.ensures) (omega arith) (omega arith)

pub returns : goal.returns
returns c = line-warned (rw c.if-append_line.false at c.append_line.ensures) (rw c.number.ensures at c.put_warning.ensures)
