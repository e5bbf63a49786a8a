-- `convert::Conversion::convert_row` meets its contract.
use native.Mathlib.Omega.{arith}
use Rattle.collect.proofs.ConvertLaws.{row-known}
use Rattle.collect.proofs.convert.Conversion.convert_row.Goals as goal

pub returns : goal.returns
returns c = row-known c.requires.conversion_in c.args.row c.requires.line_fits (omega arith) c.in-Some.ensures c.convert_line.ensures c.convert_line.auto.work
