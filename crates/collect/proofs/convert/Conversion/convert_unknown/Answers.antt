-- `convert::Conversion::convert_unknown` meets its contract.
use native.Mathlib.Omega.{arith}
use Rattle.collect.proofs.ConvertLaws.{row-missing, row-unnamed}
use Rattle.collect.proofs.convert.Conversion.convert_unknown.Goals as goal

pub returns-in-Unnamed : goal.returns-in-Unnamed
returns-in-Unnamed c = row-unnamed c.requires.conversion_in c.args.row c.requires.unnumbered (omega arith) (omega arith) (omega arith) c.sought_file.ensures c.in-Unnamed.is

pub returns-in-Missing : goal.returns-in-Missing
returns-in-Missing c = row-missing c.requires.conversion_in c.args.row c.requires.unnumbered (omega arith) c.sought_file.ensures c.in-Missing.is (rw c.number.ensures at c.put_warning.ensures)
