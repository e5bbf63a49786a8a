-- `part::program_part` meets its contract.
use mathlib.Core.Path.{refl}
use Rattle.dwarf.proofs.part.program_part.Goals as goal

pub returns : goal.returns
returns c = c.part_range-part.ensures.is c.args.program.now refl
