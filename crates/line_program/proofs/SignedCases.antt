-- E2's cases, by computing.
use mathlib.Core.Path.{refl}
use Rattle.tlv.specs.Outcome.{◌>>=◌}
use Rattle.line_program.specs.Program
use Rattle.line_program.specs.SignedCases.{SignedCases}

pub signed-cases : SignedCases
unfolding ◌>>=◌ Program.uleb_within Program.uleb Program.sleb_within Program.sleb Program.operand_kinds Program.skip_operand Program.skip_operands Program.skip
signed-cases =
    (refl, (refl, (refl, (refl, (refl, (refl, (refl, (refl, (refl, (refl, (refl, (refl, (refl, (refl, (refl, (refl, (refl, (refl, (refl, tt)))))))))))))))))))
