-- `operand::skip_counted` meets its contract. The signed operand.
use Rattle.line_program.proofs.SkipLaws.{counted-signed}
use Rattle.line_program.proofs.operand.skip_counted.Goals as goal

pub returns-then-n-eq1 : goal.returns-then-n-eq1
returns-then-n-eq1 c = search counted-signed
