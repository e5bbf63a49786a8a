-- `own_declarations::declared_at` meets its contract.
use Rattle.declarations.proofs.own_declarations.OwnLineLaws.{no-file, no_line, both-there}
use Rattle.declarations.proofs.own_declarations.declared_at.Goals as goal

pub returns-in_err-file : goal.returns-in_err-file
returns-in_err-file c = rw c.from_residual.ensures (no-file c.in_err-file.ensures)

pub returns-in_err-line : goal.returns-in_err-line
returns-in_err-line c = rw c.from_residual-in_err-line.ensures (no_line c.in_ok-file.ensures c.in_err-line.ensures)

pub returns : goal.returns
returns c = both-there c.in_ok-file.ensures c.in_ok-line.ensures
