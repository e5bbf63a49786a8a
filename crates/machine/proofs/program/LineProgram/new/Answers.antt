-- `LineProgram::new` meets its contract: either test finds an unsupported encoding.
use Rattle.std.proofs.Common.{refl, ne_eqb, eq-eqb}
use Rattle.machine.specs.Machine.{unsupported}
use Rattle.machine.proofs.program.LineProgram.new.Goals as goal
use Rattle.machine.proofs.program.LineProgram.new.Goals.{then-encoding-eq0-via-then-encoding-eq0, then-encoding-eq0-via-else-encoding-eq0+then-encoding-ne1}

pub returns-then-encoding-eq0 : goal.returns-then-encoding-eq0
unfolding unsupported
returns-then-encoding-eq0 c = let e = c.args.encoding in
    elim c.then-encoding-eq0.branch [
      | then-encoding-eq0-via-then-encoding-eq0 w ↦ (refl, rw (eq-eqb e.line_range 0 w.if-encoding-eq0.true) refl)
      | then-encoding-eq0-via-else-encoding-eq0+then-encoding-ne1 w ↦ (refl, rw (ne_eqb e.line_range 0 w.if-encoding-eq0.false, ne_eqb e.maximum_operations 1 w.if-encoding-ne1.true) refl)
    ]

pub returns : goal.returns
unfolding unsupported
returns c = let e = c.args.encoding in
    (refl, refl, refl, rw (ne_eqb e.line_range 0 c.if-encoding-eq0.false, eq-eqb e.maximum_operations 1 c.if-encoding-ne1.false) refl)
