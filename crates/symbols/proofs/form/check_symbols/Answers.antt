-- `form::check_symbols` meets its contract.
use Rattle.symbols.proofs.form.CheckLaws.{turn_end, turn-cut, turn-not, turn-next}
use Rattle.symbols.proofs.form.check_symbols.Goals as goal

pub returns-in_default : goal.returns-in_default
returns-in_default c = record { is = turn-cut _ _ _ c.loop-p.invariant.0 c.loop-p-test.true c.in_default.ensures; bytes = c.loop-p.invariant.1 }

pub returns-then-not-symbol_formed : goal.returns-then-not-symbol_formed
returns-then-not-symbol_formed c = record {
  is = turn-not _ _ _ c.loop-p.invariant.0 _ c.in-Some.ensures _ c.payload.ensures c.if-not-symbol_formed.ensures;
  bytes = c.loop-p.invariant.1;
}

pub loop-p-preserved : goal.loop-p-preserved
loop-p-preserved c = (turn-next _ _ _ c.loop-p.invariant.0 _ c.in-Some.ensures _ c.payload.ensures c.if-not-symbol_formed.ensures, c.loop-p.invariant.1)

pub returns : goal.returns
returns c = record { is = turn_end _ _ _ c.loop-p.invariant.0 c.loop-p-test.false; bytes = c.loop-p.invariant.1 }
