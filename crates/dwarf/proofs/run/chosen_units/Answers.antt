-- `run::chosen_units` meets its contract: all, none past the last, or one.
use mathlib.Core.Path.{refl}
use Rattle.dwarf.proofs.run.RunLaws.{chooses-all, chooses_none, chooses-one}
use Rattle.dwarf.proofs.run.chosen_units.Goals as goal

pub returns-in_default : goal.returns-in_default
returns-in_default c = chooses-all _ _ c.in_default.is refl refl

pub returns-then-count-ordinal : goal.returns-then-count-ordinal
returns-then-count-ordinal c = chooses_none _ _ c.in-Some.is c.if-count-ordinal.true refl refl

pub returns : goal.returns
returns c = chooses-one _ _ c.in-Some.is c.if-count-ordinal.false refl refl
