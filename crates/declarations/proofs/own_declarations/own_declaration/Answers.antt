-- `own_declarations::own_declaration` meets its contract. The number, then a warning or the line.
use native.Mathlib.Omega.{arith}
use Rattle.declarations.proofs.OwnDeclarationLaws.{accepted-at, sheet-accepted, unit-known, own-nothing, own-no_file, own-long_line, own-found}
use Rattle.declarations.proofs.own_declarations.own_declaration.Goals as goal

pub declared_at-requires-clause-placed : goal.declared_at-requires-clause-placed
declared_at-requires-clause-placed c = rw c.of-s.ensures (accepted-at c.requires.declaring_in c.args.here.now.at.input)

pub number_of-requires-clause-unit_known : goal.number_of-requires-clause-unit_known
number_of-requires-clause-unit_known c = unit-known c.requires.declaring_in c.args.here.now.at c.requires.stands

pub warn_declaration-requires-clause-accepted : goal.warn_declaration-requires-clause-accepted
warn_declaration-requires-clause-accepted c = rw c.of-s.ensures (sheet-accepted c.requires.declaring_in c.args.here.now.at.input)

pub returns-in_default-try_from-clause-owns : goal.returns-in_default-try_from-clause-owns
returns-in_default-try_from-clause-owns c = own-long_line c.requires.declaring_in c.args.here.now.at _ c.of-s.ensures c.declared_at.ensures c.in-Some.is c.number_of.ensures c.number_of.auto.work (omega (arith, c.well_formed)) c.in-Some-number_of.is (omega (arith, c.in_default-try_from.ensures)) c.warn_declaration-in_default-try_from.ensures.warns

pub returns-in_default-clause-owns : goal.returns-in_default-clause-owns
returns-in_default-clause-owns c = own-nothing c.requires.declaring_in c.args.here.now.at _ c.of-s.ensures c.declared_at.ensures (omega (arith, c.well_formed)) c.in_default.is

pub returns-in_default-number_of-clause-owns : goal.returns-in_default-number_of-clause-owns
returns-in_default-number_of-clause-owns c = own-no_file c.requires.declaring_in c.args.here.now.at _ c.of-s.ensures c.declared_at.ensures c.in-Some.is c.number_of.ensures c.number_of.auto.work (omega (arith, c.well_formed)) c.in_default-number_of.is c.warn_declaration.ensures.warns

pub returns-clause-owns : goal.returns-clause-owns
returns-clause-owns c = own-found c.requires.declaring_in c.args.here.now.at _ c.of-s.ensures c.declared_at.ensures c.in-Some.is c.number_of.ensures c.number_of.auto.work (omega (arith, c.well_formed)) c.in-Some-number_of.is c.in-Ok.ensures

pub warn_declaration-requires-in_default-try_from-clause-accepted : goal.warn_declaration-requires-in_default-try_from-clause-accepted
warn_declaration-requires-in_default-try_from-clause-accepted c = rw c.of-s.ensures (sheet-accepted c.requires.declaring_in c.args.here.now.at.input)
