-- `units::unit_containing_offset` meets its contract: `find` asks the units from the first on.
use Rattle.std.proofs.Common.{rules, tests, arith}
use mathlib.Core.Bool.{true, false}
use Rattle.std.specs.Prelude.{Some, None}
use Rattle.std.proofs.lemmas.Iterator.{first_from_Range}
use Rattle.access.proofs.ContainingLaws.{Says, containing-none, containing-here}
use Rattle.access.proofs.units.unit_containing_offset.Goals as goal

pub returns-in_err-i : goal.returns-in_err-i
returns-in_err-i c =
    let says = Says c.args.work.now c.args.units.base c.args.units.count c.args.target in
    let first = first_from_Range _ _ _ None (says true) (says false) c.in_err-i.ensures.ran (λ x q k. search (rules, tests)) (λ x q k. (search rules, search (rules, tests))) in
    rw c.from_residual.ensures (containing-none _ _ _ _ first)

pub overflow_mul-i : goal.overflow_mul-i
overflow_mul-i c =
    let first = first_from_Range _ _ _ (Some c.in_ok-i.i) (λ _. Unit {0}) (λ _. Unit {0}) c.in_ok-i.ensures.ran (λ x q k. tt) (λ x q k. (search rules, tt)) in
    omega (arith, first.1)

pub overflow_add-units : goal.overflow_add-units
overflow_add-units c =
    let first = first_from_Range _ _ _ (Some c.in_ok-i.i) (λ _. Unit {0}) (λ _. Unit {0}) c.in_ok-i.ensures.ran (λ x q k. tt) (λ x q k. (search rules, tt)) in
    omega (arith, first.1)

pub read-requires : goal.read-requires
read-requires c =
    let first = first_from_Range _ _ _ (Some c.in_ok-i.i) (λ _. Unit {0}) (λ _. Unit {0}) c.in_ok-i.ensures.ran (λ x q k. tt) (λ x q k. (search rules, tt)) in
    omega (arith, first.1)

pub returns : goal.returns
returns c =
    let says = Says c.args.work.now c.args.units.base c.args.units.count c.args.target in
    let first = first_from_Range _ _ _ (Some c.in_ok-i.i) (says true) (says false) c.in_ok-i.ensures.ran (λ x q k. search (rules, tests)) (λ x q k. (search rules, search (rules, tests))) in
    containing-here _ _ _ _ _ first _ c.read.ensures
