-- `path::base_start` meets its contract: the first byte from the end that splits the path is its last.
use Rattle.std.proofs.Common.{◌≡◌, true, false, arith, rules, tests}
use Rattle.std.proofs.lemmas.Iterator.{IsFirst-from_position}
use Rattle.std.proofs.lemmas.Iterator.Adapters.{YieldsList-from_rev_slice}
use Rattle.paths.specs.Paths.{splits_at}
use Rattle.paths.proofs.PathCodeLaws.{base-nowhere, base-behind}
use Rattle.paths.proofs.path.base_start.Goals as goal

pub returns-in-Some : goal.returns-in-Some
returns-in-Some c =
    let w = c.is_windows-windows.result in
    let first = rw c.in-Some.is at (IsFirst-from_position _ _ _ (λ b. splits_at w b ≡ true) (λ b. splits_at w b ≡ false) c.position-last.ensures.ran
    (YieldsList-from_rev_slice c.args.path.now cc) (λ x q k. search (rules, tests)) (λ x q k. search (rules, tests))) in
    (base-behind c.args.path.now w c.is_windows-windows.ensures c.in-Some.behind first.0 first.1 first.2, omega arith)

pub returns-in-None : goal.returns-in-None
returns-in-None c =
    let w = c.is_windows-windows.result in
    let none = rw c.in-None.is at (IsFirst-from_position _ _ _ (λ b. splits_at w b ≡ true) (λ b. splits_at w b ≡ false) c.position-last.ensures.ran
    (YieldsList-from_rev_slice c.args.path.now cc) (λ x q k. search (rules, tests)) (λ x q k. search (rules, tests))) in
    (base-nowhere c.args.path.now w c.is_windows-windows.ensures none, omega arith)
