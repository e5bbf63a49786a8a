-- `lookin::look_up_in` meets its contract.
use Rattle.std.proofs.lemmas.Result.{err_from_is_err_and}
use Rattle.lookup.proofs.LookLaws.{none-refused}
use Rattle.look_index.proofs.lookin.LookInLaws.{in-none, in-misshapen, in-found}
use Rattle.look_index.proofs.lookin.look_up_in.Goals as goal

pub returns-in_err-k : goal.returns-in_err-k
returns-in_err-k c =
    let n = none-refused _ _ c.in_err-k.ensures.value c.from_residual.ensures.1 in
    rw n.0 (in-none _ _ _ _ _ c.if-index-said.false (rw n.1 at c.choose.ensures))

pub returns-in_err-own : goal.returns-in_err-own
returns-in_err-own c =
    let chosen = rw c.in_ok-k.ensures.ok_part at c.choose.ensures in
    let p = err_from_is_err_and c.from_residual-in_err-own.result c.from_residual-in_err-own.ensures.1 in
    rw (p.1, p.2) (in-misshapen _ _ _ _ _ c.if-index-said.false _ chosen _ c.at-function.ensures _ c.in_err-own.ensures)

pub returns : goal.returns
returns c =
    let chosen = rw c.in_ok-k.ensures.ok_part at c.choose.ensures in
    in-found _ _ _ _ _ c.if-index-said.false _ chosen _ c.at-function.ensures _ _ _ c.in_ok-own.ensures c.row_in_force-row.ensures c.chain_at-chain.ensures
