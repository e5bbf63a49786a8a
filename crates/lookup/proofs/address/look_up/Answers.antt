-- `address::look_up` meets its contract.
use Rattle.lookup.proofs.LookLaws.{none-refused, looked_misshapen, looked_none, looked-found, own-stands}
use Rattle.lookup.proofs.address.look_up.Goals as goal

pub returns-then-not-check_records : goal.returns-then-not-check_records
returns-then-not-check_records c = search looked_misshapen

pub returns-in_err-found : goal.returns-in_err-found
returns-in_err-found c =
    let n = none-refused _ _ c.in_err-found.ensures.value c.from_residual.ensures.1 in
    let none-found = rw n.1 at c.function_at.ensures in
    rw n.0 (search (looked_none, none-found))

pub row_in_force-requires : goal.row_in_force-requires
row_in_force-requires c = own-stands _ _ _ (rw c.in_ok-found.ensures.ok_part at c.function_at.ensures)

pub chain_at-requires : goal.chain_at-requires
chain_at-requires c = own-stands _ _ _ (rw c.in_ok-found.ensures.ok_part at c.function_at.ensures)

pub returns : goal.returns
returns c = let found = rw c.in_ok-found.ensures.ok_part at c.function_at.ensures in search (looked-found, found)
