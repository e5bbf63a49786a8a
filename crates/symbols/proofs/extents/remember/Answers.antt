-- `extents::remember` meets its contract.
use native.Mathlib.Omega.{arith}
use Rattle.symbols.proofs.ExtentLaws.{remember-added, pushed-filled, remember-pushed, remember-settled}
use Rattle.symbols.proofs.extents.remember.Goals as goal

pub returns-then-goes_behind : goal.returns-then-goes_behind
returns-then-goes_behind c =
    let l = rw c.in_ok-known.was at c.requires.lying in
    rw c.in_ok-known.was (remember-added _ l (omega arith) (rw (c.new-stored.ensures.based, c.new-stored.ensures.counted) at c.add_range-merged.ensures) c.add_range-merged.auto.work)

pub returns-then-known-lt-WAITING_MOST : goal.returns-then-known-lt-WAITING_MOST
returns-then-known-lt-WAITING_MOST c =
    let l = rw c.in_ok-known.was at c.requires.lying in
    rw c.in_ok-known.was (remember-pushed _ l (omega arith) c.requires.nonempty c.put_range_at.ensures c.put_range_at.auto.w)

pub coalesce_at-merged-requires-clause-nonempty : goal.coalesce_at-merged-requires-clause-nonempty
coalesce_at-merged-requires-clause-nonempty c = let l = rw c.in_ok-known.was at c.requires.lying in rw (c.new.ensures.based, c.new.ensures.counted) (pushed-filled _ l c.requires.nonempty c.put_range_at.ensures)

pub returns : goal.returns
returns c =
    let l = rw c.in_ok-known.was at c.requires.lying in
    rw c.in_ok-known.was (remember-settled _ l (omega arith) c.requires.nonempty c.put_range_at.ensures c.put_range_at.auto.w (rw (c.new.ensures.based, c.new.ensures.counted) at c.coalesce_at-merged.ensures) c.coalesce_at-merged.auto.work)
