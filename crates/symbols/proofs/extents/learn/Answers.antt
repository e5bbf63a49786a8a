-- `extents::learn` meets its contract.
use Rattle.symbols.proofs.ExtentLaws.{learned}
use Rattle.symbols.proofs.extents.learn.Goals as goal

pub returns : goal.returns
returns c = learned c.in_ok-gathered.ensures (rw (c.new.ensures.based, c.new.ensures.counted) at c.coalesce_at-functions.ensures) c.coalesce_at-functions.auto.work
