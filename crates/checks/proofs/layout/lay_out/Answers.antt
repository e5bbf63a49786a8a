-- `layout::lay_out` meets its contract: no sum passes 2^64, since the counts are few.
use Rattle.checks.proofs.LayoutLaws.{lays_out}
use Rattle.checks.proofs.layout.lay_out.Goals as goal

pub returns : goal.returns
returns c = lays_out _ _ _ _ c.args.sizes.within.0 c.args.sizes.within.1
