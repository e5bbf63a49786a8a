-- `path::basename_of` meets its contract. The part after the last slash.
use Rattle.paths.proofs.PathCodeLaws.{basename-is}
use Rattle.paths.proofs.path.basename_of.Goals as goal

pub returns : goal.returns
returns c = basename-is _ _ c.base_start-n.ensures.0
