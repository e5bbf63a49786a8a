-- `path::directory_of` meets its contract. The part before the basename, with the separator where it stays with the root.
use Rattle.paths.proofs.PathCodeLaws.{directory-short, directory-long}
use Rattle.paths.proofs.path.directory_of.Goals as goal

pub returns-then-n-root : goal.returns-then-n-root
returns-then-n-root c = search directory-short

pub returns : goal.returns
returns c = search directory-long
