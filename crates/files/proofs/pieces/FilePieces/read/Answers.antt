-- `pieces::FilePieces::read` meets its contract.
use Rattle.files.proofs.StoreLaws.{got-pieces}
use Rattle.files.proofs.pieces.FilePieces.read.Goals as goal

pub returns : goal.returns
returns c = search got-pieces
