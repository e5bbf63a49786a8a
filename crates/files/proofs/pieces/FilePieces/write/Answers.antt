-- `pieces::FilePieces::write` meets its contract.
use Rattle.files.proofs.StoreLaws.{put-pieces}
use Rattle.files.proofs.pieces.FilePieces.write.Goals as goal

pub returns : goal.returns
returns c = search put-pieces
