-- `pieces::FilePieces::lay_directory` meets its contract. Each piece is put below what those before it gave.
use native.Mathlib.Omega.{arith}
use Rattle.files.proofs.DirectoryLaws.{span-short}
use Rattle.files.proofs.pieces.LayLaws.{first-length, second-length, laid-directory}
use Rattle.files.proofs.pieces.FilePieces.lay_directory.Goals as goal

pub append_path-n-requires : goal.append_path-n-requires
append_path-n-requires c = rw c.of.ensures (omega (arith, span-short c.args.s.now c.args.self.compilation c.requires.pieces_in.compilation))

pub append_path-n-requires-2 : goal.append_path-n-requires-2
append_path-n-requires-2 c = rw c.of-2.ensures (omega (
  arith,
  first-length c.args.work.now c.args.s.now c.args.self.compilation (rw c.of.ensures at c.append_path-n.ensures) c.requires.pieces_in.compilation,
  span-short c.args.s.now c.args.self.directory c.requires.pieces_in.directory,
))

pub append_path-requires : goal.append_path-requires
append_path-requires c =
    let first = rw c.of.ensures at c.append_path-n.ensures in
    let second = rw c.of-2.ensures at c.append_path-n-2.ensures in
    rw c.of-3.ensures (omega (
      arith,
      first-length c.args.work.now c.args.s.now c.args.self.compilation first c.requires.pieces_in.compilation,
      second-length _ _ c.args.s.now c.args.self.directory first second c.requires.pieces_in.directory,
      span-short c.args.s.now c.args.self.own c.requires.pieces_in.own,
    ))

pub returns : goal.returns
returns c = laid-directory _ _ _ _ _ _ _ _ _ _
    (rw c.of.ensures at c.append_path-n.ensures)
    (rw c.of-2.ensures at c.append_path-n-2.ensures)
    (rw c.of-3.ensures at c.append_path.ensures)
