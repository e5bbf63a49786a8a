-- `pieces::FilePieces::is_file` meets its contract. By the names, then by the directories.
use native.Mathlib.Omega.{arith}
use Rattle.files.proofs.DirectoryLaws.{span-short}
use Rattle.files.proofs.SameLaws.{other_name, by-directory}
use Rattle.files.proofs.pieces.FilePieces.is_file.Goals as goal

pub is_joined-requires : goal.is_joined-requires
is_joined-requires c = rw (c.of-2.ensures, c.of-3.ensures, c.of-4.ensures) (omega (
  arith,
  span-short c.args.s.now c.args.self.compilation c.requires.compilation,
  span-short c.args.s.now c.args.self.directory c.requires.directory,
  span-short c.args.s.now c.args.self.own c.requires.own,
))

pub returns : goal.returns
returns c = by-directory c.requires _ _ (rw c.of.ensures at c.ne.ensures) c.if-ne.false
    (rw (c.of-2.ensures, c.of-3.ensures, c.of-4.ensures) at c.is_joined.ensures)

pub returns-then-ne : goal.returns-then-ne
returns-then-ne c = other_name c.requires _ _ (rw c.of.ensures at c.ne.ensures) c.if-ne.true
