-- `path::copy_in` meets its contract. The loop copies byte after byte: what is left, laid down, gives what was asked.
use Rattle.paths.proofs.JoinLaws.{Copying}
use Rattle.paths.proofs.path.copy_in.Given as goal

abbrev pub invariant-loop-i : goal.invariant-loop-i
invariant-loop-i l = Copying l.path l.initial.work l.work l.to l.i
