-- `finish::warn_mismatch` meets its contract.
use borrow.Author.Rules.{rules}
use native.Mathlib.Omega.{arith}
use Rattle.collect.proofs.finish.FinishLaws.{no-mismatch, a-mismatch}
use Rattle.collect.proofs.finish.warn_mismatch.Goals as goal

pub returns-then-offsets-sequences : goal.returns-then-offsets-sequences
returns-then-offsets-sequences c = no-mismatch c.args.sequences c.args.offsets (search rules) (search rules) (omega arith)

pub returns : goal.returns
returns c = a-mismatch c.args.sequences c.args.offsets (search rules) (search rules)
