-- `ImportContext::declared_line` meets its contract.
use borrow.Author.Rules.{rules}
use native.Mathlib.Omega.{arith}
use Rattle.tlv.proofs.AnswerLaws.{handed}
use Rattle.subprograms.proofs.function_lines.DeclaredLineLaws.{finds-refused, finds-nothing, finds-line}
use Rattle.subprograms.proofs.model.ImportContext.declared_line.Goals as goal

pub returns-in_err-declared-clause-is : goal.returns-in_err-declared-clause-is
returns-in_err-declared-clause-is c = rw (handed _ _ c.from_residual.ensures.1) (finds-refused c.args.state c.requires.context_in _ _ _ c.start.ensures.none_followed _ _ (rw c.entry-entry.ensures at c.in_err-declared.ensures))

pub returns-in_default-clause-is : goal.returns-in_default-clause-is
returns-in_default-clause-is c = finds-nothing c.args.state c.requires.context_in _ _ _ c.start.ensures.none_followed _ _ (rw c.entry-entry.ensures at c.in_ok-declared.ensures) c.in_default.is (omega (arith, c.well_formed))

pub returns-clause-is : goal.returns-clause-is
returns-clause-is c = finds-line c.args.state c.requires.context_in _ _ _ c.start.ensures.none_followed _ _ (rw c.entry-entry.ensures at c.in_ok-declared.ensures) c.in-Some.is (search (rules, c.rows_past-past.ensures)) c.put_line.ensures
