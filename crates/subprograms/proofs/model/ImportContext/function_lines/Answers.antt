-- `ImportContext::function_lines` meets its contract.
use mathlib.Core.Path.{refl}
use borrow.Author.Rules.{rules}
use native.Mathlib.Omega.{arith}
use Rattle.tlv.proofs.AnswerLaws.{numbered, handed}
use Rattle.subprograms.proofs.function_lines.FunctionLineLaws.{finds-unwarned, context-next, finds-own, finds-declared, finds-any}
use Rattle.subprograms.proofs.model.ImportContext.function_lines.Goals as goal

pub returns-in_err-state-clause-is : goal.returns-in_err-state-clause-is
returns-in_err-state-clause-is c = rw (handed _ _ c.from_residual.ensures.1) (finds-unwarned c.args.state c.requires.context_in (rw c.entry-entry.ensures at c.statement_sequence_offset-requested.ensures) c.for_range-own.ensures (rw c.entry-entry.ensures at c.in_err-state.ensures) _ _ (numbered _))

pub declared_line-requires-clause-context_in : goal.declared_line-requires-clause-context_in
declared_line-requires-clause-context_in c = context-next c.args.state c.requires.context_in (rw c.entry-entry.ensures at c.statement_sequence_offset-requested.ensures) c.for_range-own.ensures (rw c.entry-entry.ensures at c.in_ok-state.ensures) c.for_range-own.auto.work

pub returns-then-own-eq0-clause-is : goal.returns-then-own-eq0-clause-is
returns-then-own-eq0-clause-is c = finds-any _ _ _ (finds-declared c.args.state c.requires.context_in (rw c.entry-entry.ensures at c.statement_sequence_offset-requested.ensures) c.for_range-own.ensures (rw c.entry-entry.ensures at c.in_ok-state.ensures) _ _ refl c.for_range-own.auto.work c.if-own-eq0.true c.declared_line.ensures.is)

pub returns-clause-is : goal.returns-clause-is
returns-clause-is c = finds-own c.args.state c.requires.context_in (rw c.entry-entry.ensures at c.statement_sequence_offset-requested.ensures) c.for_range-own.ensures (rw c.entry-entry.ensures at c.in_ok-state.ensures) _ _ refl c.for_range-own.auto.work c.if-own-eq0.false (omega (arith, c.well_formed)) (search (rules, c.rows_past-past.ensures)) c.put_lines.ensures
