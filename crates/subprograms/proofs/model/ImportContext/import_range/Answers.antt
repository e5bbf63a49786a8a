-- `ImportContext::import_range` meets its contract.
use mathlib.Core.Path.{refl}
use borrow.Author.Rules.{rules}
use Rattle.tlv.proofs.AnswerLaws.{numbered, handed}
use Rattle.subprograms.proofs.StepLaws.{grows-any}
use Rattle.subprograms.proofs.functions.RangeStepLaws.{range-unlined, lined-context, range-imported}
use Rattle.subprograms.proofs.model.ImportContext.import_range.Goals as goal

pub returns-in_err-lined-clause-is : goal.returns-in_err-lined-clause-is
returns-in_err-lined-clause-is c = rw (handed _ _ c.from_residual.ensures.1) (range-unlined _ _ c.args.state _ _ _ (search (rules, c.is_past-past.ensures)) c.requires.context_in c.in_err-lined.ensures.is c.put_function.ensures (numbered _))

pub import_details-requires-clause-context_in : goal.import_details-requires-clause-context_in
import_details-requires-clause-context_in c = lined-context c.args.self.context.lists.lists.now c.args.self.context.lists.addresses.now c.args.state c.args.subprogram.place c.args.range c.args.subprogram.name.now (search (rules, c.is_past-past.ensures)) c.requires.context_in c.in_ok-lined.ensures.is refl c.function_lines.auto.work

pub returns-clause-is : goal.returns-clause-is
returns-clause-is c = rw c.import_details.ensures.files (grows-any _ _ _ (range-imported _ _ c.args.state _ _ _ (search (rules, c.is_past-past.ensures)) c.requires.context_in c.in_ok-lined.ensures.is c.put_function.ensures refl c.function_lines.auto.work c.import_details.auto.work c.import_details.ensures.is))
