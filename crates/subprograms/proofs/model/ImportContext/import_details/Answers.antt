-- `ImportContext::import_details` meets its contract.
use borrow.Author.Rules.{rules}
use native.Mathlib.Omega.{arith}
use Rattle.tlv.proofs.AnswerLaws.{handed}
use Rattle.dies.proofs.CallLaws.{entry_read}
use Rattle.subprograms.proofs.functions.DetailStepLaws.{context-accepted, details-in, details-refused, details-done}
use Rattle.subprograms.proofs.model.ImportContext.import_details.Goals as goal

pub overflow_add-subprogram : goal.overflow_add-subprogram
overflow_add-subprogram c = omega (arith, entry_read (context-accepted c.requires.context_in) c.requires.subprogram_in.entry)

pub read-requires : goal.read-requires
read-requires c = omega (arith, entry_read (context-accepted c.requires.context_in) c.requires.subprogram_in.entry)

pub extract_subprogram_details-requires-clause-details_in : goal.extract_subprogram_details-requires-clause-details_in
extract_subprogram_details-requires-clause-details_in c = details-in c.requires.context_in c.args.subprogram _ _ _

pub returns-in_err-extracted-clause-is : goal.returns-in_err-extracted-clause-is
returns-in_err-extracted-clause-is c = rw (handed _ _ c.from_residual.ensures.1) (details-refused c.args.subprogram _ _ c.args.lined.state c.requires.context_in c.requires.subprogram_in.entry c.read.ensures c.requires.subprogram_in.below.same c.in_err-extracted.ensures)

pub returns-clause-is : goal.returns-clause-is
returns-clause-is c = details-done c.args.subprogram _ _ c.args.lined.state c.requires.context_in c.requires.subprogram_in.entry c.read.ensures c.requires.subprogram_in.below.same c.in_ok-extracted.ensures c.count_function.ensures (search rules)
