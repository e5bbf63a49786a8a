-- `ImportContext::import_entry` meets its contract.
use native.Mathlib.Omega.{arith}
use mathlib.Core.Path.{refl}
use Rattle.tlv.proofs.AnswerLaws.{numbered, handed}
use Rattle.tlv.proofs.PlaceFacts.{slice-bytes}
use Rattle.subprograms.proofs.EntryStepLaws.{found-is, name-refused, name-fits, named-context, name-empty, name-given}
use Rattle.subprograms.proofs.model.ImportContext.import_entry.Goals as goal

pub returns-in_err-found-clause-is : goal.returns-in_err-found-clause-is
returns-in_err-found-clause-is c = rw (handed _ _ c.from_residual.ensures.1) (name-refused _ _ c.args.state c.requires.context_in c.requires.entry_known c.requires.is_subprogram (rw c.entry-entry.ensures at c.in_err-found.ensures) (numbered _))

pub returns-in_default-clause-is : goal.returns-in_default-clause-is
returns-in_default-clause-is c = name-empty _ _ c.args.state c.requires.context_in c.requires.entry_known c.requires.is_subprogram (rw c.entry-entry.ensures at c.in_ok-found.ensures) c.resolve_name.auto.work refl (omega (arith, c.well_formed)) (omega (arith, c.well_formed)) (omega (arith, c.well_formed)) c.in_default.ensures

pub invariant_of-subprogram : goal.invariant_of-subprogram
invariant_of-subprogram c =
    let bytes = c.args.self.context.tables.sheets.bytes in
    record {
      short = rw (found-is _ c.in-Some.ensures) (name-fits c.requires.context_in c.requires.entry_known (slice-bytes c.args.self.context.tables.sheets.main.now (λ k. record { fits = bytes.0 k }))
          (slice-bytes c.args.self.context.tables.sheets.supplementary.now (λ k. record { fits = bytes.1 k })) (rw c.entry-entry.ensures at c.in_ok-found.ensures) refl);
    }

pub import_named-requires-clause-context_in : goal.import_named-requires-clause-context_in
import_named-requires-clause-context_in c = named-context c.requires.context_in c.in_ok-found.ensures.rest c.resolve_name.auto.work

pub returns-clause-is : goal.returns-clause-is
returns-clause-is c = name-given _ _ c.args.state c.requires.context_in c.requires.entry_known c.requires.is_subprogram (rw c.entry-entry.ensures at c.in_ok-found.ensures) c.resolve_name.auto.work refl (omega (arith, c.well_formed)) (omega (arith, c.well_formed)) (omega (arith, c.well_formed)) c.in-Some.ensures c.import_named.ensures.is
