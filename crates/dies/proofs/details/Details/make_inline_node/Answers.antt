-- `details::Details::make_inline_node` meets its contract.
use mathlib.Core.Path.{refl, ◌∙◌}
use native.Mathlib.Omega.{arith}
use Rattle.tlv.proofs.AnswerLaws.{numbered, handed}
use Rattle.references.proofs.ReferenceLaws.{entry_next}
use Rattle.dies.proofs.AttributeReads.{accepted-placed}
use Rattle.dies.proofs.SiteStepLaws.{known_inside, main-bytes, supplementary-bytes, details-accepted, given-done}
use Rattle.dies.proofs.NameLengthLaws.{name-short}
use Rattle.references.proofs.NameLaws.{found-length, missing-length}
use Rattle.dies.proofs.details.InlineStepLaws.{inline-refused, inline-nameless, inline-room, inline-list-room, inline-listless, inline-failed, inline-empty, inline-fits, inline-details, inline-kept, found-same}
use Rattle.dies.proofs.details.Details.make_inline_node.Goals as goal

pub returns-in_err-inlined : goal.returns-in_err-inlined
returns-in_err-inlined c = rw (handed _ _ c.from_residual.ensures.1) (inline-refused c.args.self.now.name.now c.args.records.now c.args.warnings.now (omega arith) (omega arith) c.requires.details_in c.requires.entry_known c.requires.fits (rw c.entry-entry.ensures at c.in_err-inlined.ensures) (numbered _))

pub returns-in_default : goal.returns-in_default
returns-in_default c = inline-nameless c.args.self.now.name.now c.args.records.now c.args.warnings.now (omega arith) (omega arith) c.requires.details_in c.requires.entry_known c.requires.fits (rw c.entry-entry.ensures at c.in_ok-inlined.ensures) refl (missing-length _ c.in_default.ensures)

pub inline_ranges-requires-clause-placed : goal.inline_ranges-requires-clause-placed
inline_ranges-requires-clause-placed c = entry_next (accepted-placed (details-accepted c.requires.details_in) c.requires.entry_known) c.requires.entry_known

pub inline_ranges-requires-clause-fields_fit : goal.inline_ranges-requires-clause-fields_fit
inline_ranges-requires-clause-fields_fit c = inline-room c.requires.details_in c.requires.entry_known c.requires.fits c.resolve_name.auto.work

pub inline_ranges-requires-clause-lists_fit : goal.inline_ranges-requires-clause-lists_fit
inline_ranges-requires-clause-lists_fit c = inline-list-room c.requires.details_in c.requires.entry_known c.requires.fits c.resolve_name.auto.work

pub inline_ranges-requires-clause-lists_known : goal.inline_ranges-requires-clause-lists_known
inline_ranges-requires-clause-lists_known c = inline-listless c.requires.details_in c.requires.entry_known c.requires.fits

pub returns-in_err-range_count : goal.returns-in_err-range_count
returns-in_err-range_count c = rw (handed _ _ c.from_residual-in_err-range_count.ensures.1) (inline-failed c.args.self.now.name.now c.args.records.now c.args.warnings.now (omega arith) (omega arith) c.requires.details_in c.requires.entry_known c.requires.fits (rw c.entry-entry.ensures at c.in_ok-inlined.ensures) refl (found-length _ c.in-Some.ensures) c.innermost-top.ensures (rw (c.new.ensures.based, c.new.ensures.counted) at c.in_err-range_count.ensures) refl)

pub returns-then-range_count-eq0 : goal.returns-then-range_count-eq0
returns-then-range_count-eq0 c = inline-empty c.args.self.now.name.now c.args.records.now c.args.warnings.now (omega arith) (omega arith) c.requires.details_in c.requires.entry_known c.requires.fits (rw c.entry-entry.ensures at c.in_ok-inlined.ensures) refl (found-length _ c.in-Some.ensures) c.innermost-top.ensures (rw (c.new.ensures.based, c.new.ensures.counted) at c.in_ok-range_count.ensures) refl c.if-range_count-eq0.true

pub keep_node-requires-clause-details_in : goal.keep_node-requires-clause-details_in
keep_node-requires-clause-details_in c = inline-details c.args.self.now.name.now c.args.records.now c.args.warnings.now (omega arith) (omega arith) c.requires.details_in c.requires.entry_known c.requires.fits (rw c.entry-entry.ensures at c.in_ok-inlined.ensures) refl (found-length _ c.in-Some.ensures) c.innermost-top.ensures (rw (c.new.ensures.based, c.new.ensures.counted) at c.in_ok-range_count.ensures) refl (c.inline_ranges.auto.work ∙ c.resolve_name.auto.work)

pub keep_node-requires-clause-fits : goal.keep_node-requires-clause-fits
keep_node-requires-clause-fits c = inline-fits c.args.self.now.name.now c.args.records.now c.args.warnings.now (omega arith) (omega arith) c.requires.details_in c.requires.entry_known c.requires.fits (rw c.entry-entry.ensures at c.in_ok-inlined.ensures) refl (found-length _ c.in-Some.ensures) c.innermost-top.ensures (rw (c.new.ensures.based, c.new.ensures.counted) at c.in_ok-range_count.ensures) refl

pub returns : goal.returns
returns c = inline-kept c.args.self.now.name.now c.args.records.now c.args.warnings.now (omega arith) (omega arith) c.requires.details_in c.requires.entry_known c.requires.fits (rw c.entry-entry.ensures at c.in_ok-inlined.ensures) refl (found-length _ c.in-Some.ensures) c.innermost-top.ensures (rw (c.new.ensures.based, c.new.ensures.counted) at c.in_ok-range_count.ensures) refl (rw (found-same _ c.in-Some.ensures) at c.keep_node.ensures)

pub invariant_of-call : goal.invariant_of-call
invariant_of-call c = record { name_bound = rw (found-same _ c.in-Some.ensures) (name-short c.requires.details_in c.requires.entry_known (main-bytes c.args.self.now) (supplementary-bytes c.args.self.now) (given-done _ _ (rw c.entry-entry.ensures at c.in_ok-inlined.ensures.is) refl)); some = omega arith }

pub overflow_add-p : goal.overflow_add-p
overflow_add-p c = omega (arith, known_inside c.requires.details_in c.requires.entry_known)
