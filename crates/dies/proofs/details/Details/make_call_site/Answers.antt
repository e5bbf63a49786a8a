-- `details::Details::make_call_site` meets its contract.
use mathlib.Core.Path.{◌≡◌, refl, sym, ap, ◌∙◌}
use mathlib.Core.Bool.{Bool, true, false, not, ◌&&◌}
use Prim.Native.Nat.{ℕ}
use native.Mathlib.Omega.{arith}
use lib.Dec.{leb, ltb}
use borrow.Author.Tests.{not-true, not-false}
use Rattle.std.specs.Prelude.{Ok}
use Rattle.tlv.proofs.AnswerLaws.{numbered, handed}
use Rattle.tlv.proofs.PlaceFacts.{slice-bytes}
use Rattle.dies.proofs.CallLaws.{entry_depth-here}
use Rattle.dies.proofs.SiteStepLaws.{known_inside, details-accepted, place-small, left_here, site-missing, site-failed, site-outside, site-unnamed, site-pushed}
use Rattle.tlv.specs.declared.model.AddressRange.{AddressRange}
use Rattle.lines.specs.Rows.{contains}
use Rattle.dies.proofs.details.Details.make_call_site.Goals as goal

-- what the test of the return address says
inside : {b : Bool} (range : AddressRange) (a : ℕ) → b ≡ (leb range.start a && ltb a range.end) → b ≡ true → contains range a ≡ true
unfolding contains
inside range a is t = sym is ∙ t

outside : {b : Bool} (range : AddressRange) (a : ℕ) → b ≡ (leb range.start a && ltb a range.end) → b ≡ false → contains range a ≡ false
unfolding contains
outside range a is f = sym is ∙ f

pub returns-in_err-address : goal.returns-in_err-address
returns-in_err-address c = λ lists addresses. rw (handed _ _ c.from_residual.ensures.1) (site-failed c.requires.details_in c.requires.entry_known c.requires.fits lists addresses (rw c.entry-entry.ensures at c.return_address.ensures) c.in_err-address.was)

pub returns-in_default : goal.returns-in_default
returns-in_default c = λ lists addresses. site-missing c.requires.details_in c.requires.entry_known c.requires.fits lists addresses (rw c.entry-entry.ensures at c.return_address.ensures) (c.in_ok-address.was ∙ ap Ok c.in_default.is)

pub returns-then-not-holds : goal.returns-then-not-holds
returns-then-not-holds c = λ lists addresses. site-outside c.requires.details_in c.requires.entry_known c.requires.fits lists addresses (rw c.entry-entry.ensures at c.return_address.ensures) (c.in_ok-address.was ∙ ap Ok c.in-Some.is) (outside _ _ c.holds.ensures (not-true _ (ap not c.if-not-holds.true)))

pub returns-in_err-resolve_reference_name : goal.returns-in_err-resolve_reference_name
returns-in_err-resolve_reference_name c = λ lists addresses. rw (handed _ _ c.from_residual-in_err-resolve_reference_name.ensures.1) (site-unnamed c.requires.details_in c.requires.entry_known c.requires.fits lists addresses (rw c.entry-entry.ensures at c.return_address.ensures) (c.in_ok-address.was ∙ ap Ok c.in-Some.is) (inside _ _ c.holds.ensures (not-false _ (ap not c.if-not-holds.false))) (rw c.entry-entry.ensures at c.in_err-resolve_reference_name.ensures) (numbered _))

pub put_open_site-requires : goal.put_open_site-requires
put_open_site-requires c = (omega (arith, c.requires.fits.sites, c.requires.details_in.stack, c.requires.details_in.sites, c.requires.details_in.tables.keys.room, left_here c.requires.details_in c.requires.entry_known), place-small c.requires.details_in c.requires.entry_known (slice-bytes c.args.work.now c.slice_known-1.given))

pub returns : goal.returns
returns c = λ lists addresses. site-pushed c.requires.details_in c.requires.entry_known c.requires.fits lists addresses (rw c.entry-entry.ensures at c.return_address.ensures) (c.in_ok-address.was ∙ ap Ok c.in-Some.is) (inside _ _ c.holds.ensures (not-false _ (ap not c.if-not-holds.false))) (rw c.entry-entry.ensures at c.in_ok-resolve_reference_name.ensures) refl (entry_depth-here (details-accepted c.requires.details_in) c.requires.entry_known ∙ sym c.read-depth.ensures) c.put_open_site.ensures

pub overflow_add-p : goal.overflow_add-p
overflow_add-p c = omega (arith, known_inside c.requires.details_in c.requires.entry_known)

pub read-depth-requires : goal.read-depth-requires
read-depth-requires c = omega (arith, known_inside c.requires.details_in c.requires.entry_known)
