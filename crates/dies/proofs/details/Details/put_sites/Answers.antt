-- `details::Details::put_sites` meets its contract.
use mathlib.Core.Path.{◌∙◌}
use native.Mathlib.Omega.{arith}
use Rattle.dies.proofs.SiteStepLaws.{main-bytes, supplementary-bytes}
use Rattle.dies.proofs.NameLengthLaws.{pattern-short}
use Rattle.dies.proofs.details.SitesPutLaws.{site-found, siting-done, siting-entry, siting-found, siting-named, siting-next}
use Rattle.dies.proofs.details.Details.put_sites.Goals.{then-past, else-past}
use Rattle.dies.proofs.details.Details.put_sites.Goals as goal

pub resolve_reference_name-found-requires-clause-entry_known : goal.resolve_reference_name-found-requires-clause-entry_known
resolve_reference_name-found-requires-clause-entry_known c = rw c.entry-entry.ensures (siting-entry c.requires.details_in c.requires.fits c.loop-i.invariant (omega arith) c.read.ensures)

pub unwrap-pattern-requires : goal.unwrap-pattern-requires
unwrap-pattern-requires c = let R = rw c.entry-entry.ensures at c.resolve_reference_name-found.ensures in site-found _ R.is (siting-found c.requires.details_in c.requires.fits c.loop-i.invariant (omega arith) c.read.ensures c.read-offset.ensures R)

pub put_call_site-place-requires : goal.put_call_site-place-requires
put_call_site-place-requires c = let R = rw (c.unwrap-pattern.ensures, c.entry-entry.ensures) at c.resolve_reference_name-found.ensures in pattern-short c.requires.details_in (siting-entry c.requires.details_in c.requires.fits c.loop-i.invariant (omega arith) c.read.ensures) (main-bytes c.args.self.now) (supplementary-bytes c.args.self.now) 0x7f (siting-named c.requires.details_in c.requires.fits c.loop-i.invariant (omega arith) c.read.ensures c.read-offset.ensures R)

pub loop-i-preserved : goal.loop-i-preserved
loop-i-preserved c =
    let R = rw (c.unwrap-pattern.ensures, c.entry-entry.ensures) at c.resolve_reference_name-found.ensures in
    siting-next c.requires.details_in c.requires.fits c.loop-i.invariant (omega arith) c.read.ensures c.read-offset.ensures R c.put_call_site-place.ensures c.resolve_reference_name-found.auto.work
    (elim c.if-past.branch [ then-past w ↦ rw w.if-past.true (w.past-is ∙ w.if-past.true) | else-past w ↦ rw w.if-past.false (w.past-is ∙ w.is_past-past.ensures) ])

pub returns : goal.returns
returns c = siting-done c.requires.details_in c.requires.fits c.loop-i.invariant (omega arith)
