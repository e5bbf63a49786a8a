-- `details::Details::collect_descendants` meets its contract.
use mathlib.Core.Path.{◌≡◌, refl}
use native.Mathlib.Omega.{arith}
use Rattle.tlv.proofs.AnswerLaws.{handed}
use Prim.Native.Nat.{◌≤◌}
use Rattle.dies.specs.declared.sites.Sites.{Sites}
use Rattle.dies.proofs.WalkStateLaws.{details_kept}
use Rattle.dies.proofs.details.ExtractLaws.{start-details, start_fits, end-details, descends-refused, descends-done}
use Rattle.dies.proofs.details.Details.collect_descendants.Goals as goal

-- the derived default, whose fields are known one by one
none-yet : {s : Sites} → (s.opened ≡ 0) × (s.closed ≡ 0) → s ≡ record { opened = 0; closed = 0 }
none-yet e = λ i. record { opened = e.0 i; closed = e.1 i }

pub collect_entries-requires-clause-details_in : goal.collect_entries-requires-clause-details_in
collect_entries-requires-clause-details_in c = start-details c.requires.details_in c.requires.entries_known c.put_range_at.ensures c.none.ensures c.put_range_at.auto.w

pub collect_entries-requires-clause-fits : goal.collect_entries-requires-clause-fits
collect_entries-requires-clause-fits c = rw (none-yet c.default.ensures) (start_fits c.requires.details_in c.requires.entries_known c.put_range_at.ensures c.none.ensures (omega arith) (omega arith))

pub returns-in_err-collect_entries : goal.returns-in_err-collect_entries
returns-in_err-collect_entries c = rw (handed _ _ c.from_residual.ensures.1) (descends-refused c.args.self.now.context.lists.lists.now c.args.self.now.context.lists.addresses.now _ _ c.requires.details_in c.put_range_at.ensures c.none.ensures (rw (none-yet c.default.ensures) at c.in_err-collect_entries.ensures) refl)

pub close-requires-clause-details_in : goal.close-requires-clause-details_in
close-requires-clause-details_in c = end-details c.args.self.now.context.lists.lists.now c.args.self.now.context.lists.addresses.now c.args.p c.args.self.now.depth c.requires.details_in c.put_range_at.ensures c.none.ensures (rw (none-yet c.default.ensures) at c.in_ok-collect_entries.ensures) c.put_range_at.auto.w c.collect_entries.auto.work

pub put_sites-sites-requires-clause-details_in : goal.put_sites-sites-requires-clause-details_in
put_sites-sites-requires-clause-details_in c = details_kept (end-details c.args.self.now.context.lists.lists.now c.args.self.now.context.lists.addresses.now c.args.p c.args.self.now.depth c.requires.details_in c.put_range_at.ensures c.none.ensures (rw (none-yet c.default.ensures) at c.in_ok-collect_entries.ensures) c.put_range_at.auto.w c.collect_entries.auto.work) c.close.ensures.kept (omega arith) c.close.auto.work

pub returns-then-walk : goal.returns-then-walk
returns-then-walk c = descends-done c.args.self.now.context.lists.lists.now c.args.self.now.context.lists.addresses.now _ _ c.requires.details_in c.put_range_at.ensures c.none.ensures (rw (none-yet c.default.ensures) at c.in_ok-collect_entries.ensures) refl c.close.ensures c.put_sites-sites.ensures (rw c.if-walk.true) (let h : c.args.at ≤ 18446744073709551615 = omega (arith, c.ranges.at.fits) in h)

pub returns-else-walk : goal.returns-else-walk
returns-else-walk c = descends-done c.args.self.now.context.lists.lists.now c.args.self.now.context.lists.addresses.now _ _ c.requires.details_in c.put_range_at.ensures c.none.ensures (rw (none-yet c.default.ensures) at c.in_ok-collect_entries.ensures) refl c.close.ensures c.put_sites-sites.ensures (rw c.if-walk.false) (let h : c.args.at ≤ 18446744073709551615 = omega (arith, c.ranges.at.fits) in h)
