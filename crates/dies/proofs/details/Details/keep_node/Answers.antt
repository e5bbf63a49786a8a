-- `details::Details::keep_node` meets its contract.
use mathlib.Core.Path.{ap}
use mathlib.Core.Bool.{not}
use mathlib.Core.Path.{◌≡◌, refl, sym, ◌∙◌}
use mathlib.Core.Bool.{Bool, true, false}
use Prim.Native.Nat.{ℕ, ◌+◌, ◌≤◌, ◌<◌}
use native.Mathlib.Omega.{arith}
use lib.Dec.{leb}
use borrow.Author.Tests.{leb-true, leb-false, not-true, not-false}
use Rattle.tlv.proofs.AnswerLaws.{numbered, handed}
use Rattle.dies.proofs.SiteStepLaws.{known_inside, main-bytes}
use Rattle.dies.proofs.ListRoomLaws.{own-used, own-small, used-small}
use Rattle.dies.proofs.NodeStepLaws.{keep_file, keep_line, keep_deep, keep_done, noded-as}
use Rattle.dies.proofs.details.Details.keep_node.Goals.{then-walk, else-walk}
use Rattle.dies.proofs.details.Details.keep_node.Goals as goal

-- what the test of a node's depth says of the n nodes above it
deeper : {r : Bool} {n : ℕ} → r ≡ leb (n + 1) 256 → r ≡ false → 256 ≤ n
deeper {n = n} is f = omega (arith, leb-false (n + 1) 256 (sym is ∙ f))

not-deeper : {r : Bool} {n : ℕ} → r ≡ leb (n + 1) 256 → r ≡ true → n < 256
not-deeper {n = n} is t = omega (arith, leb-true (n + 1) 256 (sym is ∙ t))

pub returns-in_err-file : goal.returns-in_err-file
returns-in_err-file c = rw (handed _ _ c.from_residual.ensures.1) (keep_file c.args.self.now.context.lists.lists.now c.args.self.now.context.lists.addresses.now _ _ _ _ c.requires.details_in c.requires.entry_known c.requires.fits c.args.call.some c.requires.own_ranges (rw c.entry-entry.ensures at c.in_err-file.ensures) (numbered _))

pub returns-in_err-line : goal.returns-in_err-line
returns-in_err-line c = rw (handed _ _ c.from_residual-in_err-line.ensures.1) (keep_line c.args.self.now.context.lists.lists.now c.args.self.now.context.lists.addresses.now _ _ _ _ c.requires.details_in c.requires.entry_known c.requires.fits c.args.call.some c.requires.own_ranges (rw c.entry-entry.ensures at c.in_ok-file.ensures) refl (rw c.entry-entry.ensures at c.in_err-line.ensures) (numbered _))

pub returns-then-not-check_inline_depth : goal.returns-then-not-check_inline_depth
returns-then-not-check_inline_depth c = keep_deep c.args.self.now.context.lists.lists.now c.args.self.now.context.lists.addresses.now _ _ _ _ c.requires.details_in c.requires.entry_known c.requires.fits c.args.call.some c.requires.own_ranges (rw c.entry-entry.ensures at c.in_ok-file.ensures) refl (rw c.entry-entry.ensures at c.in_ok-line.ensures) refl (deeper c.check_inline_depth.ensures (not-true _ (ap not c.if-not-check_inline_depth.true)))

pub node_past-past-requires : goal.node_past-past-requires
node_past-past-requires c = (omega (arith, c.args.self.now.name_bound), omega (arith, c.args.call.name_bound), own-small _ c.requires.details_in c.requires.entry_known c.requires.fits c.requires.own_ranges (main-bytes c.args.self.now))

pub invariant_of-ranges : goal.invariant_of-ranges
invariant_of-ranges c = record { within = rw (c.new.ensures.based, c.new.ensures.counted) (omega (arith, own-used c.requires.details_in c.requires.entry_known c.requires.fits _ c.requires.own_ranges, c.requires.details_in.ranges, c.requires.details_in.stack, c.requires.details_in.sites, c.requires.details_in.tables.keys.room)) }

pub returns : goal.returns
returns c = noded-as _ c.push.ensures c.read-depth.ensures (keep_done c.args.self.now.context.lists.lists.now c.args.self.now.context.lists.addresses.now _ _ _ _ c.requires.details_in c.requires.entry_known c.requires.fits c.args.call.some c.requires.own_ranges (rw c.entry-entry.ensures at c.in_ok-file.ensures) refl (rw c.entry-entry.ensures at c.in_ok-line.ensures) refl (not-deeper c.check_inline_depth.ensures (not-false _ (ap not c.if-not-check_inline_depth.false))) c.node_past-past.ensures c.put_root-rooted.ensures (rw (c.new.ensures.based, c.new.ensures.counted) at c.put_inline_node-walk.ensures) (elim c.if-walk.branch [ then-walk w ↦ rw w.if-walk.true (w.walk-is ∙ w.if-walk.true) | else-walk w ↦ rw w.if-walk.false w.walk-is ]))

pub push-requires-clause-fits : goal.push-requires-clause-fits
push-requires-clause-fits c = (used-small c.requires.details_in c.requires.fits (main-bytes c.args.self.now), omega (arith, own-small _ c.requires.details_in c.requires.entry_known c.requires.fits c.requires.own_ranges (main-bytes c.args.self.now)))

pub overflow_add-call : goal.overflow_add-call
overflow_add-call c = omega (arith, known_inside c.requires.details_in c.requires.entry_known)

pub read-depth-requires : goal.read-depth-requires
read-depth-requires c = omega (arith, known_inside c.requires.details_in c.requires.entry_known)
