-- `details::Details::collect_entry` meets its contract.
use native.Mathlib.Omega.{arith}
use Rattle.dies.proofs.SiteStepLaws.{known_inside}
use Rattle.dies.proofs.details.CollectLaws.{shut-details, one-inline, one-site, one-site-off, one-inline-off, one-other}
use Rattle.dies.proofs.details.Details.collect_entry.Goals as goal
use Rattle.dies.proofs.details.Details.collect_entry.Goals.{else-tag-eq-DW_TAG_CALL_SITE-via-then-tag-eq-DW_TAG_CALL_SITE+else-self, else-tag-eq-DW_TAG_CALL_SITE-via-else-tag-eq-DW_TAG_CALL_SITE, else-tag-eq-DW_TAG_INLINED_SUBROUTINE-via-then-tag-eq-DW_TAG_INLINED_SUBROUTINE+else-self-2, else-tag-eq-DW_TAG_INLINED_SUBROUTINE-via-else-tag-eq-DW_TAG_INLINED_SUBROUTINE}

pub make_call_site-requires-clause-details_in : goal.make_call_site-requires-clause-details_in
make_call_site-requires-clause-details_in c = shut-details c.args.self.now.name.now c.args.records.now c.args.warnings.now c.requires.details_in c.requires.entry_known c.requires.fits c.read-depth.ensures c.read-tag.ensures c.close.ensures c.close.auto.work

pub returns-then-self : goal.returns-then-self
returns-then-self c = one-site _ _ _ c.requires.details_in c.requires.entry_known c.requires.fits c.read-depth.ensures c.read-tag.ensures c.close.ensures c.args.self.now.context.lists.lists.now c.args.self.now.context.lists.addresses.now (omega arith) (omega arith) c.if-self.true c.if-tag-eq-DW_TAG_CALL_SITE.true (c.make_call_site.ensures c.args.self.now.context.lists.lists.now c.args.self.now.context.lists.addresses.now)

pub make_inline_node-requires-clause-details_in : goal.make_inline_node-requires-clause-details_in
make_inline_node-requires-clause-details_in c = shut-details c.args.self.now.name.now c.args.records.now c.args.warnings.now c.requires.details_in c.requires.entry_known c.requires.fits c.read-depth.ensures c.read-tag.ensures c.close.ensures c.close.auto.work

pub returns-then-self-2 : goal.returns-then-self-2
returns-then-self-2 c = one-inline _ _ _ c.requires.details_in c.requires.entry_known c.requires.fits c.read-depth.ensures c.read-tag.ensures c.close.ensures c.args.self.now.context.lists.lists.now c.args.self.now.context.lists.addresses.now c.if-self-2.true c.if-tag-eq-DW_TAG_INLINED_SUBROUTINE.true c.make_inline_node.ensures

pub returns : goal.returns
returns c = elim c.else-tag-eq-DW_TAG_CALL_SITE.branch [
  | else-tag-eq-DW_TAG_CALL_SITE-via-then-tag-eq-DW_TAG_CALL_SITE+else-self w ↦ one-site-off _ _ _ c.requires.details_in c.requires.entry_known c.requires.fits c.read-depth.ensures c.read-tag.ensures c.close.ensures c.args.self.now.context.lists.lists.now c.args.self.now.context.lists.addresses.now (omega arith) (omega arith) w.if-self.false w.if-tag-eq-DW_TAG_CALL_SITE.true
  | else-tag-eq-DW_TAG_CALL_SITE-via-else-tag-eq-DW_TAG_CALL_SITE w ↦ elim c.else-tag-eq-DW_TAG_INLINED_SUBROUTINE.branch [
    | else-tag-eq-DW_TAG_INLINED_SUBROUTINE-via-then-tag-eq-DW_TAG_INLINED_SUBROUTINE+else-self-2 v ↦ one-inline-off _ _ _ c.requires.details_in c.requires.entry_known c.requires.fits c.read-depth.ensures c.read-tag.ensures c.close.ensures c.args.self.now.context.lists.lists.now c.args.self.now.context.lists.addresses.now (omega arith) (omega arith) v.if-self-2.false v.if-tag-eq-DW_TAG_INLINED_SUBROUTINE.true
    | else-tag-eq-DW_TAG_INLINED_SUBROUTINE-via-else-tag-eq-DW_TAG_INLINED_SUBROUTINE v ↦ one-other _ _ _ c.requires.details_in c.requires.entry_known c.requires.fits c.read-depth.ensures c.read-tag.ensures c.close.ensures c.args.self.now.context.lists.lists.now c.args.self.now.context.lists.addresses.now (omega arith) (omega arith) w.if-tag-eq-DW_TAG_CALL_SITE.false v.if-tag-eq-DW_TAG_INLINED_SUBROUTINE.false
  ]
]

pub overflow_add-p : goal.overflow_add-p
overflow_add-p c = omega (arith, known_inside c.requires.details_in c.requires.entry_known)

pub read-depth-requires : goal.read-depth-requires
read-depth-requires c = omega (arith, known_inside c.requires.details_in c.requires.entry_known)

pub overflow_add-p-2 : goal.overflow_add-p-2
overflow_add-p-2 c = omega (arith, known_inside c.requires.details_in c.requires.entry_known)

pub read-tag-requires : goal.read-tag-requires
read-tag-requires c = omega (arith, known_inside c.requires.details_in c.requires.entry_known)
