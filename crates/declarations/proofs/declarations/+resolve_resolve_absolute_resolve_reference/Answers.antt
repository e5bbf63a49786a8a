-- The functions of this cycle meet their contracts.
use mathlib.Core.Path.{refl, sym, ap, ◌∙◌}
use native.Mathlib.Omega.{arith}
use Rattle.tlv.proofs.AnswerLaws.{handed}
use Rattle.references.specs.declared.trails.Trail.{Trail as Walked}
use Rattle.references.proofs.KeyLaws.{keys-inside}
use Rattle.declarations.proofs.AimLaws.{aim-seen, aim-refused, aim-outside, aim-entry}
use Rattle.declarations.proofs.ResolveLaws.{resolve-deep, resolve-own, resolve-first, resolve-second, first-reaching, second-reaching, missing-is, read-as, from-as}
use Rattle.declarations.proofs.DeclareFrames.{pushed_room, pushed_ready}
use Rattle.declarations.proofs.OwnDeclarationLaws.{unit-known}
use Rattle.declarations.proofs.ReferencedLaws.{absolute-seen, absolute-refused, absolute-outside, absolute-join-refused, joined-ready, joined-reaching, absolute-entry, reference-nothing, reference-refused, entry_next, offset-next, entry-reaching, reference-entry, reference-offset}
use Rattle.declarations.proofs.declarations.+resolve_resolve_absolute_resolve_reference.Goals as goal

pub resolve-returns-then-here-eq0 : goal.resolve-returns-then-here-eq0
resolve-returns-then-here-eq0 t c = resolve-deep c.requires.declaring_in c.requires.reaching (omega (arith, c.well_formed)) (omega (arith, c.well_formed)) c.args.st.now.trail.few c.if-here-eq0.true

pub resolve-returns-in_err-own : goal.resolve-returns-in_err-own
resolve-returns-in_err-own t c = rw (handed _ _ c.from_residual.ensures.1)
    (resolve-own c.requires.declaring_in c.requires.reaching c.if-here-eq0.false _ tt (read-as _ (ap (λ (y : Walked). y.reads) (sym c.in_err-own.ensures.same_trail)) (c.in_err-own.ensures.owns.declares c.args.files.now (omega (arith, c.well_formed)) c.args.st.now.trail.reads c.args.st.now.trail.few)))

pub resolve-returns-then-is_some : goal.resolve-returns-then-is_some
resolve-returns-then-is_some t c = resolve-own c.requires.declaring_in c.requires.reaching c.if-here-eq0.false _ (sym c.is_some.ensures ∙ c.if-is_some.true) (read-as _ (ap (λ (y : Walked). y.reads) (sym c.in_ok-own.ensures.same_trail)) (c.in_ok-own.ensures.owns.declares c.args.files.now (omega (arith, c.well_formed)) c.args.st.now.trail.reads c.args.st.now.trail.few))

pub resolve-resolve_reference-requires : goal.resolve-resolve_reference-requires
resolve-resolve_reference-requires t c = let F = missing-is _ (sym c.is_some.ensures ∙ c.if-is_some.false) (read-as _ (ap (λ (y : Walked). y.reads) (sym c.in_ok-own.ensures.same_trail)) (c.in_ok-own.ensures.owns.declares c.args.files.now (omega (arith, c.well_formed)) c.args.st.now.trail.reads c.args.st.now.trail.few)) in
    (omega (arith, c.decreases, c.if-here-eq0.false), (F.after.ready, (c.requires.stands, first-reaching c.requires.declaring_in c.requires.reaching c.if-here-eq0.false F)))

pub resolve-returns-in_err-origin : goal.resolve-returns-in_err-origin
resolve-returns-in_err-origin t c = let F = missing-is _ (sym c.is_some.ensures ∙ c.if-is_some.false) (read-as _ (ap (λ (y : Walked). y.reads) (sym c.in_ok-own.ensures.same_trail)) (c.in_ok-own.ensures.owns.declares c.args.files.now (omega (arith, c.well_formed)) c.args.st.now.trail.reads c.args.st.now.trail.few)) in
    rw (handed _ _ c.from_residual-in_err-origin.ensures.1) (resolve-first c.requires.declaring_in c.requires.reaching c.if-here-eq0.false F _ tt c.in_err-origin.ensures)

pub resolve-returns-then-is_some-2 : goal.resolve-returns-then-is_some-2
resolve-returns-then-is_some-2 t c = let F = missing-is _ (sym c.is_some.ensures ∙ c.if-is_some.false) (read-as _ (ap (λ (y : Walked). y.reads) (sym c.in_ok-own.ensures.same_trail)) (c.in_ok-own.ensures.owns.declares c.args.files.now (omega (arith, c.well_formed)) c.args.st.now.trail.reads c.args.st.now.trail.few)) in
    resolve-first c.requires.declaring_in c.requires.reaching c.if-here-eq0.false F _ (sym c.is_some-2.ensures ∙ c.if-is_some-2.true) c.in_ok-origin.ensures

pub resolve-resolve_reference-requires-2 : goal.resolve-resolve_reference-requires-2
resolve-resolve_reference-requires-2 t c = let F = missing-is _ (sym c.is_some.ensures ∙ c.if-is_some.false) (read-as _ (ap (λ (y : Walked). y.reads) (sym c.in_ok-own.ensures.same_trail)) (c.in_ok-own.ensures.owns.declares c.args.files.now (omega (arith, c.well_formed)) c.args.st.now.trail.reads c.args.st.now.trail.few)) in
    let G = missing-is _ (sym c.is_some-2.ensures ∙ c.if-is_some-2.false) c.in_ok-origin.ensures in
    (omega (arith, c.decreases, c.if-here-eq0.false), (G.after.ready, (c.requires.stands, second-reaching c.requires.declaring_in c.requires.reaching c.if-here-eq0.false F G)))

pub resolve-returns : goal.resolve-returns
resolve-returns t c = let F = missing-is _ (sym c.is_some.ensures ∙ c.if-is_some.false) (read-as _ (ap (λ (y : Walked). y.reads) (sym c.in_ok-own.ensures.same_trail)) (c.in_ok-own.ensures.owns.declares c.args.files.now (omega (arith, c.well_formed)) c.args.st.now.trail.reads c.args.st.now.trail.few)) in
    let G = missing-is _ (sym c.is_some-2.ensures ∙ c.if-is_some-2.false) c.in_ok-origin.ensures in
    resolve-second c.requires.declaring_in c.requires.reaching c.if-here-eq0.false F G _ c.resolve_reference-2.ensures

pub resolve_absolute-is_visited-requires : goal.resolve_absolute-is_visited-requires
resolve_absolute-is_visited-requires t c = keys-inside c.requires.declaring_in.search-tables.keys

pub resolve_absolute-returns-then-is_visited : goal.resolve_absolute-returns-then-is_visited
resolve_absolute-returns-then-is_visited t c = absolute-seen c.requires.declaring_in c.args.at (omega (arith, c.well_formed)) (omega (arith, c.well_formed)) c.args.st.now.trail.few (aim-seen _ _ _ c.args.d.now.tables _ c.args.at _ c.is_visited.ensures c.if-is_visited.true)

pub resolve_absolute-returns-in_err-found : goal.resolve_absolute-returns-in_err-found
resolve_absolute-returns-in_err-found t c = rw (handed _ _ c.from_residual.ensures.1) (absolute-refused c.requires.declaring_in c.args.at _ (aim-refused _ _ _ c.args.d.now.tables _ c.args.at _ c.is_visited.ensures c.if-is_visited.false c.of-s.ensures c.in_err-found.ensures))

pub resolve_absolute-push_key-requires : goal.resolve_absolute-push_key-requires
resolve_absolute-push_key-requires t c = pushed_room c.requires.declaring_in c.requires.aims.possible (sym c.is_visited.ensures ∙ c.if-is_visited.false)

pub resolve_absolute-with_target-st-requires : goal.resolve_absolute-with_target-st-requires
resolve_absolute-with_target-st-requires t c = let room = pushed_room c.requires.declaring_in c.requires.aims.possible (sym c.is_visited.ensures ∙ c.if-is_visited.false) in
    omega (arith, c.well_formed)

pub resolve_absolute-with_entry-st-requires : goal.resolve_absolute-with_entry-st-requires
resolve_absolute-with_entry-st-requires t c = let room = pushed_room c.requires.declaring_in c.requires.aims.possible (sym c.is_visited.ensures ∙ c.if-is_visited.false) in
    omega (arith, c.well_formed)

pub resolve_absolute-returns-in_default : goal.resolve_absolute-returns-in_default
resolve_absolute-returns-in_default t c = let A = aim-outside _ _ _ c.args.d.now.tables _ c.args.at _ c.is_visited.ensures c.if-is_visited.false c.of-s.ensures (rw c.in_default.is at c.in_ok-found.ensures) in
    read-as _ (sym c.with_target-st.ensures.none_read)
    (absolute-outside c.requires.declaring_in c.args.at c.requires.aims c.push_key.ensures c.with_target-st.result c.with_target-st.ensures.one_followed c.push_key.auto.work (omega (arith, c.well_formed)) (omega (arith, c.well_formed)) c.args.st.now.trail.few A)

pub resolve_absolute-join_files-requires-clause-declaring_in : goal.resolve_absolute-join_files-requires-clause-declaring_in
resolve_absolute-join_files-requires-clause-declaring_in t c =
    pushed_ready c.requires.declaring_in c.requires.aims.possible (sym c.is_visited.ensures ∙ c.if-is_visited.false) c.push_key.ensures c.with_entry-st.result c.with_entry-st.ensures.one_followed c.push_key.auto.work

pub resolve_absolute-join_files-requires-clause-unit_known : goal.resolve_absolute-join_files-requires-clause-unit_known
resolve_absolute-join_files-requires-clause-unit_known t c = let A = aim-entry _ _ _ c.args.d.now.tables _ c.args.at _ c.is_visited.ensures c.if-is_visited.false c.of-s.ensures c.requires.aims (rw c.in-Some.is at c.in_ok-found.ensures) in
    unit-known c.requires.declaring_in _ A.stands

pub resolve_absolute-returns-in_err-st : goal.resolve_absolute-returns-in_err-st
resolve_absolute-returns-in_err-st t c = let A = aim-entry _ _ _ c.args.d.now.tables _ c.args.at _ c.is_visited.ensures c.if-is_visited.false c.of-s.ensures c.requires.aims (rw c.in-Some.is at c.in_ok-found.ensures) in
    rw (handed _ _ c.from_residual-in_err-st.ensures.1, c.with_entry-st.ensures.one_read) (absolute-join-refused c.requires.declaring_in c.args.at c.requires.aims c.push_key.ensures c.with_entry-st.result c.with_entry-st.ensures.one_followed c.push_key.auto.work A c.in_err-st.ensures _ refl)

pub resolve_absolute-resolve-requires : goal.resolve_absolute-resolve-requires
resolve_absolute-resolve-requires t c = let A = aim-entry _ _ _ c.args.d.now.tables _ c.args.at _ c.is_visited.ensures c.if-is_visited.false c.of-s.ensures c.requires.aims (rw c.in-Some.is at c.in_ok-found.ensures) in
    rw c.to_entry.ensures (omega (arith, c.decreases), (joined-ready c.requires.declaring_in c.args.at c.requires.aims c.push_key.ensures c.with_entry-st.result c.with_entry-st.ensures.one_followed c.push_key.auto.work A c.in_ok-st.ensures _ refl c.join_files.auto.work, (A.stands, joined-reaching c.requires.declaring_in c.args.at c.requires.aims c.push_key.ensures c.with_entry-st.result c.with_entry-st.ensures.one_followed c.push_key.auto.work A c.in_ok-st.ensures _ refl c.join_files.auto.work)))

pub resolve_absolute-returns : goal.resolve_absolute-returns
resolve_absolute-returns t c = let A = aim-entry _ _ _ c.args.d.now.tables _ c.args.at _ c.is_visited.ensures c.if-is_visited.false c.of-s.ensures c.requires.aims (rw c.in-Some.is at c.in_ok-found.ensures) in
    absolute-entry c.requires.declaring_in c.args.at c.requires.aims c.push_key.ensures c.with_entry-st.result c.with_entry-st.ensures.one_followed c.push_key.auto.work A c.in_ok-st.ensures _ refl c.join_files.auto.work (omega (arith, c.well_formed)) (omega (arith, c.well_formed)) _ (from-as _ c.with_entry-st.ensures.one_read (rw c.to_entry.ensures at c.resolve.ensures))

pub resolve_reference-returns-in_err-way_of : goal.resolve_reference-returns-in_err-way_of
resolve_reference-returns-in_err-way_of t c = rw (handed _ _ c.from_residual.ensures.1) (reference-refused c.requires.declaring_in c.args.here.now.at c.args.here.now.reached c.args.name _ _ c.in_err-way_of.ensures)

pub resolve_reference-push_key-requires : goal.resolve_reference-push_key-requires
resolve_reference-push_key-requires t c = let N = entry_next c.requires.declaring_in c.args.here.now.at c.args.here.now.reached c.args.name _ _ _ (rw c.in-Some-Entry.field-0-is at c.in-Some-Entry.is) c.in_ok-way_of.ensures in
    pushed_room c.requires.declaring_in N.possible N.new

pub resolve_reference-with_entry-st-requires : goal.resolve_reference-with_entry-st-requires
resolve_reference-with_entry-st-requires t c = let N = entry_next c.requires.declaring_in c.args.here.now.at c.args.here.now.reached c.args.name _ _ _ (rw c.in-Some-Entry.field-0-is at c.in-Some-Entry.is) c.in_ok-way_of.ensures in
    let room = pushed_room c.requires.declaring_in N.possible N.new in
    omega (arith, c.well_formed)

pub resolve_reference-resolve-requires : goal.resolve_reference-resolve-requires
resolve_reference-resolve-requires t c = let N = entry_next c.requires.declaring_in c.args.here.now.at c.args.here.now.reached c.args.name _ _ _ (rw c.in-Some-Entry.field-0-is at c.in-Some-Entry.is) c.in_ok-way_of.ensures in (
  omega (arith, N.deeper, c.decreases),
  (
    pushed_ready c.requires.declaring_in N.possible N.new c.push_key.ensures c.with_entry-st.result c.with_entry-st.ensures.one_followed c.push_key.auto.work,
    (N.stands, entry-reaching c.requires.declaring_in c.args.here.now.at c.args.here.now.reached c.args.name c.requires.reaching N c.push_key.ensures c.with_entry-st.result c.with_entry-st.ensures.one_followed),
  ),
)

pub resolve_reference-returns-in-None : goal.resolve_reference-returns-in-None
resolve_reference-returns-in-None t c = reference-nothing c.requires.declaring_in c.args.here.now.at c.args.here.now.reached c.args.name _ (omega (arith, c.well_formed)) (omega (arith, c.well_formed)) c.args.st.now.trail.few _ c.in-None.is c.in_ok-way_of.ensures

pub resolve_reference-returns-in-Some-Entry : goal.resolve_reference-returns-in-Some-Entry
resolve_reference-returns-in-Some-Entry t c = let N = entry_next c.requires.declaring_in c.args.here.now.at c.args.here.now.reached c.args.name _ _ _ (rw c.in-Some-Entry.field-0-is at c.in-Some-Entry.is) c.in_ok-way_of.ensures in
    reference-entry c.requires.declaring_in c.args.here.now.at c.args.here.now.reached c.args.name c.requires.reaching N c.push_key.ensures c.with_entry-st.result c.with_entry-st.ensures.one_followed c.push_key.auto.work (omega (arith, c.well_formed)) (omega (arith, c.well_formed)) _
    (from-as _ c.with_entry-st.ensures.one_read c.resolve.ensures)

pub resolve_reference-returns-in-Some-Offset : goal.resolve_reference-returns-in-Some-Offset
resolve_reference-returns-in-Some-Offset t c = let N = offset-next c.requires.declaring_in c.args.here.now.at c.args.here.now.reached c.args.name _ _ (rw c.in-Some-Offset.field-0-is at c.in-Some-Offset.is) c.in_ok-way_of.ensures in
    reference-offset c.requires.declaring_in c.args.here.now.at c.args.here.now.reached c.args.name _ _ N c.resolve_absolute.ensures
