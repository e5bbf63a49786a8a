-- One entry of the walk below a subprogram: what ends before it is closed, and it is a call site, an inlined call, or neither.
use mathlib.Core.Path.{◌≡◌, refl, sym, ap, ◌∙◌}
use mathlib.Core.Bool.{Bool, true, false, ◌&&◌}
use mathlib.Core.List.{List, [], append-nil}
use Prim.Native.Nat.{ℕ, ◌+◌, ◌<◌}
use native.Mathlib.Omega.{arith}
use lib.ListN.{length}
use borrow.Author.Tests.{eq-eqb, ne_eqb}
use Rattle.tlv.specs.Outcome.{refused, done}
use Rattle.tlv.specs.Bytes.{le_at}
use Rattle.tlv.specs.Model.{Entry}
use Rattle.buffers.specs.Buffer.{top}
use Rattle.buffers.specs.Output.{InlineNode, Warning}
use Rattle.buffers.specs.Table.{Kept}
use Rattle.buffers.proofs.BufferLaws.{put-none}
use Rattle.buffers.proofs.TableLaws.{kept_refl, kept_trans}
use Rattle.access.specs.Places.{entry_here}
use Rattle.references.specs.Tables.{EntryKnown}
use Rattle.imports.specs.Tree.{Descendants, DetailContext, finish, make_inline_node, collect_entry}
use Rattle.dies.specs.declared.details.Details.{Details}
use Rattle.dies.specs.declared.walk.Walk.{Walk}
use Rattle.dies.specs.Details.{DetailsIn, context_in}
use Rattle.dies.specs.DetailState.{ranges_later, entries_left, walk_of, Fits, walked, Advances, Quiet, Shut, collect_site, step_entry}
use Rattle.dies.proofs.PastLaws.{past_same}
use Rattle.dies.proofs.CallLaws.{entry_depth-here, entry_tag-here, warn_none}
use Rattle.dies.proofs.WalkStateLaws.{details_kept, context-kept}
use Rattle.dies.proofs.SiteStepLaws.{details-accepted, later-fits}

-- ---- one entry

and_false : (b : Bool) → (b && false) ≡ false
and_false true = refl
and_false false = refl

module _ (c : DetailContext) (e : Entry) (x : Descendants) where
  step-site : c.include_call_sites ≡ true → e.tag ≡ 0x48 → step_entry c e x ≡ collect_site c e (finish e.depth x)
  unfolding step_entry collect_entry collect_site
  step-site on is = rw (on, eq-eqb e.tag 0x48 is)

  step-inline : c.include_inlines ≡ true → e.tag ≡ 0x1d → step_entry c e x ≡ make_inline_node c e (finish e.depth x)
  unfolding step_entry collect_entry
  step-inline on is = rw (ne_eqb e.tag 0x48 (λ z. omega arith), and_false c.include_call_sites, on, eq-eqb e.tag 0x1d is)

  step-site-off : c.include_call_sites ≡ false → e.tag ≡ 0x48 → step_entry c e x ≡ done (finish e.depth x)
  unfolding step_entry collect_entry
  step-site-off off is = rw (off, ne_eqb e.tag 0x1d (λ z. omega arith), and_false c.include_inlines)

  step-inline-off : c.include_inlines ≡ false → e.tag ≡ 0x1d → step_entry c e x ≡ done (finish e.depth x)
  unfolding step_entry collect_entry
  step-inline-off off is = rw (ne_eqb e.tag 0x48 (λ z. omega arith), and_false c.include_call_sites, off)

  step_other : (e.tag ≡ 0x48 → ⊥) → (e.tag ≡ 0x1d → ⊥) → step_entry c e x ≡ done (finish e.depth x)
  unfolding step_entry collect_entry
  step_other h k = rw (ne_eqb e.tag 0x48 h, and_false c.include_call_sites, ne_eqb e.tag 0x1d k, and_false c.include_inlines)

module _ {main supplementary w : List ℕ} {d : Details} {p : ℕ} {s : Walk} (name t u : List ℕ) (D : DetailsIn main supplementary w d) (K : EntryKnown main d.context.unit p)
    (F : Fits main supplementary w d (ranges_later main p) (entries_left main p) s) {depth tag : ℕ} (ed : depth ≡ le_at 2 main (p + 11)) (et : tag ≡ le_at 2 main (p + 13))
    {w₁ : List ℕ} {s₁ : Walk} (S : Shut main supplementary d depth w s w₁ s₁) where
  depth_is : (entry_here main p).depth ≡ depth
  depth_is = entry_depth-here (details-accepted D) K ∙ sym ed

  tag_is : (entry_here main p).tag ≡ tag
  tag_is = entry_tag-here (details-accepted D) K ∙ sym et

  pub shut-details : length w₁ ≡ length w → DetailsIn main supplementary w₁ d
  shut-details z = details_kept D S.kept (omega arith) z

  module _ (lists addresses : List ℕ) where
    same-context : context_in main supplementary lists addresses w₁ d ≡ context_in main supplementary lists addresses w d
    same-context = context-kept D S.kept (omega arith)

    shut-walk : (ns : List InlineNode) (ws : List Warning) → finish (entry_here main p).depth (walk_of main supplementary d w s ns ws) ≡ walk_of main supplementary d w₁ s₁ ns ws
    shut-walk ns ws = ap (λ (n : ℕ). finish n (walk_of main supplementary d w s ns ws)) depth_is ∙ sym (S.walk ns ws)

    pub one-inline : {w₂ t₂ u₂ : List ℕ} {n : ℕ} {s₂ : Walk} → d.context.include_inlines ≡ true → tag ≡ 0x1d
        → Advances (make_inline_node (context_in main supplementary lists addresses w₁ d) (entry_here main p)) main supplementary name d (ranges_later main (p + 15)) (entries_left main (p + 15)) w₁ t u s₁ w₂ t₂ u₂ n s₂
        → Advances (step_entry (context_in main supplementary lists addresses w d) (entry_here main p)) main supplementary name d (ranges_later main (p + 15)) (entries_left main (p + 15)) w t u s w₂ t₂ u₂ n s₂
    one-inline on is A = record {
      nodes = A.nodes;
      warnings = A.warnings;
      laid = λ z. let P = A.laid z in rw (S.place, S.nodes) at P;
      warned = λ z. let P = A.warned z in rw S.warned at P;
      past = λ z. let P = A.past z in rw (S.past, S.place, S.nodes) at P;
      count = λ z. omega (arith, A.count z, S.nodes);
      kept = kept_trans S.kept A.kept;
      fits = A.fits;
      ok = λ z ns ws. steps ns ws ∙ A.ok z ns ws;
      no = λ z ns ws. steps ns ws ∙ A.no z ns ws;
    }
      where
        steps : (ns : List InlineNode) (ws : List Warning) → step_entry (context_in main supplementary lists addresses w d) (entry_here main p) (walk_of main supplementary d w s ns ws)
            ≡ make_inline_node (context_in main supplementary lists addresses w₁ d) (entry_here main p) (walk_of main supplementary d w₁ s₁ ns ws)
        steps ns ws = step-inline (context_in main supplementary lists addresses w d) (entry_here main p) (walk_of main supplementary d w s ns ws) on (tag_is ∙ is) ∙ (λ i. make_inline_node (sym same-context i) (entry_here main p) (shut-walk ns ws i))

    module _ (small : length t < top) (tiny : length u < top) where
      quiet-advances : {w₂ : List ℕ} {n : ℕ} {s₂ : Walk} → s₂.at ≡ s₁.at → s₂.warned ≡ s₁.warned → s₂.nodes ≡ s₁.nodes → s₂.past ≡ s₁.past → Kept w₁ w₂ d.context.ranges (walked main supplementary d)
          → (n ≡ 0 → Fits main supplementary w₂ d (ranges_later main (p + 15)) (entries_left main (p + 15)) s₂)
          → (n ≡ 0 → (ns : List InlineNode) (ws : List Warning) → step_entry (context_in main supplementary lists addresses w d) (entry_here main p) (walk_of main supplementary d w s ns ws) ≡ done (walk_of main supplementary d w₂ s₂ ns ws))
          → ((n ≡ 0 → ⊥) → (ns : List InlineNode) (ws : List Warning) → step_entry (context_in main supplementary lists addresses w d) (entry_here main p) (walk_of main supplementary d w s ns ws) ≡ refused n)
          → Advances (step_entry (context_in main supplementary lists addresses w d) (entry_here main p)) main supplementary name d (ranges_later main (p + 15)) (entries_left main (p + 15)) w t u s w₂ t u n s₂
      quiet-advances {w₂} {s₂ = s₂} ep ew en eb kept fits ok refuses = record {
        nodes = [];
        warnings = [];
        laid = λ z. rw (ep, S.place) (put-none F.place small);
        warned = λ z. rw (ew, S.warned) (warn_none F.warned tiny);
        past = λ z. rw (eb, S.past) (past_same s.past s.at F.place);
        count = λ z. omega (arith, en, S.nodes);
        kept = kept_trans S.kept kept;
        fits = fits;
        ok = λ z ns ws. ok z ns ws ∙ ap done (λ i. walk_of main supplementary d w₂ s₂ (sym (append-nil ns) i) (sym (append-nil ws) i));
        no = refuses;
      }

      pub one-site : {w₂ : List ℕ} {n : ℕ} {s₂ : Walk} → d.context.include_call_sites ≡ true → tag ≡ 0x48
          → Quiet (collect_site (context_in main supplementary lists addresses w₁ d) (entry_here main p)) main supplementary d (ranges_later main (p + 15)) (entries_left main (p + 15)) w₁ s₁ w₂ n s₂
          → Advances (step_entry (context_in main supplementary lists addresses w d) (entry_here main p)) main supplementary name d (ranges_later main (p + 15)) (entries_left main (p + 15)) w t u s w₂ t u n s₂
      one-site on is Q = quiet-advances Q.place Q.warned Q.nodes Q.past Q.kept Q.fits (λ z ns ws. steps ns ws ∙ Q.ok z ns ws) (λ z ns ws. steps ns ws ∙ Q.no z ns ws)
        where
          steps : (ns : List InlineNode) (ws : List Warning) → step_entry (context_in main supplementary lists addresses w d) (entry_here main p) (walk_of main supplementary d w s ns ws)
              ≡ collect_site (context_in main supplementary lists addresses w₁ d) (entry_here main p) (walk_of main supplementary d w₁ s₁ ns ws)
          steps ns ws = step-site (context_in main supplementary lists addresses w d) (entry_here main p) (walk_of main supplementary d w s ns ws) on (tag_is ∙ is) ∙ (λ i. collect_site (sym same-context i) (entry_here main p) (shut-walk ns ws i))

      -- neither
      neither : ((x : Descendants) → step_entry (context_in main supplementary lists addresses w d) (entry_here main p) x ≡ done (finish (entry_here main p).depth x))
          → Advances (step_entry (context_in main supplementary lists addresses w d) (entry_here main p)) main supplementary name d (ranges_later main (p + 15)) (entries_left main (p + 15)) w t u s w₁ t u 0 s₁
      neither steps = quiet-advances refl refl refl refl (kept_refl w₁ d.context.ranges (walked main supplementary d)) (λ z. S.fits (ranges_later main (p + 15)) (entries_left main (p + 15)) (later-fits D K F))
          (λ z ns ws. steps (walk_of main supplementary d w s ns ws) ∙ ap done (shut-walk ns ws)) (λ z. absurd (z refl))

      pub one-site-off : d.context.include_call_sites ≡ false → tag ≡ 0x48
          → Advances (step_entry (context_in main supplementary lists addresses w d) (entry_here main p)) main supplementary name d (ranges_later main (p + 15)) (entries_left main (p + 15)) w t u s w₁ t u 0 s₁
      one-site-off off is = neither (λ x. step-site-off (context_in main supplementary lists addresses w d) (entry_here main p) x off (tag_is ∙ is))

      pub one-inline-off : d.context.include_inlines ≡ false → tag ≡ 0x1d
          → Advances (step_entry (context_in main supplementary lists addresses w d) (entry_here main p)) main supplementary name d (ranges_later main (p + 15)) (entries_left main (p + 15)) w t u s w₁ t u 0 s₁
      one-inline-off off is = neither (λ x. step-inline-off (context_in main supplementary lists addresses w d) (entry_here main p) x off (tag_is ∙ is))

      pub one-other : (tag ≡ 0x48 → ⊥) → (tag ≡ 0x1d → ⊥)
          → Advances (step_entry (context_in main supplementary lists addresses w d) (entry_here main p)) main supplementary name d (ranges_later main (p + 15)) (entries_left main (p + 15)) w t u s w₁ t u 0 s₁
      one-other h k = neither (λ x. step_other (context_in main supplementary lists addresses w d) (entry_here main p) x (λ z. h (sym tag_is ∙ z)) (λ z. k (sym tag_is ∙ z)))
