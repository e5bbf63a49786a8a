-- All entries below a subprogram: the loop over the fields, from entry to entry.
use mathlib.Core.Path.{◌≡◌, refl, sym, ap, ◌∙◌}
use mathlib.Core.Bool.{◌||◌}
use mathlib.Core.List.{List, [], ◌∷◌, ◌++◌, append-nil, append_assoc}
use Prim.Native.Nat.{ℕ, suc, ◌+◌, ◌≤◌, ◌<◌}
use native.Mathlib.Omega.{arith}
use lib.ListN.{length, length-append}
use Rattle.std.specs.Prelude.{Some, None}
use Rattle.tlv.specs.declared.model.AddressRange.{AddressRange}
use Rattle.tlv.specs.declared.fields.FieldSpan.{FieldSpan}
use Rattle.tlv.specs.Outcome.{refused, done, ◌>>=◌}
use Rattle.tlv.specs.Bytes.{le_at}
use Rattle.tlv.specs.Checked.{Placed}
use Rattle.tlv.specs.Cursor.{step_at, field_from}
use Rattle.tlv.specs.Model.{Entry}
use Rattle.tlv.proofs.FieldLaws.{is-step, field-within}
use Rattle.tlv.proofs.PlaceFacts.{placed-next}
use Rattle.tlv.proofs.PlacePromises.{placed-entry}
use Rattle.buffers.specs.Buffer.{Put, top}
use Rattle.buffers.specs.Output.{InlineNode, Warning, each_of, node_bytes, warnings_bytes}
use Rattle.buffers.specs.Table.{Kept}
use Rattle.buffers.proofs.BufferLaws.{◌then◌, put-none, put-length}
use Rattle.buffers.proofs.TableLaws.{kept_refl, kept_trans}
use Rattle.access.specs.Places.{entry_here}
use Rattle.references.specs.Tables.{EntryKnown}
use Rattle.imports.specs.Import.{descendants_of}
use Rattle.imports.specs.Tree.{Descendants, DetailContext, collect_entries}
use Rattle.dies.specs.declared.details.Details.{Details}
use Rattle.dies.specs.declared.walk.Walk.{Walk}
use Rattle.dies.specs.Past.{is_past}
use Rattle.dies.specs.Details.{DetailsIn, EntriesKnown, context_in, entries_from}
use Rattle.dies.specs.DetailState.{none_later, ranges_later, entries_left, walk_of, Fits, lead_bytes, new_bytes, walked, Advances, step_entry}
use Rattle.dies.proofs.CallLaws.{warn_none}
use Rattle.dies.proofs.PastLaws.{past_same, past-append}
use Rattle.dies.proofs.EntryWalkLaws.{below-cons, from-entry, from-other, none-below, none-unit, none-stop, depth-at, entry-room, left_other, later-other, lists-later-other, known-here, known-entry, known-other}
use Rattle.dies.proofs.WalkStateLaws.{details_kept, context-kept, fits-less}
use Rattle.dies.proofs.NodeStepLaws.{each_append, warnings-append, advance-refused}

-- ---- the bytes of nodes after others

lead-later : (name : List ℕ) (r : AddressRange) (n k : ℕ) → lead_bytes name r (n + suc k) ≡ []
lead-later name r n k = let e : n + suc k ≡ suc (n + k) = omega arith in rw e

pub new-append : (name : List ℕ) (r : AddressRange) (n : ℕ) (xs ys : List InlineNode) → new_bytes name r n (xs ++ ys) ≡ new_bytes name r n xs ++ new_bytes name r (n + length xs) ys
new-append name r n [] ys = let e : n + 0 ≡ n = omega arith in rw e
new-append name r n (x ∷ xs) [] = rw (append-nil xs, append-nil (lead_bytes name r n ++ each_of node_bytes (x ∷ xs)))
new-append name r n (x ∷ xs) (y ∷ ys) =
    ap (λ (l : List ℕ). lead_bytes name r n ++ l) (each_append node_bytes (x ∷ xs) (y ∷ ys)) ∙ sym (append_assoc (lead_bytes name r n) (each_of node_bytes (x ∷ xs)) (each_of node_bytes (y ∷ ys)))
    ∙ ap (λ (l : List ℕ). (lead_bytes name r n ++ each_of node_bytes (x ∷ xs)) ++ (l ++ each_of node_bytes (y ∷ ys))) (sym (lead-later name r n (length xs)))

-- ---- the definition

entries_none : (c : DetailContext) (x : Descendants) → collect_entries c [] x ≡ done x
unfolding collect_entries
entries_none c x = refl

entries_next : (c : DetailContext) (e : Entry) (es : List Entry) (x y : Descendants) → step_entry c e x ≡ done y → collect_entries c (e ∷ es) x ≡ collect_entries c es y
unfolding collect_entries step_entry ◌>>=◌
entries_next c e es x y h = rw h

entries-refused : (c : DetailContext) (e : Entry) (es : List Entry) (x : Descendants) (n : ℕ) → step_entry c e x ≡ refused n → collect_entries c (e ∷ es) x ≡ refused n
unfolding collect_entries step_entry ◌>>=◌
entries-refused c e es x n h = rw h

-- ---- the loop

pub record Collecting (main supplementary lists addresses name : List ℕ) (d : Details) (p depth : ℕ) (w₀ t₀ u₀ : List ℕ) (s₀ : Walk) (w t u : List ℕ) (s : Walk) (at : ℕ) : Type 0 where
  pub placed : Placed main at
  pub known : EntriesKnown main d.context.unit at
  pub details : DetailsIn main supplementary w d
  pub same : context_in main supplementary lists addresses w d ≡ context_in main supplementary lists addresses w₀ d
  pub fits : Fits main supplementary w d (ranges_later main at) (entries_left main at) s
  pub nodes : List InlineNode
  pub warnings : List Warning
  pub laid : Put s₀.at (new_bytes name d.range s₀.nodes nodes) t₀ t s.at
  pub warned : Put s₀.warned (warnings_bytes warnings) u₀ u s.warned
  pub begins : s₀.at ≤ top
  pub past : s.past ≡ (s₀.past || is_past s₀.at (length (new_bytes name d.range s₀.nodes nodes)))
  pub count : s.nodes ≡ s₀.nodes + length nodes
  pub kept : Kept w₀ w d.context.ranges (walked main supplementary d)
  pub size : length w ≡ length w₀
  pub records-size : length t ≡ length t₀
  pub warnings-size : length u ≡ length u₀
  pub left : (ns : List InlineNode) (ws : List Warning) → collect_entries (context_in main supplementary lists addresses w₀ d) (descendants_of depth (entries_from main at)) (walk_of main supplementary d w s (ns ++ nodes) (ws ++ warnings))
      ≡ collect_entries (context_in main supplementary lists addresses w₀ d) (descendants_of depth (entries_from main p)) (walk_of main supplementary d w₀ s₀ ns ws)

pub collecting-start : {main supplementary w : List ℕ} {d : Details} {p : ℕ} {s : Walk} (lists addresses name t u : List ℕ) (depth : ℕ) → DetailsIn main supplementary w d → Placed main p → EntriesKnown main d.context.unit p
    → Fits main supplementary w d (ranges_later main p) (entries_left main p) s → length t < top → length u < top → Collecting main supplementary lists addresses name d p depth w t u s w t u s p
collecting-start {main} {supplementary} {w} {d} {p} {s} lists addresses name t u depth D h K F small tiny = record {
  placed = h;
  known = K;
  details = D;
  same = refl;
  fits = F;
  nodes = [];
  warnings = [];
  laid = put-none F.place small;
  warned = warn_none F.warned tiny;
  begins = F.place;
  past = past_same s.past s.at F.place;
  count = omega arith;
  kept = kept_refl w d.context.ranges (walked main supplementary d);
  size = refl;
  records-size = refl;
  warnings-size = refl;
  left = λ ns ws i. collect_entries (context_in main supplementary lists addresses w d) (descendants_of depth (entries_from main p)) (walk_of main supplementary d w s (append-nil ns i) (append-nil ws i));
}

module _ {main supplementary lists addresses name : List ℕ} {d : Details} {p depth : ℕ} {w₀ t₀ u₀ : List ℕ} {s₀ : Walk} {w t u : List ℕ} {s : Walk} {at : ℕ} (C : Collecting main supplementary lists addresses name d p depth w₀ t₀ u₀ s₀ w t u s at) where
  -- nothing is left
  ended : descendants_of depth (entries_from main at) ≡ []
      → Advances (collect_entries (context_in main supplementary lists addresses w₀ d) (descendants_of depth (entries_from main p))) main supplementary name d none_later 0 w₀ t₀ u₀ s₀ w t u 0 s
  ended e = record {
    nodes = C.nodes;
    warnings = C.warnings;
    laid = λ z. C.laid;
    warned = λ z. C.warned;
    past = λ z. C.past;
    count = λ z. C.count;
    kept = C.kept;
    fits = λ z. fits-less C.fits none_later 0 (omega arith) (omega arith) (omega arith);
    ok = λ z ns ws. sym (C.left ns ws) ∙ ap (λ (es : List Entry). collect_entries (context_in main supplementary lists addresses w₀ d) es (walk_of main supplementary d w s (ns ++ C.nodes) (ws ++ C.warnings))) e
        ∙ entries_none (context_in main supplementary lists addresses w₀ d) _;
    no = λ z. absurd (z refl);
  }

  pub collecting-none : None ≡ field_from main at → Advances (collect_entries (context_in main supplementary lists addresses w₀ d) (descendants_of depth (entries_from main p))) main supplementary name d none_later 0 w₀ t₀ u₀ s₀ w t u 0 s
  collecting-none none = ended (none-below main at none depth)

  module _ {f : FieldSpan} (there : Some f ≡ field_from main at) where
    pub collecting-unit : f.tag ≡ 0x10 → Advances (collect_entries (context_in main supplementary lists addresses w₀ d) (descendants_of depth (entries_from main p))) main supplementary name d none_later 0 w₀ t₀ u₀ s₀ w t u 0 s
    collecting-unit is = ended (none-unit main at f there depth is)

    pub collecting-other : (f.tag ≡ 0x10 → ⊥) → (f.tag ≡ 0x17 → ⊥) → Collecting main supplementary lists addresses name d p depth w₀ t₀ u₀ s₀ w t u s f.next
    collecting-other h k = record {
      placed = placed-next main at (step_at main at) f.tag f.start f.len f.next C.placed refl (is-step main at f there);
      known = known-other main at f there C.known h k;
      details = C.details;
      same = C.same;
      fits = fits-less C.fits (ranges_later main f.next) (entries_left main f.next) (omega (arith, later-other main at f there h k)) (omega (arith, lists-later-other main at f there h k)) (omega (arith, left_other main at f there k));
      nodes = C.nodes;
      warnings = C.warnings;
      laid = C.laid;
      warned = C.warned;
      begins = C.begins;
      past = C.past;
      count = C.count;
      kept = C.kept;
      size = C.size;
      records-size = C.records-size;
      warnings-size = C.warnings-size;
      left = λ ns ws. ap (λ (es : List Entry). collect_entries (context_in main supplementary lists addresses w₀ d) (descendants_of depth es) (walk_of main supplementary d w s (ns ++ C.nodes) (ws ++ C.warnings))) (sym (from-other main at f there h k)) ∙ C.left ns ws;
    }

    module _ (is : f.tag ≡ 0x17) where
      pub entry-fields : at + 15 ≤ length main
      entry-fields = entry-room main at f there C.placed is

      pub entry_known : EntryKnown main d.context.unit at
      entry_known = known-here main at f there C.known is

      next-is : f.next ≡ at + 15
      next-is =
          let w = field-within main at f there in
          let l = placed-entry main at (step_at main at) f.tag f.start f.len f.next C.placed refl (is-step main at f there) is in
          omega arith

      module _ {n : ℕ} (en : n ≡ le_at 2 main (at + 11)) where
        depth_is : (entry_here main at).depth ≡ n
        depth_is = depth-at main at f there C.placed is ∙ sym en

        pub collecting-stop : n ≤ depth → Advances (collect_entries (context_in main supplementary lists addresses w₀ d) (descendants_of depth (entries_from main p))) main supplementary name d none_later 0 w₀ t₀ u₀ s₀ w t u 0 s
        collecting-stop h = ended (none-stop main at f there C.placed is depth en h)

        module _ (h : depth < n) {w' t' u' : List ℕ} {m : ℕ} {s' : Walk}
            (A : Advances (step_entry (context_in main supplementary lists addresses w d) (entry_here main at)) main supplementary name d (ranges_later main (at + 15)) (entries_left main (at + 15)) w t u s w' t' u' m s') where
          entries-are : descendants_of depth (entries_from main at) ≡ entry_here main at ∷ descendants_of depth (entries_from main f.next)
          entries-are = ap (descendants_of depth) (from-entry main at f there is) ∙ below-cons depth (entry_here main at) (entries_from main f.next) (omega (arith, depth_is))

          begun : (ns : List InlineNode) (ws : List Warning)
              → collect_entries (context_in main supplementary lists addresses w₀ d) (descendants_of depth (entries_from main p)) (walk_of main supplementary d w₀ s₀ ns ws)
              ≡ collect_entries (context_in main supplementary lists addresses w d) (entry_here main at ∷ descendants_of depth (entries_from main f.next)) (walk_of main supplementary d w s (ns ++ C.nodes) (ws ++ C.warnings))
          begun ns ws = sym (C.left ns ws) ∙ (λ i. collect_entries (sym C.same i) (entries-are i) (walk_of main supplementary d w s (ns ++ C.nodes) (ws ++ C.warnings)))

          pub collecting-refused : {s'' : Walk} → (m ≡ 0 → ⊥) → Advances (collect_entries (context_in main supplementary lists addresses w₀ d) (descendants_of depth (entries_from main p))) main supplementary name d none_later 0 w₀ t₀ u₀ s₀ w' t' u' m s''
          collecting-refused z = advance-refused z (kept_trans C.kept A.kept) (λ ns ws. begun ns ws ∙ entries-refused (context_in main supplementary lists addresses w d) (entry_here main at) _ _ m (A.no z (ns ++ C.nodes) (ws ++ C.warnings)))

          pub collecting-entry : m ≡ 0 → length w' ≡ length w → Collecting main supplementary lists addresses name d p depth w₀ t₀ u₀ s₀ w' t' u' s' f.next
          collecting-entry z l =
              let same : context_in main supplementary lists addresses w' d ≡ context_in main supplementary lists addresses w d = context-kept C.details A.kept (omega arith) in
              record {
                placed = placed-next main at (step_at main at) f.tag f.start f.len f.next C.placed refl (is-step main at f there);
                known = known-entry main at f there C.known is;
                details = details_kept C.details A.kept (omega arith) l;
                same = same ∙ C.same;
                fits = rw next-is (A.fits z);
                nodes = C.nodes ++ A.nodes;
                warnings = C.warnings ++ A.warnings;
                laid = rw (new-append name d.range s₀.nodes C.nodes A.nodes) (C.laid then rw C.count at (A.laid z));
                warned = rw (warnings-append C.warnings A.warnings) (C.warned then A.warned z);
                begins = C.begins;
                past = rw (new-append name d.range s₀.nodes C.nodes A.nodes) (past-append C.begins C.laid s₀.past _ C.past (rw C.count at (A.past z)));
                count = omega (arith, A.count z, C.count, length-append C.nodes A.nodes);
                kept = kept_trans C.kept A.kept;
                size = l ∙ C.size;
                records-size = put-length (A.laid z) ∙ C.records-size;
                warnings-size = put-length (A.warned z) ∙ C.warnings-size;
                left = λ ns ws. sym (begun ns ws
                    ∙ entries_next (context_in main supplementary lists addresses w d) (entry_here main at) (descendants_of depth (entries_from main f.next)) _ _ (A.ok z (ns ++ C.nodes) (ws ++ C.warnings))
                    ∙ (λ i. collect_entries (C.same i) (descendants_of depth (entries_from main f.next)) (walk_of main supplementary d w' s' (append_assoc ns C.nodes A.nodes i) (append_assoc ws C.warnings A.warnings i))));
              }
