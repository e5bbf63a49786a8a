-- An inlined entry of the walk below a subprogram: refused, passed over, or kept with its merged ranges.
use mathlib.Core.Path.{◌≡◌, refl, sym, ap, ◌∙◌}
use mathlib.Core.Bool.{true, false}
use mathlib.Core.Logic.{inl, inr, ⊎_elim}
use mathlib.Core.List.{List, [], ◌∷◌, map, append-nil}
use Prim.Native.Nat.{ℕ, ◌+◌, ◌-◌, ◌*◌, ◌≤◌, ◌<◌}
use native.Mathlib.Omega.{arith}
use lib.ListN.{length}
use Rattle.std.specs.Prelude.{Some, Result, Ok, Err}
use Rattle.tlv.specs.declared.refusal.Refusal.{Refusal}
use Rattle.tlv.specs.Refusals.{number_of}
use Rattle.tlv.specs.declared.model.AddressRange.{AddressRange}
use Rattle.tlv.specs.Outcome.{refused, done, ◌>>=◌}
use Rattle.tlv.specs.Lists.{is_empty, is_none}
use Rattle.tlv.specs.Model.{Entry}
use Rattle.buffers.specs.Buffer.{Put, top}
use Rattle.buffers.specs.Output.{InlineNode, Warning, warnings_bytes}
use Rattle.buffers.specs.Table.{Kept}
use Rattle.buffers.proofs.BufferLaws.{put-none}
use Rattle.buffers.proofs.TableLaws.{kept_trans}
use Rattle.access.specs.Places.{entry_here, unit_here}
use Rattle.rnglists.specs.RangeLists.{DieRanges}
use Rattle.references.specs.Search.{resolve_name}
use Rattle.references.specs.Tables.{EntryKnown}
use Rattle.references.specs.Names.{dwarf_of, found_name, Resolved}
use Rattle.references.proofs.ReferenceLaws.{entry-step}
use Rattle.references.proofs.SectionLaws.{name-same}
use Rattle.imports.specs.Ranges.{coalesce_ranges}
use Rattle.imports.specs.Tree.{Descendants, DetailContext, fit, die_ranges, ranges_of, parent_ranges, push_inline, make_inline_node}
use Rattle.ranges.specs.RangeTable as table
use Rattle.ranges.specs.RangeTable.{ranges_at, read_at, MergedBy, Merges}
use Rattle.ranges.proofs.RangeTableLaws.{ranges-nil}
use Rattle.dies.specs.declared.details.Details.{Details}
use Rattle.dies.specs.declared.walk.Walk.{Walk}
use Rattle.dies.specs.FrameStack.{open_in, Top}
use Rattle.dies.specs.Details.{DetailsIn, dwarf_with, context_in, range_room, third}
use Rattle.dies.specs.DetailState.{ranges_later, entries_left, walk_of, Fits, OwnRanges, new_bytes, walked, Advances}
use Rattle.dies.proofs.NodeRangeLaws.{read_here, node-ranges}
use Rattle.dies.proofs.AttributeReads.{accepted-placed}
use Rattle.dies.proofs.CallLaws.{warn_none}
use Rattle.dies.proofs.PastLaws.{past_same}
use Rattle.dies.proofs.WalkStateLaws.{context-kept, details_kept, kept-inside, kept-keys, walk_kept, fits_kept, fits-less, aside_keys, aside-ranges}
use Rattle.dies.proofs.SiteStepLaws.{details-accepted, given-refused, given-done, later-fits, later-here, lists-here, left_here}
use Rattle.dies.proofs.ListRoomLaws.{own-used}
use Rattle.dies.proofs.NodeStepLaws.{advance-refused}

-- a name that was found is the one that was searched for
pub found-same : (name : List ℕ) {r : List ℕ} → Some r ≡ found_name name → r ≡ name
found-same [] is = let z : ◌≡◌ {A = ℕ} 0 1 = cc in absurd (omega arith)
found-same (b ∷ bs) is = cc

-- ---- what the definition does

empty_is : (r : List ℕ) → length r ≡ 0 → is_empty r ≡ true
empty_is [] h = refl
empty_is (x ∷ xs) h = absurd (omega arith)

empty_not : (r : List ℕ) → (length r ≡ 0 → ⊥) → is_empty r ≡ false
empty_not [] h = absurd (h refl)
empty_not (x ∷ xs) h = refl

module _ (c : DetailContext) (e : Entry) (x : Descendants) where
  make-refused : {n : ℕ} → resolve_name c.dwarf c.unit e ≡ refused n → make_inline_node c e x ≡ refused n
  unfolding make_inline_node ◌>>=◌
  make-refused h = rw h

  module _ {name : List ℕ} (h : resolve_name c.dwarf c.unit e ≡ done name) where
    make-nameless : length name ≡ 0 → make_inline_node c e x ≡ done x
    unfolding make_inline_node ◌>>=◌
    make-nameless z = rw (h, empty_is name z)

    module _ (some-name : length name ≡ 0 → ⊥) where
      make-failed : is_none (die_ranges c.dwarf e).failure ≡ false → make_inline_node c e x ≡ refused (die_ranges c.dwarf e).refusal
      unfolding make_inline_node ◌>>=◌
      make-failed f = rw (h, empty_not name some-name, f)

      make-named : is_none (die_ranges c.dwarf e).failure ≡ true
          → make_inline_node c e x ≡ push_inline c e name (coalesce_ranges (fit (parent_ranges c.function_range x.inline_stack) (ranges_of c.dwarf e))) x
      unfolding make_inline_node ◌>>=◌
      make-named f = rw (h, empty_not name some-name, f)

push-none : (c : DetailContext) (e : Entry) (name : List ℕ) (x : Descendants) → push_inline c e name [] x ≡ done x
unfolding push_inline
push-none c e name x = refl

-- ---- the room for what the entry can give

module _ {main supplementary w : List ℕ} {d : Details} {p : ℕ} {s : Walk} (D : DetailsIn main supplementary w d) (K : EntryKnown main d.context.unit p)
    (F : Fits main supplementary w d (ranges_later main p) (entries_left main p) s) where
  pub inline-room : {n : ℕ} → n ≡ length w → d.context.ranges + s.frames.used * 16 + 16 * length (table.range_fields main (p + 15)) ≤ n
  inline-room q = omega (arith, own-used D K F (length (table.range_fields main (p + 15))) (inl (omega arith)), D.ranges, D.stack, D.sites, D.tables.keys.room)

  pub inline-list-room : {n : ℕ} → n ≡ length w → 1 ≤ table.own_lists main (p + 15) → d.context.ranges + s.frames.used * 16 + 16 * third d.context.lists ≤ n
  inline-list-room q h = omega (arith, own-used D K F (third d.context.lists) (inr (omega arith, h)), D.ranges, D.stack, D.sites, D.tables.keys.room)

  -- a unit without lists has no entry with one
  pub inline-listless : d.context.with_lists ≡ false → table.own_lists main (p + 15) ≡ 0
  inline-listless h = omega (arith, D.listless h, F.left, lists-here D K)

-- ---- the step

module _ {main supplementary w : List ℕ} {d : Details} {p : ℕ} {s : Walk} (name t u : List ℕ) (small : length t < top) (tiny : length u < top) (D : DetailsIn main supplementary w d) (K : EntryKnown main d.context.unit p)
    (F : Fits main supplementary w d (ranges_later main p) (entries_left main p) s)
    {w₁ : List ℕ} {st' : ℕ} {inlined : List ℕ} (R : Resolved main supplementary d.context.tables w w₁ (resolve_name (dwarf_of main supplementary) (unit_here main d.context.unit) (entry_here main p)) st' inlined) where
  no-nodes : Put s.at (new_bytes name d.range s.nodes []) t t s.at
  no-nodes = put-none F.place small

  no-warnings : Put s.warned (warnings_bytes []) u u s.warned
  no-warnings = warn_none F.warned tiny

  pub inline-refused : (st' ≡ 0 → ⊥)
      → Advances (make_inline_node (context_in main supplementary d.context.lists.lists.now d.context.lists.addresses.now w d) (entry_here main p)) main supplementary name d (ranges_later main (p + 15)) (entries_left main (p + 15)) w t u s w₁ t u st' s
  inline-refused n = advance-refused n (kept-keys D R.rest) (λ ns ws. make-refused (context_in main supplementary d.context.lists.lists.now d.context.lists.addresses.now w d) (entry_here main p) _ (name-same d.context.lists.lists.now d.context.lists.addresses.now (dwarf_of main supplementary) _ _ ∙ given-refused st' inlined R.is n))

  -- the entry is passed over, and the memory of the state was not touched
  passed : {w' : List ℕ} → Kept w w' d.context.ranges (walked main supplementary d) → Fits main supplementary w' d (ranges_later main (p + 15)) (entries_left main (p + 15)) s
      → ((ns : List InlineNode) (ws : List Warning) → make_inline_node (context_in main supplementary d.context.lists.lists.now d.context.lists.addresses.now w d) (entry_here main p) (walk_of main supplementary d w s ns ws) ≡ done (walk_of main supplementary d w' s ns ws))
      → Advances (make_inline_node (context_in main supplementary d.context.lists.lists.now d.context.lists.addresses.now w d) (entry_here main p)) main supplementary name d (ranges_later main (p + 15)) (entries_left main (p + 15)) w t u s w' t u 0 s
  passed {w'} kept fits ok = record {
    nodes = [];
    warnings = [];
    laid = λ z. no-nodes;
    warned = λ z. no-warnings;
    past = λ z. past_same s.past s.at F.place;
    count = λ z. omega arith;
    kept = kept;
    fits = λ z. fits;
    ok = λ z ns ws. ok ns ws ∙ ap done (λ i. walk_of main supplementary d w' s (sym (append-nil ns) i) (sym (append-nil ws) i));
    no = λ z. absurd (z refl);
  }

  module _ (z : st' ≡ 0) where
    found : resolve_name (dwarf_with main supplementary d.context.lists.lists.now d.context.lists.addresses.now) (unit_here main d.context.unit) (entry_here main p) ≡ done inlined
    found = name-same d.context.lists.lists.now d.context.lists.addresses.now (dwarf_of main supplementary) (unit_here main d.context.unit) (entry_here main p) ∙ given-done st' inlined R.is z

    first : Fits main supplementary w₁ d (ranges_later main p) (entries_left main p) s
    first = fits_kept F R.rest (aside_keys D F _)

    same-walk : (ns : List InlineNode) (ws : List Warning) → walk_of main supplementary d w₁ s ns ws ≡ walk_of main supplementary d w s ns ws
    same-walk ns ws = walk_kept F R.rest (aside_keys D F _) ns ws

    pub inline-nameless : length inlined ≡ 0
        → Advances (make_inline_node (context_in main supplementary d.context.lists.lists.now d.context.lists.addresses.now w d) (entry_here main p)) main supplementary name d (ranges_later main (p + 15)) (entries_left main (p + 15)) w t u s w₁ t u 0 s
    inline-nameless e = passed (kept-keys D R.rest) (fits_kept (later-fits D K F) R.rest (aside_keys D F _))
        (λ ns ws. make-nameless (context_in main supplementary d.context.lists.lists.now d.context.lists.addresses.now w d) (entry_here main p) _ found e ∙ ap done (sym (same-walk ns ws)))

    -- what the definition reads of the entry
    read_is : die_ranges (dwarf_with main supplementary d.context.lists.lists.now d.context.lists.addresses.now) (entry_here main p) ≡ read_at d.context.lists.lists.now d.context.lists.addresses.now main (p + 15)
    read_is = read_here main supplementary d.context.lists.lists.now d.context.lists.addresses.now p _ 0x17 (p + 3) 12 (p + 15) refl (entry-step (accepted-placed (details-accepted D) K) K)

    module _ (some-name : length inlined ≡ 0 → ⊥) where
      module _ {from : ℕ} {w₂ : List ℕ} (T : Top s.frames from) {g : Result ℕ Refusal}
          (H : Merges (read_at d.context.lists.lists.now d.context.lists.addresses.now main (p + 15)) main d.context.lists.lists.now (p + 15) w₁ w₂ (d.context.ranges + from * 16) (s.frames.used - from) (d.context.ranges + s.frames.used * 16) g) where
        own-most : OwnRanges main d p H.most
        own-most = ⊎_elim (λ e. inl (omega arith)) (λ e. inr (omega (arith, e.0), e.1)) H.own

        room : s.frames.used * 16 + 16 * H.most ≤ 16 * range_room main d.context
        room = omega (arith, own-used D K F H.most own-most)

        second : Fits main supplementary w₂ d (ranges_later main p) (entries_left main p) s
        second = fits_kept first H.rest (aside-ranges D F _ room)

        both-kept : Kept w w₂ d.context.ranges (walked main supplementary d)
        both-kept = kept_trans (kept-keys D R.rest) (kept-inside D H.rest (omega arith) (omega (arith, room, D.ranges, D.stack, D.sites)))

        pub inline-failed : {e : Refusal} → g ≡ Err e
            → Advances (make_inline_node (context_in main supplementary d.context.lists.lists.now d.context.lists.addresses.now w d) (entry_here main p)) main supplementary name d (ranges_later main (p + 15)) (entries_left main (p + 15)) w t u s w₂ t u (number_of e) s
        inline-failed {e} is =
            let M : MergedBy (read_at d.context.lists.lists.now d.context.lists.addresses.now main (p + 15)) w₁ w₂ (d.context.ranges + from * 16) (s.frames.used - from) (d.context.ranges + s.frames.used * 16) (Err e) = rw is at H.is in
            advance-refused (λ q. omega (arith, M.2)) both-kept
            (λ ns ws. make-failed (context_in main supplementary d.context.lists.lists.now d.context.lists.addresses.now w d) (entry_here main p) _ found some-name (ap (λ (x : DieRanges). is_none x.failure) read_is ∙ M.0)
            ∙ ap refused (ap (λ (x : DieRanges). x.refusal) read_is ∙ M.1))

        module _ {k : ℕ} (e : g ≡ Ok k) where
          merged : MergedBy (read_at d.context.lists.lists.now d.context.lists.addresses.now main (p + 15)) w₁ w₂ (d.context.ranges + from * 16) (s.frames.used - from) (d.context.ranges + s.frames.used * 16) (Ok k)
          merged = rw e at H.is

          same-twice : (ns : List InlineNode) (ws : List Warning) → walk_of main supplementary d w₂ s ns ws ≡ walk_of main supplementary d w s ns ws
          same-twice ns ws = walk_kept first H.rest (aside-ranges D F _ room) ns ws ∙ same-walk ns ws

          parent-same : (ns : List InlineNode) (ws : List Warning) → (walk_of main supplementary d w s ns ws).inline_stack ≡ open_in w₁ d.context.ranges s.frames
          unfolding walk_of
          parent-same ns ws = ap (λ (x : Descendants). x.inline_stack) (sym (same-walk ns ws))

          -- the ranges that were gathered are those of the definition
          gathered : (ns : List InlineNode) (ws : List Warning)
              → coalesce_ranges (fit (parent_ranges d.range (walk_of main supplementary d w s ns ws).inline_stack) (ranges_of (dwarf_with main supplementary d.context.lists.lists.now d.context.lists.addresses.now) (entry_here main p))) ≡ ranges_at w₂ (d.context.ranges + s.frames.used * 16) k
          unfolding ranges_of
          gathered ns ws =
              (λ i. coalesce_ranges (fit (parent_ranges d.range (parent-same ns ws i)) (map (λ x. x.range) (read_is i).given)))
              ∙ sym (node-ranges d.context.ranges k w₁ w₂ (read_at d.context.lists.lists.now d.context.lists.addresses.now main (p + 15)).given T first.bottom merged.1)

          makes : (ns : List InlineNode) (ws : List Warning) → make_inline_node (context_in main supplementary d.context.lists.lists.now d.context.lists.addresses.now w d) (entry_here main p) (walk_of main supplementary d w s ns ws)
              ≡ push_inline (context_in main supplementary d.context.lists.lists.now d.context.lists.addresses.now w d) (entry_here main p) inlined (ranges_at w₂ (d.context.ranges + s.frames.used * 16) k) (walk_of main supplementary d w s ns ws)
          makes ns ws = make-named (context_in main supplementary d.context.lists.lists.now d.context.lists.addresses.now w d) (entry_here main p) _ found some-name (ap (λ (x : DieRanges). is_none x.failure) read_is ∙ merged.0)
              ∙ ap (λ (l : List AddressRange). push_inline (context_in main supplementary d.context.lists.lists.now d.context.lists.addresses.now w d) (entry_here main p) inlined l (walk_of main supplementary d w s ns ws)) (gathered ns ws)

          pub inline-empty : k ≡ 0
              → Advances (make_inline_node (context_in main supplementary d.context.lists.lists.now d.context.lists.addresses.now w d) (entry_here main p)) main supplementary name d (ranges_later main (p + 15)) (entries_left main (p + 15)) w t u s w₂ t u 0 s
          inline-empty z = passed both-kept (fits-less second (ranges_later main (p + 15)) (entries_left main (p + 15)) (omega (arith, later-here D K)) (omega (arith, lists-here D K)) (omega (arith, left_here D K)))
              (λ ns ws. makes ns ws
              ∙ ap (λ (l : List AddressRange). push_inline (context_in main supplementary d.context.lists.lists.now d.context.lists.addresses.now w d) (entry_here main p) inlined l (walk_of main supplementary d w s ns ws)) (ap (ranges_at w₂ (d.context.ranges + s.frames.used * 16)) z ∙ ranges-nil w₂ (d.context.ranges + s.frames.used * 16))
              ∙ push-none (context_in main supplementary d.context.lists.lists.now d.context.lists.addresses.now w d) (entry_here main p) inlined (walk_of main supplementary d w s ns ws) ∙ ap done (sym (same-twice ns ws)))

          pub inline-fits : Fits main supplementary w₂ d (ranges_later main p) (entries_left main p) s
          inline-fits = second

          pub inline-details : length w₂ ≡ length w → DetailsIn main supplementary w₂ d
          inline-details q = details_kept D both-kept (omega arith) q

          same-context : context_in main supplementary d.context.lists.lists.now d.context.lists.addresses.now w₂ d ≡ context_in main supplementary d.context.lists.lists.now d.context.lists.addresses.now w d
          same-context = context-kept D both-kept (omega arith)

          pub inline-kept : {t' u' : List ℕ} {n : ℕ} {s' : Walk}
              → Advances (push_inline (context_in main supplementary d.context.lists.lists.now d.context.lists.addresses.now w₂ d) (entry_here main p) inlined (ranges_at w₂ (d.context.ranges + s.frames.used * 16) k)) main supplementary name d (ranges_later main (p + 15)) (entries_left main (p + 15)) w₂ t u s w₂ t' u' n s'
              → Advances (make_inline_node (context_in main supplementary d.context.lists.lists.now d.context.lists.addresses.now w d) (entry_here main p)) main supplementary name d (ranges_later main (p + 15)) (entries_left main (p + 15)) w t u s w₂ t' u' n s'
          inline-kept A = record {
            nodes = A.nodes;
            warnings = A.warnings;
            laid = A.laid;
            warned = A.warned;
            past = A.past;
            count = A.count;
            kept = both-kept;
            fits = A.fits;
            ok = λ q ns ws. makes ns ws ∙ (λ i. push_inline (sym same-context i) (entry_here main p) inlined (ranges_at w₂ (d.context.ranges + s.frames.used * 16) k) (sym (same-twice ns ws) i)) ∙ A.ok q ns ws;
            no = λ q ns ws. makes ns ws ∙ (λ i. push_inline (sym same-context i) (entry_here main p) inlined (ranges_at w₂ (d.context.ranges + s.frames.used * 16) k) (sym (same-twice ns ws) i)) ∙ A.no q ns ws;
          }
