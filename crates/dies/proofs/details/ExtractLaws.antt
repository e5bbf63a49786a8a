-- The extraction of a function's inline nodes and call sites as a whole: the start, the end, and with both switches off.
use mathlib.Core.Path.{◌≡◌, refl, sym, ap, ◌∙◌}
use mathlib.Core.Bool.{Bool, true, false, ◌||◌}
use mathlib.Core.List.{List, [], ◌∷◌}
use Prim.Native.Nat.{ℕ, ◌+◌, ◌≤◌, ◌<◌}
use native.Mathlib.Nat.{mul-le-mul_left}
use native.Mathlib.Omega.{arith}
use lib.ListN.{length}
use Rattle.std.specs.Prelude.{Result, Ok, Err}
use Rattle.tlv.specs.declared.model.AddressRange.{AddressRange}
use Rattle.tlv.specs.declared.refusal.Refusal.{Refusal}
use Rattle.tlv.specs.Refusals.{number_of}
use Rattle.tlv.proofs.AnswerLaws.{numbered}
use Rattle.tlv.specs.Outcome.{refused, done, ◌>>=◌}
use Rattle.tlv.specs.Lists.{take_while, drop_while}
use Rattle.tlv.specs.Model.{Entry}
use Rattle.buffers.specs.Buffer.{Put, top}
use Rattle.buffers.specs.Output.{InlineNode, each_of, node_bytes}
use Rattle.buffers.specs.Table.{Kept}
use Rattle.buffers.proofs.BufferLaws.{◌then◌, put-none}
use Rattle.buffers.proofs.TableLaws.{kept_refl, kept_trans}
use Rattle.access.proofs.IndexModel.{either}
use Rattle.imports.specs.Import.{descendants_of, rooted}
use Rattle.imports.specs.Tree.{Descendants, DetailContext, finish_inlines, finish, collect_entries, no_descendants, collect_descendants, extract_subprogram_details}
use Rattle.buffers.specs.Table.{PutRange}
use Rattle.ranges.proofs.RangeTableLaws.{range-there}
use Rattle.dies.specs.declared.details.Details.{Details}
use Rattle.dies.specs.declared.walk.Walk.{Walk}
use Rattle.dies.specs.declared.dies.Extracted.{Extracted}
use Rattle.dies.specs.declared.sites.LaidSites.{LaidSites}
use Rattle.dies.specs.Past.{is_past}
use Rattle.dies.specs.declared.frames.Open.{Open}
use Rattle.dies.specs.FrameStack.{Empty}
use Rattle.dies.specs.Details.{DetailsIn, EntriesKnown, list_count, context_in, entries_from, Extracts, third}
use Rattle.dies.specs.DetailState.{none_later, origin_name, ranges_later, entries_left, walk_of, Fits, new_bytes, walked, Advances, Shut, SitesPut, Descends}
use Rattle.dies.proofs.FrameLaws.{open_none, lean-start}
use Rattle.dies.proofs.SiteLaws.{sites-none, site-frames_none}
use Rattle.dies.proofs.CallLaws.{warn_none}
use Rattle.dies.proofs.PastLaws.{past-none, past-append}
use Rattle.dies.proofs.EntryWalkLaws.{later-most, lists-most, left-all}
use Rattle.dies.proofs.WalkStateLaws.{details_kept, context-kept, kept-inside}

-- ---- the start

module _ {main supplementary w w₁ : List ℕ} {d : Details} {p : ℕ} {o : Open} (D : DetailsIn main supplementary w d) (K : EntriesKnown main d.context.unit p) (P : PutRange w w₁ d.context.ranges d.range) (E : Empty o) where
  pub start-details : length w₁ ≡ length w → DetailsIn main supplementary w₁ d
  start-details z = details_kept D P.rest (omega arith) z

  lists-few : (ranges_later main p).lists ≤ list_count main d.context
  lists-few = omega (arith, lists-most main p, K.lists)

  pub start_fits : {at warned : ℕ} → at ≤ top → warned ≤ top → Fits main supplementary w₁ d (ranges_later main p) (entries_left main p) (record { frames = o; sites = record { opened = 0; closed = 0 }; nodes = 0; at = at; warned = warned; past = false })
  start_fits h k = record {
    ready = E.ready;
    used = omega (arith, E.used, later-most main p, K.ranges);
    fields = omega (arith, E.used, later-most main p, K.ranges, mul-le-mul_left (third d.context.lists) lists-few);
    floor = 1;
    level = omega (arith, later-most main p, K.ranges);
    lean = lean-start (third d.context.lists) E;
    left = lists-few;
    sites = omega (arith, left-all main p, K.entries);
    nodes = omega (arith, left-all main p, K.entries);
    bottom = range-there P;
    place = h;
    warned = k;
    stacked = λ i l. absurd (omega arith);
    closed = λ i l. absurd (omega arith);
  }

walk_none : (main supplementary : List ℕ) (d : Details) (w : List ℕ) (o : Open) (at warned : ℕ) → Empty o
    → walk_of main supplementary d w (record { frames = o; sites = record { opened = 0; closed = 0 }; nodes = 0; at = at; warned = warned; past = false }) [] [] ≡ no_descendants
unfolding walk_of
walk_none main supplementary d w o at warned E = λ i. record {
  inline_stack = open_none E w d.context.ranges i;
  inlines = [];
  call_site_stack = site-frames_none (origin_name main supplementary d.context.unit) w d.context.stack i;
  call_sites = sites-none (origin_name main supplementary d.context.unit) w d.context.sites i;
  warnings = [];
}

-- ---- the end

root-first : (name : List ℕ) (r : AddressRange) (nodes : List InlineNode) → new_bytes name r 0 nodes ≡ each_of node_bytes (rooted name r nodes)
unfolding each_of
root-first name r [] = refl
root-first name r (x ∷ xs) = refl

collect-refused : (c : DetailContext) (es : List Entry) (n : ℕ) → collect_entries c es no_descendants ≡ refused n → collect_descendants c es ≡ refused n
unfolding collect_descendants ◌>>=◌
collect-refused c es n h = rw h

collect-done : (c : DetailContext) (es : List Entry) (x : Descendants) → collect_entries c es no_descendants ≡ done x → collect_descendants c es ≡ done (finish 0 x)
unfolding collect_descendants ◌>>=◌
collect-done c es x h = rw h

module _ {main supplementary name w w₁ : List ℕ} {d : Details} {at warned : ℕ} {o : Open} (lists addresses : List ℕ) (p depth : ℕ) (D : DetailsIn main supplementary w d) (P : PutRange w w₁ d.context.ranges d.range) (E : Empty o)
    {t u w₂ t₂ u₂ : List ℕ} {n : ℕ} {s₂ : Walk}
    (A : Advances (collect_entries (context_in main supplementary lists addresses w₁ d) (descendants_of depth (entries_from main p))) main supplementary name d none_later 0 w₁ t u (record { frames = o; sites = record { opened = 0; closed = 0 }; nodes = 0; at = at; warned = warned; past = false }) w₂ t₂ u₂ n s₂) where
  first-kept : Kept w w₁ d.context.ranges (walked main supplementary d)
  first-kept = kept-inside D P.rest (omega arith) (omega (arith, D.ranges, D.stack, D.sites))

  begun : collect_entries (context_in main supplementary lists addresses w d) (descendants_of depth (entries_from main p)) no_descendants
      ≡ collect_entries (context_in main supplementary lists addresses w₁ d) (descendants_of depth (entries_from main p)) (walk_of main supplementary d w₁ (record { frames = o; sites = record { opened = 0; closed = 0 }; nodes = 0; at = at; warned = warned; past = false }) [] [])
  begun = λ i. collect_entries (sym (context-kept D P.rest (omega arith) {lists = lists} {addresses = addresses}) i) (descendants_of depth (entries_from main p)) (sym (walk_none main supplementary d w₁ o at warned E) i)

  pub end-details : length w₁ ≡ length w → length w₂ ≡ length w₁ → DetailsIn main supplementary w₂ d
  end-details a b = details_kept (details_kept D P.rest (omega arith) a) A.kept (omega arith) b

  pub descends-refused : {e : Refusal} → n ≡ number_of e → Descends main supplementary lists addresses w w₂ d name p depth at warned t t₂ u u₂ (Err e)
  descends-refused {e} is = record {
    is = collect-refused (context_in main supplementary lists addresses w d) (descendants_of depth (entries_from main p)) (number_of e) (begun ∙ rw is at (A.no (λ z. numbered e (sym is ∙ z)) [] []));
    rest = kept_trans first-kept A.kept;
  }

  module _ (z : n ≡ 0) {w₃ w₄ t₃ : List ℕ} {s₃ : Walk} {r : LaidSites} (S : Shut main supplementary d 0 w₂ s₂ w₃ s₃) (Q : SitesPut main supplementary d s₃.sites.closed s₃.at w₃ w₄ t₂ t₃ r) where
    last : Descendants
    last = walk_of main supplementary d w₃ s₃ A.nodes A.warnings

    whole : collect_descendants (context_in main supplementary lists addresses w d) (descendants_of depth (entries_from main p)) ≡ done last
    unfolding last
    whole = collect-done (context_in main supplementary lists addresses w d) (descendants_of depth (entries_from main p)) _ (begun ∙ A.ok z [] []) ∙ ap done (sym (S.walk A.nodes A.warnings))

    nodes-laid : Put at (each_of node_bytes (rooted name d.range A.nodes)) t t₂ s₃.at
    nodes-laid = rw (S.place, ← root-first name d.range A.nodes) (A.laid z)

    nodes-past : s₃.past ≡ (false || is_past at (length (each_of node_bytes (rooted name d.range A.nodes))))
    nodes-past = rw (← root-first name d.range A.nodes) (S.past ∙ A.past z)

    pub descends-done : {o : Bool} → o ≡ (s₃.past || r.past) → at ≤ top → Descends main supplementary lists addresses w w₄ d name p depth at warned t t₃ u u₂ (Ok (record { nodes = s₃.nodes; at = r.at; warned = s₃.warned; past = o }))
    unfolding last walk_of
    descends-done e h = record {
      is = record {
        descendants = last;
        is = whole;
        count = S.nodes ∙ A.count z ∙ (let e : 0 + length A.nodes ≡ length A.nodes = omega arith in e);
        put = nodes-laid then Q.put;
        warns = rw S.warned (A.warned z);
        passes = past-append h nodes-laid false _ nodes-past (e ∙ ap (λ (x : Bool). s₃.past || x) Q.past);
      };
      rest = kept_trans first-kept (kept_trans A.kept (kept_trans S.kept Q.rest));
    }

-- ---- the switches

-- no entry, and so nothing to close
none_below : (c : DetailContext) → extract_subprogram_details c [] ≡ done no_descendants
unfolding extract_subprogram_details collect_descendants collect_entries finish finish_inlines take_while drop_while ◌>>=◌
none_below c = either (c.include_inlines || c.include_call_sites) (λ y. rw y) (λ n. rw n)

module _ {main supplementary lists addresses name w : List ℕ} {d : Details} {p depth at warned : ℕ} {t u : List ℕ} where
  pub switched : {w' t' u' : List ℕ} (r : Result Extracted Refusal) → (d.context.include_inlines || d.context.include_call_sites) ≡ true → Descends main supplementary lists addresses w w' d name p depth at warned t t' u u' r
      → Extracts main supplementary lists addresses w w' d name p depth at warned t t' u u' r
  unfolding extract_subprogram_details
  switched (Err e) on R = record { is = rw on R.is; rest = R.rest }
  switched (Ok x) on R = record {
    is = record { descendants = R.is.descendants; is = rw on R.is.is; count = R.is.count; put = R.is.put; warns = R.is.warns; passes = R.is.passes };
    rest = R.rest;
  }

  -- nothing is laid where the definition finds nothing
  nothing : extract_subprogram_details (context_in main supplementary lists addresses w d) (descendants_of depth (entries_from main p)) ≡ done no_descendants → at ≤ top → warned ≤ top → length t < top → length u < top
      → Extracts main supplementary lists addresses w w d name p depth at warned t t u u (Ok (record { nodes = 0; at = at; warned = warned; past = false }))
  unfolding each_of
  nothing is h k small tiny = record {
    is = record { descendants = no_descendants; is = is; count = refl; put = put-none h small; warns = warn_none k tiny; passes = sym (past-none at h) };
    rest = kept_refl w d.context.ranges (walked main supplementary d);
  }

  pub extracts-off : (d.context.include_inlines || d.context.include_call_sites) ≡ false → at ≤ top → warned ≤ top → length t < top → length u < top
      → Extracts main supplementary lists addresses w w d name p depth at warned t t u u (Ok (record { nodes = 0; at = at; warned = warned; past = false }))
  unfolding extract_subprogram_details
  extracts-off off = nothing (rw off)

  pub extracts-none : descendants_of depth (entries_from main p) ≡ [] → at ≤ top → warned ≤ top → length t < top → length u < top
      → Extracts main supplementary lists addresses w w d name p depth at warned t t u u (Ok (record { nodes = 0; at = at; warned = warned; past = false }))
  extracts-none e = nothing (ap (extract_subprogram_details (context_in main supplementary lists addresses w d)) e ∙ none_below (context_in main supplementary lists addresses w d))
