-- A call site of the walk below a subprogram: refused, passed over, or pushed on the stack of open ones.
use mathlib.Core.Path.{◌≡◌, refl, sym, ap, ◌∙◌}
use mathlib.Core.Bool.{true, false, cond}
use mathlib.Core.Logic.{◌⊎◌, inl, inr}
use mathlib.Core.List.{List, ◌∷◌}
use mathlib.Core.Option.{Option, none, some}
use Prim.Native.Nat.{ℕ, zero, suc, ◌+◌, ◌-◌, ◌*◌, ◌≤◌, ◌<◌}
use native.Mathlib.Omega.{arith}
use lib.Dec.{eqb}
use lib.ListN.{length}
use borrow.Author.Tests.{eq-eqb, ne_eqb}
use Rattle.std.specs.Prelude.{Option as Maybe, Some, None, Result, Ok, Err}
use Rattle.tlv.specs.declared.refusal.Refusal.{Refusal}
use Rattle.tlv.specs.Refusals.{number_of}
use Rattle.tlv.proofs.AnswerLaws.{numbered}
use Rattle.tlv.specs.declared.fields.FieldSpan.{FieldSpan}
use Rattle.tlv.specs.Cursor.{span_of, field_from}
use Rattle.tlv.specs.Outcome.{Outcome, refused, done, ◌>>=◌}
use Rattle.tlv.specs.Lists.{All}
use Rattle.tlv.specs.Bytes.{Bytes, le_at}
use Rattle.tlv.specs.Fields.{fields}
use Rattle.tlv.specs.Model.{CompilationUnit, Entry, Attribute}
use Rattle.tlv.specs.Checked.{Accepted}
use Rattle.tlv.proofs.ByteLaws.{le_at-bound}
use Rattle.tlv.proofs.ListLaws.{any_one}
use Rattle.tlv.proofs.PlaceFacts.{slice-bytes}
use Rattle.buffers.specs.Output.{CallSite}
use Rattle.buffers.specs.Table.{chunk, records, tab}
use Rattle.buffers.proofs.ChunkLaws.{le_at-chunk}
use Rattle.buffers.proofs.TableLaws.{le-or_lt, kept_refl, kept_trans}
use Rattle.access.specs.Places.{entry_here, unit_here, IndexedEntry, entry_index}
use Rattle.access.specs.Index.{indexed_of}
use Rattle.access.proofs.IndexModel.{either}
use Rattle.lines.specs.Rows.{contains}
use Rattle.references.specs.Search.{attribute}
use Rattle.references.specs.Tables.{EntryKnown, bytes_given}
use Rattle.references.specs.Names.{dwarf_of, reference_name, Resolved}
use Rattle.references.proofs.ReferenceLaws.{entry-step}
use Rattle.references.proofs.SectionLaws.{reference_name-same}
use Rattle.imports.specs.Tree.{Descendants, DetailContext, site_with_origin, site_at, make_call_site, push_call_site}
use Rattle.ranges.specs.RangeTable as table
use Rattle.dies.specs.declared.details.Details.{Details}
use Rattle.dies.specs.declared.walk.Walk.{Walk}
use Rattle.dies.specs.FrameStack.{open_in}
use Rattle.dies.specs.Details.{main_of, supplementary_of, DetailsIn, dwarf_with, context_in, entry_count}
use Rattle.dies.specs.DetailState.{origin_of, origin_name, site_frames_at, sites_at, PutSite, SiteKnown, ranges_later, entries_left, walk_of, Fits, walked, Quiet, collect_site}
use Rattle.dies.specs.Calls.{address_of}
use Rattle.dies.proofs.FrameLaws.{open_kept}
use Rattle.dies.proofs.SiteLaws.{site-frames_kept, sites-kept, site-frames_push}
use Rattle.dies.proofs.EntryWalkLaws.{left-entry, later-entry, lists-entry}
use Rattle.dies.proofs.AttributeReads.{accepted-placed}
use Rattle.dies.proofs.CallLaws.{entry_read}
use Rattle.dies.proofs.WalkStateLaws.{kept-inside, kept-keys, Aside, fits_kept, fits-less, aside_keys}

-- ---- an entry that is known

pub details-accepted : {main supplementary w : List ℕ} {d : Details} → DetailsIn main supplementary w d → Accepted main
details-accepted D = record { number = D.tables.main-index.number; is = D.tables.main-index.accepted }

-- its field lies in the sheet
pub known_inside : {main supplementary w : List ℕ} {d : Details} {p : ℕ} → DetailsIn main supplementary w d → EntryKnown main d.context.unit p → p + 15 ≤ length main
known_inside D K = entry_read (details-accepted D) K

-- both sheets are bytes
pub main-bytes : (d : Details) → Bytes (main_of d)
main-bytes d = slice-bytes (main_of d) (λ k. record { fits = d.context.tables.sheets.bytes.0 k })

pub supplementary-bytes : (d : Details) → Bytes (supplementary_of d)
supplementary-bytes d = slice-bytes (supplementary_of d) (λ k. record { fits = d.context.tables.sheets.bytes.1 k })

-- its place has 4 bytes in the index
small-place : (w : List ℕ) (p : ℕ) → Bytes w → (indexed_of (chunk w p 16)).place < 4294967296
unfolding indexed_of
small-place w p b = rw (le_at-chunk 4 w p 16 8 (omega arith)) (le_at-bound 4 w (p + 8) b)

small-tab : (w : List ℕ) → Bytes w → (n : ℕ) (f : ℕ → ℕ) → All (λ e. e.place < 4294967296) (tab n (λ i. indexed_of (chunk w (f i) 16)))
unfolding tab
small-tab w b zero f = tt
small-tab w b (suc n) f = (small-place w (f zero) b, small-tab w b n (λ i. f (suc i)))

small-table : (w : List ℕ) (base n : ℕ) → Bytes w → All (λ e. e.place < 4294967296) (records indexed_of 16 w base n)
unfolding records
small-table w base n b = small-tab w b n (λ i. base + i * 16)

module _ {main supplementary w : List ℕ} {d : Details} {p : ℕ} (D : DetailsIn main supplementary w d) (K : EntryKnown main d.context.unit p) where
  pub place-small : Bytes w → p < 4294967296
  place-small b =
      let I = D.tables.main-index in
      let all = rw I.entries at (small-table w d.context.tables.main.entries.base d.context.tables.main.entries.count b) in
      any_one (entry_index 0 0 0 (fields main)) (λ e l same. let is : e.place ≡ p = ap (λ (x : IndexedEntry). x.place) same ∙ K.place in omega arith) all K.listed

  -- its field
  abbrev entry-span : FieldSpan
  entry-span = record { tag = 0x17; start = p + 3; len = 12; next = p + 15 }

  entry-there : Some entry-span ≡ field_from main p
  unfolding span_of
  entry-there = rw (entry-step (accepted-placed (details-accepted D) K) K)

  -- behind it
  pub left_here : entries_left main p ≡ 1 + entries_left main (p + 15)
  left_here = left-entry main p entry-span entry-there refl

  pub later-here : (ranges_later main p).ranges ≡ length (table.range_fields main (p + 15)) + (ranges_later main (p + 15)).ranges
  later-here = later-entry main p entry-span entry-there refl

  pub lists-here : (ranges_later main p).lists ≡ table.own_lists main (p + 15) + (ranges_later main (p + 15)).lists
  lists-here = lists-entry main p entry-span entry-there refl

-- ---- what the definition does with the return address

abbrev site_by : DetailContext → Entry → Result (Maybe ℕ) Refusal → Outcome (Option CallSite)
site_by c e (Ok None) = done none
site_by c e (Err x) = refused (number_of x)
site_by c e (Ok (Some a)) = cond (contains c.function_range a) (site_with_origin c e (a - c.function_range.start) (attribute e 0x7f)) (done none)

site-by : (c : DetailContext) (e : Entry) (o : Option Attribute) → site_at c e o ≡ site_by c e (address_of o)
site-by c e none = refl
site-by c e (some a) =
    either (eqb a.kind 10) (λ y. rw y) (λ n. either (eqb a.kind 9) (λ z. rw (n, z)) (λ z. rw (n, z)))

origin_site : (c : DetailContext) (e : Entry) (offset : ℕ) (o : Option Attribute)
    → site_with_origin c e offset o ≡ (reference_name c.dwarf c.unit e o >>= λ name. done (some (record { return_offset = offset; pattern = name })))
unfolding ◌>>=◌
origin_site c e offset none = refl
origin_site c e offset (some a) = refl

-- the search does not look at the sections
reference-same : (main supplementary lists addresses : List ℕ) (u : CompilationUnit) (e : Entry) (o : Option Attribute)
    → reference_name (dwarf_with main supplementary lists addresses) u e o ≡ reference_name (dwarf_of main supplementary) u e o
reference-same main supplementary lists addresses u e none = refl
reference-same main supplementary lists addresses u e (some a) = reference_name-same lists addresses (dwarf_of main supplementary) u e a

pub given-refused : (st : ℕ) (r : List ℕ) {o : Outcome (List ℕ)} → bytes_given st r ≡ o → (st ≡ 0 → ⊥) → o ≡ refused st
unfolding bytes_given
given-refused st r e h = sym e ∙ rw (ne_eqb st 0 h)

pub given-done : (st : ℕ) (r : List ℕ) {o : Outcome (List ℕ)} → bytes_given st r ≡ o → st ≡ 0 → o ≡ done r
unfolding bytes_given
given-done st r e h = sym e ∙ rw (eq-eqb st 0 h)

-- ---- the step

module _ {main supplementary w : List ℕ} {d : Details} {p : ℕ} {s : Walk} (D : DetailsIn main supplementary w d) (K : EntryKnown main d.context.unit p)
    (F : Fits main supplementary w d (ranges_later main p) (entries_left main p) s) where
  -- the state at the place behind the entry
  pub later-fits : Fits main supplementary w d (ranges_later main (p + 15)) (entries_left main (p + 15)) s
  later-fits = fits-less F (ranges_later main (p + 15)) (entries_left main (p + 15)) (omega (arith, later-here D K)) (omega (arith, lists-here D K)) (omega (arith, left_here D K))

  module _ (lists addresses : List ℕ) {r : Result (Maybe ℕ) Refusal} (read : r ≡ address_of (attribute (entry_here main p) 0x7d)) where
    site-is : (x : Descendants) → collect_site (context_in main supplementary lists addresses w d) (entry_here main p) x ≡ (site_by (context_in main supplementary lists addresses w d) (entry_here main p) r >>= λ y. done (push_call_site (entry_here main p) x y))
    unfolding collect_site make_call_site
    site-is x = ap (λ (o : Outcome (Option CallSite)). o >>= λ y. done (push_call_site (entry_here main p) x y)) (site-by (context_in main supplementary lists addresses w d) (entry_here main p) (attribute (entry_here main p) 0x7d) ∙ ap (site_by (context_in main supplementary lists addresses w d) (entry_here main p)) (sym read))

    passed : site_by (context_in main supplementary lists addresses w d) (entry_here main p) r ≡ done none
        → Quiet (collect_site (context_in main supplementary lists addresses w d) (entry_here main p)) main supplementary d (ranges_later main (p + 15)) (entries_left main (p + 15)) w s w 0 s
    unfolding ◌>>=◌
    passed e = record {
      place = refl;
      warned = refl;
      nodes = refl;
      past = refl;
      kept = kept_refl w d.context.ranges (walked main supplementary d);
      fits = λ z. later-fits;
      ok = λ z ns ws. site-is (walk_of main supplementary d w s ns ws) ∙ rw e;
      no = λ z. absurd (z refl);
    }

    pub site-missing : r ≡ Ok None → Quiet (collect_site (context_in main supplementary lists addresses w d) (entry_here main p)) main supplementary d (ranges_later main (p + 15)) (entries_left main (p + 15)) w s w 0 s
    site-missing e = passed (rw e)

    pub site-failed : {x : Refusal} → r ≡ Err x
        → Quiet (collect_site (context_in main supplementary lists addresses w d) (entry_here main p)) main supplementary d (ranges_later main (p + 15)) (entries_left main (p + 15)) w s w (number_of x) s
    unfolding ◌>>=◌
    site-failed {x} e = record {
      place = refl;
      warned = refl;
      nodes = refl;
      past = refl;
      kept = kept_refl w d.context.ranges (walked main supplementary d);
      fits = λ z. absurd (numbered x z);
      ok = λ z. absurd (numbered x z);
      no = λ z ns ws. site-is (walk_of main supplementary d w s ns ws) ∙ rw e;
    }

    module _ {a : ℕ} (e : r ≡ Ok (Some a)) where
      pub site-outside : contains d.range a ≡ false → Quiet (collect_site (context_in main supplementary lists addresses w d) (entry_here main p)) main supplementary d (ranges_later main (p + 15)) (entries_left main (p + 15)) w s w 0 s
      site-outside h = passed (rw (e, h))

      module _ (h : contains d.range a ≡ true) {w₁ : List ℕ} {st' : ℕ} {name : List ℕ}
          (R : Resolved main supplementary d.context.tables w w₁ (reference_name (dwarf_of main supplementary) (unit_here main d.context.unit) (entry_here main p) (attribute (entry_here main p) 0x7f)) st' name) where
        site-named : (x : Descendants) → collect_site (context_in main supplementary lists addresses w d) (entry_here main p) x
            ≡ (reference_name (dwarf_of main supplementary) (unit_here main d.context.unit) (entry_here main p) (attribute (entry_here main p) 0x7f) >>= (λ n. done (some (record { return_offset = a - d.range.start; pattern = n }))) >>= λ y. done (push_call_site (entry_here main p) x y))
        site-named x = site-is x ∙ rw (
          e,
          h,
          origin_site (context_in main supplementary lists addresses w d) (entry_here main p) (a - d.range.start) (attribute (entry_here main p) 0x7f),
          reference-same main supplementary lists addresses (unit_here main d.context.unit) (entry_here main p) (attribute (entry_here main p) 0x7f),
        )

        pub site-unnamed : (st' ≡ 0 → ⊥)
            → Quiet (collect_site (context_in main supplementary lists addresses w d) (entry_here main p)) main supplementary d (ranges_later main (p + 15)) (entries_left main (p + 15)) w s w₁ st' s
        unfolding ◌>>=◌
        site-unnamed n = record {
          place = refl;
          warned = refl;
          nodes = refl;
          past = refl;
          kept = kept-keys D R.rest;
          fits = λ z. absurd (n z);
          ok = λ z. absurd (n z);
          no = λ z ns ws. site-named (walk_of main supplementary d w s ns ws) ∙ rw (given-refused st' name R.is n);
        }

        module _ (z : st' ≡ 0) {w₂ : List ℕ} {depth : ℕ} (ed : (entry_here main p).depth ≡ depth)
            (P : PutSite w₁ w₂ (d.context.stack + s.sites.opened * 14) depth p (a - d.range.start)) where
          found : reference_name (dwarf_of main supplementary) (unit_here main d.context.unit) (entry_here main p) (attribute (entry_here main p) 0x7f) ≡ done name
          found = given-done st' name R.is z

          known : SiteKnown main supplementary d.context.unit p
          unfolding origin_of origin_name
          known = record { entry = K; name = rw found }

          name-is : name ≡ origin_name main supplementary d.context.unit p
          unfolding origin_of origin_name
          name-is = rw found

          one_more : s.sites.opened + s.sites.closed + 1 + entries_left main (p + 15) ≤ entry_count main
          one_more = omega (arith, F.sites, left_here D K)

          beside : Aside d s (d.context.stack + s.sites.opened * 14) 14
          beside = record {
            frames = inl (omega (arith, F.used, D.ranges));
            stack = inl (omega arith);
            sites = inr (omega (arith, one_more, D.stack));
          }

          first : Fits main supplementary w₁ d (ranges_later main (p + 15)) (entries_left main (p + 15)) s
          first = fits_kept later-fits R.rest (aside_keys D F _)

          second : Fits main supplementary w₂ d (ranges_later main (p + 15)) (entries_left main (p + 15)) s
          second = fits_kept first P.rest beside

          stacked-next : (i : ℕ) → i < s.sites.opened + 1 → SiteKnown main supplementary d.context.unit (le_at 4 w₂ (d.context.stack + i * 14 + 2))
          stacked-next i l = go (le-or_lt s.sites.opened i)
            where
              go : (s.sites.opened ≤ i) ⊎ (i < s.sites.opened) → SiteKnown main supplementary d.context.unit (le_at 4 w₂ (d.context.stack + i * 14 + 2))
              go (inl g) = let q : i ≡ s.sites.opened = omega arith in rw (q, P.place_is) known
              go (inr g) = second.stacked i g

          same-frames : open_in w₂ d.context.ranges s.frames ≡ open_in w d.context.ranges s.frames
          same-frames = open_kept s.frames F.ready d.context.ranges P.rest beside.frames ∙ open_kept s.frames F.ready d.context.ranges R.rest (aside_keys D F _).frames

          same-sites : sites_at (origin_name main supplementary d.context.unit) w₂ d.context.sites s.sites.closed ≡ sites_at (origin_name main supplementary d.context.unit) w d.context.sites s.sites.closed
          same-sites = sites-kept (origin_name main supplementary d.context.unit) d.context.sites s.sites.closed P.rest beside.sites ∙ sites-kept (origin_name main supplementary d.context.unit) d.context.sites s.sites.closed R.rest (aside_keys D F _).sites

          pushed_frame : site_frames_at (origin_name main supplementary d.context.unit) w₂ d.context.stack (s.sites.opened + 1)
              ≡ record { die_depth = (entry_here main p).depth; call_site = record { return_offset = a - d.range.start; pattern = name } } ∷ site_frames_at (origin_name main supplementary d.context.unit) w d.context.stack s.sites.opened
          pushed_frame =
              site-frames_push (origin_name main supplementary d.context.unit) d.context.stack s.sites.opened P
              ∙ (λ i. record { die_depth = sym ed i; call_site = record { return_offset = a - d.range.start; pattern = sym name-is i } }
              ∷ site-frames_kept (origin_name main supplementary d.context.unit) d.context.stack s.sites.opened R.rest (aside_keys D F _).stack i)

          pub site-pushed : Quiet (collect_site (context_in main supplementary lists addresses w d) (entry_here main p)) main supplementary d (ranges_later main (p + 15)) (entries_left main (p + 15)) w s w₂ 0
              (record { frames = s.frames; sites = record { opened = s.sites.opened + 1; closed = s.sites.closed }; nodes = s.nodes; at = s.at; warned = s.warned; past = s.past })
          unfolding ◌>>=◌ walk_of
          site-pushed = record {
            place = refl;
            warned = refl;
            nodes = refl;
            past = refl;
            kept = kept_trans (kept-keys D R.rest) (kept-inside D P.rest (omega (arith, D.ranges)) (omega (arith, one_more, D.stack, D.sites)));
            fits = λ _. record {
              ready = second.ready;
              used = second.used;
              fields = second.fields;
              floor = second.floor;
              level = second.level;
              lean = second.lean;
              left = second.left;
              sites = omega (arith, one_more);
              nodes = second.nodes;
              bottom = second.bottom;
              place = second.place;
              warned = second.warned;
              stacked = stacked-next;
              closed = second.closed;
            };
            ok = λ _ ns ws. site-named (walk_of main supplementary d w s ns ws) ∙ rw found (ap done (λ i. record {
              inline_stack = sym same-frames i;
              inlines = ns;
              call_site_stack = sym pushed_frame i;
              call_sites = sym same-sites i;
              warnings = ws;
            }));
            no = λ n. absurd (n refl);
          }
