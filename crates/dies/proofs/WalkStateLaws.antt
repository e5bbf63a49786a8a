-- The state of the walk over the entries below a subprogram: what a write leaves as it was, and closing.
use mathlib.Core.Path.{◌≡◌, refl, ◌∙◌}
use mathlib.Core.Logic.{inl, inr, ⊎_elim}
use mathlib.Core.List.{List}
use Prim.Native.Nat.{ℕ, ◌+◌, ◌*◌, ◌≤◌, ◌<◌}
use native.Mathlib.Nat.{mul-le-mul_left}
use native.Mathlib.Omega.{arith}
use lib.ListN.{length}
use Rattle.tlv.specs.Bytes.{le_at}
use Rattle.buffers.specs.Output.{InlineNode, Warning}
use Rattle.buffers.specs.Table.{Kept, Apart}
use Rattle.buffers.proofs.TableLaws.{kept-wide, le_at-kept}
use Rattle.buffers.proofs.RecordLaws.{records-kept}
use Rattle.access.specs.Places.{unit_here}
use Rattle.files.specs.Indices.{index_of, indices_of}
use Rattle.references.specs.Keys.{keys_extent}
use Rattle.references.proofs.KeyLaws.{keys-in_none}
use Rattle.references.proofs.FollowLaws.{index_kept}
use Rattle.imports.specs.Tree.{finish}
use Rattle.ranges.proofs.RangeTableLaws.{ranges-kept}
use Rattle.dies.specs.declared.details.Details.{Details}
use Rattle.dies.specs.declared.walk.Walk.{Walk}
use Rattle.dies.specs.declared.sites.Sites.{Sites}
use Rattle.dies.specs.declared.frames.Open.{Open}
use Rattle.dies.specs.FrameStack.{Popped}
use Rattle.dies.specs.Details.{DetailsIn, dwarf_with, context_in, range_room, third}
use Rattle.dies.specs.DetailState.{Later, origin_name, Closed, walk_of, Fits, walked, Shut}
use Rattle.dies.proofs.FrameLaws.{used-one, open_kept}
use Rattle.dies.proofs.SiteLaws.{site-frames_kept, sites-kept}

-- ---- the tables below the walk's part of the work slice

module _ {main supplementary w : List ℕ} {d : Details} (D : DetailsIn main supplementary w d) where
  module _ {w' : List ℕ} {p m : ℕ} (K : Kept w w' p m) (h : d.context.ranges ≤ p) where
    pub details_kept : length w' ≡ length w → DetailsIn main supplementary w' d
    details_kept z = record {
      tables = record {
        main-index = index_kept D.tables.main-index K (omega (arith, D.main-units)) (omega (arith, D.main-entries)) z;
        supplementary-index = index_kept D.tables.supplementary-index K (omega (arith, D.supplementary-units)) (omega (arith, D.supplementary-entries)) z;
        keys = keys-in_none (omega (arith, D.tables.keys.room));
        main-units = D.tables.main-units;
        main-entries = D.tables.main-entries;
        supplementary-units = D.tables.supplementary-units;
        supplementary-entries = D.tables.supplementary-entries;
      };
      indices = D.indices;
      main-units = D.main-units;
      main-entries = D.main-entries;
      supplementary-units = D.supplementary-units;
      supplementary-entries = D.supplementary-entries;
      ranges = D.ranges;
      stack = D.stack;
      sites = D.sites;
      third = D.third;
      listless = D.listless;
    }

    pub context-kept : {lists addresses : List ℕ} → context_in main supplementary lists addresses w' d ≡ context_in main supplementary lists addresses w d
    unfolding indices_of
    context-kept {lists} {addresses} = λ i. record {
      dwarf = dwarf_with main supplementary lists addresses;
      unit = unit_here main d.context.unit;
      function_range = d.range;
      file_indices = records-kept index_of 5 d.context.indices.base d.context.indices.count K (inl (omega (arith, D.indices))) i;
      include_inlines = d.context.include_inlines;
      include_call_sites = d.context.include_call_sites;
    }

  -- a stretch of it
  pub kept-inside : {w₁ w₂ : List ℕ} {p m : ℕ} → Kept w₁ w₂ p m → d.context.ranges ≤ p → p + m ≤ d.context.tables.keys + keys_extent main supplementary d.context.tables → Kept w₁ w₂ d.context.ranges (walked main supplementary d)
  kept-inside K h k = kept-wide d.context.ranges (walked main supplementary d) K h (omega (arith, D.ranges, D.stack, D.sites))

  -- the followed targets of a search
  pub kept-keys : {w₁ w₂ : List ℕ} → Kept w₁ w₂ d.context.tables.keys (keys_extent main supplementary d.context.tables) → Kept w₁ w₂ d.context.ranges (walked main supplementary d)
  kept-keys K = kept-inside K (omega (arith, D.ranges, D.stack, D.sites)) (omega arith)

-- ---- a write beside the state

pub record Aside (d : Details) (s : Walk) (p m : ℕ) : Type 0 where
  pub frames : Apart d.context.ranges (s.frames.used * 16) p m
  pub stack : Apart d.context.stack (s.sites.opened * 14) p m
  pub sites : Apart d.context.sites (s.sites.closed * 12) p m

module _ {main supplementary w w' : List ℕ} {d : Details} {a : Later} {b : ℕ} {s : Walk} {p m : ℕ} (F : Fits main supplementary w d a b s) (K : Kept w w' p m) (A : Aside d s p m) where
  pub walk_kept : (ns : List InlineNode) (ws : List Warning) → walk_of main supplementary d w' s ns ws ≡ walk_of main supplementary d w s ns ws
  unfolding walk_of
  walk_kept ns ws = λ i. record {
    inline_stack = open_kept s.frames F.ready d.context.ranges K A.frames i;
    inlines = ns;
    call_site_stack = site-frames_kept (origin_name main supplementary d.context.unit) d.context.stack s.sites.opened K A.stack i;
    call_sites = sites-kept (origin_name main supplementary d.context.unit) d.context.sites s.sites.closed K A.sites i;
    warnings = ws;
  }

  stacked-place : (i : ℕ) → i < s.sites.opened → le_at 4 w' (d.context.stack + i * 14 + 2) ≡ le_at 4 w (d.context.stack + i * 14 + 2)
  stacked-place i h = le_at-kept 4 (d.context.stack + i * 14 + 2) K (⊎_elim (λ l. inl (omega arith)) (λ l. inr (omega arith)) A.stack)

  closed-place : (i : ℕ) → i < s.sites.closed → le_at 4 w' (d.context.sites + i * 12) ≡ le_at 4 w (d.context.sites + i * 12)
  closed-place i h = le_at-kept 4 (d.context.sites + i * 12) K (⊎_elim (λ l. inl (omega arith)) (λ l. inr (omega arith)) A.sites)

  pub fits_kept : Fits main supplementary w' d a b s
  fits_kept =
      let one = used-one s.frames F.ready in
      record {
        ready = F.ready;
        used = F.used;
        fields = F.fields;
        floor = F.floor;
        level = F.level;
        lean = F.lean;
        left = F.left;
        sites = F.sites;
        nodes = F.nodes;
        bottom = ranges-kept d.context.ranges 1 K (⊎_elim (λ l. inl (omega arith)) (λ l. inr (omega arith)) A.frames) ∙ F.bottom;
        place = F.place;
        warned = F.warned;
        stacked = λ i h. rw (stacked-place i h) (F.stacked i h);
        closed = λ i h. rw (closed-place i h) (F.closed i h);
      }

-- less room is asked for
pub fits-less : {main supplementary w : List ℕ} {d : Details} {a : Later} {b : ℕ} {s : Walk} → Fits main supplementary w d a b s
    → (a' : Later) (b' : ℕ) → a'.ranges ≤ a.ranges → a'.lists ≤ a.lists → b' ≤ b → Fits main supplementary w d a' b' s
fits-less {d = d} F a' b' h l k = record {
  ready = F.ready;
  used = omega (arith, F.used);
  fields = omega (arith, F.fields, mul-le-mul_left (third d.context.lists) l);
  floor = F.floor;
  level = omega (arith, F.level);
  lean = F.lean;
  left = omega (arith, F.left);
  sites = omega (arith, F.sites);
  nodes = omega (arith, F.nodes);
  bottom = F.bottom;
  place = F.place;
  warned = F.warned;
  stacked = F.stacked;
  closed = F.closed;
}

module _ {main supplementary w : List ℕ} {d : Details} {a : Later} {b : ℕ} {s : Walk} (D : DetailsIn main supplementary w d) (F : Fits main supplementary w d a b s) where
  -- the followed targets stand above the state
  pub aside_keys : (m : ℕ) → Aside d s d.context.tables.keys m
  aside_keys m = record {
    frames = inl (omega (arith, F.used, D.ranges, D.stack, D.sites));
    stack = inl (omega (arith, F.sites, D.stack, D.sites));
    sites = inl (omega (arith, F.sites, D.sites));
  }

  -- what is above the stack of ranges, and fits there
  pub aside-ranges : (m : ℕ) → s.frames.used * 16 + m ≤ 16 * range_room main d.context → Aside d s (d.context.ranges + s.frames.used * 16) m
  aside-ranges m h = record {
    frames = inl (omega arith);
    stack = inr (omega (arith, D.ranges));
    sites = inr (omega (arith, D.ranges, D.stack));
  }

  -- ---- closing

  pub shut_is : {w' : List ℕ} {o : Open} {depth : ℕ} {r : Sites} → Popped s.frames o depth → Closed w w' d.context.stack s.sites.opened d.context.sites s.sites.closed depth r
      → Shut main supplementary d depth w s w' (record { frames = o; sites = r; nodes = s.nodes; at = s.at; warned = s.warned; past = s.past })
  unfolding walk_of finish
  shut_is {w'} {o} {depth} {r} P C = record {
    place = refl;
    warned = refl;
    nodes = refl;
    past = refl;
    kept = kept-inside D C.rest (omega (arith, D.ranges, D.stack)) (omega (arith, F.sites, D.sites));
    fits = λ a' b' G. record {
      ready = P.ready;
      used = omega (arith, P.used, G.used);
      fields = omega (arith, P.used, G.fields);
      floor = G.floor;
      level = G.level;
      lean = P.lean G.floor (third d.context.lists) G.lean;
      left = G.left;
      sites = omega (arith, C.sum, G.sites);
      nodes = G.nodes;
      bottom = ranges-kept d.context.ranges 1 C.rest (inl (omega (arith, D.ranges, D.stack))) ∙ G.bottom;
      place = G.place;
      warned = G.warned;
      stacked = λ i h. rw (le_at-kept 4 (d.context.stack + i * 14 + 2) C.rest (inl (omega (arith, F.sites, D.stack, C.few)))) (G.stacked i (omega (arith, C.few)));
      closed = λ i h. ⊎_elim (λ x. rw x.2 (G.stacked x.0 x.1)) (λ x. rw x.1 (G.closed i x.0)) (C.each i h);
    };
    walk = λ ns ws i. record {
      inline_stack = (open_kept o P.ready d.context.ranges C.rest (inl (omega (arith, P.used, F.used, D.ranges, D.stack))) ∙ P.frames w d.context.ranges) i;
      inlines = ns;
      call_site_stack = C.left (origin_name main supplementary d.context.unit) i;
      call_sites = C.moved (origin_name main supplementary d.context.unit) i;
      warnings = ws;
    };
  }
