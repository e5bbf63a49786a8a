-- What the walk below a subprogram finds fits its fields: the nodes, the call sites and the warnings.
use mathlib.Core.Path.{◌≡◌, refl}
use mathlib.Core.Logic.{inr, ◌≢◌}
use mathlib.Core.Bool.{◌&&◌, ◌||◌}
use mathlib.Core.List.{List, [], ◌∷◌, ◌++◌, map, cons≢nil}
use mathlib.Core.Option.{Option, none, some}
use Prim.Native.Nat.{ℕ, suc, ◌-◌, ◌^◌, ◌≤◌, ◌<◌}
use native.Mathlib.Omega.{arith}
use borrow.Author.Tests.{ltb-true}
use lib.ListN.{length}
use lib.Dec.{leb, ltb, eqb}
use Rattle.tlv.specs.declared.model.AddressRange.{AddressRange}
use Rattle.tlv.specs.declared.model.FileIndex.{FileIndex}
use Rattle.tlv.specs.Lists.{All, take_while, drop_while, is_empty, is_none}
use Rattle.tlv.specs.Model.{Entry, Attribute}
use Rattle.tlv.specs.Accepted.{String, Given, AttributeAccepted, EntryAccepted, UnitAccepted}
use Rattle.tlv.proofs.ListLaws.{all_append, all-take_while, all-drop_while, all-image}
use Rattle.tlv.proofs.PlaceLaws.{drop_while-length}
use Rattle.tlv.proofs.OutcomeLaws.{Gives, gives, gives_none, gives-cond, gives-bind}
use Rattle.tlv.proofs.AcceptedFields.{no-string}
use Rattle.buffers.specs.Output.{InlineNode, CallSite}
use Rattle.buffers.specs.Fits.{RangeFits, NodesFit, SiteFits, WarningFits}
use Rattle.buffers.proofs.PayloadLaws.{node-length, site-length}
use Rattle.lines.specs.Files.{get}
use Rattle.lines.specs.Rows.{contains}
use Rattle.lines.proofs.Bounds.{IndexFits, IndicesFit}
use Rattle.lines.proofs.FileBounds.{get-fits}
use Rattle.references.specs.Search.{attribute, unsigned_attribute, file_index_attribute}
use Rattle.references.proofs.NameBounds.{DwarfAccepted, attribute-accepted, unsigned_small, file_index-small, absolute-small, gives-name, gives-reference_name}
use Rattle.imports.specs.Tree.{die_ranges, ranges_of, InlineFrame, Descendants, DetailContext, finish_inlines, ends_here, finish, site_with_origin, site_at, make_call_site, push_call_site, CallFile, call_file_from, call_file_if, call_file_of, CallLine, call_line_if, call_line_of, push_inline, parent_ranges, make_inline_node, is_call_site, is_inlined, collect_entry, collect_entries, no_descendants, collect_descendants, extract_subprogram_details}
use Rattle.imports.proofs.NodeBounds.{Within, kept-within, within-fit, next_depth, nodes-append, next-append}

-- ---- the walk

-- what the walk is given
pub record ContextAccepted (c : DetailContext) : Type 0 where
  pub dwarf : DwarfAccepted c.dwarf
  pub unit : UnitAccepted c.unit
  pub range : RangeFits c.function_range
  pub files : IndicesFit c.file_indices

-- what the walk has on its stacks and in its lists
record WalkFits (f : AddressRange) (w : Descendants) : Type 0 where
  frames : All (λ x. All (Within f) x.ranges) w.inline_stack
  deep : suc (length w.inline_stack) ≤ next_depth 1 w.inlines
  nodes : NodesFit 1 w.inlines
  opened : All (λ x. SiteFits x.call_site) w.call_site_stack
  sites : All SiteFits w.call_sites
  warnings : All WarningFits w.warnings

-- what it is done with
pub record DetailsFit (x : Descendants) : Type 0 where
  pub inlines : NodesFit 1 x.inlines
  pub call_sites : All SiteFits x.call_sites
  pub warnings : All WarningFits x.warnings

finished-is : (depth : ℕ) (fs : List InlineFrame) → finish_inlines depth fs ≡ drop_while (λ f. leb depth f.die_depth) fs
unfolding finish_inlines drop_while
finished-is depth [] = refl
finished-is depth (f ∷ fs) = rw (finished-is depth fs)

finish-fits : (f : AddressRange) (depth : ℕ) (w : Descendants) → WalkFits f w → WalkFits f (finish depth w)
unfolding finish
finish-fits f depth w h = record {
  frames = rw finished-is (all-drop_while (λ x. All (Within f) x.ranges) (λ f. leb depth f.die_depth) w.inline_stack h.frames);
  deep = rw finished-is (omega (arith, drop_while-length (λ f. leb depth f.die_depth) w.inline_stack, h.deep));
  nodes = h.nodes;
  opened = all-drop_while (λ x. SiteFits x.call_site) (ends_here depth) w.call_site_stack h.opened;
  sites = all_append SiteFits w.call_sites (map (λ x. x.call_site) (take_while (ends_here depth) w.call_site_stack)) h.sites
      (all-image SiteFits (λ x. x.call_site) (take_while (ends_here depth) w.call_site_stack)
      (all-take_while (λ x. SiteFits x.call_site) (ends_here depth) w.call_site_stack h.opened));
  warnings = h.warnings;
}

-- a call's file and line
record CallFileFits (x : CallFile) : Type 0 where
  file : IndexFits x.file
  warnings : All WarningFits x.warnings

record CallLineFits (x : CallLine) : Type 0 where
  line : x.line < 2 ^ 32
  warnings : All WarningFits x.warnings

-- a node joins those below which it is opened
module _ (f : AddressRange) (w : Descendants) (depth : ℕ) (file : CallFile) (line : CallLine) (name : List ℕ) (rs : List AddressRange) where
  abbrev node : InlineNode
  node = record { depth = suc (length w.inline_stack); call_file = file.file; call_line = line.line; name = name; ranges = rs }

  abbrev pushed : Descendants
  pushed = record {
    inline_stack = record { die_depth = depth; ranges = rs } ∷ w.inline_stack;
    inlines = w.inlines ++ (node ∷ []);
    call_site_stack = w.call_site_stack;
    call_sites = w.call_sites;
    warnings = w.warnings ++ (file.warnings ++ line.warnings);
  }

  pushed_fits : RangeFits f → WalkFits f w → CallFileFits file → CallLineFits line → String name → rs ≢ [] → All (Within f) rs → length w.inline_stack < 256 → WalkFits f pushed
  pushed_fits range fits k l s filled inside few = record {
    frames = (inside, fits.frames);
    deep = omega (arith, next-append 1 w.inlines node);
    nodes = nodes-append 1 w.inlines node fits.nodes (record {
      deep = inr (omega arith);
      next = fits.deep;
      shallow = few;
      file = k.file;
      line = l.line;
      short = omega (arith, s.1, node-length node);
      filled = filled;
      ranges = within-fit f rs range inside;
    });
    opened = fits.opened;
    sites = fits.sites;
    warnings = all_append WarningFits w.warnings (file.warnings ++ line.warnings) fits.warnings (all_append WarningFits file.warnings line.warnings k.warnings l.warnings);
  }

zero-small : 0 < 2 ^ 32
zero-small = omega arith

module _ (c : DetailContext) (context : ContextAccepted c) (e : Entry) (accepted : EntryAccepted c.unit.length e) where
  call_site-fits : Gives (Given SiteFits) (make_call_site c e)
  unfolding make_call_site
  call_site-fits = site (attribute e 0x7d) (attribute-accepted e 0x7d accepted)
    where
      fits : (offset : ℕ) (pattern : List ℕ) → offset < 2 ^ 64 → String pattern → SiteFits (record { return_offset = offset; pattern = pattern })
      fits offset pattern h s = record { offset = h; short = omega (arith, s.1, site-length (record { return_offset = offset; pattern = pattern })) }

      origin : (offset : ℕ) (o : Option Attribute) → offset < 2 ^ 64 → Gives (Given SiteFits) (site_with_origin c e offset o)
      origin offset none h = gives (fits offset [] h no-string)
      origin offset (some a) h = gives-bind (gives-reference_name c.dwarf context.dwarf c.unit e context.unit accepted a) λ name s. gives (fits offset name h s)

      site : (o : Option Attribute) → Given AttributeAccepted o → Gives (Given SiteFits) (site_at c e o)
      site none h = gives tt
      site (some a) h =
          gives-cond (eqb a.kind 10) (λ q. gives_none) λ q.
          gives-cond (eqb a.kind 9 && contains c.function_range a.value) (λ r. origin (a.value - c.function_range.start) (attribute e 0x7f) (omega (arith, h.value))) (λ r. gives tt)

  call_file-fits : Gives CallFileFits (call_file_of c e)
  unfolding call_file_of
  call_file-fits = if (file_index_attribute e 0x58) (file_index-small e 0x58 accepted)
    where
      from : (n : ℕ) (o : Option FileIndex) → n < 2 ^ 64 → Given IndexFits o → Gives CallFileFits (call_file_from c e n o)
      from n none h k = gives-bind (absolute-small c.unit e.offset) λ o small. gives (record { file = zero-small; warnings = ((small, h), tt) })
      from n (some i) h k = gives (record { file = k; warnings = tt })

      if : (o : Option ℕ) → Given (λ v. v < 2 ^ 64) o → Gives CallFileFits (call_file_if c e o)
      if none h = gives (record { file = zero-small; warnings = tt })
      if (some n) h = from n (get c.file_indices n) h (get-fits c.file_indices n context.files)

  call_line-fits : Gives CallLineFits (call_line_of c e)
  unfolding call_line_of
  call_line-fits = if (unsigned_attribute e 0x59) (unsigned_small e 0x59 accepted)
    where
      if : (o : Option ℕ) → Given (λ v. v < 2 ^ 64) o → Gives CallLineFits (call_line_if c e o)
      if none h = gives (record { line = zero-small; warnings = tt })
      if (some n) h = gives-cond (ltb n (2 ^ 32)) (λ q. gives (record { line = ltb-true n (2 ^ 32) q; warnings = tt }))
          (λ q. gives-bind (absolute-small c.unit e.offset) λ o small. gives (record { line = zero-small; warnings = ((small, h), tt) }))

  module _ (w : Descendants) (fits : WalkFits c.function_range w) where
    push_fits : (name : List ℕ) (rs : List AddressRange) → String name → All (Within c.function_range) rs → Gives (WalkFits c.function_range) (push_inline c e name rs w)
    unfolding push_inline
    push_fits name [] s h = gives fits
    push_fits name (r ∷ rs) s h =
        gives-bind call_file-fits λ file f.
        gives-bind call_line-fits λ line l.
        gives-cond (ltb (length w.inline_stack) 256)
        (λ q. gives (pushed_fits c.function_range w e.depth file line name (r ∷ rs) context.range fits f l s cons≢nil h (ltb-true (length w.inline_stack) 256 q))) (λ q. gives_none)

    node-fits : Gives (WalkFits c.function_range) (make_inline_node c e w)
    unfolding make_inline_node
    node-fits = gives-bind (gives-name c.dwarf context.dwarf c.unit e context.unit accepted) λ name s.
        gives-cond (is_empty name) (λ q. gives fits) λ q.
        gives-cond (is_none (die_ranges c.dwarf e).failure) (λ r. push_fits name _ s (kept-within c.function_range _ (ranges_of c.dwarf e) (parents w.inline_stack fits.frames))) (λ r. gives_none)
      where
        parents : (fs : List InlineFrame) → All (λ x. All (Within c.function_range) x.ranges) fs → All (Within c.function_range) (parent_ranges c.function_range fs)
        parents [] h = ((context.range.filled, (omega arith, omega arith)), tt)
        parents (x ∷ xs) h = h.0

    entry-fits : Gives (WalkFits c.function_range) (collect_entry c e w)
    unfolding collect_entry
    entry-fits =
        gives-cond (c.include_call_sites && is_call_site e) (λ q. gives-bind call_site-fits λ o h. gives (site o h)) λ q.
        gives-cond (c.include_inlines && is_inlined e) (λ r. node-fits) (λ r. gives fits)
      where
        site : (o : Option CallSite) → Given SiteFits o → WalkFits c.function_range (push_call_site e w o)
        site none h = fits
        site (some s) h = record {
          frames = fits.frames;
          deep = fits.deep;
          nodes = fits.nodes;
          opened = (h, fits.opened);
          sites = fits.sites;
          warnings = fits.warnings;
        }

module _ (c : DetailContext) (context : ContextAccepted c) where
  entries_fit : (es : List Entry) (w : Descendants) → All (EntryAccepted c.unit.length) es → WalkFits c.function_range w → Gives (WalkFits c.function_range) (collect_entries c es w)
  unfolding collect_entries
  entries_fit [] w h f = gives f
  entries_fit (e ∷ es) w h f =
      let later = entries_fit es in
      gives-bind (entry-fits c context e h.0 (finish e.depth w) (finish-fits c.function_range e.depth w f)) λ x g. later x h.1 g

  descendants-fit : (below : List Entry) → All (EntryAccepted c.unit.length) below → Gives DetailsFit (collect_descendants c below)
  unfolding collect_descendants
  descendants-fit below h =
      gives-bind (entries_fit below no_descendants h (record { frames = tt; deep = omega arith; nodes = tt; opened = tt; sites = tt; warnings = tt })) λ w f.
      let g = finish-fits c.function_range 0 w f in gives (record { inlines = g.nodes; call_sites = g.sites; warnings = g.warnings })

  pub details_fit : (below : List Entry) → All (EntryAccepted c.unit.length) below → Gives DetailsFit (extract_subprogram_details c below)
  unfolding extract_subprogram_details
  details_fit below h = gives-cond (c.include_inlines || c.include_call_sites) (λ q. descendants-fit below h) (λ q. gives (record { inlines = tt; call_sites = tt; warnings = tt }))
