-- Definition. Inline trees and call sites of one function (the Rust's convert/dwarf/dies.rs; document 01, "Each record is judged by itself ..").
use Rattle.std.specs.Prelude.{ℕ, suc, ◌-◌, ◌^◌, Bool, false, cond, ◌&&◌, ◌||◌, List, [], ◌∷◌, ◌++◌, map, length, leb, ltb, eqb}
use Rattle.std.proofs.Math.Option.{Option, none, some}
use Rattle.tlv.specs.Constants.{dw_at_call_file, dw_at_call_line, dw_at_call_origin, dw_at_call_return_pc, dw_tag_call_site, dw_tag_inlined_subroutine}
use Rattle.tlv.specs.declared.model.AddressRange.{AddressRange}
use Rattle.tlv.specs.declared.model.FileIndex.{FileIndex}
use Rattle.tlv.specs.Outcome.{Outcome, refused, done, ◌>>=◌}
use Rattle.tlv.specs.Lists.{take_while, drop_while, is_empty, is_none}
use Rattle.tlv.specs.Model.{CompilationUnit, Entry, Attribute}
use Rattle.buffers.specs.Output.{InlineNode, CallSite, Warning, about, missing_inline_call_file, invalid_inline_call_line}
use Rattle.lines.specs.Files.{FileIndices, file_index, get}
use Rattle.lines.specs.Rows.{contains}
use Rattle.rnglists.specs.RangeLists.{DieRanges, die_ranges_by}
use Rattle.references.specs.Search.{Dwarf, attribute, unsigned_attribute, file_index_attribute, absolute_entry_offset, resolve_name, resolve_reference_name}
use Rattle.imports.specs.Ranges.{coalesce_ranges}

-- ---- which ranges are kept

-- r lies inside one of ps (AddressRange::contains_range, of a nonempty r)
abbrev pub lies_in : List AddressRange → AddressRange → Bool
lies_in [] r = false
lies_in (p ∷ ps) r = (leb p.start r.start && leb r.end p.end) || lies_in ps r

-- those of rs that are nonempty and lie inside one of ps
unfoldable pub fit : List AddressRange → List AddressRange → List AddressRange
fit ps [] = []
fit ps (r ∷ rs) = cond (ltb r.start r.end && lies_in ps r) (r ∷ fit ps rs) (fit ps rs)

-- dwarf.die_ranges: an entry's ranges, and where reading them failed
unfoldable pub die_ranges : Dwarf → Entry → DieRanges
die_ranges d e = die_ranges_by d.lists d.addresses e e.list

-- an entry's ranges, as they are given
unfoldable pub ranges_of : Dwarf → Entry → List AddressRange
ranges_of d e = map (λ r. r.range) (die_ranges d e).given

-- ---- the walk's state: the stacks have their tops first

-- an inlined entry whose node is open
pub record InlineFrame : Type 0 where
  pub die_depth : ℕ
  pub ranges : List AddressRange

pub record CallSiteFrame : Type 0 where
  pub die_depth : ℕ
  pub call_site : CallSite

pub record Descendants : Type 0 where
  pub inline_stack : List InlineFrame
  pub inlines : List InlineNode
  pub call_site_stack : List CallSiteFrame
  pub call_sites : List CallSite
  pub warnings : List Warning

-- DetailContext: what is the same at every step
pub record DetailContext : Type 0 where
  pub dwarf : Dwarf
  pub unit : CompilationUnit
  pub function_range : AddressRange
  pub file_indices : FileIndices
  pub include_inlines : Bool
  pub include_call_sites : Bool

-- finish_inline, as often as the next entry's depth says
unfoldable pub finish_inlines : ℕ → List InlineFrame → List InlineFrame
finish_inlines depth [] = []
finish_inlines depth (f ∷ fs) = cond (leb depth f.die_depth) (finish_inlines depth fs) (f ∷ fs)

abbrev pub ends_here : ℕ → CallSiteFrame → Bool
ends_here depth f = leb depth f.die_depth

-- finish_call_sites: "Call sites come innermost first."
abbrev pub finish_call_sites : ℕ → Descendants → List CallSite
finish_call_sites depth w = w.call_sites ++ map (λ f. f.call_site) (take_while (ends_here depth) w.call_site_stack)

-- the entries that end before one of this depth are closed
unfoldable pub finish : ℕ → Descendants → Descendants
finish depth w = record {
  inline_stack = finish_inlines depth w.inline_stack;
  inlines = w.inlines;
  call_site_stack = drop_while (ends_here depth) w.call_site_stack;
  call_sites = finish_call_sites depth w;
  warnings = w.warnings;
}

-- ---- call sites

-- a call site with the name that its origin refers to as its pattern
abbrev pub site_with_origin : DetailContext → Entry → ℕ → Option Attribute → Outcome (Option CallSite)
site_with_origin c e offset none = done (some (record { return_offset = offset; pattern = [] }))
site_with_origin c e offset (some a) = resolve_reference_name c.dwarf c.unit e a >>= λ name. done (some (record { return_offset = offset; pattern = name }))

-- a return address in the function; a failed one refuses
abbrev pub site_at : DetailContext → Entry → Option Attribute → Outcome (Option CallSite)
site_at c e none = done none
site_at c e (some a) =
    cond (eqb a.kind 10) (refused 6)
    (cond (eqb a.kind 9 && contains c.function_range a.value)
    (site_with_origin c e (a.value - c.function_range.start) (attribute e dw_at_call_origin))
    (done none))

-- make_call_site
unfoldable pub make_call_site : DetailContext → Entry → Outcome (Option CallSite)
make_call_site c e = site_at c e (attribute e dw_at_call_return_pc)

abbrev pub push_call_site : Entry → Descendants → Option CallSite → Descendants
push_call_site e w none = w
push_call_site e w (some s) = record {
  inline_stack = w.inline_stack;
  inlines = w.inlines;
  call_site_stack = record { die_depth = e.depth; call_site = s } ∷ w.call_site_stack;
  call_sites = w.call_sites;
  warnings = w.warnings;
}

-- ---- inline nodes

pub record CallFile : Type 0 where
  pub file : FileIndex
  pub warnings : List Warning

abbrev pub call_file_from : DetailContext → Entry → ℕ → Option FileIndex → Outcome CallFile
call_file_from c e n (some i) = done (record { file = i; warnings = [] })
call_file_from c e n none = absolute_entry_offset c.unit e.offset >>= λ o.
    done (record { file = file_index 0; warnings = about missing_inline_call_file o n ∷ [] })

abbrev pub call_file_if : DetailContext → Entry → Option ℕ → Outcome CallFile
call_file_if c e none = done (record { file = file_index 0; warnings = [] })
call_file_if c e (some n) = call_file_from c e n (get c.file_indices n)

-- the call's file; a missing one warns
unfoldable pub call_file_of : DetailContext → Entry → Outcome CallFile
call_file_of c e = call_file_if c e (file_index_attribute e dw_at_call_file)

pub record CallLine : Type 0 where
  pub line : ℕ
  pub warnings : List Warning

abbrev pub call_line_if : DetailContext → Entry → Option ℕ → Outcome CallLine
call_line_if c e none = done (record { line = 0; warnings = [] })
call_line_if c e (some n) = cond (ltb n (2 ^ 32)) (done (record { line = n; warnings = [] }))
    (absolute_entry_offset c.unit e.offset >>= λ o. done (record { line = 0; warnings = about invalid_inline_call_line o n ∷ [] }))

-- the call's line; one past 32 bits warns
unfoldable pub call_line_of : DetailContext → Entry → Outcome CallLine
call_line_of c e = call_line_if c e (unsigned_attribute e dw_at_call_line)

-- check_inline_depth: 14 where a kept node would be the 257th below the root
abbrev pub inline_depth_limit : ℕ
inline_depth_limit = 256

-- a named entry with these merged ranges becomes the next node below the open ones; with none it is not kept
unfoldable pub push_inline : DetailContext → Entry → List ℕ → List AddressRange → Descendants → Outcome Descendants
push_inline c e name [] w = done w
push_inline c e name (r ∷ rs) w =
    call_file_of c e >>= λ file.
    call_line_of c e >>= λ line.
    cond (ltb (length w.inline_stack) inline_depth_limit)
    (done (record {
      inline_stack = record { die_depth = e.depth; ranges = r ∷ rs } ∷ w.inline_stack;
      inlines =
          w.inlines ++ (record { depth = suc (length w.inline_stack); call_file = file.file; call_line = line.line; name = name; ranges = r ∷ rs } ∷ []);
      call_site_stack = w.call_site_stack;
      call_sites = w.call_sites;
      warnings = w.warnings ++ (file.warnings ++ line.warnings);
    }))
    (refused 14)

-- the ranges of the innermost open node or, without one, the function's
abbrev pub parent_ranges : AddressRange → List InlineFrame → List AddressRange
parent_ranges f [] = f ∷ []
parent_ranges f (t ∷ ts) = t.ranges

-- make_inline_node: a range failure of a named inlined entry refuses, with 6 or with the number of its list's fault
unfoldable pub make_inline_node : DetailContext → Entry → Descendants → Outcome Descendants
make_inline_node c e w = resolve_name c.dwarf c.unit e >>= λ name.
    cond (is_empty name) (done w)
    (cond (is_none (die_ranges c.dwarf e).failure)
    (push_inline c e name (coalesce_ranges (fit (parent_ranges c.function_range w.inline_stack) (ranges_of c.dwarf e))) w)
    (refused (die_ranges c.dwarf e).refusal))

-- ---- collect_descendants

-- DW_TAG_call_site, DW_TAG_inlined_subroutine
abbrev pub is_call_site : Entry → Bool
is_call_site e = eqb e.tag dw_tag_call_site

abbrev pub is_inlined : Entry → Bool
is_inlined e = eqb e.tag dw_tag_inlined_subroutine

unfoldable pub collect_entry : DetailContext → Entry → Descendants → Outcome Descendants
collect_entry c e w =
    cond (c.include_call_sites && is_call_site e) (make_call_site c e >>= λ s. done (push_call_site e w s))
    (cond (c.include_inlines && is_inlined e) (make_inline_node c e w)
    (done w))

unfoldable pub collect_entries : DetailContext → List Entry → Descendants → Outcome Descendants
collect_entries c [] w = done w
collect_entries c (e ∷ es) w = collect_entry c e (finish e.depth w) >>= collect_entries c es

abbrev pub no_descendants : Descendants
no_descendants = record { inline_stack = []; inlines = []; call_site_stack = []; call_sites = []; warnings = [] }

-- over the entries below a subprogram
unfoldable pub collect_descendants : DetailContext → List Entry → Outcome Descendants
collect_descendants c below = collect_entries c below no_descendants >>= λ w. done (finish 0 w)

-- extract_subprogram_details: with both switches off nothing below a subprogram is read
unfoldable pub extract_subprogram_details : DetailContext → List Entry → Outcome Descendants
extract_subprogram_details c below = cond (c.include_inlines || c.include_call_sites) (collect_descendants c below) (done no_descendants)
