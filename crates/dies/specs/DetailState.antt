-- Contract. What the walk over the entries below a subprogram has done, as it stands in memory, and what each of its steps promises.
use Rattle.std.specs.Prelude.{Result, Ok, Err}
use Rattle.std.specs.Prelude.{◌≡◌, Bool, not, ◌||◌, ◌⊎◌, List, [], ◌∷◌, ◌++◌, map, ℕ, zero, suc, ◌+◌, ◌-◌, ◌*◌, ◌≤◌, ◌<◌, eqb, length, drop}
use Rattle.tlv.specs.Tags.{entry_tag, list_tag, range_tag, tray_site_tag, unit_tag, entry_whole}
use Rattle.tlv.specs.Constants.{dw_at_call_origin}
use Rattle.tlv.specs.declared.model.AddressRange.{AddressRange}
use Rattle.tlv.specs.declared.refusal.Refusal.{Refusal}
use Rattle.tlv.specs.Refusals.{number_of}
use Rattle.tlv.specs.Outcome.{Outcome, refused, done, ◌>>=◌}
use Rattle.tlv.specs.Lists.{take_while, drop_while}
use Rattle.tlv.specs.Bytes.{le_at}
use Rattle.tlv.specs.Fields.{Field, fields, whole_fields, payloads, encode}
use Rattle.tlv.specs.Model.{Entry}
use Rattle.buffers.specs.Buffer.{Put, top}
use Rattle.buffers.specs.Table.{chunk, records, Kept}
use Rattle.buffers.specs.Output.{InlineNode, CallSite, Warning, each_of, node_bytes, site_payload, warnings_bytes}
use Rattle.access.specs.Places.{unit_fields, entry_here, unit_here}
use Rattle.lines.specs.Files.{file_index}
use Rattle.references.specs.Search.{attribute}
use Rattle.references.specs.Tables.{EntryKnown}
use Rattle.references.specs.Names.{dwarf_of, reference_name}
use Rattle.references.specs.Keys.{keys_extent}
use Rattle.imports.specs.Tree.{CallSiteFrame, Descendants, DetailContext, ends_here, finish, make_call_site, push_call_site, collect_entry}
use Rattle.imports.specs.Tree.{collect_descendants}
use Rattle.imports.specs.Import.{descendants_of}
use Rattle.ranges.specs.RangeTable.{ranges_at, range_fields, own_lists}
use Rattle.dies.specs.declared.details.Details.{Details}
use Rattle.dies.specs.declared.dies.Extracted.{Extracted}
use Rattle.dies.specs.declared.walk.Walk.{Walk}
use Rattle.dies.specs.declared.sites.Sites.{Sites}
use Rattle.dies.specs.declared.sites.LaidSites.{LaidSites}
use Rattle.dies.specs.FrameStack.{Lean, open_in, Ready, grown}
use Rattle.dies.specs.Past.{is_past}
use Rattle.dies.specs.Details.{main_of, supplementary_of, third, context_in, entries_from, detail_bytes}
use Rattle.dies.specs.Details.{range_count, entry_count, list_count, range_room, open_site, closed_site}

-- ---- call sites in the work slice

-- the name of an outcome, empty where it is a refusal
abbrev pub name_given : Outcome (List ℕ) → List ℕ
name_given (refused n) = []
name_given (done r) = r

-- what the search for the name that the origin of the call site at a place refers to gives
unfoldable pub origin_of : List ℕ → List ℕ → ℕ → ℕ → Outcome (List ℕ)
origin_of main supplementary unit p =
    reference_name (dwarf_of main supplementary) (unit_here main unit) (entry_here main p) (attribute (entry_here main p) dw_at_call_origin)

unfoldable pub origin_name : List ℕ → List ℕ → ℕ → ℕ → List ℕ
origin_name main supplementary unit p = name_given (origin_of main supplementary unit p)

-- f gives the pattern of the call site whose entry stands at a place
module _ (f : ℕ → List ℕ) where
  -- a closed one: 12 bytes, the entry's place 4, the return offset 8
  unfoldable pub site_of : List ℕ → CallSite
  site_of b = record { return_offset = le_at 8 b 4; pattern = f (le_at 4 b 0) }

  -- an open one: 14 bytes, the entry's depth 2, its place 4, the return offset 8
  unfoldable pub site_frame_of : List ℕ → CallSiteFrame
  site_frame_of b = record { die_depth = le_at 2 b 0; call_site = record { return_offset = le_at 8 b 6; pattern = f (le_at 4 b 2) } }

  -- the n open ones from base on, the innermost first
  unfoldable pub site_frames_at : List ℕ → ℕ → ℕ → List CallSiteFrame
  site_frames_at w base zero = []
  site_frames_at w base (suc n) = site_frame_of (chunk w (base + n * open_site) open_site) ∷ site_frames_at w base n

  -- the n closed ones from base on
  unfoldable pub sites_at : List ℕ → ℕ → ℕ → List CallSite
  sites_at w base n = records site_of 12 w base n

-- an open call site was written at p
pub record PutSite (w w' : List ℕ) (p depth place offset : ℕ) : Type 0 where
  pub value : (f : ℕ → List ℕ) → site_frame_of f (chunk w' p 14)
      ≡ record { die_depth = depth; call_site = record { return_offset = offset; pattern = f place } }
  pub place_is : le_at 4 w' (p + 2) ≡ place
  pub rest : Kept w w' p 14

-- of the n open call sites the innermost, as far as they are at `depth` or deeper, went behind the m closed ones. The place of each closed one is that of one
-- of the n or the m
pub record Closed (w w' : List ℕ) (stack n sites m depth : ℕ) (r : Sites) : Type 0 where
  pub left : (f : ℕ → List ℕ) → site_frames_at f w' stack r.opened ≡ drop_while (ends_here depth) (site_frames_at f w stack n)
  pub moved : (f : ℕ → List ℕ) → sites_at f w' sites r.closed ≡ sites_at f w sites m
      ++ map (λ x. x.call_site) (take_while (ends_here depth) (site_frames_at f w stack n))
  pub each : (i : ℕ) → i < r.closed → ((j : ℕ) × (j < n) × (le_at 4 w' (sites + i * closed_site) ≡ le_at 4 w (stack + j * open_site + 2)))
      ⊎ ((i < m) × (le_at 4 w' (sites + i * closed_site) ≡ le_at 4 w (sites + i * closed_site)))
  pub sum : r.opened + r.closed ≡ n + m
  pub few : r.opened ≤ n
  pub rest : Kept w w' (sites + m * closed_site) (n * closed_site)

-- ---- the state

-- what the entries behind a place have, but for the entry that the place is in: fields 19, to the sheet's end, and fields 1f, to the unit's
pub record Later : Type 0 where
  pub ranges : ℕ
  pub lists : ℕ

abbrev pub none_later : Later
none_later = record { ranges = 0; lists = 0 }

-- those of the fields from the next entry or unit on
abbrev pub next_on : List Field → List Field
next_on fs = drop_while (λ f. not (eqb f.tag entry_tag || eqb f.tag unit_tag)) fs

unfoldable pub ranges_later : List ℕ → ℕ → Later
ranges_later s p = record {
  ranges = length (payloads range_tag (next_on (whole_fields (fields (drop p s)))));
  lists = length (payloads list_tag (next_on (unit_fields (fields (drop p s)))));
}

-- the entries from place p on
unfoldable pub entries_left : List ℕ → ℕ → ℕ
entries_left s p = length (payloads entry_tag (whole_fields (fields (drop p s))))

-- a call site whose origin's name was found once is found again
pub record SiteKnown (main supplementary : List ℕ) (unit p : ℕ) : Type 0 where
  pub entry : EntryKnown main unit p
  pub name : origin_of main supplementary unit p ≡ done (origin_name main supplementary unit p)

-- the walk's state, with the nodes and the warnings that were laid
unfoldable pub walk_of : List ℕ → List ℕ → Details → List ℕ → Walk → List InlineNode → List Warning → Descendants
walk_of main supplementary d w s nodes warnings = record {
  inline_stack = open_in w d.context.ranges s.frames;
  inlines = nodes;
  call_site_stack = site_frames_at (origin_name main supplementary d.context.unit) w d.context.stack s.sites.opened;
  call_sites = sites_at (origin_name main supplementary d.context.unit) w d.context.sites s.sites.closed;
  warnings = warnings;
}

-- the state stands in w, and there is room for what a says of ranges, and for b entries more. The stack has no more than the fields passed can give, and, by
-- frames, no more than the fields 19 passed and a list for each; the unit has the lists that are still to come
-- Stays a clause: it speaks of the lent work slice, which each step writes to.
pub record Fits (main supplementary w : List ℕ) (d : Details) (a : Later) (b : ℕ) (s : Walk) : Type 0 where
  pub ready : Ready s.frames
  pub used : s.frames.used + a.ranges ≤ range_room main d.context
  pub fields : s.frames.used + a.ranges + third d.context.lists * a.lists ≤ 1 + range_count main + third d.context.lists * list_count main d.context
  pub floor : ℕ
  pub level : floor + a.ranges ≤ 1 + range_count main
  pub lean : Lean floor (third d.context.lists) s.frames.frames s.frames.count s.frames.used
  pub left : a.lists ≤ list_count main d.context
  pub sites : s.sites.opened + s.sites.closed + b ≤ entry_count main
  pub nodes : s.nodes + b ≤ entry_count main
  pub bottom : ranges_at w d.context.ranges 1 ≡ d.range ∷ []
  pub place : s.at ≤ top
  pub warned : s.warned ≤ top
  pub stacked : (i : ℕ) → i < s.sites.opened → SiteKnown main supplementary d.context.unit (le_at 4 w (d.context.stack + i * open_site + 2))
  pub closed : (i : ℕ) → i < s.sites.closed → SiteKnown main supplementary d.context.unit (le_at 4 w (d.context.sites + i * closed_site))

-- .. at place p of the details' own sheet
-- Stays a clause for the reason at Fits, which it asks at a place.
abbrev pub FitsAt : List ℕ → Details → ℕ → Walk → Type 0
FitsAt w d p s = Fits (main_of d) (supplementary_of d) w d (ranges_later (main_of d) p) (entries_left (main_of d) p) s

-- ---- what is laid

-- before the first node the root
abbrev pub lead_bytes : List ℕ → AddressRange → ℕ → List ℕ
lead_bytes name r zero = node_bytes (record { depth = 0; call_file = file_index 0; call_line = 0; name = name; ranges = r ∷ [] })
lead_bytes name r (suc n) = []

-- the bytes of nodes that follow n others
abbrev pub new_bytes : List ℕ → AddressRange → ℕ → List InlineNode → List ℕ
new_bytes name r n [] = []
new_bytes name r n (x ∷ xs) = lead_bytes name r n ++ each_of node_bytes (x ∷ xs)

-- ---- the steps

-- the state with one node more, of an entry at this depth, whose ranges are the k above the stack of ranges; what follows is laid at these places
abbrev pub noded : Walk → ℕ → ℕ → ℕ → ℕ → Bool → Walk
noded s depth k at warned past =
    record {
      frames = grown s.frames depth k;
      sites = s.sites;
      nodes = s.nodes + 1;
      at = at;
      warned = warned;
      past = past;
    }

-- the part of the work slice that the walk writes to
abbrev pub walked : List ℕ → List ℕ → Details → ℕ
walked main supplementary d = d.context.tables.keys + keys_extent main supplementary d.context.tables - d.context.ranges

-- what the definition does by F is done in memory: nodes and warnings are laid, and the rest stands in w', with room for a ranges and b entries; or the
-- number n refuses it
pub record Advances (F : Descendants → Outcome Descendants) (main supplementary name : List ℕ) (d : Details) (a : Later) (b : ℕ) (w t u : List ℕ)
    (s : Walk) (w' t' u' : List ℕ) (n : ℕ) (s' : Walk) : Type 0 where
  pub nodes : List InlineNode
  pub warnings : List Warning
  pub laid : n ≡ 0 → Put s.at (new_bytes name d.range s.nodes nodes) t t' s'.at
  pub warned : n ≡ 0 → Put s.warned (warnings_bytes warnings) u u' s'.warned
  pub past : n ≡ 0 → s'.past ≡ (s.past || is_past s.at (length (new_bytes name d.range s.nodes nodes)))
  pub count : n ≡ 0 → s'.nodes ≡ s.nodes + length nodes
  pub kept : Kept w w' d.context.ranges (walked main supplementary d)
  pub fits : n ≡ 0 → Fits main supplementary w' d a b s'
  pub ok : n ≡ 0 → (ns : List InlineNode) (ws : List Warning) → F (walk_of main supplementary d w s ns ws)
      ≡ done (walk_of main supplementary d w' s' (ns ++ nodes) (ws ++ warnings))
  pub no : (n ≡ 0 → ⊥) → (ns : List InlineNode) (ws : List Warning) → F (walk_of main supplementary d w s ns ws) ≡ refused n

-- .. at the entry at place p, for the details' own sheets and name
abbrev pub Steps : (Descendants → Outcome Descendants) → Details → ℕ → List ℕ → List ℕ → List ℕ → Walk → List ℕ → List ℕ → List ℕ → ℕ → Walk → Type 0
Steps F d p w t u s w' t' u' n s' =
    Advances F (main_of d) (supplementary_of d) d.name.now d (ranges_later (main_of d) (p + entry_whole)) (entries_left (main_of d) (p + entry_whole))
    w t u s w' t' u' n s'

-- k ranges are no more than the entry at p can give: its fields 19, or its list
abbrev pub OwnRanges : List ℕ → Details → ℕ → ℕ → Type 0
OwnRanges main d p k = (k ≤ length (range_fields main (p + entry_whole))) ⊎ ((k ≤ third d.context.lists) × (1 ≤ own_lists main (p + entry_whole)))

-- the same of what lays nothing
pub record Quiet (F : Descendants → Outcome Descendants) (main supplementary : List ℕ) (d : Details) (a : Later) (b : ℕ) (w : List ℕ) (s : Walk)
    (w' : List ℕ) (n : ℕ) (s' : Walk) : Type 0 where
  pub place : s'.at ≡ s.at
  pub warned : s'.warned ≡ s.warned
  pub nodes : s'.nodes ≡ s.nodes
  pub past : s'.past ≡ s.past
  pub kept : Kept w w' d.context.ranges (walked main supplementary d)
  pub fits : n ≡ 0 → Fits main supplementary w' d a b s'
  pub ok : n ≡ 0 → (ns : List InlineNode) (ws : List Warning) → F (walk_of main supplementary d w s ns ws)
      ≡ done (walk_of main supplementary d w' s' ns ws)
  pub no : (n ≡ 0 → ⊥) → (ns : List InlineNode) (ws : List Warning) → F (walk_of main supplementary d w s ns ws) ≡ refused n

-- the nodes and call sites that end before an entry of this depth are closed
pub record Shut (main supplementary : List ℕ) (d : Details) (depth : ℕ) (w : List ℕ) (s : Walk) (w' : List ℕ) (s' : Walk) : Type 0 where
  pub place : s'.at ≡ s.at
  pub warned : s'.warned ≡ s.warned
  pub nodes : s'.nodes ≡ s.nodes
  pub past : s'.past ≡ s.past
  pub kept : Kept w w' d.context.ranges (walked main supplementary d)
  pub fits : (a : Later) (b : ℕ) → Fits main supplementary w d a b s → Fits main supplementary w' d a b s'
  pub walk : (ns : List InlineNode) (ws : List Warning) → walk_of main supplementary d w' s' ns ws ≡ finish depth (walk_of main supplementary d w s ns ws)

-- a call site
unfoldable pub collect_site : DetailContext → Entry → Descendants → Outcome Descendants
collect_site c e x = make_call_site c e >>= λ s. done (push_call_site e x s)

-- an entry: those that end before it are closed first
unfoldable pub step_entry : DetailContext → Entry → Descendants → Outcome Descendants
step_entry c e x = collect_entry c e (finish e.depth x)

-- ---- the call sites behind the nodes

-- the n closed call sites were laid
pub record SitesPut (main supplementary : List ℕ) (d : Details) (n at : ℕ) (w w' t t' : List ℕ) (r : LaidSites) : Type 0 where
  pub put : Put at (each_of (λ x. encode tray_site_tag (site_payload x))
      (sites_at (origin_name main supplementary d.context.unit) w d.context.sites n)) t t' r.at
  pub past : r.past ≡ is_past at (length (each_of (λ x. encode tray_site_tag (site_payload x))
      (sites_at (origin_name main supplementary d.context.unit) w d.context.sites n)))
  pub rest : Kept w w' d.context.ranges (walked main supplementary d)

-- ---- the whole, where a switch is on

-- its bytes and its warnings were written, and its nodes counted
pub record Descended (o : Outcome Descendants) (d : Details) (name : List ℕ) (at warned : ℕ) (t t' u u' : List ℕ) (nodes at' warned' : ℕ)
    (past : Bool) : Type 0 where
  pub descendants : Descendants
  pub is : o ≡ done descendants
  pub count : nodes ≡ length descendants.inlines
  pub put : Put at (detail_bytes name d.range descendants) t t' at'
  pub warns : Put warned (warnings_bytes descendants.warnings) u u' warned'
  pub passes : past ≡ is_past at (length (detail_bytes name d.range descendants))

abbrev pub DescendedBy : Outcome Descendants → Details → List ℕ → ℕ → ℕ → List ℕ → List ℕ → List ℕ → List ℕ → Result Extracted Refusal
    → Type 0
DescendedBy o d name at warned t t' u u' (Err e) = o ≡ refused (number_of e)
DescendedBy o d name at warned t t' u u' (Ok x) = Descended o d name at warned t t' u u' x.nodes x.at x.warned x.past

pub record Descends (main supplementary lists addresses w w' : List ℕ) (d : Details) (name : List ℕ) (p depth at warned : ℕ) (t t' u u' : List ℕ)
    (r : Result Extracted Refusal) : Type 0 where
  pub is : DescendedBy (collect_descendants (context_in main supplementary lists addresses w d) (descendants_of depth (entries_from main p)))
      d name at warned t
      t' u u' r
  pub rest : Kept w w' d.context.ranges (walked main supplementary d)

-- .. by the details' own sheets, lists, name and depth
abbrev pub DescendsTo : Details → List ℕ → List ℕ → ℕ → ℕ → ℕ → List ℕ → List ℕ → List ℕ → List ℕ → Result Extracted Refusal → Type 0
DescendsTo d w w' p at warned t t' u u' r =
    Descends (main_of d) (supplementary_of d) d.context.lists.lists.now d.context.lists.addresses.now w w' d d.name.now p d.depth at warned t t' u u' r
