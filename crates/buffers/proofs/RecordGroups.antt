-- The fields of a records tray give back the functions, by their groups and tags.
use mathlib.Core.Path.{◌≡◌, refl}
use mathlib.Core.List.{List, [], ◌∷◌, ◌++◌, map, append_assoc, append-nil}
use mathlib.Core.Bool.{false}
use Prim.Native.Nat.{ℕ, suc}
use lib.Dec.{eqb}
use Rattle.tlv.specs.Fields.{Field, Group, grouped, payloads}
use Rattle.tlv.specs.Model.{range_of}
use Rattle.tlv.proofs.ListLaws.{all_append, map_back}
use Rattle.buffers.specs.Output.{InlineNode, CallSite, Function, row_payload, node_payload, range_payload, site_payload}
use Rattle.buffers.specs.Reader.{line_of, node_of, site_of, function_of}
use Rattle.buffers.specs.Fits.{NodeFits, NodesFit, FunctionFits}
use Rattle.buffers.proofs.FieldLaws.{fields_of_each}
use Rattle.buffers.proofs.GroupLaws.{Other, Lacks, lacks-tagged, lacks_each, grouped-head, grouped-lacking, grouped-none, payloads-append, payloads-lacking, payloads-behind, payloads-tagged}
use Rattle.buffers.proofs.PayloadLaws.{row_back, range_back, site-back, function-name, function-range, node-name, node-depth, node-file, node-line}
use Rattle.buffers.proofs.RecordFields.{row_fields, range_fields, site_fields, node_fields, nodes_fields, head_field, body_fields, function_fields}

-- ---- the nodes, by their groups

-- what stands before the first node among nodes and call sites has no range
before-nodes : (ns : List InlineNode) (ss : List CallSite) → payloads 0x44 (grouped 0x43 (nodes_fields ns ++ site_fields ss)).before ≡ []
before-nodes [] ss = rw (grouped-none 0x43 (site_fields ss) (lacks-tagged 0x43 0x45 site_payload ss refl)) (payloads-lacking 0x44 (site_fields ss) (lacks-tagged 0x44 0x45 site_payload ss refl))
before-nodes (n ∷ ns) ss = unfold grouped payloads in refl

-- a node and its ranges, whatever follows that is no range
node-back : (d : ℕ) (n : InlineNode) (rest : List Field) → NodeFits d n → payloads 0x44 rest ≡ []
    → node_of (record { head = record { tag = 0x43; payload = node_payload n }; rest = range_fields n.ranges ++ rest }) ≡ n
unfolding node_of
node-back d n rest h none =
    let given : payloads 0x44 (range_fields n.ranges ++ rest) ≡ map range_payload n.ranges
    = rw (payloads-append 0x44 (range_fields n.ranges) rest, none, payloads-tagged 0x44 range_payload n.ranges) (append-nil (map range_payload n.ranges)) in
    rw (node-depth n d h, node-file n d h, node-line n d h, node-name n, given, map_back range_of range_payload n.ranges range_back h.ranges)

nodes-back : (d : ℕ) (ns : List InlineNode) (ss : List CallSite) → NodesFit d ns → map node_of (grouped 0x43 (nodes_fields ns ++ site_fields ss)).groups ≡ ns
nodes-back d [] ss h = rw (grouped-none 0x43 (site_fields ss) (lacks-tagged 0x43 0x45 site_payload ss refl))
nodes-back d (n ∷ ns) ss h =
    let rest = nodes_fields ns ++ site_fields ss in
    rw (
      grouped-head 0x43 (record { tag = 0x43; payload = node_payload n }) (range_fields n.ranges ++ nodes_fields ns ++ site_fields ss) refl,
      append_assoc (range_fields n.ranges) (nodes_fields ns) (site_fields ss),
      grouped-lacking 0x43 (range_fields n.ranges) rest (lacks-tagged 0x43 0x44 range_payload n.ranges refl),
      node-back d n (grouped 0x43 rest).before h.0 (before-nodes ns ss),
      nodes-back (suc n.depth) ns ss h.1,
    )

-- ---- the functions, by their groups

nodes-lack : (t : ℕ) (ns : List InlineNode) → eqb 0x43 t ≡ false → eqb 0x44 t ≡ false → Lacks t (nodes_fields ns)
nodes-lack t ns h k = lacks_each t node_fields ns (λ n. (h, lacks-tagged t 0x44 range_payload n.ranges k))

body_lacks : (f : Function) → Lacks 0x41 (body_fields f)
body_lacks f =
    all_append (Other 0x41) (row_fields f.lines) (nodes_fields f.inline ++ site_fields f.call_sites) (lacks-tagged 0x41 0x42 row_payload f.lines refl)
    (all_append (Other 0x41) (nodes_fields f.inline) (site_fields f.call_sites) (nodes-lack 0x41 f.inline refl refl) (lacks-tagged 0x41 0x45 site_payload f.call_sites refl))

abbrev pub function_group : Function → Group
function_group f = record { head = head_field f; rest = body_fields f }

pub functions-grouped : (fs : List Function) → grouped 0x41 (fields_of_each function_fields fs) ≡ record { before = []; groups = map function_group fs }
functions-grouped [] = unfold grouped in refl
functions-grouped (f ∷ fs) =
    let rest = fields_of_each function_fields fs in
    rw (grouped-head 0x41 (head_field f) (body_fields f ++ rest) refl, grouped-lacking 0x41 (body_fields f) rest (body_lacks f), functions-grouped fs, append-nil (body_fields f))

module _ (f : Function) (h : FunctionFits f) where
  lines-back : map line_of (payloads 0x42 (body_fields f)) ≡ f.lines
  lines-back =
      let after = nodes_fields f.inline ++ site_fields f.call_sites in
      let other = all_append (Other 0x42) (nodes_fields f.inline) (site_fields f.call_sites) (nodes-lack 0x42 f.inline refl refl) (lacks-tagged 0x42 0x45 site_payload f.call_sites refl) in
      rw (payloads-append 0x42 (row_fields f.lines) after, payloads-lacking 0x42 after other, append-nil (payloads 0x42 (row_fields f.lines)), payloads-tagged 0x42 row_payload f.lines)
      (map_back line_of row_payload f.lines row_back h.lines)

  inline-back : map node_of (grouped 0x43 (body_fields f)).groups ≡ f.inline
  inline-back =
      rw (grouped-lacking 0x43 (row_fields f.lines) (nodes_fields f.inline ++ site_fields f.call_sites) (lacks-tagged 0x43 0x42 row_payload f.lines refl))
      (nodes-back 0 f.inline f.call_sites h.inline)

  sites-back : map site_of (payloads 0x45 (body_fields f)) ≡ f.call_sites
  sites-back =
      rw (
        payloads-behind 0x45 (row_fields f.lines) (nodes_fields f.inline ++ site_fields f.call_sites) (lacks-tagged 0x45 0x42 row_payload f.lines refl),
        payloads-behind 0x45 (nodes_fields f.inline) (site_fields f.call_sites) (nodes-lack 0x45 f.inline refl refl),
        payloads-tagged 0x45 site_payload f.call_sites,
      )
      (map_back site_of site_payload f.call_sites site-back h.call_sites)

  pub function-back : function_of (function_group f) ≡ f
  unfolding function_of
  function-back = rw (function-range f.range h.range f.name, function-name f.range f.name, lines-back, inline-back, sites-back)
