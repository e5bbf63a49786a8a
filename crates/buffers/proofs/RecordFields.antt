-- The fields of a records tray, which its bytes spell.
use mathlib.Core.Path.{refl}
use mathlib.Core.List.{List, [], ◌∷◌, ◌++◌, append_assoc}
use Prim.Native.Nat.{ℕ, suc}
use Rattle.tlv.specs.declared.model.AddressRange.{AddressRange}
use Rattle.tlv.specs.declared.model.LineEntry.{LineEntry}
use Rattle.tlv.specs.Lists.{All}
use Rattle.tlv.specs.Fields.{Field}
use Rattle.tlv.proofs.ListLaws.{all_map, all-each}
use Rattle.buffers.specs.Output.{InlineNode, CallSite, Function, function_payload, row_payload, node_payload, range_payload, site_payload, node_bytes, function_bytes, records_bytes, each_of}
use Rattle.buffers.specs.Fits.{NodeFits, NodesFit, FunctionFits}
use Rattle.buffers.proofs.FieldLaws.{Spells, spells-encode, spells_append, spells_each, spells-tagged, fields_of_each, tagged}
use Rattle.buffers.proofs.PayloadLaws.{row-short, range-short}

-- ---- the fields

abbrev pub row_fields : List LineEntry → List Field
row_fields ls = tagged 0x42 row_payload ls

abbrev pub range_fields : List AddressRange → List Field
range_fields rs = tagged 0x44 range_payload rs

abbrev pub site_fields : List CallSite → List Field
site_fields ss = tagged 0x45 site_payload ss

abbrev pub node_fields : InlineNode → List Field
node_fields n = record { tag = 0x43; payload = node_payload n } ∷ range_fields n.ranges

abbrev pub nodes_fields : List InlineNode → List Field
nodes_fields ns = fields_of_each node_fields ns

abbrev pub head_field : Function → Field
head_field f = record { tag = 0x41; payload = function_payload f.range f.name }

-- what follows a function's own field
abbrev pub body_fields : Function → List Field
body_fields f = row_fields f.lines ++ (nodes_fields f.inline ++ site_fields f.call_sites)

abbrev pub function_fields : Function → List Field
function_fields f = head_field f ∷ body_fields f

-- ---- the bytes spell them

node-spelled : (d : ℕ) (n : InlineNode) → NodeFits d n → Spells (node_bytes n) (node_fields n)
unfolding node_bytes
node-spelled d n h = spells_append (spells-encode 0x43 (node_payload n) h.short) (spells-tagged 0x44 range_payload n.ranges (all-each n.ranges range-short))

nodes-spelled : (d : ℕ) (ns : List InlineNode) → NodesFit d ns → Spells (each_of node_bytes ns) (nodes_fields ns)
unfolding each_of
nodes-spelled d [] h = record { before = λ rest. refl }
nodes-spelled d (n ∷ ns) h = spells_append (node-spelled d n h.0) (nodes-spelled (suc n.depth) ns h.1)

function-spelled : (f : Function) → FunctionFits f → Spells (function_bytes f) (function_fields f)
unfolding function_bytes
function-spelled f h =
    let head = spells-encode 0x41 (function_payload f.range f.name) h.short in
    let rows = spells-tagged 0x42 row_payload f.lines (all-each f.lines row-short) in
    let nodes = nodes-spelled 0 f.inline h.inline in
    let sites = spells-tagged 0x45 site_payload f.call_sites (all_map f.call_sites (λ s k. k.short) h.call_sites) in
    rw (append_assoc (row_fields f.lines) (nodes_fields f.inline) (site_fields f.call_sites)) at (spells_append (spells_append (spells_append head rows) nodes) sites)

pub records-spelled : (fs : List Function) → All FunctionFits fs → Spells (records_bytes fs) (fields_of_each function_fields fs)
unfolding records_bytes
records-spelled fs h = spells_each function_bytes function_fields fs (all_map fs function-spelled h)
