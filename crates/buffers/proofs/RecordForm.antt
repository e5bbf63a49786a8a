-- The fields of functions that fit have the form that the reader of records asks for.
use mathlib.Core.Path.{◌≡◌, refl}
use mathlib.Core.Logic.{◌⊎◌, inl, inr, ◌≢◌}
use mathlib.Core.List.{List, [], ◌∷◌, ◌++◌}
use mathlib.Core.Bool.{true, ◌||◌, not, or-true}
use Prim.Native.Nat.{ℕ, suc, ◌≤◌}
use native.Mathlib.Omega.{arith}
use native.Mathlib.Numerals.{add-one}
use lib.Dec.{leb, eqb}
use lib.ListN.{length}
use borrow.Author.Tests.{le-leb, lt-ltb, eq-eqb}
use Rattle.tlv.specs.declared.model.AddressRange.{AddressRange}
use Rattle.tlv.specs.declared.model.LineEntry.{LineEntry}
use Rattle.tlv.specs.Lists.{All, exists}
use Rattle.tlv.specs.Fields.{FieldList, end, more}
use Rattle.buffers.specs.Output.{InlineNode, CallSite, Function, function_payload, row_payload, node_payload, range_payload, site_payload}
use Rattle.buffers.specs.Reader.{records_after, range_formed, records_formed, depth_after, records_form}
use Rattle.buffers.specs.Fits.{RangeFits, NodeFits, NodesFit, FunctionFits}
use Rattle.buffers.proofs.FieldLaws.{prepend, prepend_append, fields_of_each}
use Rattle.buffers.proofs.PayloadLaws.{row-length, range_length, function-length, node-length, site-length, function-start, function-end, range-start, range-end, node-depth}
use Rattle.buffers.proofs.RecordFields.{row_fields, range_fields, site_fields, node_fields, nodes_fields, body_fields, function_fields}

-- ---- each payload by itself

row-formed : (d : ℕ) (l : LineEntry) → records_formed d 0x42 (row_payload l) ≡ true
unfolding records_formed
row-formed d l = rw (row-length l)

range-formed : (d : ℕ) (r : AddressRange) → RangeFits r → records_formed d 0x44 (range_payload r) ≡ true
unfolding records_formed range_formed
range-formed d r h = rw (range_length r, range-start r h, range-end r h) (lt-ltb r.start r.end h.filled)

site-formed : (d : ℕ) (s : CallSite) → records_formed d 0x45 (site_payload s) ≡ true
unfolding records_formed
site-formed d s = le-leb 9 (length (site_payload s)) (omega (arith, site-length s))

function-formed : (d : ℕ) (r : AddressRange) (name : List ℕ) → RangeFits r → records_formed d 0x41 (function_payload r name) ≡ true
unfolding records_formed range_formed
function-formed d r name h =
    rw (le-leb 16 (length (function_payload r name)) (omega (arith, function-length r name)), function-start r h name, function-end r h name) (lt-ltb r.start r.end h.filled)

deep-enough : (d n : ℕ) → (d ≡ 0) ⊎ (1 ≤ n) → (leb 1 n || eqb d 0) ≡ true
deep-enough d n (inl e) = rw (eq-eqb d 0 e) (or-true (leb 1 n))
deep-enough d n (inr h) = rw (le-leb 1 n h)

node-formed : (d : ℕ) (n : InlineNode) → NodeFits d n → records_formed d 0x43 (node_payload n) ≡ true
unfolding records_formed
node-formed d n h =
    rw (node-depth n d h, le-leb 10 (length (node_payload n)) (omega (arith, node-length n)), le-leb n.depth d h.next, le-leb n.depth 256 h.shallow)
    (deep-enough d n.depth h.deep)

-- ---- their order

-- after a field of tag `previous` may stand a field of each tag of ts, and it may be the last
abbrev pub Ready : List ℕ → ℕ → Type 0
Ready ts previous = All (λ t. exists (eqb t) (records_after previous) ≡ true) ts × (not (eqb previous 0x43) ≡ true)

-- where a function may begin; where its call sites may; where its nodes may
abbrev pub function_next : List ℕ
function_next = 0x41 ∷ []

abbrev pub site_next : List ℕ
site_next = 0x45 ∷ function_next

abbrev pub node_next : List ℕ
node_next = 0x43 ∷ site_next

after-function : Ready (0x42 ∷ node_next) 0x41
unfolding exists records_after
after-function = ((refl, (refl, (refl, (refl, tt)))), refl)

after-row : Ready (0x42 ∷ node_next) 0x42
unfolding exists records_after
after-row = ((refl, (refl, (refl, (refl, tt)))), refl)

after-range : Ready (0x44 ∷ node_next) 0x44
unfolding exists records_after
after-range = ((refl, (refl, (refl, (refl, tt)))), refl)

after-site : Ready site_next 0x45
unfolding exists records_after
after-site = ((refl, (refl, tt)), refl)

-- these fields are well formed after any field that is so, where the next node may be d deep
abbrev pub Formed : List ℕ → ℕ → FieldList → Type 0
Formed ts d fs = (previous : ℕ) → Ready ts previous → records_form previous d fs ≡ true

form-field : (previous d t : ℕ) (p : List ℕ) (fs : FieldList) → exists (eqb t) (records_after previous) ≡ true → records_formed d t p ≡ true
    → records_form t (depth_after d (record { tag = t; payload = p })) fs ≡ true → records_form previous d (more (record { tag = t; payload = p }) fs) ≡ true
unfolding records_form
form-field previous d t p fs a b c = rw (a, b) c

form-sites : (d : ℕ) (ss : List CallSite) (fs : FieldList) → Formed function_next d fs → Formed site_next d (prepend (site_fields ss) fs)
unfolding depth_after
form-sites d [] fs k previous r = k previous (r.0.1, r.1)
form-sites d (s ∷ ss) fs k previous r =
    form-field previous d 0x45 (site_payload s) (prepend (site_fields ss) fs) r.0.0 (site-formed d s) (form-sites d ss fs k 0x45 after-site)

form-ranges : (d : ℕ) (rs : List AddressRange) (fs : FieldList) → All RangeFits rs → Formed node_next d fs → Formed (0x44 ∷ node_next) d (prepend (range_fields rs) fs)
unfolding depth_after
form-ranges d [] fs h k previous r = k previous (r.0.1, r.1)
form-ranges d (x ∷ rs) fs h k previous r =
    form-field previous d 0x44 (range_payload x) (prepend (range_fields rs) fs) r.0.0 (range-formed d x h.0)
    (form-ranges d rs fs h.1 k 0x44 after-range)

-- a node has a range or more
form-node-ranges : (d : ℕ) (rs : List AddressRange) (fs : FieldList) → rs ≢ [] → All RangeFits rs → Formed node_next d fs → records_form 0x43 d (prepend (range_fields rs) fs) ≡ true
unfolding depth_after exists records_after
form-node-ranges d [] fs some h k = absurd (some refl)
form-node-ranges d (x ∷ rs) fs some h k =
    form-field 0x43 d 0x44 (range_payload x) (prepend (range_fields rs) fs) refl (range-formed d x h.0)
    (form-ranges d rs fs h.1 k 0x44 after-range)

form-node : (d : ℕ) (n : InlineNode) (fs : FieldList) → NodeFits d n → Formed node_next (suc n.depth) fs → Formed node_next d (prepend (node_fields n) fs)
unfolding depth_after
form-node d n fs h k previous r =
    form-field previous d 0x43 (node_payload n) (prepend (range_fields n.ranges) fs) r.0.0 (node-formed d n h)
    (rw (node-depth n d h, add-one n.depth) (form-node-ranges (suc n.depth) n.ranges fs h.filled h.ranges k))

form-nodes : (d : ℕ) (ns : List InlineNode) (fs : FieldList) → NodesFit d ns → ((e : ℕ) → Formed site_next e fs) → Formed node_next d (prepend (nodes_fields ns) fs)
form-nodes d [] fs h k previous r = k d previous (r.0.1, r.1)
form-nodes d (n ∷ ns) fs h k previous r =
    rw (prepend_append (node_fields n) (nodes_fields ns) fs) (form-node d n (prepend (nodes_fields ns) fs) h.0 (form-nodes (suc n.depth) ns fs h.1 k) previous r)

form-rows : (d : ℕ) (ls : List LineEntry) (fs : FieldList) → Formed node_next d fs → Formed (0x42 ∷ node_next) d (prepend (row_fields ls) fs)
unfolding depth_after
form-rows d [] fs k previous r = k previous (r.0.1, r.1)
form-rows d (l ∷ ls) fs k previous r =
    form-field previous d 0x42 (row_payload l) (prepend (row_fields ls) fs) r.0.0 (row-formed d l)
    (form-rows d ls fs k 0x42 after-row)

form-function : (f : Function) (fs : FieldList) → FunctionFits f → ((e : ℕ) → Formed function_next e fs) → (d : ℕ) → Formed function_next d (prepend (function_fields f) fs)
unfolding depth_after
form-function f fs h k d previous r =
    let nodes = nodes_fields f.inline in
    let sites = site_fields f.call_sites in
    form-field previous d 0x41 (function_payload f.range f.name) (prepend (body_fields f) fs) r.0.0 (function-formed d f.range f.name h.range)
    (rw (prepend_append (row_fields f.lines) (nodes ++ sites) fs, prepend_append nodes sites fs)
    (form-rows 0 f.lines (prepend nodes (prepend sites fs))
    (form-nodes 0 f.inline (prepend sites fs) h.inline (λ e. form-sites e f.call_sites fs (k e)))
    0x41 after-function))

form-functions : (fs : List Function) → All FunctionFits fs → (d : ℕ) → Formed function_next d (prepend (fields_of_each function_fields fs) end)
form-functions [] h d previous r = unfold records_form in r.1
form-functions (f ∷ fs) h d previous r =
    rw (prepend_append (function_fields f) (fields_of_each function_fields fs) end) (form-function f (prepend (fields_of_each function_fields fs) end) h.0 (form-functions fs h.1) d previous r)

-- the fields of functions that fit are a records tray
pub records-formed : (fs : List Function) → All FunctionFits fs → records_form 0 0 (prepend (fields_of_each function_fields fs) end) ≡ true
unfolding exists records_after
records-formed fs h = form-functions fs h 0 0 ((refl, tt), refl)
