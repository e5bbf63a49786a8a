-- A tray that is in the form that the clauses tell passes the test, and so the test is of that form.
use mathlib.Core.Path.{◌≡◌, refl}
use mathlib.Core.Bool.{true, ◌||◌, or-true}
use mathlib.Core.Logic.{◌⊎◌, inl, inr, ◌≢◌}
use mathlib.Core.List.{List, [], ◌∷◌, ◌++◌, map, append_assoc}
use Prim.Native.Nat.{ℕ, ◌+◌, ◌≤◌}
use native.Mathlib.Omega.{arith}
use lib.Dec.{leb, eqb}
use lib.ListN.{length}
use borrow.Author.Tests.{le-leb, lt-ltb, eq-eqb}
use Rattle.tlv.specs.Lists.{All, exists}
use Rattle.tlv.specs.Bytes.{le_at}
use Rattle.tlv.specs.Fields.{Field}
use Rattle.buffers.specs.Reader.{records_after, range_formed, records_formed, depth_after, records_form}
use Rattle.buffers.proofs.RecordForm.{Ready, function_next, site_next, node_next}
use Rattle.buffers.specs.Output.{tray_row_size}
use Rattle.lookup.specs.Form.{NodeParts, FunctionParts, tagged, nodes_fields, tray_fields, ended, FunctionPayload, RowPayload, RangePayload, SitePayload}
use Rattle.lookup.specs.Form.{NodeFormed, DepthsAfter, Depths, depth_in, FunctionFormed, FormIs}
use Rattle.lookup.proofs.FormLaws.{Ordered}
use Rattle.lookup.proofs.ClauseReads.{in_form}

-- ---- payloads

function-formed : (d : ℕ) (p : List ℕ) → FunctionPayload p → records_formed d 0x41 p ≡ true
unfolding records_formed range_formed
function-formed d p h = rw (le-leb 16 (length p) h.0) (lt-ltb (le_at 8 p 0) (le_at 8 p 8) h.1)

row-formed : (d : ℕ) (p : List ℕ) → RowPayload p → records_formed d 0x42 p ≡ true
unfolding records_formed
row-formed d p h = eq-eqb (length p) tray_row_size h

range-formed : (d : ℕ) (p : List ℕ) → RangePayload p → records_formed d 0x44 p ≡ true
unfolding records_formed range_formed
range-formed d p h = rw (eq-eqb (length p) 16 h.0) (lt-ltb (le_at 8 p 0) (le_at 8 p 8) h.1)

site-formed : (d : ℕ) (p : List ℕ) → SitePayload p → records_formed d 0x45 p ≡ true
unfolding records_formed
site-formed d p h = le-leb 9 (length p) h

deep-enough : (d x : ℕ) → (1 ≤ x) ⊎ (d ≡ 0) → (leb 1 x || eqb d 0) ≡ true
deep-enough d x (inl h) = rw (le-leb 1 x h)
deep-enough d x (inr e) = rw (eq-eqb d 0 e) (or-true (leb 1 x))

node-formed : (d : ℕ) (p : List ℕ) → 10 ≤ length p → le_at 2 p 0 ≤ d → le_at 2 p 0 ≤ 256 → (1 ≤ le_at 2 p 0) ⊎ (d ≡ 0) → records_formed d 0x43 p ≡ true
unfolding records_formed
node-formed d p h a b c = rw (le-leb 10 (length p) h, le-leb (le_at 2 p 0) d a, le-leb (le_at 2 p 0) 256 b) (deep-enough d (le_at 2 p 0) c)

-- ---- depths

ordered-after : (d : ℕ) (xs : List ℕ) → DepthsAfter d xs → Ordered (d + 1) xs
ordered-after d [] o = tt
ordered-after d (x ∷ xs) o = (o.1, o.2, inl o.0, ordered-after x xs o.3)

ordered_of : (xs : List ℕ) → Depths xs → Ordered 0 xs
ordered_of [] o = tt
ordered_of (x ∷ xs) o = let z = o.0 in (omega arith, omega arith, inr refl, ordered-after x xs o.1)

-- ---- their order

after-function : Ready (0x42 ∷ node_next) 0x41
unfolding exists records_after
after-function = ((refl, (refl, (refl, (refl, tt)))), refl)

after-row : Ready (0x42 ∷ node_next) 0x42
unfolding exists records_after
after-row = ((refl, (refl, (refl, (refl, tt)))), refl)

after-range : Ready (0x44 ∷ node_next) 0x44
unfolding exists records_after
after-range = ((refl, (refl, (refl, (refl, tt)))), refl)

after-site : Ready site_next 0x45
unfolding exists records_after
after-site = ((refl, (refl, tt)), refl)

-- these fields pass after any field that is so, where the next node may be d deep
abbrev Passes : List ℕ → ℕ → List Field → Type 0
Passes ts d xs = (previous : ℕ) → Ready ts previous → records_form previous d (ended xs) ≡ true

pass-field : (previous d t : ℕ) (p : List ℕ) (xs : List Field) → exists (eqb t) (records_after previous) ≡ true → records_formed d t p ≡ true
    → records_form t (depth_after d (record { tag = t; payload = p })) (ended xs) ≡ true
    → records_form previous d (ended (record { tag = t; payload = p } ∷ xs)) ≡ true
unfolding records_form
pass-field previous d t p xs a b c = rw (a, b) c

pass-sites : (d : ℕ) (ps : List (List ℕ)) (xs : List Field) → All SitePayload ps → Passes function_next d xs → Passes site_next d (tagged 0x45 ps ++ xs)
unfolding depth_after
pass-sites d [] xs h k previous r = k previous (r.0.1, r.1)
pass-sites d (p ∷ ps) xs h k previous r =
    pass-field previous d 0x45 p (tagged 0x45 ps ++ xs) r.0.0 (site-formed d p h.0) (pass-sites d ps xs h.1 k 0x45 after-site)

pass-ranges : (d : ℕ) (ps : List (List ℕ)) (xs : List Field) → All RangePayload ps → Passes node_next d xs → Passes (0x44 ∷ node_next) d (tagged 0x44 ps ++ xs)
unfolding depth_after
pass-ranges d [] xs h k previous r = k previous (r.0.1, r.1)
pass-ranges d (p ∷ ps) xs h k previous r =
    pass-field previous d 0x44 p (tagged 0x44 ps ++ xs) r.0.0 (range-formed d p h.0) (pass-ranges d ps xs h.1 k 0x44 after-range)

-- a node has a range or more
pass_node-ranges : (d : ℕ) (ps : List (List ℕ)) (xs : List Field) → ps ≢ [] → All RangePayload ps → Passes node_next d xs
    → records_form 0x43 d (ended (tagged 0x44 ps ++ xs)) ≡ true
unfolding depth_after exists records_after
pass_node-ranges d [] xs some h k = absurd (some refl)
pass_node-ranges d (p ∷ ps) xs some h k =
    pass-field 0x43 d 0x44 p (tagged 0x44 ps ++ xs) refl (range-formed d p h.0) (pass-ranges d ps xs h.1 k 0x44 after-range)

pass-nodes : (d : ℕ) (ns : List NodeParts) (xs : List Field) → All NodeFormed ns → Ordered d (map depth_in ns) → ((e : ℕ) → Passes site_next e xs)
    → Passes node_next d (nodes_fields ns ++ xs)
unfolding depth_after
pass-nodes d [] xs h o k previous r = k d previous (r.0.1, r.1)
pass-nodes d (n ∷ ns) xs h o k previous r =
    let below = pass-nodes (depth_in n + 1) ns xs h.1 o.3 k in
    pass-field previous d 0x43 n.head ((tagged 0x44 n.ranges ++ nodes_fields ns) ++ xs) r.0.0
    (node-formed d n.head h.0.head o.0 o.1 o.2)
    (rw (append_assoc (tagged 0x44 n.ranges) (nodes_fields ns) xs) (pass_node-ranges (depth_in n + 1) n.ranges (nodes_fields ns ++ xs) h.0.some
    h.0.ranges below))

pass_rows : (d : ℕ) (ps : List (List ℕ)) (xs : List Field) → All RowPayload ps → Passes node_next d xs → Passes (0x42 ∷ node_next) d (tagged 0x42 ps ++ xs)
unfolding depth_after
pass_rows d [] xs h k previous r = k previous (r.0.1, r.1)
pass_rows d (p ∷ ps) xs h k previous r =
    pass-field previous d 0x42 p (tagged 0x42 ps ++ xs) r.0.0 (row-formed d p h.0) (pass_rows d ps xs h.1 k 0x42 after-row)

pass-functions : (fs : List FunctionParts) → All FunctionFormed fs → (d : ℕ) → Passes function_next d (tray_fields fs)
unfolding depth_after
pass-functions [] h d previous r = unfold records_form in r.1
pass-functions (f ∷ fs) h d previous r =
    let x = h.0 in
    let sites = tagged 0x45 f.sites ++ tray_fields fs in
    pass-field previous d 0x41 f.head (tagged 0x42 f.rows ++ (nodes_fields f.nodes ++ sites)) r.0.0 (function-formed d f.head x.head)
    (pass_rows 0 f.rows (nodes_fields f.nodes ++ sites) x.rows
    (pass-nodes 0 f.nodes sites x.nodes (ordered_of (map depth_in f.nodes) x.depths)
    (λ e. pass-sites e f.sites (tray_fields fs) x.sites (pass-functions fs h.1 e)))
    0x41 after-function)

pub form-is : FormIs
unfolding exists records_after
form-is tray = (in_form tray, λ x. rw x.whole (pass-functions x.functions x.each 0 0 ((refl, tt), refl)))
