-- Theorem. The form of a records tray, clause by clause (document 02, E6: 19), by what its fields are and not by a test. `FormIs` says that the test is of
-- this form.
--
use Rattle.std.specs.Prelude.{ℕ, ◌+◌, ◌≤◌, ◌<◌, ◌≡◌, ◌↔◌, ◌≢◌, true, List, [], ◌∷◌, ◌++◌, map, length}
use Rattle.tlv.specs.Tags.{tray_function_tag, tray_node_tag, tray_range_tag, tray_row_tag, tray_site_tag}
use Rattle.tlv.specs.Lists.{All}
use Rattle.tlv.specs.Bytes.{le_at}
use Rattle.tlv.specs.Fields.{Field, FieldList, end, more, fields}
use Rattle.buffers.specs.Reader.{records_form}
use Rattle.buffers.specs.Output.{tray_row_size}

-- ---- "fields in its order": the payloads of a tray's fields, function by function

-- a node's 43 and its 44s
pub record NodeParts : Type 0 where
  pub head : List ℕ
  pub ranges : List (List ℕ)

-- a function's 41, its 42s, its nodes, its 45s
pub record FunctionParts : Type 0 where
  pub head : List ℕ
  pub rows : List (List ℕ)
  pub nodes : List NodeParts
  pub sites : List (List ℕ)

abbrev pub tagged : ℕ → List (List ℕ) → List Field
tagged t [] = []
tagged t (p ∷ ps) = record { tag = t; payload = p } ∷ tagged t ps

abbrev pub nodes_fields : List NodeParts → List Field
nodes_fields [] = []
nodes_fields (n ∷ ns) = record { tag = tray_node_tag; payload = n.head } ∷ (tagged tray_range_tag n.ranges ++ nodes_fields ns)

abbrev pub tray_fields : List FunctionParts → List Field
tray_fields [] = []
tray_fields (f ∷ fs) =
    record { tag = tray_function_tag; payload = f.head }
    ∷ (tagged tray_row_tag f.rows ++ (nodes_fields f.nodes ++ (tagged tray_site_tag f.sites ++ tray_fields fs)))

-- these fields, and then the tray's end: none is cut off
abbrev pub ended : List Field → FieldList
ended [] = end
ended (f ∷ fs) = more f (ended fs)

-- ---- the payloads

-- "starts below ends", of a payload that begins with a range
abbrev pub StartsBelow : List ℕ → Type 0
StartsBelow p = le_at 8 p 0 < le_at 8 p 8

-- start and end, "strings .. free"
abbrev pub FunctionPayload : List ℕ → Type 0
FunctionPayload p = (16 ≤ length p) × StartsBelow p

abbrev pub RowPayload : List ℕ → Type 0
RowPayload p = length p ≡ tray_row_size

abbrev pub RangePayload : List ℕ → Type 0
RangePayload p = (length p ≡ 16) × StartsBelow p

-- return offset and pattern count, "pattern counts free"
abbrev pub SitePayload : List ℕ → Type 0
SitePayload p = 9 ≤ length p

-- depth, call file, call line; "a 44 or more after each 43"
pub record NodeFormed (n : NodeParts) : Type 0 where
  pub head : 10 ≤ length n.head
  pub some : n.ranges ≢ []
  pub ranges : All RangePayload n.ranges

-- ---- "node depths 0, then 1 to the previous plus 1, at most 256"

-- after a node of depth d
abbrev pub DepthsAfter : ℕ → List ℕ → Type 0
DepthsAfter d [] = Unit {0}
DepthsAfter d (x ∷ xs) = (1 ≤ x) × (x ≤ d + 1) × (x ≤ 256) × DepthsAfter x xs

abbrev pub Depths : List ℕ → Type 0
Depths [] = Unit {0}
Depths (x ∷ xs) = (x ≡ 0) × DepthsAfter x xs

abbrev pub depth_in : NodeParts → ℕ
depth_in n = le_at 2 n.head 0

-- ---- the whole

pub record FunctionFormed (f : FunctionParts) : Type 0 where
  pub head : FunctionPayload f.head
  pub rows : All RowPayload f.rows
  pub nodes : All NodeFormed f.nodes
  pub depths : Depths (map depth_in f.nodes)
  pub sites : All SitePayload f.sites

pub record InForm (tray : List ℕ) : Type 0 where
  pub functions : List FunctionParts
  pub whole : fields tray ≡ ended (tray_fields functions)
  pub each : All FunctionFormed functions

abbrev pub FormIs : Type 0
FormIs = (tray : List ℕ) → (records_form 0 0 (fields tray) ≡ true) ↔ InForm tray
