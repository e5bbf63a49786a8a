-- Theorem. Demand 3: records and entries agree (document 01, "Rules that bite"). Written from that document's words; nothing here speaks of how an import
-- works.
--
use Rattle.std.specs.Prelude.{ℕ, suc, ◌≤◌, ◌<◌, ◌≡◌, ◌↔◌, ◌≢◌, List, [], ◌∷◌, map, length, get_or}
use Rattle.std.proofs.Math.Option.{Option, none, some}
use Rattle.tlv.specs.Constants.{dw_tag_inlined_subroutine}
use Rattle.tlv.specs.declared.model.AddressRange.{AddressRange}
use Rattle.tlv.specs.Addresses.{RangeHolds, Nonempty, Inside}
use Rattle.tlv.specs.Outcome.{Outcome, refused, done}
use Rattle.tlv.specs.Lists.{Any, All}
use Rattle.tlv.specs.Model.{CompilationUnit, Entry}
use Rattle.buffers.specs.Output.{InlineNode}
use Rattle.references.specs.Search.{Dwarf, resolve_name}
use Rattle.imports.specs.Ranges.{Holds, Apart}
use Rattle.imports.specs.Tree.{ranges_of}

-- ---- parents: "A parent is the last earlier entry of the unit, or node of the record, one depth less"

-- p is the last number before n whose depth is one less than d
pub record Parent (depth : ℕ → ℕ) (d n p : ℕ) : Type 0 where
  pub earlier : p < n
  pub higher : suc (depth p) ≡ d
  pub last : (k : ℕ) → p < k → k < n → suc (depth k) ≢ d

-- p is the parent of number i
abbrev pub ParentOf : (ℕ → ℕ) → ℕ → ℕ → Type 0
ParentOf depth i p = Parent depth (depth i) i p

-- "below means through parents"
pub data Ancestor (depth : ℕ → ℕ) : ℕ → ℕ → Type 0 where
  parent : {i a : ℕ} → ParentOf depth i a → Ancestor depth i a
  further : {i p a : ℕ} → ParentOf depth i p → Ancestor depth p a → Ancestor depth i a

-- ---- entries, as far as the tree goes

pub record TreeEntry : Type 0 where
  pub depth : ℕ
  pub tag : ℕ
  pub name : List ℕ  -- empty: it has none
  pub ranges : List AddressRange

-- an entry has a name where the search at it is done with a nonempty one
abbrev pub found_name : Outcome (List ℕ) → List ℕ
found_name (refused n) = []
found_name (done name) = name

unfoldable pub tree_entry : Dwarf → CompilationUnit → Entry → TreeEntry
tree_entry d u e = record { depth = e.depth; tag = e.tag; name = found_name (resolve_name d u e); ranges = ranges_of d e }

-- the entries of a unit, number 0 first
unfoldable pub tree_entries : Dwarf → CompilationUnit → List TreeEntry
tree_entries d u = map (tree_entry d u) u.entries

abbrev pub entry : List TreeEntry → ℕ → TreeEntry
entry es i = get_or es i (record { depth = 0; tag = 0; name = []; ranges = [] })

abbrev pub entry_depth : List TreeEntry → ℕ → ℕ
entry_depth es i = (entry es i).depth

-- entry i of the unit stands below entry s
abbrev pub Below : List TreeEntry → ℕ → ℕ → Type 0
Below us s i = (i < length us) × Ancestor (entry_depth us) i s

-- ---- which entries are kept. `merged i` stands for the merged ranges of entry i, and is empty where the entry is not kept

abbrev pub Kept : (ℕ → List AddressRange) → ℕ → Type 0
Kept merged i = merged i ≢ []

-- entry i's "nearest kept inlined ancestor below that subprogram" s; none where the way up through parents comes to the subprogram first
pub data Nearest (merged : ℕ → List AddressRange) (depth : ℕ → ℕ) (s : ℕ) : ℕ → Option ℕ → Type 0 where
  subprogram : {i : ℕ} → ParentOf depth i s → Nearest merged depth s i none
  kept-one : {i p : ℕ} → ParentOf depth i p → s < p → Kept merged p → Nearest merged depth s i (some p)
  past_one : {i p : ℕ} {up : Option ℕ} → ParentOf depth i p → s < p → ¬ Kept merged p → Nearest merged depth s p up → Nearest merged depth s i up

-- what an entry's ranges are held against: the merged ranges of that ancestor "or, without one, .. the function's range"
abbrev pub against : AddressRange → (ℕ → List AddressRange) → Option ℕ → List AddressRange
against f merged none = f ∷ []
against f merged (some a) = merged a

-- r is nonempty and lies inside one of ps
abbrev pub Fits : List AddressRange → AddressRange → Type 0
Fits ps r = Nonempty r × Any (Inside r) ps

-- the rule for an entry e that is held against ps, where `mine` are its merged ranges, empty if it is not kept: it is "kept exactly when it has a name and a
-- nonempty range that lies inside one merged range" of ps, and is inlined; its "merged ranges are its ranges that lie so, and no others, merged"
pub record Rule (ps mine : List AddressRange) (e : TreeEntry) : Type 0 where
  pub kept : (mine ≢ []) ↔ ((e.tag ≡ dw_tag_inlined_subroutine) × (e.name ≢ []) × Any (Fits ps) e.ranges)
  pub apart : Apart mine
  pub addresses : mine ≢ [] → (a : ℕ) → Holds mine a ↔ Any (λ r. RangeHolds r a × Fits ps r) e.ranges

-- the rule at every entry below the subprogram s, for a record with the range f
abbrev pub Judged : AddressRange → List TreeEntry → ℕ → (ℕ → List AddressRange) → Type 0
Judged f us s merged = (i : ℕ) → Below us s i → (up : Option ℕ) × Nearest merged (entry_depth us) s i up
    × Rule (against f merged up) (merged i) (entry us i)

-- the rule leaves no choice: two judgements are one
abbrev pub OneJudgement : AddressRange → List TreeEntry → ℕ → Type 0
OneJudgement f us s = (M N : ℕ → List AddressRange) → Judged f us s M → Judged f us s N → (i : ℕ) → Below us s i → M i ≡ N i

-- ---- nodes

pub record TreeNode : Type 0 where
  pub depth : ℕ
  pub name : List ℕ
  pub ranges : List AddressRange

abbrev pub tree_node : InlineNode → TreeNode
tree_node n = record { depth = n.depth; name = n.name; ranges = n.ranges }

-- "the root": depth 0, the function's name and range
abbrev pub root_of : AddressRange → List ℕ → TreeNode
root_of f name = record { depth = 0; name = name; ranges = f ∷ [] }

-- a record's nodes by number: 0 is the root, the others follow in the tray's order
abbrev pub node : AddressRange → List TreeNode → ℕ → TreeNode
node f ns j = get_or (root_of f [] ∷ ns) j (root_of f [])

abbrev pub node_depth : AddressRange → List TreeNode → ℕ → ℕ
node_depth f ns j = (node f ns j).depth

-- the number of the node that stands for the ancestor: the root where there is none
pub data NodeOf (entry_of : ℕ → ℕ) (many : ℕ) : Option ℕ → ℕ → Type 0 where
  root : NodeOf entry_of many none 0
  below : {k : ℕ} → k < many → NodeOf entry_of many (some (entry_of k)) (suc k)

-- node number suc j of the record against the entry of the unit that it is paired with
pub record Pair (f : AddressRange) (us : List TreeEntry) (s : ℕ) (ns : List TreeNode) (merged : ℕ → List AddressRange) (entry_of : ℕ → ℕ)
    (j : ℕ) : Type 0 where
  pub under : Below us s (entry_of j)
  pub kept : Kept merged (entry_of j)
  pub name : (node f ns (suc j)).name ≡ (entry us (entry_of j)).name
  pub up : Option ℕ
  pub nearest : Nearest merged (entry_depth us) s (entry_of j) up
  pub up_node : ℕ
  pub stands : NodeOf entry_of (length ns) up up_node
  pub parent : ParentOf (node_depth f ns) (suc j) up_node
  pub addresses : (a : ℕ) → Holds (node f ns (suc j)).ranges a
      ↔ Any (λ r. RangeHolds r a × Fits (against f merged up) r) (entry us (entry_of j)).ranges
  pub filled : (node f ns (suc j)).ranges ≢ []
  pub apart : Apart (node f ns (suc j)).ranges
  pub within : All (λ r. Inside r f) (node f ns (suc j)).ranges
  pub deep : 1 ≤ node_depth f ns (suc j)
  pub shallow : node_depth f ns (suc j) ≤ 256

-- "One pairing of kept entries and nodes below the root serves a record at every address": in order, so one to one, and onto
pub record TreeAgrees (f : AddressRange) (us : List TreeEntry) (s : ℕ) (ns : List TreeNode) : Type 0 where
  pub merged : ℕ → List AddressRange
  pub judged : Judged f us s merged
  pub only : OneJudgement f us s
  pub entry_of : ℕ → ℕ
  pub ascending : (j k : ℕ) → j < k → k < length ns → entry_of j < entry_of k
  pub onto : (i : ℕ) → Below us s i → Kept merged i → (j : ℕ) × (j < length ns) × (entry_of j ≡ i)
  pub pairs : (j : ℕ) → j < length ns → Pair f us s ns merged entry_of j

-- ---- refusals of a walk below a subprogram

-- how many kept ancestors entry i has below the subprogram
pub data Height (merged : ℕ → List AddressRange) (depth : ℕ → ℕ) (s : ℕ) : ℕ → ℕ → Type 0 where
  none_kept : {i : ℕ} → ParentOf depth i s → Height merged depth s i 0
  count-one : {i p h : ℕ} → ParentOf depth i p → s < p → Kept merged p → Height merged depth s p h → Height merged depth s i (suc h)
  skip-one : {i p h : ℕ} → ParentOf depth i p → s < p → ¬ Kept merged p → Height merged depth s p h → Height merged depth s i h

-- 14: some kept entry has 256 kept ancestors or more, so that its node would be the 257th below the root
pub record TooDeep (f : AddressRange) (us : List TreeEntry) (s : ℕ) : Type 0 where
  pub merged : ℕ → List AddressRange
  pub judged : Judged f us s merged
  pub number : ℕ
  pub under : Below us s number
  pub kept : Kept merged number
  pub height : ℕ
  pub counted : Height merged (entry_depth us) s number height
  pub over : 256 ≤ height
