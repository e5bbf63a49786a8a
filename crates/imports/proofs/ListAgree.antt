-- Demand 3 for a list of entries that stand below a subprogram, seen by themselves: a step to the demand over a unit.
use mathlib.Core.Path.{◌≡◌}
use mathlib.Core.Logic.{◌↔◌, ◌≢◌}
use mathlib.Core.Option.{Option, none, some}
use mathlib.Core.List.{List, []}
use Prim.Native.Nat.{ℕ, suc, ◌≤◌, ◌<◌}
use lib.Dec.{ltb}
use lib.ListN.{length, drop}
use Rattle.tlv.specs.declared.model.AddressRange.{AddressRange}
use Rattle.tlv.specs.Addresses.{RangeHolds, Inside}
use Rattle.tlv.specs.Lists.{Any, All, take_while}
use Rattle.tlv.specs.Outcome.{refused, done}
use Rattle.imports.specs.Ranges.{Holds, Apart}
use Rattle.imports.specs.Agree.{TreeEntry, TreeNode, Parent, ParentOf, entry, entry_depth, Kept, against, Fits, Rule, node, node_depth, NodeOf, TreeAgrees, TooDeep}
use Rattle.imports.proofs.StackMachine.{Walked, tree}

-- each entry's depth is at most the previous one's plus 1 (the sheet grammar)
abbrev pub Steps : List TreeEntry → Type 0
Steps es = (i : ℕ) → suc i < length es → entry_depth es (suc i) ≤ suc (entry_depth es i)

-- seen from a place of depth d after n entries: `some a` is the nearest kept entry on the way up through parents; `none`: no entry on the way is kept
pub data ListNearest (merged : ℕ → List AddressRange) (depth : ℕ → ℕ) : ℕ → ℕ → Option ℕ → Type 0 where
  no-parent : {d n : ℕ} → ((p : ℕ) → Parent depth d n p → ⊥) → ListNearest merged depth d n none
  kept-parent : {d n p : ℕ} → Parent depth d n p → Kept merged p → ListNearest merged depth d n (some p)
  higher-up : {d n p : ℕ} {up : Option ℕ} → Parent depth d n p → ¬ Kept merged p → ListNearest merged depth (depth p) p up → ListNearest merged depth d n up

-- entry i's nearest kept ancestor below the subprogram is `up`
abbrev pub ListNearestOf : List TreeEntry → (ℕ → List AddressRange) → ℕ → Option ℕ → Type 0
ListNearestOf es merged i up = ListNearest merged (entry_depth es) (entry_depth es i) i up

-- the rule at every entry, held against its nearest kept ancestor
abbrev pub ListJudged : AddressRange → List TreeEntry → (ℕ → List AddressRange) → Type 0
ListJudged f es merged = (i : ℕ) → (up : Option ℕ) × ListNearestOf es merged i up × Rule (against f merged up) (merged i) (entry es i)

-- node number suc j of the record against the entry that it is paired with
pub record ListPair (f : AddressRange) (es : List TreeEntry) (ns : List TreeNode) (merged : ℕ → List AddressRange) (entry_of : ℕ → ℕ) (j : ℕ) : Type 0 where
  pub among : entry_of j < length es
  pub kept : Kept merged (entry_of j)
  pub name : (node f ns (suc j)).name ≡ (entry es (entry_of j)).name
  pub up : Option ℕ
  pub nearest : ListNearestOf es merged (entry_of j) up
  pub up_node : ℕ
  pub stands : NodeOf entry_of (length ns) up up_node
  pub parent : ParentOf (node_depth f ns) (suc j) up_node
  pub addresses : (a : ℕ) → Holds (node f ns (suc j)).ranges a ↔ Any (λ r. RangeHolds r a × Fits (against f merged up) r) (entry es (entry_of j)).ranges
  pub filled : (node f ns (suc j)).ranges ≢ []
  pub apart : Apart (node f ns (suc j)).ranges
  pub within : All (λ r. Inside r f) (node f ns (suc j)).ranges
  pub deep : 1 ≤ node_depth f ns (suc j)
  pub shallow : node_depth f ns (suc j) ≤ 256

-- one pairing of the kept entries and the nodes below the root, in order, that serves at every address
pub record ListAgree (f : AddressRange) (es : List TreeEntry) (ns : List TreeNode) : Type 0 where
  pub merged : ℕ → List AddressRange
  pub judged : ListJudged f es merged
  pub entry_of : ℕ → ℕ
  pub ascending : (j k : ℕ) → j < k → k < length ns → entry_of j < entry_of k
  pub onto : (i : ℕ) → i < length es → Kept merged i → (j : ℕ) × (j < length ns) × (entry_of j ≡ i)
  pub pairs : (j : ℕ) → j < length ns → ListPair f es ns merged entry_of j

-- seen from a place of depth d after n entries: how many kept ancestors there are on the way up
pub data ListHeight (merged : ℕ → List AddressRange) (depth : ℕ → ℕ) : ℕ → ℕ → ℕ → Type 0 where
  top : {d n : ℕ} → ((p : ℕ) → Parent depth d n p → ⊥) → ListHeight merged depth d n 0
  one_more : {d n p h : ℕ} → Parent depth d n p → Kept merged p → ListHeight merged depth (depth p) p h → ListHeight merged depth d n (suc h)
  passed : {d n p h : ℕ} → Parent depth d n p → ¬ Kept merged p → ListHeight merged depth (depth p) p h → ListHeight merged depth d n h

-- some kept entry has 256 kept ancestors or more: its node would be the 257th below the root
pub record ListTooDeep (f : AddressRange) (es : List TreeEntry) : Type 0 where
  pub merged : ℕ → List AddressRange
  pub judged : ListJudged f es merged
  pub number : ℕ
  pub among : number < length es
  pub kept : Kept merged number
  pub height : ℕ
  pub counted : ListHeight merged (entry_depth es) (entry_depth es number) number height
  pub over : 256 ≤ height

-- what an answer means
abbrev pub ListAnswer : AddressRange → List TreeEntry → Walked → Type 0
ListAnswer f es (done ns) = ListAgree f es ns
ListAnswer f es (refused k) = (k ≡ 14) × ListTooDeep f es

-- demand 3, for the definition of the tree
abbrev pub ListDemand : Type 0
ListDemand = (f : AddressRange) (es : List TreeEntry) → Steps es → ListAnswer f es (tree f es)

-- ---- over a unit

-- the entries below the subprogram s: those after it that are deeper, up to the first that is not
unfoldable pub below_of : List TreeEntry → ℕ → List TreeEntry
below_of us s = take_while (λ e. ltb (entry_depth us s) e.depth) (drop (suc s) us)

-- what an answer means
abbrev pub TreeAnswer : AddressRange → List TreeEntry → ℕ → Walked → Type 0
TreeAnswer f us s (done ns) = TreeAgrees f us s ns
TreeAnswer f us s (refused k) = (k ≡ 14) × TooDeep f us s

-- demand 3, for the tree of the subprogram s with the range f
abbrev pub TreeDemand : Type 0
TreeDemand = (f : AddressRange) (us : List TreeEntry) (s : ℕ) → Steps us → s < length us → TreeAnswer f us s (tree f (below_of us s))
