-- Theorem. What the look-ups' computed definitions mean, in the request's own words (document 02, E6). Each is a theorem about every tray.
use Rattle.std.specs.Prelude.{ℕ, ◌+◌, ◌≤◌, ◌<◌, ◌≡◌, ◌↔◌, true, cond, List, [], ◌∷◌, map, length, take, drop, get_or}
use Rattle.std.proofs.Math.Option.{Option, none, some}
use Rattle.tlv.specs.Tags.{tray_row_tag}
use Rattle.tlv.specs.declared.model.AddressRange.{AddressRange}
use Rattle.tlv.specs.Addresses.{RangeHolds, Nonempty}
use Rattle.tlv.specs.Outcome.{done}
use Rattle.tlv.specs.Lists.{All, at, first}
use Rattle.tlv.specs.Bytes.{Bytes}
use Rattle.tlv.specs.Fields.{fields, encode}
use Rattle.buffers.specs.Output.{InlineNode}
use Rattle.buffers.specs.Reader.{records_form, line_of, function_of, read_records}
use Rattle.imports.specs.Ranges.{Holds}
use Rattle.imports.specs.Agree.{ParentOf}
use Rattle.lookup.specs.Tray.{FieldAt, GroupAt, group, fields_at, functions_at, nodes_at, function_range, node, functions_of}
use Rattle.lookup.specs.Lookup.{holds, row_in_force, chain, ending_below}
use Rattle.lookup.specs.Window.{inside, crosses}
use Rattle.lookup.specs.Form.{FormIs}

-- ---- the reader and the places are about the same fields

-- the field's bytes stand at its place
abbrev pub StandsIn : List ℕ → FieldAt → Type 0
StandsIn tray x = take (3 + length x.field.payload) (drop x.place tray) ≡ encode x.field.tag x.field.payload

pub record Reading : Type 0 where
  pub places : (tray : List ℕ) → Bytes tray → All (StandsIn tray) (fields_at 0 (fields tray))
  pub functions : (tray : List ℕ) → read_records tray
      ≡ cond (records_form 0 0 (fields tray)) (some (map (λ f. function_of (group f)) (functions_at tray))) none
  pub nodes : (f : GroupAt) → (function_of (group f)).inline ≡ map node (nodes_at f)

-- ---- the function that answers: "When several functions hold it, the first in the tray answers."

pub record FirstHolding (a : ℕ) (fs : List GroupAt) (f : GroupAt) : Type 0 where
  pub number : ℕ
  pub numbered : at fs number ≡ some f
  pub holding : RangeHolds (function_range f) a
  pub first : (k : ℕ) (g : GroupAt) → k < number → at fs k ≡ some g → ¬ RangeHolds (function_range g) a

abbrev pub HoldingIs : ℕ → List GroupAt → Option GroupAt → Type 0
HoldingIs a fs none = All (λ f. ¬ RangeHolds (function_range f) a) fs
HoldingIs a fs (some f) = FirstHolding a fs f

-- ---- the row in force

-- a row at or below the address
abbrev pub RowBelow : ℕ → FieldAt → Type 0
RowBelow a x = (x.field.tag ≡ tray_row_tag) × ((line_of x.field.payload).address ≤ a)

-- the row at place p is "its last row in the tray at or below it", of the function's own fields
pub record LastRow (a : ℕ) (own : List FieldAt) (p : ℕ) : Type 0 where
  pub number : ℕ
  pub row : FieldAt
  pub numbered : at own number ≡ some row
  pub here : row.place ≡ p
  pub below : RowBelow a row
  pub last : (k : ℕ) (x : FieldAt) → number < k → at own k ≡ some x → ¬ RowBelow a x

-- "else reported missing"
abbrev pub RowIs : ℕ → List FieldAt → Option ℕ → Type 0
RowIs a own none = All (λ x. ¬ RowBelow a x) own
RowIs a own (some p) = LastRow a own p

-- ---- the chain: numbers of nodes, 0 is the record's first

-- the depth of node number m
abbrev pub depth_of : List InlineNode → ℕ → ℕ
depth_of ns m = get_or (map (λ n. n.depth) ns) m 0

module _ (ns : List InlineNode) (a : ℕ) where
  -- there is a node number m, and it holds the address
  pub record HoldsAt (m : ℕ) : Type 0 where
    pub node : InlineNode
    pub numbered : at ns m ≡ some node
    pub holds : Holds node.ranges a

  -- m is "the first child in tray order" of node p that holds the address
  pub record FirstChild (p m : ℕ) : Type 0 where
    pub child : ParentOf (depth_of ns) m p
    pub holding : HoldsAt m
    pub first : (k : ℕ) → k < m → ParentOf (depth_of ns) k p → ¬ HoldsAt k

  -- the chain from node p on, which holds the address: "outermost first", as long as a child holds it
  pub data ChainFrom : ℕ → List ℕ → Type 0 where
    innermost : {p : ℕ} → ((m : ℕ) → ParentOf (depth_of ns) m p → ¬ HoldsAt m) → ChainFrom p (p ∷ [])
    outer : {p m : ℕ} {cs : List ℕ} → FirstChild p m → ChainFrom m cs → ChainFrom p (p ∷ cs)

  -- "none below a node that does not hold it": no chain where the root does not, or where there is no node
  pub data ChainIs : List ℕ → Type 0 where
    unheld : ¬ HoldsAt 0 → ChainIs []
    from-root : {cs : List ℕ} → HoldsAt 0 → ChainFrom 0 cs → ChainIs cs

-- the places of nodes by their numbers
abbrev pub PlacesIn : List GroupAt → List ℕ → List ℕ → Type 0
PlacesIn gs [] [] = Unit {0}
PlacesIn gs [] (p ∷ ps) = ⊥
PlacesIn gs (m ∷ ms) [] = ⊥
PlacesIn gs (m ∷ ms) (p ∷ ps) = ((n : GroupAt) × (at gs m ≡ some n) × (n.place ≡ p)) × PlacesIn gs ms ps

pub record Chained (f : GroupAt) (a : ℕ) : Type 0 where
  pub numbers : List ℕ
  pub is : ChainIs (map node (nodes_at f)) a numbers
  pub places : PlacesIn (nodes_at f) numbers (chain a f)
  pub few : length (chain a f) ≤ 257

abbrev pub Chaining : Type 0
Chaining = (tray : List ℕ) (fs : List GroupAt) (a : ℕ) → functions_of tray ≡ done fs → All (λ f. Chained f a) fs

-- ---- the function that ends nearest below: it ends at or below, none so ends later, and none before it ends as late

pub record Nearest (a : ℕ) (fs : List GroupAt) (f : GroupAt) : Type 0 where
  pub number : ℕ
  pub numbered : at fs number ≡ some f
  pub below : (function_range f).end ≤ a
  pub latest : (k : ℕ) (g : GroupAt) → at fs k ≡ some g → (function_range g).end ≤ a → (function_range g).end ≤ (function_range f).end
  pub first : (k : ℕ) (g : GroupAt) → k < number → at fs k ≡ some g → (function_range g).end ≤ a → (function_range g).end < (function_range f).end

abbrev pub NearestIs : ℕ → List GroupAt → Option GroupAt → Type 0
NearestIs a fs none = All (λ f. a < (function_range f).end) fs
NearestIs a fs (some f) = Nearest a fs f

-- ---- windows, of a nonempty range r

pub record Windows : Type 0 where
  -- "no address of theirs outside"
  pub inside_is : (w r : AddressRange) → Nonempty r → (inside w r ≡ true) ↔ ((a : ℕ) → RangeHolds r a → RangeHolds w a)
  -- "share an address, reach outside"
  pub crosses-is : (w r : AddressRange) → Nonempty r
      → (crosses w r ≡ true) ↔ (((a : ℕ) × RangeHolds r a × RangeHolds w a) × ((a : ℕ) × RangeHolds r a × (¬ RangeHolds w a)))

-- the functions of a tray in document 01's form are nonempty
abbrev pub Filled : Type 0
Filled = (tray : List ℕ) (fs : List GroupAt) → functions_of tray ≡ done fs → All (λ f. Nonempty (function_range f)) fs

pub record Meanings : Type 0 where
  pub form : FormIs
  pub reading : Reading
  pub function : (a : ℕ) (fs : List GroupAt) → HoldingIs a fs (first (λ f. holds a (function_range f)) fs)
  pub row : (a : ℕ) (f : GroupAt) → RowIs a f.rest (row_in_force a f)
  pub chaining : Chaining
  pub nearest : (a : ℕ) (fs : List GroupAt) → NearestIs a fs (ending_below a fs)
  pub windows : Windows
  pub filled : Filled
