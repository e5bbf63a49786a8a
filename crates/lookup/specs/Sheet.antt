-- Theorem. What is running at an address, told from the sheet's side, beyond the request: of a tray that an import with inlines wrote, the function found is
-- the first subject of the unit that holds the address, and the chain is the kept entries that hold it, first child by first child. With `Answered`, sheets
-- and address to frames is one theorem.
use Rattle.std.specs.Prelude.{ℕ, suc, ◌<◌, ◌≡◌, true, List, [], ◌∷◌, map, length}
use Rattle.std.proofs.Math.Option.{Option, none, some}
use Rattle.tlv.specs.declared.model.AddressRange.{AddressRange}
use Rattle.tlv.specs.Addresses.{RangeHolds}
use Rattle.tlv.specs.Outcome.{Outcome, refused, done}
use Rattle.tlv.specs.Lists.{All, at, map_option}
use Rattle.tlv.specs.Model.{CompilationUnit, units}
use Rattle.buffers.specs.Output.{InlineNode}
use Rattle.buffers.specs.Reader.{function_of}
use Rattle.imports.specs.Ranges.{Holds}
use Rattle.imports.specs.Import.{rooted}
use Rattle.imports.specs.Answer.{Inputs, dwarf_of}
use Rattle.imports.specs.Agree.{TreeEntry, entry_depth, Below, Kept, Nearest, tree_entries, tree_node, TreeAgrees}
use Rattle.imports.specs.Demand.{Subject, subjects, RecordAgrees}
use Rattle.lookup.specs.Tray.{GroupAt, group, functions_at, nodes_at}
use Rattle.lookup.specs.Lookup.{Frames, look_up}
use Rattle.lookup.specs.Means.{RowIs}
use Rattle.lookup.specs.Demand.{WrittenBy}

-- ---- entries below the subprogram s, of which `merged` are the merged ranges, empty where an entry is not kept

module _ (us : List TreeEntry) (s : ℕ) (merged : ℕ → List AddressRange) (a : ℕ) where
  -- entry i is kept and holds the address; `up` is its nearest kept ancestor, none where the subprogram comes first
  pub record HoldsUnder (up : Option ℕ) (i : ℕ) : Type 0 where
    pub under : Below us s i
    pub kept : Kept merged i
    pub nearest : Nearest merged (entry_depth us) s i up
    pub holding : Holds (merged i) a

  -- the first such entry of the sheet
  pub record FirstUnder (up : Option ℕ) (i : ℕ) : Type 0 where
    pub is : HoldsUnder up i
    pub first : (k : ℕ) → k < i → ¬ HoldsUnder up k

  -- from an entry inwards, as long as one below it holds the address
  pub data EntriesUnder : Option ℕ → List ℕ → Type 0 where
    no_more : {up : Option ℕ} → ((i : ℕ) → ¬ HoldsUnder up i) → EntriesUnder up []
    one_more : {up : Option ℕ} {i : ℕ} {is : List ℕ} → FirstUnder up i → EntriesUnder (some i) is → EntriesUnder up (i ∷ is)

-- ---- their nodes, in the tray

module _ (f : GroupAt) (entry_of : ℕ → ℕ) (many : ℕ) where
  -- p is the place of the node that is paired with entry i
  pub record NodeAt (i p : ℕ) : Type 0 where
    pub number : ℕ
    pub among : number < many
    pub paired : entry_of number ≡ i
    pub stands : map_option (λ n. n.place) (at (nodes_at f) (suc number)) ≡ some p

  abbrev pub NodesAt : List ℕ → List ℕ → Type 0
  NodesAt [] [] = Unit {0}
  NodesAt [] (p ∷ ps) = ⊥
  NodesAt (i ∷ is) [] = ⊥
  NodesAt (i ∷ is) (p ∷ ps) = NodeAt i p × NodesAt is ps

  -- the chain's places: the root's, then those of the entries' nodes; none where the record has no nodes, since no entry is kept
  pub data ChainPlaces : List ℕ → List ℕ → Type 0 where
    bare : nodes_at f ≡ [] → ChainPlaces [] []
    rooted-at : {r : ℕ} {is ps : List ℕ} → map_option (λ n. n.place) (at (nodes_at f) 0) ≡ some r → NodesAt is ps → ChainPlaces is (r ∷ ps)

-- ---- the answers

pub record FirstSubject (a : ℕ) (ks : List Subject) (number : ℕ) (k : Subject) : Type 0 where
  pub numbered : at ks number ≡ some k
  pub holding : RangeHolds k.range a
  pub first : (m : ℕ) (j : Subject) → m < number → at ks m ≡ some j → ¬ RangeHolds j.range a

pub record Framed (i : Inputs) (tray : List ℕ) (a : ℕ) (x : Frames) : Type 0 where
  pub unit : CompilationUnit
  pub chosen : at (units i.main) i.ordinal ≡ some unit
  pub number : ℕ
  pub subject : Subject
  pub asked : FirstSubject a (subjects (dwarf_of i) unit) number subject
  pub found : GroupAt
  pub numbered : at (functions_at tray) number ≡ some found
  pub here : found.place ≡ x.function
  pub agrees : RecordAgrees (dwarf_of i) unit true subject (function_of (group found))
  pub row : RowIs a found.rest x.row
  pub nodes : List InlineNode
  pub inline : (function_of (group found)).inline ≡ rooted (function_of (group found)).name (function_of (group found)).range nodes
  pub tree : TreeAgrees (function_of (group found)).range (tree_entries (dwarf_of i) unit) subject.number (map tree_node nodes)
  pub entries : List ℕ
  pub chain : EntriesUnder (tree_entries (dwarf_of i) unit) subject.number tree.merged a none entries
  pub places : ChainPlaces found tree.entry_of (length nodes) entries x.chain

-- no subject of the unit holds the address; a package without debug data (document 02, E4) has no unit
pub record Unheld (i : Inputs) (a : ℕ) : Type 0 where
  pub none : (u : CompilationUnit) → at (units i.main) i.ordinal ≡ some u → All (λ k. ¬ RangeHolds k.range a) (subjects (dwarf_of i) u)

abbrev pub Answered : Inputs → List ℕ → ℕ → Outcome Frames → Type 0
Answered i tray a (done x) = Framed i tray a x
Answered i tray a (refused n) = (n ≡ 20) × Unheld i a

abbrev pub FromSheet : Type 0
FromSheet = (i : Inputs) (tray : List ℕ) (a : ℕ) → WrittenBy i tray → Answered i tray a (look_up tray a)
