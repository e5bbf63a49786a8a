-- Theorem. Demand 3 in a look-up (document 02, E6): "On trays the import wrote with inlines requested, each node of the chain below the root is by demand 3
-- that of a kept entry with a range that holds the address."
use Rattle.std.specs.Prelude.{ℕ, suc, ◌<◌, ◌≡◌, true, List, map, length, take, drop}
use Rattle.std.proofs.Math.Option.{some}
use Rattle.tlv.specs.declared.model.AddressRange.{AddressRange}
use Rattle.tlv.specs.Addresses.{RangeHolds}
use Rattle.tlv.specs.Outcome.{done}
use Rattle.tlv.specs.Lists.{Any, All, at, map_option}
use Rattle.tlv.specs.Model.{CompilationUnit, units}
use Rattle.buffers.specs.Output.{InlineNode}
use Rattle.buffers.specs.Reader.{function_of}
use Rattle.imports.specs.Import.{rooted}
use Rattle.imports.specs.Answer.{Inputs, dwarf_of, after}
use Rattle.imports.specs.Agree.{TreeEntry, Kept, tree_entries, entry, tree_node, Below, TreeAgrees}
use Rattle.imports.specs.Demand.{Subject, subjects, RecordAgrees, Lent}
use Rattle.lookup.specs.Tray.{GroupAt, group, functions_at, nodes_at}
use Rattle.lookup.specs.Lookup.{Frames, look_up}

-- the node at place p is number suc j of the record, and is paired with a kept entry one of whose ranges holds the address
pub record KeptHere (us : List TreeEntry) (s : ℕ) (f : GroupAt) (merged : ℕ → List AddressRange) (entry_of : ℕ → ℕ) (many a p : ℕ) : Type 0 where
  pub number : ℕ
  pub among : number < many
  pub stands : map_option (λ n. n.place) (at (nodes_at f) (suc number)) ≡ some p
  pub under : Below us s (entry_of number)
  pub kept : Kept merged (entry_of number)
  pub range : Any (λ r. RangeHolds r a) (entry us (entry_of number)).ranges

-- the function found is record k of the import and answers for subject k; its chain, but for the root, is of such nodes
pub record Explained (i : Inputs) (tray : List ℕ) (a : ℕ) (x : Frames) : Type 0 where
  pub unit : CompilationUnit
  pub chosen : at (units i.main) i.ordinal ≡ some unit
  pub number : ℕ
  pub subject : Subject
  pub asked : at (subjects (dwarf_of i) unit) number ≡ some subject
  pub found : GroupAt
  pub numbered : at (functions_at tray) number ≡ some found
  pub here : found.place ≡ x.function
  pub agrees : RecordAgrees (dwarf_of i) unit true subject (function_of (group found))
  pub nodes : List InlineNode
  pub tree : TreeAgrees (function_of (group found)).range (tree_entries (dwarf_of i) unit) subject.number (map tree_node nodes)
  pub inline : (function_of (group found)).inline ≡ rooted (function_of (group found)).name (function_of (group found)).range nodes
  pub below : All (KeptHere (tree_entries (dwarf_of i) unit) subject.number found tree.merged tree.entry_of (length nodes) a) (drop 1 x.chain)

-- a tray that an import with inlines wrote
pub record WrittenBy (i : Inputs) (tray : List ℕ) : Type 0 where
  pub lent : Lent i
  pub finished : (after i).answer.refusal ≡ 0
  pub inlines : i.inlines ≡ true
  pub tray_is : tray ≡ take (after i).answer.records (after i).records

abbrev pub Explaining : Type 0
Explaining = (i : Inputs) (tray : List ℕ) (a : ℕ) (x : Frames) → WrittenBy i tray → look_up tray a ≡ done x → Explained i tray a x
