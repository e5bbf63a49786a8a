-- Theorem. Demand 3 in a look-up, of a tray that an import of all units wrote (document 02, E6 and E11): each node of the chain below the root is that of a
-- kept entry of the function's own unit, with a range that holds the address.
use Rattle.std.specs.Prelude.{ℕ, ◌≡◌, true, List, map, length, take, drop}
use Rattle.std.proofs.Math.Option.{some}
use Rattle.tlv.specs.Outcome.{done}
use Rattle.tlv.specs.Lists.{All, at}
use Rattle.tlv.specs.Model.{CompilationUnit, units}
use Rattle.buffers.specs.Output.{InlineNode}
use Rattle.buffers.specs.Reader.{function_of}
use Rattle.imports.specs.Import.{rooted}
use Rattle.imports.specs.Answer.{Inputs, dwarf_of, after_dwarf}
use Rattle.imports.specs.Agree.{tree_entries, tree_node, TreeAgrees}
use Rattle.imports.specs.Demand.{Subject, subjects, RecordAgrees, Lent}
use Rattle.lookup.specs.Tray.{GroupAt, group, functions_at}
use Rattle.lookup.specs.Lookup.{Frames, look_up}
use Rattle.lookup.specs.Demand.{KeptHere}

-- the function found is a record of the import and answers for a subject of one of the units; its chain, but for the root, is of nodes that are paired with
-- kept entries of that unit one of whose ranges holds the address
pub record ExplainedByUnit (i : Inputs) (tray : List ℕ) (a : ℕ) (x : Frames) : Type 0 where
  pub unit-number : ℕ
  pub unit : CompilationUnit
  pub listed : at (units i.main) unit-number ≡ some unit
  pub subject-number : ℕ
  pub subject : Subject
  pub asked : at (subjects (dwarf_of i) unit) subject-number ≡ some subject
  pub number : ℕ
  pub found : GroupAt
  pub numbered : at (functions_at tray) number ≡ some found
  pub here : found.place ≡ x.function
  pub agrees : RecordAgrees (dwarf_of i) unit true subject (function_of (group found))
  pub nodes : List InlineNode
  pub tree : TreeAgrees (function_of (group found)).range (tree_entries (dwarf_of i) unit) subject.number (map tree_node nodes)
  pub inline : (function_of (group found)).inline ≡ rooted (function_of (group found)).name (function_of (group found)).range nodes
  pub below : All (KeptHere (tree_entries (dwarf_of i) unit) subject.number found tree.merged tree.entry_of (length nodes) a) (drop 1 x.chain)

-- a tray that an import of all units with inlines wrote
pub record WrittenByAll (i : Inputs) (tray : List ℕ) : Type 0 where
  pub lent : Lent i
  pub finished : (after_dwarf i).answer.refusal ≡ 0
  pub inlines : i.inlines ≡ true
  pub tray_is : tray ≡ take (after_dwarf i).answer.records (after_dwarf i).records

abbrev pub ExplainingAll : Type 0
ExplainingAll = (i : Inputs) (tray : List ℕ) (a : ℕ) (x : Frames) → WrittenByAll i tray → look_up tray a ≡ done x → ExplainedByUnit i tray a x
