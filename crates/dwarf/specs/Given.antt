-- Contract. What the steps of an import ask of what is lent to it.
use Rattle.std.specs.Prelude.{◌≡◌, List, ℕ, length}
use Rattle.tlv.specs.Model.{CompilationUnit}
use Rattle.references.specs.Search.{Dwarf}
use Rattle.dies.specs.Details.{dwarf_with}
use Rattle.subprograms.specs.declared.model.ImportState.{ImportState}
use Rattle.checks.specs.declared.options.Sizes.{Sizes}
use Rattle.checks.specs.declared.layout.Layout.{Layout}
use Rattle.checks.specs.declared.layout.UnitLayout.{UnitLayout}
use Rattle.checks.specs.Checks.{NotOversize, UnitEnough}
use Rattle.checks.specs.Layout.{LaidOut, UnitLaid}
use Rattle.dwarf.specs.declared.lent.Inputs.{Inputs}
use Rattle.dwarf.specs.declared.tables.Indexes.{Indexes}
use Rattle.dwarf.specs.Tables.{TablesIn}
use Rattle.dwarf.specs.Units.{Ready}

-- these five slices are lent
pub record Holds (main supplementary program lists addresses : List ℕ) (i : Inputs) : Type 0 where
  pub main-is : i.sheets.main.now ≡ main
  pub supplementary-is : i.sheets.supplementary.now ≡ supplementary
  pub program-is : i.program.now ≡ program
  pub lists-is : i.lists.lists.now ≡ lists
  pub addresses-is : i.lists.addresses.now ≡ addresses

-- both inputs, with the range lists and their addresses, as the definitions have them
abbrev pub dwarf_lent : Inputs → Dwarf
dwarf_lent i = dwarf_with i.sheets.main.now i.sheets.supplementary.now i.lists.lists.now i.lists.addresses.now

abbrev pub NotOversizeFor : Inputs → Type 0
NotOversizeFor i = NotOversize i.sheets.main.now i.sheets.supplementary.now i.program.now i.lists.lists.now

abbrev pub SizesOf : Inputs → Sizes → Type 0
SizesOf i s = (s.program ≡ length i.program.now) × (s.lists ≡ length i.lists.lists.now)

abbrev pub LaidOutFor : Inputs → Layout → Type 0
LaidOutFor i l = LaidOut i.sheets.main.now i.sheets.supplementary.now i.program.now i.lists.lists.now l

-- Stays a clause: it speaks of the work slice, which each step writes to.
abbrev pub TablesFor : Inputs → List ℕ → Indexes → Type 0
TablesFor i w x = TablesIn i.sheets.main.now i.sheets.supplementary.now i.program.now i.lists.lists.now w x.layout x

abbrev pub UnitLaidFor : Inputs → List ℕ → Indexes → ℕ → UnitLayout → Type 0
UnitLaidFor i w x unit p = UnitLaid i.sheets.main.now i.sheets.supplementary.now i.program.now (length w) x.layout unit p

abbrev pub EnoughFor : Inputs → List ℕ → CompilationUnit → Type 0
EnoughFor i w = UnitEnough i.sheets.main.now i.sheets.supplementary.now i.program.now i.lists.lists.now (length w)

abbrev pub ReadyFor : Inputs → List ℕ → Indexes → ImportState → Type 0
ReadyFor i w x st = Ready i.sheets.main.now i.sheets.supplementary.now w x.layout st
