-- Contract. What the import of units one after another promises (document 02, E11).
use Rattle.std.specs.Prelude.{Result, List, [], ◌∷◌, ℕ, ◌+◌, ◌-◌, ◌≤◌, length}
use Rattle.tlv.specs.declared.refusal.Refusal.{Refusal}
use Rattle.tlv.specs.Outcome.{Outcome}
use Rattle.tlv.specs.Refusals.{status_of}
use Rattle.files.specs.Store.{extent, FilesIn}
use Rattle.imports.specs.Import.{State}
use Rattle.dies.specs.Answers.{value_or}
use Rattle.subprograms.specs.declared.model.ImportState.{ImportState}
use Rattle.subprograms.specs.declared.model.Outputs.{Outputs}
use Rattle.subprograms.specs.Steps.{sheets, memory, Grows}
use Rattle.checks.specs.declared.layout.Layout.{Layout}
use Rattle.dwarf.specs.declared.lent.Inputs.{Inputs}
use Rattle.dwarf.specs.declared.tables.Indexes.{Indexes}

-- a state from which a unit can be imported: its file table stands in w above the tables of units and entries and below the unit's lines
pub record Ready (main supplementary w : List ℕ) (l : Layout) (st : ImportState) : Type 0 where
  pub files : FilesIn main supplementary w st.table
  pub above : l.files ≤ st.table.base
  pub below : st.table.base + extent st.table ≤ l.lines

-- all but the tables of units and entries: above them the file table and what belongs to one unit
abbrev pub above_tables : Layout → ℕ → List (ℕ × ℕ)
above_tables l size = (l.files, size - l.files) ∷ []

-- the state and what is written grow as F says, and the tables stay
abbrev pub GrowsTo : (State → Outcome State) → Inputs → Indexes → List ℕ → Outputs → ImportState → List ℕ → Outputs
    → Result ImportState Refusal → Type 0
GrowsTo F i x w t st w' t' r =
    Grows F (sheets i.sheets.main.now i.sheets.supplementary.now) (above_tables x.layout (length w))
    (memory w t.records.now t.files.now t.warnings.now) st
    (memory w' t'.records.now t'.files.now t'.warnings.now) (status_of r) (value_or st r)
