-- Theorem. All units of a main sheet in one import (document 02, E11), in the request's own words; demand 3 of it is in Demand.
use Rattle.std.specs.Prelude.{ℕ, ◌+◌, ◌-◌, ◌^◌, ◌≤◌, ◌≡◌, Bool, List, [], ◌∷◌, ◌++◌}
use Rattle.tlv.specs.Outcome.{◌>>=◌}
use Rattle.tlv.specs.Model.{CompilationUnit}
use Rattle.lines.specs.Files.{FileTable}
use Rattle.references.specs.Search.{Dwarf}
use Rattle.imports.specs.Import.{ConversionStats, State, saturated, import_unit, import_units}
use Rattle.imports.specs.Answer.{Inputs, no_stats, after, after_dwarf}
use Rattle.imports.specs.Sizes.{measure, measure_dwarf}

-- "(none: E4's answer)": with an empty main sheet it is the import of a unit with ordinal 0, and so is the pass
abbrev pub NoUnits : Type 0
NoUnits = (i : Inputs) → i.main ≡ [] → i.ordinal ≡ 0 → (after_dwarf i ≡ after i) × (measure_dwarf i ≡ measure i)

-- ---- "The result is the unit imports one after another, each beginning with the file table the last one left; trays and statistics are joined and added"

-- before a unit that is imported by itself, with the files that are there
abbrev pub fresh : FileTable → State
fresh t = record { table = t; records = []; warnings = []; stats = no_stats }

-- what one import left behind, and then another that began with its file table
abbrev pub joined : State → State → State
joined s t = record {
  table = t.table;
  records = s.records ++ t.records;
  warnings = s.warnings ++ t.warnings;
  stats = record {
    functions = saturated (s.stats.functions + t.stats.functions);
    line_rows = saturated (s.stats.line_rows + t.stats.line_rows);
    inline_nodes = saturated (s.stats.inline_nodes + t.stats.inline_nodes);
    rejected_ranges = saturated (s.stats.rejected_ranges + t.stats.rejected_ranges);
  };
}

-- statistics of 64 bits
pub record Counted (c : ConversionStats) : Type 0 where
  pub functions : c.functions ≤ 2 ^ 64 - 1
  pub line_rows : c.line_rows ≤ 2 ^ 64 - 1
  pub inline_nodes : c.inline_nodes ≤ 2 ^ 64 - 1
  pub rejected_ranges : c.rejected_ranges ≤ 2 ^ 64 - 1

abbrev pub OneAfterAnother : Type 0
OneAfterAnother = (d : Dwarf) (u : CompilationUnit) (us : List CompilationUnit) (program : List ℕ) (inlines call_sites : Bool) (s : State)
    → Counted s.stats → import_units d (u ∷ us) program inlines call_sites s
    ≡ (import_unit d u program inlines call_sites (fresh s.table) >>= λ t. import_units d us program inlines call_sites (joined s t))
