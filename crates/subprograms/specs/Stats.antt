-- Contract. The statistics as the code has them, and as the definition counts them.
use Rattle.std.specs.Prelude.{ℕ, ◌+◌}
use Rattle.imports.specs.Import.{ConversionStats, saturated}
use Rattle.subprograms.specs.declared.model.ConversionStats.{ConversionStats as Stats}

abbrev pub stats_of : Stats → ConversionStats
stats_of s = record { functions = s.functions; line_rows = s.line_rows; inline_nodes = s.inline_nodes; rejected_ranges = s.rejected_ranges }

-- a record with so many rows and nodes is counted
abbrev pub with_function : ℕ → ℕ → ConversionStats → ConversionStats
with_function rows nodes t = record {
  functions = saturated (t.functions + 1);
  line_rows = saturated (t.line_rows + rows);
  inline_nodes = saturated (t.inline_nodes + nodes);
  rejected_ranges = t.rejected_ranges;
}

-- a rejected range is counted
abbrev pub with_rejected : ConversionStats → ConversionStats
with_rejected t = record {
  functions = t.functions;
  line_rows = t.line_rows;
  inline_nodes = t.inline_nodes;
  rejected_ranges = saturated (t.rejected_ranges + 1);
}
