-- Contract. The sheet of a source among both of an import.
use Rattle.std.specs.Prelude.{ℕ, List}
use Rattle.tlv.specs.declared.model.DebugSource.{DebugSource}
use Rattle.files.specs.declared.sheets.Sheets.{Sheets}
use Rattle.files.specs.Pieces.{source_in}

abbrev pub sheet_in : Sheets → DebugSource → List ℕ
sheet_in d source = source_in d.main.now d.supplementary.now source
