-- Contract. How long the output buffers are, and refusals 16 to 18.
use Rattle.std.specs.Prelude.{Option as Maybe, Some, None, cond, ltb, length}
use Rattle.tlv.specs.declared.refusal.Refusal.{Refusal}
use Rattle.subprograms.specs.declared.model.Outputs.{Outputs}
use Rattle.dwarf.specs.declared.model.Lengths.{Lengths}

abbrev pub lengths_of : Outputs → Lengths
lengths_of t = record { records = length t.records.now; files = length t.files.now; warnings = length t.warnings.now }

-- the refusal of what has these lengths, where buffers of those are lent for it
abbrev pub short_in : Lengths → Lengths → Maybe Refusal
short_in written lent =
    cond (ltb lent.records written.records) (Some Refusal.ShortRecords)
    (cond (ltb lent.files written.files) (Some Refusal.ShortFiles)
    (cond (ltb lent.warnings written.warnings) (Some Refusal.ShortWarnings)
    None))
