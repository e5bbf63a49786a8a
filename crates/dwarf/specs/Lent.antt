-- Contract. What a caller lends to an import, as the definitions have it.
use Rattle.std.specs.Prelude.{Result, Bool, List, [], ℕ}
use Rattle.tlv.specs.declared.refusal.Refusal.{Refusal}
use Rattle.tlv.specs.Outcome.{Outcome}
use Rattle.imports.specs.Import.{State}
use Rattle.imports.specs.Answer as answer
use Rattle.subprograms.specs.declared.model.Outputs.{Outputs}
use Rattle.checks.specs.declared.options.Options.{Options}
use Rattle.dwarf.specs.declared.lent.Inputs.{Inputs}
use Rattle.dwarf.specs.declared.run.Ran.{Ran}
use Rattle.dwarf.specs.Runs.{inputs_of, inputs_by, Writes}

-- what is lent and asked, over output buffers
abbrev pub lent_of : Inputs → Options → List ℕ → List ℕ → List ℕ → List ℕ → answer.Inputs
lent_of i o work records files warnings =
    inputs_by i.sheets.main.now i.sheets.supplementary.now i.program.now i.lists.lists.now i.lists.addresses.now o work records files warnings

abbrev pub asked_of : Inputs → Options → List ℕ → Outputs → answer.Inputs
asked_of i o work t = lent_of i o work t.records.now t.files.now t.warnings.now

-- of the pass, which has none
abbrev pub unseen_of : Inputs → Options → List ℕ → answer.Inputs
unseen_of i o work = lent_of i o work [] [] []

-- the same, what is asked one by one
abbrev pub given_of : Inputs → ℕ → Bool → Bool → ℕ → List ℕ → Outputs → answer.Inputs
given_of i ordinal inlines call_sites first work t =
    inputs_of i.sheets.main.now i.sheets.supplementary.now i.program.now i.lists.lists.now i.lists.addresses.now ordinal inlines call_sites first work
    t.records.now t.files.now t.warnings.now

abbrev pub measured_of : Inputs → ℕ → Bool → Bool → ℕ → List ℕ → answer.Inputs
measured_of i ordinal inlines call_sites first work =
    inputs_of i.sheets.main.now i.sheets.supplementary.now i.program.now i.lists.lists.now i.lists.addresses.now ordinal inlines call_sites first work
    [] [] []

-- an outcome was written to them
abbrev pub WritesTo : Outcome State → Outputs → Outputs → Result Ran Refusal → Type 0
WritesTo o t u r = Writes o t.records.now t.files.now t.warnings.now u.records.now u.files.now u.warnings.now r
