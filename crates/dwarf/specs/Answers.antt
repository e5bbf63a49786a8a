-- Contract. What the imports and the passes promise: the answer, the lent slices after every call, and demand 3 of a finished import.
use Rattle.std.specs.Prelude.{◌≡◌, Result, Ok, Err, Option as Maybe, Some, None, List, ℕ}
use Rattle.tlv.specs.declared.refusal.Refusal.{Refusal}
use Rattle.tlv.specs.Refusals.{number_of}
use Rattle.tlv.specs.Lists.{at}
use Rattle.tlv.specs.Model.{units}
use Rattle.buffers.specs.Output.{Function}
use Rattle.imports.specs.Answer.{Inputs, Answer, After, no_stats, dwarf_of, afterwards, after, after_dwarf}
use Rattle.imports.specs.Demand.{ChosenAgrees, UnitsAgree, Finished, UnitFinished, DwarfFinished}
use Rattle.imports.specs.Sizes.{measuring, measure, measure_dwarf}
use Rattle.subprograms.specs.Stats.{stats_of}
use Rattle.dwarf.specs.declared.model.Imported.{Imported}
use Rattle.dwarf.specs.Runs.{import_all}

-- an answer: a refusal's number is the papers'
abbrev pub answer_given : Result Imported Refusal → Answer
answer_given (Ok x) = record { refusal = 0; records = x.lengths.records; files = x.lengths.files; warnings = x.lengths.warnings; stats = stats_of x.stats }
answer_given (Err e) = record { refusal = number_of e; records = 0; files = 0; warnings = 0; stats = no_stats }

-- what a call leaves behind: the answer r, the work slice w, the output buffers t, f and u
abbrev pub left : List ℕ → List ℕ → List ℕ → List ℕ → Result Imported Refusal → After
left w t f u r = record { answer = answer_given r; records = t; files = f; warnings = u; work = w }

-- ---- the import

-- demand 3 of the records: against the unit that was asked for, or each against its own
abbrev pub AgreeAll : Maybe ℕ → Inputs → List Function → Type 0
AgreeAll None i = UnitsAgree (dwarf_of i) i.inlines (units i.main)
AgreeAll (Some n) i = ChosenAgrees i (at (units i.main) i.ordinal)

-- the answer, the output buffers t, f and u and the work slice w after a call that comes to o are those of the definition; and demand 3
pub record ImportsBy (asked : Maybe ℕ) (i : Inputs) (w t f u : List ℕ) (r : Result Imported Refusal) : Type 0 where
  pub is : left w t f u r ≡ afterwards i (import_all asked i)
  pub demand : (answer_given r).refusal ≡ 0 → Finished (import_all asked i) (AgreeAll asked i) (left w t f u r)

-- of the import of a unit, and of all units
pub record ImportsUnit (i : Inputs) (w t f u : List ℕ) (r : Result Imported Refusal) : Type 0 where
  pub is : left w t f u r ≡ after i
  pub demand : (answer_given r).refusal ≡ 0 → UnitFinished i (left w t f u r)

pub record ImportsDwarf (i : Inputs) (w t f u : List ℕ) (r : Result Imported Refusal) : Type 0 where
  pub is : left w t f u r ≡ after_dwarf i
  pub demand : (answer_given r).refusal ≡ 0 → DwarfFinished i (left w t f u r)

-- ---- the pass that writes no output buffer: its answer and the work slice w after it are those of the definition

pub record MeasuresBy (asked : Maybe ℕ) (i : Inputs) (w : List ℕ) (r : Result Imported Refusal) : Type 0 where
  pub is : record { answer = answer_given r; work = w } ≡ measuring i (import_all asked i)

pub record MeasuresUnit (i : Inputs) (w : List ℕ) (r : Result Imported Refusal) : Type 0 where
  pub is : record { answer = answer_given r; work = w } ≡ measure i

pub record MeasuresDwarf (i : Inputs) (w : List ℕ) (r : Result Imported Refusal) : Type 0 where
  pub is : record { answer = answer_given r; work = w } ≡ measure_dwarf i
