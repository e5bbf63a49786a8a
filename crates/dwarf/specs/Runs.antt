-- Contract. What an import promises up to refusal 15.
use Rattle.std.specs.Prelude.{◌≡◌, Result, Ok, Err, Option as Maybe, Some, None, Bool, cond, List, [], ℕ, ◌-◌, ◌≤◌, length, take, drop}
use Rattle.std.specs.Option.{option_map_or}
use Rattle.std.specs.declared.ops.Range.{Range}
use Rattle.tlv.specs.declared.refusal.Refusal.{Refusal}
use Rattle.tlv.specs.Outcome.{Outcome, refused, done}
use Rattle.tlv.specs.Refusals.{number_of}
use Rattle.tlv.specs.Model.{CompilationUnit, units}
use Rattle.buffers.specs.Buffer.{Put}
use Rattle.buffers.specs.Output.{records_bytes, files_bytes, warnings_bytes}
use Rattle.imports.specs.Import.{State}
use Rattle.imports.specs.Answer.{Inputs, no_stats, import_worked, import_of, import_dwarf_of}
use Rattle.dies.specs.Past.{is_past}
use Rattle.subprograms.specs.declared.model.ImportState.{ImportState}
use Rattle.subprograms.specs.Stats.{stats_of}
use Rattle.checks.specs.declared.options.Options.{Options}
use Rattle.checks.specs.Checks.{missing_of, chosen_units}
use Rattle.dwarf.specs.declared.model.Lengths.{Lengths}
use Rattle.dwarf.specs.declared.run.Ran.{Ran}
use Rattle.dwarf.specs.Sizes.{short_in}

-- ---- what is asked

-- what a caller lends and asks, as the definitions have it
abbrev pub inputs_of : List ℕ → List ℕ → List ℕ → List ℕ → List ℕ → ℕ → Bool → Bool → ℕ → List ℕ → List ℕ → List ℕ
    → List ℕ → Inputs
inputs_of main supplementary program lists addresses ordinal inlines call_sites first work records files warnings = record {
  main = main;
  supplementary = supplementary;
  program = program;
  lists = lists;
  addresses = addresses;
  ordinal = ordinal;
  inlines = inlines;
  call_sites = call_sites;
  first_file = first;
  work = work;
  records = records;
  files = files;
  warnings = warnings;
}

-- of the one ordinal; none asks for all units
abbrev pub ordinal_of : Maybe ℕ → ℕ
ordinal_of None = 0
ordinal_of (Some n) = n

-- the same, what is asked in one
abbrev pub inputs_by : List ℕ → List ℕ → List ℕ → List ℕ → List ℕ → Options → List ℕ → List ℕ → List ℕ → List ℕ → Inputs
inputs_by main supplementary program lists addresses o work records files warnings =
    inputs_of main supplementary program lists addresses (ordinal_of o.ordinal) o.inlines o.call_sites o.first_file work records files warnings

-- what an import comes to: of all units, or of the one of the ordinal
abbrev pub import_all : Maybe ℕ → Inputs → Outcome State
import_all None i = import_dwarf_of i
import_all (Some n) i = import_of i

-- ---- which units

-- of so many units those from number `start` to below `end` are chosen
pub record Chooses (o : Options) (count : ℕ) (r : Range ℕ) : Type 0 where
  pub order : r.start ≤ r.end
  pub within : r.end ≤ count
  pub is : (us : List CompilationUnit) → length us ≡ count → take (r.end - r.start) (drop r.start us) ≡ chosen_units o us

-- 4, 5 and the import, where both inputs are accepted and have n fields
abbrev pub import_accepted : Options → Inputs → ℕ → Outcome State
import_accepted o i n = cond (missing_of i.main o) (refused 4) (import_worked i n (chosen_units o (units i.main)))

-- ---- what was run

-- before any unit, with the first file number
abbrev pub start_state : ℕ → State
start_state first = record { table = record { first = first; entries = [] }; records = []; warnings = []; stats = no_stats }

-- the lengths and statistics of a state
pub record LengthsOf (st : ImportState) (r : Ran) : Type 0 where
  pub records : r.lengths.records ≡ st.at
  pub files : r.lengths.files ≡ st.table.written
  pub warnings : r.lengths.warnings ≡ st.warned
  pub stats : r.stats ≡ st.stats
  pub past : r.past ≡ st.past

-- a state was written to the output buffers
pub record Written (o : Outcome State) (t f u t' f' u' : List ℕ) (r : Ran) : Type 0 where
  pub state : State
  pub is : o ≡ done state
  pub records : Put 0 (records_bytes state.records) t t' r.lengths.records
  pub past : r.past ≡ is_past 0 (length (records_bytes state.records))
  pub files : Put 0 (files_bytes state.table.entries) f f' r.lengths.files
  pub warnings : Put 0 (warnings_bytes state.warnings) u u' r.lengths.warnings
  pub stats : stats_of r.stats ≡ state.stats

-- the definition's outcome o was written to the output buffers, as far as they reach; or it is refused
abbrev pub WrittenBy : Outcome State → List ℕ → List ℕ → List ℕ → List ℕ → List ℕ → List ℕ → Result Ran Refusal → Type 0
WrittenBy o t f u t' f' u' (Ok r) = Written o t f u t' f' u' r
WrittenBy o t f u t' f' u' (Err e) = o ≡ refused (number_of e)

pub record Writes (o : Outcome State) (t f u t' f' u' : List ℕ) (r : Result Ran Refusal) : Type 0 where
  pub is : WrittenBy o t f u t' f' u' r

-- ---- refusals 16 to 18

-- a run whose output buffers have these lengths: it, or its refusal
unfoldable pub fit_of : Result Ran Refusal → Lengths → Result Ran Refusal
fit_of (Err e) lent = Err e
fit_of (Ok r) lent = option_map_or Err (short_in r.lengths lent) (Ok r)
