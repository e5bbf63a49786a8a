-- Contract. What the functions for callers from C promise: the same as the imports and the passes, with the answer as numbers.
use Rattle.std.specs.Prelude.{◌≡◌, List, ℕ, get_or}
use Rattle.imports.specs.Answer.{Inputs, Answer, After, after, after_dwarf}
use Rattle.imports.specs.Demand.{UnitFinished, DwarfFinished}
use Rattle.imports.specs.Sizes.{measure, measure_dwarf}

-- the answer that a refusal's number and seven values stand for
abbrev pub answer_in : ℕ → List ℕ → Answer
answer_in n vs = record {
  refusal = n;
  records = get_or vs 0 0;
  files = get_or vs 1 0;
  warnings = get_or vs 2 0;
  stats = record { functions = get_or vs 3 0; line_rows = get_or vs 4 0; inline_nodes = get_or vs 5 0; rejected_ranges = get_or vs 6 0 };
}

-- what a call leaves behind: the refusal's number and the values, the work slice w, the output buffers t, f and u
abbrev pub left_in : List ℕ → List ℕ → List ℕ → List ℕ → List ℕ → ℕ → After
left_in w t f u values r = record { answer = answer_in r values; records = t; files = f; warnings = u; work = w }

-- of the import of a unit, and of all units
pub record Exports (i : Inputs) (w t f u values : List ℕ) (r : ℕ) : Type 0 where
  pub is : left_in w t f u values r ≡ after i
  pub demand : r ≡ 0 → UnitFinished i (left_in w t f u values r)

pub record ExportsDwarf (i : Inputs) (w t f u values : List ℕ) (r : ℕ) : Type 0 where
  pub is : left_in w t f u values r ≡ after_dwarf i
  pub demand : r ≡ 0 → DwarfFinished i (left_in w t f u values r)

-- of the passes that write no output buffer
pub record ExportsMeasure (i : Inputs) (w values : List ℕ) (r : ℕ) : Type 0 where
  pub is : record { answer = answer_in r values; work = w } ≡ measure i

pub record ExportsMeasureDwarf (i : Inputs) (w values : List ℕ) (r : ℕ) : Type 0 where
  pub is : record { answer = answer_in r values; work = w } ≡ measure_dwarf i
