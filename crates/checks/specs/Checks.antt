-- Contract. Refusals 1 to 5: what their tests promise.
use Rattle.std.specs.Prelude.{◌≡◌, Result, Ok, Err, Option as Maybe, Some, None, Bool, cond, false, ◌&&◌, ◌||◌}
use Rattle.std.specs.Prelude.{not, List, [], ◌∷◌, ℕ, ◌+◌, ◌*◌, ◌≤◌, ltb, eqb, length}
use Rattle.std.proofs.Math.Option.{Option, none, some}
use Rattle.tlv.specs.declared.refusal.Refusal.{Refusal}
use Rattle.tlv.specs.Outcome.{Outcome, refused, done, ◌>>=◌}
use Rattle.tlv.specs.Refusals.{number_of}
use Rattle.tlv.specs.Lists.{at, is_empty, is_none}
use Rattle.tlv.specs.Limits.{input_limit, program_limit, list_limit, work_of_field, work_of_program_byte, work_of_encoded_byte}
use Rattle.tlv.specs.Limits.{work_of_list_byte, counted_lists, work_besides}
use Rattle.tlv.specs.Grammar.{check_input}
use Rattle.tlv.specs.Checked.{Accepts}
use Rattle.tlv.specs.Model.{CompilationUnit, units}
use Rattle.imports.specs.Import.{State}
use Rattle.imports.specs.Answer.{work_of_unit}
use Rattle.checks.specs.declared.options.Options.{Options}

-- ---- 1

abbrev pub oversize_of : List ℕ → List ℕ → List ℕ → List ℕ → List ℕ → Bool
oversize_of main supplementary program lists addresses =
    ltb input_limit (length main) || ltb input_limit (length supplementary) || ltb program_limit (length program) || ltb list_limit (length lists)
    || ltb list_limit (length addresses)

-- neither input, no program and no lists are oversize
pub record NotOversize (main supplementary program lists : List ℕ) : Type 0 where
  pub main-within : length main ≤ input_limit
  pub supplementary-within : length supplementary ≤ input_limit
  pub program-within : length program ≤ program_limit
  pub lists-within : length lists ≤ list_limit

-- ---- 2 and 3

-- both inputs are accepted, with a program of `size` bytes, and have so many fields
pub record BothAccepted (main supplementary : List ℕ) (size number : ℕ) : Type 0 where
  pub main-fields : ℕ
  pub supplementary-fields : ℕ
  pub main-accepted : check_input size main ≡ done main-fields
  pub supplementary-accepted : check_input size supplementary ≡ done supplementary-fields
  pub sum : number ≡ main-fields + supplementary-fields

abbrev pub CheckedAs : List ℕ → List ℕ → ℕ → Result ℕ Refusal → Type 0
CheckedAs main supplementary size (Ok n) = BothAccepted main supplementary size n
CheckedAs main supplementary size (Err e) =
    (f : ℕ → ℕ → Outcome State) → (check_input size main >>= λ m. check_input size supplementary >>= λ s. f m s) ≡ refused (number_of e)

pub record ChecksBoth (main supplementary : List ℕ) (size : ℕ) (r : Result ℕ Refusal) : Type 0 where
  pub is : CheckedAs main supplementary size r

-- ---- 4

-- no unit, but for a package without debug data (document 02, E4)
abbrev pub missing_unit : List ℕ → ℕ → Option CompilationUnit → Bool
missing_unit main ordinal none = not (is_empty main && eqb ordinal 0)
missing_unit main ordinal (some u) = false

-- where all units are asked for, none is missing
abbrev pub missing_by : List ℕ → Maybe ℕ → Bool
missing_by main None = false
missing_by main (Some n) = missing_unit main n (at (units main) n)

unfoldable pub missing_of : List ℕ → Options → Bool
missing_of main o = missing_by main o.ordinal

-- ---- which units

abbrev pub listed : Option CompilationUnit → List CompilationUnit
listed none = []
listed (some u) = u ∷ []

abbrev pub chosen_by : Maybe ℕ → List CompilationUnit → List CompilationUnit
chosen_by None us = us
chosen_by (Some n) us = listed (at us n)

-- the units that are imported: a package without debug data has none
unfoldable pub chosen_units : Options → List CompilationUnit → List CompilationUnit
chosen_units o us = chosen_by o.ordinal us

-- ---- 5

-- the unit's rows come from the line program (document 02, E8)
abbrev pub is_encoded : CompilationUnit → Bool
is_encoded u = not (is_none u.encoding)

-- the work that a program of so many bytes asks for
abbrev pub work_of_program : Bool → ℕ → ℕ
work_of_program encoded size = cond encoded work_of_encoded_byte work_of_program_byte * size

-- no unit asks for more
abbrev pub work_limit : ℕ
work_limit = work_of_encoded_byte * program_limit + work_of_list_byte * counted_lists * list_limit

-- work is shorter than an import asks of two sheets with n fields, whose units ask for so much
abbrev pub short_of : List ℕ → ℕ → ℕ → Bool
short_of work n most = ltb (length work) (work_of_field * n + most + work_besides)

-- a work slice of so many bytes is long enough for two inputs and units that ask for so much
pub record WorkEnough (main supplementary : List ℕ) (size most : ℕ) : Type 0 where
  pub long : (m n : ℕ) → Accepts main m → Accepts supplementary n → work_of_field * (m + n) + most + work_besides ≤ size

-- it is long enough for this unit
abbrev pub UnitEnough : List ℕ → List ℕ → List ℕ → List ℕ → ℕ → CompilationUnit → Type 0
UnitEnough main supplementary program lists size u = WorkEnough main supplementary size (work_of_unit (length program) (length lists) u)
