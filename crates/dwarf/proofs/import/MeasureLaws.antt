-- The pass that writes no output buffer: what the import would write is counted, whatever the buffers are.
use mathlib.Core.Path.{◌≡◌, refl, sym, ap, ◌∙◌}
use mathlib.Core.Bool.{Bool, true, false}
use mathlib.Core.List.{List}
use Prim.Native.Nat.{ℕ, ◌+◌, ◌-◌, ◌^◌}
use lib.Dec.{ltb}
use native.Mathlib.Omega.{arith}
use lib.ListN.{length, replicate}
use Rattle.std.specs.Prelude.{Result, Ok, Err, Option as Maybe, Some, None}
use Rattle.tlv.specs.declared.refusal.Refusal.{Refusal}
use Rattle.tlv.specs.Outcome.{Outcome}
use Rattle.buffers.specs.Buffer.{Put}
use Rattle.buffers.specs.Output.{records_bytes}
use Rattle.imports.specs.Import.{State, saturated}
use Rattle.imports.specs.Answer.{Inputs, Answer, written}
use Rattle.imports.specs.Sizes.{measured, measuring, measure, measure_dwarf, with_trays}
use Rattle.imports.proofs.Sizing.{same-import, same-dwarf}
use Rattle.dwarf.specs.declared.model.Imported.{Imported}
use Rattle.dwarf.specs.declared.run.Ran.{Ran}
use Rattle.dwarf.specs.Runs.{import_all, Writes}
use Rattle.dwarf.specs.Answers.{answer_given, MeasuresBy, MeasuresUnit, MeasuresDwarf}

-- the place behind an output is its length, up to the largest place
counted : {out t t' : List ℕ} {n : ℕ} → Put 0 out t t' n → n ≡ saturated (length out)
counted P = omega (arith, P.place)

-- the trays decide nothing
trays-aside : (asked : Maybe ℕ) (i : Inputs) (a b c : List ℕ) → import_all asked (with_trays i a b c) ≡ import_all asked i
trays-aside None i a b c = same-dwarf i a b c
trays-aside (Some n) i a b c = same-import i a b c

module _ (asked : Maybe ℕ) (i : Inputs) where
  measure-is : (a b c : List ℕ) {o : Outcome State} {w : List ℕ} {x : Answer} → import_all asked (with_trays i a b c) ≡ o → x ≡ measured o → w ≡ replicate (length i.work) 0
      → record { answer = x; work = w } ≡ measuring i (import_all asked i)
  unfolding measuring
  measure-is a b c e ex ew = λ k. record { answer = (ex ∙ ap measured (sym e ∙ trays-aside asked i a b c)) k; work = ew k }

  pub measures-refused : {a b c t f u : List ℕ} {e : Refusal} {w : List ℕ} → Writes (import_all asked (with_trays i a b c)) a b c t f u (Err e) → w ≡ replicate (length i.work) 0
      → MeasuresBy asked i w (Err e)
  unfolding measured
  measures-refused {a} {b} {c} W ew = record { is = measure-is a b c W.is refl ew }

  module _ {a b c t f u : List ℕ} {r : Ran} (W : Writes (import_all asked (with_trays i a b c)) a b c t f u (Ok r)) where
    -- whether the records pass the largest place
    past_is : {b : Bool} → r.past ≡ b → ltb (2 ^ 64 - 1) (length (records_bytes W.is.state.records)) ≡ b
    past_is e =
        let n = length (records_bytes W.is.state.records) in
        let same : n ≡ 0 + n = omega arith in
        ap (ltb (2 ^ 64 - 1)) same ∙ sym W.is.past ∙ e

    pub measures_past : {w : List ℕ} → r.past ≡ true → w ≡ replicate (length i.work) 0 → MeasuresBy asked i w (Err Refusal.ShortRecords)
    unfolding measured written
    measures_past e ew = record { is = measure-is a b c W.is.is (rw (past_is e)) ew }

    pub measures-done : {x : Imported} {w : List ℕ} → r.past ≡ false → x ≡ record { lengths = r.lengths; stats = r.stats }
        → w ≡ replicate (length i.work) 0 → MeasuresBy asked i w (Ok x)
    unfolding measured written
    measures-done {x} e ex ew =
        let S = W.is in
        record {
          is = measure-is a b c S.is
              (rw (past_is e)
              (ap (λ (y : Imported). answer_given (Ok y)) ex
              ∙ (λ k. record { refusal = 0; records = counted S.records k; files = counted S.files k; warnings = counted S.warnings k; stats = S.stats k }))) ew;
        }

-- ---- the entry points

module _ {i : Inputs} {w : List ℕ} {x : Result Imported Refusal} where
  pub of_unit : {n : ℕ} → MeasuresBy (Some n) i w x → MeasuresUnit i w x
  unfolding measure
  of_unit M = record { is = M.is }

  pub of_all : MeasuresBy None i w x → MeasuresDwarf i w x
  unfolding measure_dwarf
  of_all M = record { is = M.is }
