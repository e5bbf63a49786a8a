-- The answer of an import as numbers.
use mathlib.Core.Path.{◌≡◌, sym, subst, ap, ◌∙◌}
use mathlib.Core.Bool.{Bool}
use mathlib.Core.List.{List}
use Prim.Native.Nat.{ℕ}
use Rattle.std.specs.Prelude.{Result}
use Rattle.tlv.specs.declared.refusal.Refusal.{Refusal}
use Rattle.imports.specs.Answer.{Inputs, Answer}
use Rattle.imports.specs.Demand.{UnitFinished, DwarfFinished}
use Rattle.dwarf.specs.declared.model.Imported.{Imported}
use Rattle.dwarf.specs.declared.lent.Inputs as lent
use Rattle.dwarf.specs.Given.{Holds}
use Rattle.dwarf.specs.Runs.{inputs_of}
use Rattle.dwarf.specs.Answers.{answer_given, left, ImportsUnit, ImportsDwarf, MeasuresUnit, MeasuresDwarf}
use Rattle.pezgok.specs.Exported.{answer_in, left_in, Exports, ExportsDwarf, ExportsMeasure, ExportsMeasureDwarf}

-- ---- the answer as numbers

module _ {x : Result Imported Refusal} where
  -- the numbers stand for the answer
  module _ {i : Inputs} {w vs : List ℕ} {n : ℕ} (e : answer_given x ≡ answer_in n vs) where
    pub exports : {t f u : List ℕ} → ImportsUnit i w t f u x → Exports i w t f u vs n
    exports {t} {f} {u} I =
        let same : left w t f u x ≡ left_in w t f u vs n = ap (λ (a : Answer). record { answer = a; records = t; files = f; warnings = u; work = w }) e in
        record { is = sym same ∙ I.is; demand = λ z. subst (UnitFinished i) same (I.demand (ap (λ (a : Answer). a.refusal) e ∙ z)) }

    pub exports-dwarf : {t f u : List ℕ} → ImportsDwarf i w t f u x → ExportsDwarf i w t f u vs n
    exports-dwarf {t} {f} {u} I =
        let same : left w t f u x ≡ left_in w t f u vs n = ap (λ (a : Answer). record { answer = a; records = t; files = f; warnings = u; work = w }) e in
        record { is = sym same ∙ I.is; demand = λ z. subst (DwarfFinished i) same (I.demand (ap (λ (a : Answer). a.refusal) e ∙ z)) }

    pub exports-measure : MeasuresUnit i w x → ExportsMeasure i w vs n
    exports-measure M = record { is = ap (λ (a : Answer). record { answer = a; work = w }) (sym e) ∙ M.is }

    pub exports-measure_dwarf : MeasuresDwarf i w x → ExportsMeasureDwarf i w vs n
    exports-measure_dwarf M = record { is = ap (λ (a : Answer). record { answer = a; work = w }) (sym e) ∙ M.is }

-- ---- what a caller from C lends, in one

module _ {main supplementary program lists addresses : List ℕ} {r : lent.Inputs} (H : Holds main supplementary program lists addresses r) where
  lent_is : (n : ℕ) (a b : Bool) (k : ℕ) (w t f u : List ℕ)
      → inputs_of r.sheets.main.now r.sheets.supplementary.now r.program.now r.lists.lists.now r.lists.addresses.now n a b k w t f u
      ≡ inputs_of main supplementary program lists addresses n a b k w t f u
  lent_is n a b k w t f u = λ i. inputs_of (H.main-is i) (H.supplementary-is i) (H.program-is i) (H.lists-is i) (H.addresses-is i) n a b k w t f u

  module _ {n k m : ℕ} {a b : Bool} {w t f u w' vs : List ℕ} {x : Result Imported Refusal} (e : answer_given x ≡ answer_in m vs) where
    -- the exports of what is lent are those of the five slices
    module _ {t' f' u' : List ℕ} where
      pub exports-lent : ImportsUnit (inputs_of r.sheets.main.now r.sheets.supplementary.now r.program.now r.lists.lists.now r.lists.addresses.now n a b k w t f u) w' t' f' u' x
          → Exports (inputs_of main supplementary program lists addresses n a b k w t f u) w' t' f' u' vs m
      exports-lent I = subst (λ (i : Inputs). Exports i w' t' f' u' vs m) (lent_is n a b k w t f u) (exports e I)

      pub exports-dwarf_lent : ImportsDwarf (inputs_of r.sheets.main.now r.sheets.supplementary.now r.program.now r.lists.lists.now r.lists.addresses.now n a b k w t f u) w' t' f' u' x
          → ExportsDwarf (inputs_of main supplementary program lists addresses n a b k w t f u) w' t' f' u' vs m
      exports-dwarf_lent I = subst (λ (i : Inputs). ExportsDwarf i w' t' f' u' vs m) (lent_is n a b k w t f u) (exports-dwarf e I)

    pub exports-measure_lent : MeasuresUnit (inputs_of r.sheets.main.now r.sheets.supplementary.now r.program.now r.lists.lists.now r.lists.addresses.now n a b k w t f u) w' x
        → ExportsMeasure (inputs_of main supplementary program lists addresses n a b k w t f u) w' vs m
    exports-measure_lent M = subst (λ (i : Inputs). ExportsMeasure i w' vs m) (lent_is n a b k w t f u) (exports-measure e M)

    pub exports-measure_dwarf_lent : MeasuresDwarf (inputs_of r.sheets.main.now r.sheets.supplementary.now r.program.now r.lists.lists.now r.lists.addresses.now n a b k w t f u) w' x
        → ExportsMeasureDwarf (inputs_of main supplementary program lists addresses n a b k w t f u) w' vs m
    exports-measure_dwarf_lent M = subst (λ (i : Inputs). ExportsMeasureDwarf i w' vs m) (lent_is n a b k w t f u) (exports-measure_dwarf e M)
