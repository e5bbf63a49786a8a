-- The answer of an import: refusals 16 to 18, the output buffers, and demand 3.
use mathlib.Core.Path.{◌≡◌, refl, sym, subst, ap, ◌∙◌}
use mathlib.Core.Bool.{Bool, true, false, cond}
use mathlib.Core.List.{List, ◌++◌}
use Prim.Native.Nat.{ℕ, ◌≤◌}
use native.Mathlib.Omega.{arith}
use lib.Dec.{ltb}
use lib.ListN.{length, drop, replicate}
use borrow.Author.Tests.{ltb-false, lt-ltb, le-ltb}
use Rattle.std.specs.Prelude.{Result, Ok, Err, Option as Maybe, Some, None}
use Rattle.std.specs.Option.{option_map_or}
use Rattle.tlv.specs.declared.refusal.Refusal.{Refusal}
use Rattle.tlv.specs.Refusals.{number_of}
use Rattle.tlv.specs.Outcome.{Outcome, refused, done, ◌>>=◌}
use Rattle.tlv.proofs.TestLaws.{by_less}
use Rattle.buffers.specs.Buffer.{Put}
use Rattle.buffers.specs.Output.{records_bytes, files_bytes, warnings_bytes}
use Rattle.buffers.proofs.BufferLaws.{put-length, put-fits, put_whole, put-lost}
use Rattle.imports.specs.Import.{State}
use Rattle.imports.specs.Answer as answer
use Rattle.imports.specs.Answer.{Inputs, After, written, outcome_of, answer_of, buffer_after, afterwards, after, after_dwarf}
use Rattle.imports.specs.Demand.{Lent, Finished}
use Rattle.imports.proofs.Demand.{demand, dwarf-demand}
use Rattle.dwarf.specs.declared.model.Imported.{Imported}
use Rattle.dwarf.specs.declared.model.Lengths.{Lengths}
use Rattle.dwarf.specs.declared.run.Ran.{Ran}
use Rattle.dwarf.specs.Runs.{import_all, Written, Writes, fit_of}
use Rattle.dwarf.specs.Answers.{left, AgreeAll, ImportsBy, ImportsUnit, ImportsDwarf}

-- ---- the outcome

-- how long three buffers are
abbrev pub lengths : List ℕ → List ℕ → List ℕ → Lengths
lengths t f u = record { records = length t; files = length f; warnings = length u }

-- a place is past a buffer where the output is longer than it
longer_is : {out t t' : List ℕ} {n : ℕ} → Put 0 out t t' n → ltb (length t') n ≡ ltb (length t) (length out)
longer_is {out} {t} {t'} {n} P =
    by_less (ltb (length t') n ≡ ltb (length t) (length out)) (length t') n
    (λ h. lt-ltb (length t') n h ∙ sym (lt-ltb (length t) (length out) (put-lost P h)))
    (λ h. le-ltb (length t') n h ∙ sym (le-ltb (length t) (length out) (omega (arith, put-fits P h))))

-- an output is longer than its buffer
abbrev over_records : Inputs → State → Bool
over_records i s = ltb (length i.records) (length (records_bytes s.records))

abbrev over_files : Inputs → State → Bool
over_files i s = ltb (length i.files) (length (files_bytes s.table.entries))

abbrev over_warnings : Inputs → State → Bool
over_warnings i s = ltb (length i.warnings) (length (warnings_bytes s.warnings))

-- the outcome by the three tests
abbrev outcome_by : {A : Type 0} → Bool → Bool → Bool → A → Outcome A
outcome_by a b c w = cond a (refused 16) (cond b (refused 17) (cond c (refused 18) (done w)))

module _ (i : Inputs) (o : Outcome State) where
  -- all that was written fits
  pub record Fitting (t f u : List ℕ) (r : Ran) : Type 0 where
    pub written : Written o i.records i.files i.warnings t f u r
    pub is : outcome_of i o ≡ done (answer.written written.state)
    pub records : length (records_bytes written.state.records) ≤ length i.records
    pub files : length (files_bytes written.state.table.entries) ≤ length i.files
    pub warnings : length (warnings_bytes written.state.warnings) ≤ length i.warnings

  -- .. or the outcome is the refusal
  abbrev pub FittingBy : List ℕ → List ℕ → List ℕ → Result Ran Refusal → Type 0
  FittingBy t f u (Ok r) = Fitting t f u r
  FittingBy t f u (Err e) = outcome_of i o ≡ refused (number_of e)

  module _ {t f u : List ℕ} {r : Ran} (S : Written o i.records i.files i.warnings t f u r) where
    outcome-is : outcome_of i o ≡ outcome_by (over_records i S.state) (over_files i S.state) (over_warnings i S.state) (written S.state)
    unfolding outcome_of ◌>>=◌ answer.fitting written
    outcome-is = rw S.is

    outcome-told : outcome_of i o ≡ outcome_by (ltb (length t) r.lengths.records) (ltb (length f) r.lengths.files) (ltb (length u) r.lengths.warnings) (written S.state)
    outcome-told = outcome-is ∙ (λ k. outcome_by (sym (longer_is S.records) k) (sym (longer_is S.files) k) (sym (longer_is S.warnings) k) (written S.state))

    fitting-done : FittingBy t f u (fit_of (Ok r) (lengths t f u))
    unfolding fit_of
    fitting-done = go (ltb (length t) r.lengths.records) refl (ltb (length f) r.lengths.files) refl (ltb (length u) r.lengths.warnings) refl
      where
        told : {a b c : Bool} → ltb (length t) r.lengths.records ≡ a → ltb (length f) r.lengths.files ≡ b → ltb (length u) r.lengths.warnings ≡ c → outcome_of i o ≡ outcome_by a b c (written S.state)
        told ea eb ec = outcome-told ∙ (λ k. outcome_by (ea k) (eb k) (ec k) (written S.state))

        go : (a : Bool) → ltb (length t) r.lengths.records ≡ a → (b : Bool) → ltb (length f) r.lengths.files ≡ b → (c : Bool) → ltb (length u) r.lengths.warnings ≡ c
            → FittingBy t f u (option_map_or Err (cond a (Some Refusal.ShortRecords) (cond b (Some Refusal.ShortFiles) (cond c (Some Refusal.ShortWarnings) None))) (Ok r))
        go true ea b eb c ec = told ea eb ec
        go false ea true eb c ec = told ea eb ec
        go false ea false eb true ec = told ea eb ec
        go false ea false eb false ec = record {
          written = S;
          is = told ea eb ec;
          records = ltb-false _ _ (sym (longer_is S.records) ∙ ea);
          files = ltb-false _ _ (sym (longer_is S.files) ∙ eb);
          warnings = ltb-false _ _ (sym (longer_is S.warnings) ∙ ec);
        }

  fitting-of : (t f u : List ℕ) (run : Result Ran Refusal) → Writes o i.records i.files i.warnings t f u run → FittingBy t f u (fit_of run (lengths t f u))
  unfolding fit_of outcome_of ◌>>=◌
  fitting-of t f u (Ok r) W = fitting-done W.is
  fitting-of t f u (Err e) W = rw W.is

  pub fitted : {t f u : List ℕ} {run x : Result Ran Refusal} {l : Lengths} → Writes o i.records i.files i.warnings t f u run → x ≡ fit_of run l → l ≡ lengths t f u → FittingBy t f u x
  fitted {t} {f} {u} {run} W e is = rw (e, is) (fitting-of t f u run W)

-- ---- what is there after the call

module _ (i : Inputs) (o : Outcome State) where
  -- what is so of an outcome
  abbrev after_of : Outcome answer.Written → After
  after_of x = record {
    answer = answer_of x;
    records = buffer_after (λ w. w.records) i.records x;
    files = buffer_after (λ w. w.files) i.files x;
    warnings = buffer_after (λ w. w.warnings) i.warnings x;
    work = replicate (length i.work) 0;
  }

  after_is : {x : Outcome answer.Written} → outcome_of i o ≡ x → afterwards i o ≡ after_of x
  unfolding afterwards
  after_is e = ap after_of e

-- what was cleared is as long as before
pub cleared : {w : List ℕ} {n : ℕ} (w₀ : List ℕ) → n ≡ length w₀ → w ≡ replicate n 0 → w ≡ replicate (length w₀) 0
cleared w₀ l e = e ∙ ap (λ (k : ℕ). replicate k 0) l

-- all that was written fits
written-place : {out t t' : List ℕ} {k : ℕ} → Put 0 out t t' k → length out ≤ length t → k ≡ length out
written-place P h = omega (arith, P.place, P.small)

written-whole : {out t t' : List ℕ} {k : ℕ} → Put 0 out t t' k → length out ≤ length t → t' ≡ out ++ drop (length out) t
written-whole P h = put_whole P (omega (arith, written-place P h, put-length P))

-- ---- of a unit or of all

module _ (asked : Maybe ℕ) (i : Inputs) where
  module _ (l : Lent i) where
    -- demand 3
    finished : (x : Maybe ℕ) → (afterwards i (import_all x i)).answer.refusal ≡ 0 → Finished (import_all x i) (AgreeAll x i) (afterwards i (import_all x i))
    unfolding after after_dwarf
    finished None z = dwarf-demand i l z
    finished (Some n) z = demand i l z

    imports_by : {w t f u : List ℕ} (r : Result Imported Refusal) → left w t f u r ≡ afterwards i (import_all asked i) → ImportsBy asked i w t f u r
    imports_by r e = record {
      is = e;
      demand = λ z. subst (Finished (import_all asked i) (AgreeAll asked i)) (sym e) (finished asked (ap (λ (a : After). a.answer.refusal) (sym e) ∙ z));
    }

    pub answers-refused : {w t f u : List ℕ} {e : Refusal} → outcome_of i (import_all asked i) ≡ refused (number_of e)
        → w ≡ replicate (length i.work) 0 → t ≡ replicate (length i.records) 0 → f ≡ replicate (length i.files) 0 → u ≡ replicate (length i.warnings) 0
        → ImportsBy asked i w t f u (Err e)
    unfolding answer_of buffer_after
    answers-refused {e = e} is ew et ef eu =
        imports_by (Err e)
        ((λ k. record {
          answer = record { refusal = number_of e; records = 0; files = 0; warnings = 0; stats = answer.no_stats };
          records = et k;
          files = ef k;
          warnings = eu k;
          work = ew k;
        })
        ∙ sym (after_is i (import_all asked i) is))

    pub answers_done : {w t f u : List ℕ} {r : Ran} {x : Imported} → Fitting i (import_all asked i) t f u r
        → x ≡ record { lengths = r.lengths; stats = r.stats } → w ≡ replicate (length i.work) 0
        → ImportsBy asked i w t f u (Ok x)
    unfolding answer_of buffer_after written
    answers_done {w} {t} {f} {u} {r} {x} F ex ew =
        let S = F.written in
        imports_by (Ok x)
        (ap (λ (y : Imported). left w t f u (Ok y)) ex
        ∙ (λ k. record {
          answer = record {
            refusal = 0;
            records = written-place S.records F.records k;
            files = written-place S.files F.files k;
            warnings = written-place S.warnings F.warnings k;
            stats = S.stats k;
          };
          records = written-whole S.records F.records k;
          files = written-whole S.files F.files k;
          warnings = written-whole S.warnings F.warnings k;
          work = ew k;
        })
        ∙ sym (after_is i (import_all asked i) F.is))

-- ---- the entry points

module _ {i : Inputs} {w t f u : List ℕ} {x : Result Imported Refusal} where
  pub of_unit : {n : ℕ} → ImportsBy (Some n) i w t f u x → ImportsUnit i w t f u x
  unfolding after
  of_unit I = record { is = I.is; demand = I.demand }

  pub of_all : ImportsBy None i w t f u x → ImportsDwarf i w t f u x
  unfolding after_dwarf
  of_all I = record { is = I.is; demand = I.demand }
