-- Demand 3 whole: what an import leaves in the records tray agrees with the unit's entries.
use mathlib.Core.Path.{◌≡◌, refl, sym, ap, ◌∙◌}
use mathlib.Core.Bool.{Bool, true, false, cond, false≢true}
use mathlib.Core.List.{List, [], ◌∷◌, ◌++◌, append-nil, append_assoc}
use mathlib.Core.Option.{Option, none, some}
use mathlib.Core.Logic.{inl, inr}
use Prim.Native.Nat.{ℕ, ◌+◌}
use native.Mathlib.Omega.{arith}
use lib.ListN.{length, take, drop}
use lib.Dec.{ltb, eqb}
use borrow.Author.Tests.{eqb-true}
use lib.Seq.{take_at}
use Rattle.tlv.specs.Outcome.{Outcome, refused, done}
use Rattle.tlv.specs.Lists.{All, at, is_empty}
use Rattle.tlv.specs.Grammar.{check_input}
use Rattle.tlv.specs.Model.{CompilationUnit, units}
use Rattle.tlv.specs.Accepted.{Given, UnitAccepted}
use Rattle.tlv.proofs.TestLaws.{and_left, and_right}
use Rattle.tlv.proofs.ListLaws.{all-at}
use Rattle.tlv.proofs.OutcomeLaws.{done-is, refused-not, with_done}
use Rattle.tlv.proofs.AcceptedUnits.{accepting}
use Rattle.buffers.specs.Output.{Function}
use Rattle.buffers.specs.Reader.{read_records, read_files, read_warnings}
use Rattle.buffers.proofs.ReadBack.{records-back, files-back, warnings-back}
use Rattle.lines.proofs.RowLaws.{rows_agree}
use Rattle.machine.proofs.NumberLaws.{Refuses, number_of}
use Rattle.machine.proofs.UnitLines.{sorted-lines}
use Rattle.imports.specs.Import.{State, import_unit, import_units}
use Rattle.imports.specs.Answer.{Inputs, oversize, work_needed, initial_state, dwarf_of, import_worked, is_bare, import_chosen, checked, import_of}
use Rattle.imports.specs.Answer.{import_dwarf_of, Written, written, fitting, outcome_of, Answer, answer_of, buffer_after, afterwards, after, after_dwarf}
use Rattle.imports.specs.Sizes.{EarlyNumber}
use Rattle.imports.specs.Demand.{RefusalNumber, ChosenAgrees, UnitsAgree, Units, Lent, StateFits, Finished, Demand, DwarfDemand}
use Rattle.imports.proofs.Refusals.{refuses-import, refuses-dwarf, refuses-outcome}
use Rattle.imports.proofs.ImportBounds.{producing, dwarf-producing}
use Rattle.imports.proofs.WalkMachine.{walk-tree, walk-treeless}
use Rattle.imports.proofs.Records.{units-agree}

-- what the import of a unit adds answers for its subjects
pub each-unit : Units
each-unit = units-agree walk-tree walk-treeless rows_agree sorted-lines

-- ---- a finished import has checked the main sheet, and imported the unit that was asked for, or there is none

empty_is : (xs : List ℕ) → is_empty xs ≡ true → xs ≡ []
empty_is [] e = refl
empty_is (x ∷ xs) e = absurd (false≢true e)

-- a refusal is no import
not-refused : {A : Type 0} (b : Bool) (n : ℕ) {o : Outcome A} {a : A} → cond b (refused n) o ≡ done a → o ≡ done a
not-refused true n e = refused-not e
not-refused false n e = e

module _ (i : Inputs) (l : Lent i) where
  -- units one after another, from a state on
  of-units : (us : List CompilationUnit) (s t : State) → All UnitAccepted us
      → import_units (dwarf_of i) us i.program i.inlines i.call_sites s ≡ done t
      → (new : List Function) × (t.records ≡ s.records ++ new) × UnitsAgree (dwarf_of i) i.inlines us new
  unfolding import_units
  of-units [] s t h e = ([], ap (λ (x : State). x.records) (sym (done-is e)) ∙ sym (append-nil s.records), refl)
  of-units (u ∷ us) s t h e =
      with_done (import_unit (dwarf_of i) u i.program i.inlines i.call_sites s) _ e λ x ex ey.
      let a = each-unit (dwarf_of i) u i.program i.inlines i.call_sites s x h.0 ex in
      let b = of-units us x t h.1 ey in (
        a.new ++ b.0,
        b.1 ∙ ap (λ (rs : List Function). rs ++ b.0) a.added ∙ append_assoc s.records a.new b.0,
        (a.new, b.0, refl, a.agree, b.2),
      )

  module _ (s : State) where
    from-worked : (n : ℕ) (us : List CompilationUnit) → All UnitAccepted us → import_worked i n us ≡ done s
        → UnitsAgree (dwarf_of i) i.inlines us s.records
    unfolding initial_state
    from-worked n us h e =
        let x = of-units us (initial_state i) s h (not-refused (ltb (length i.work) (work_needed i n us)) 5 e) in
        rw x.1 x.2

    from-chosen : (n : ℕ) (o : Option CompilationUnit) → Given UnitAccepted o → import_chosen i n o ≡ done s → ChosenAgrees i o s.records
    from-chosen n none h = go (is_bare i) refl
      where
        go : (b : Bool) → is_bare i ≡ b → cond b (import_worked i n []) (refused 4) ≡ done s → ChosenAgrees i none s.records
        go true is q = (
          empty_is i.main (and_left (is_empty i.main) (eqb i.ordinal 0) is),
          eqb-true i.ordinal 0 (and_right (is_empty i.main) (eqb i.ordinal 0) is),
          from-worked n [] tt q,
        )
        go false is q = refused-not q
    from-chosen n (some u) h = λ e.
        let x = from-worked n (u ∷ []) (h, tt) e in
        let same : s.records ≡ x.0 = x.2 ∙ ap (λ (rs : List Function). x.0 ++ rs) x.4 ∙ append-nil x.0 in
        rw same x.3

    -- what was checked
    from-checked : (rest : ℕ → Outcome State) {P : Type 0} → checked i rest ≡ done s
        → ((n : ℕ) → All UnitAccepted (units i.main) → rest n ≡ done s → P) → P
    unfolding checked
    from-checked rest e f =
        let k = length i.program in
        with_done (check_input k i.main) _ (not-refused (oversize i) 1 e) λ m c e₁.
        with_done (check_input k i.supplementary) _ e₁ λ n _ e₂.
        f (m + n) (accepting i.main m l.main (record { program = k; passes = c })) e₂

    was-chosen : import_of i ≡ done s → ChosenAgrees i (at (units i.main) i.ordinal) s.records
    unfolding import_of
    was-chosen e = from-checked _ e λ n all q.
        from-chosen n (at (units i.main) i.ordinal) (all-at UnitAccepted (units i.main) i.ordinal all) q

    all-imported : import_dwarf_of i ≡ done s → UnitsAgree (dwarf_of i) i.inlines (units i.main) s.records
    unfolding import_dwarf_of
    all-imported e = from-checked _ e λ n all q. from-worked n (units i.main) all q

-- ---- what was written is what is read

fits-is : (i : Inputs) (w v : Written) → fitting i w ≡ done v → w ≡ v
unfolding fitting
fits-is i w v = go (ltb (length i.records) (length w.records)) (ltb (length i.files) (length w.files)) (ltb (length i.warnings) (length w.warnings))
  where
    go : (a b c : Bool) → cond a (refused 16) (cond b (refused 17) (cond c (refused 18) (done w))) ≡ done v → w ≡ v
    go true b c e = refused-not e
    go false true c e = refused-not e
    go false false true e = refused-not e
    go false false false e = done-is e

-- a tray begins with what was written to it, as long as the answer says
held : (part : Written → List ℕ) (size : Answer → ℕ) → ((w : Written) → size (answer_of (done w)) ≡ length (part w))
    → (buffer : List ℕ) (o : Outcome Written) (w : Written) → o ≡ done w → take (size (answer_of o)) (buffer_after part buffer o) ≡ part w
unfolding buffer_after
held part size sizes buffer o w e = rw (e, sizes w) (take_at (part w) (drop (length (part w)) buffer) (length (part w)) refl)

never-zero : (n : ℕ) → n ≡ 0 → RefusalNumber n → ⊥
never-zero n z (inl p) = omega (arith, p.0)
never-zero n z (inr p) = omega (arith, p.0)

-- a call whose import comes to o
module _ (i : Inputs) (o : Outcome State) (Agree : List Function → Type 0) (early : Refuses EarlyNumber o) where
  module _ (fits : (s : State) → o ≡ done s → StateFits s) (agrees : (s : State) → o ≡ done s → Agree s.records) where
    read : (s : State) → o ≡ done s → outcome_of i o ≡ done (written s) → Finished o Agree (afterwards i o)
    unfolding afterwards written answer_of
    read s q e =
        let f = fits s q in
        record {
          state = s;
          imported = q;
          records = ap read_records (held (λ w. w.records) (λ a. a.records) (λ w. refl) i.records (outcome_of i o) (written s) e)
              ∙ records-back s.records f.records;
          files = ap read_files (held (λ w. w.files) (λ a. a.files) (λ w. refl) i.files (outcome_of i o) (written s) e)
              ∙ files-back s.table.entries f.files;
          warnings = ap read_warnings (held (λ w. w.warnings) (λ a. a.warnings) (λ w. refl) i.warnings (outcome_of i o) (written s) e)
              ∙ warnings-back s.warnings f.warnings;
          agree = agrees s q;
        }

    by-outcome : (x : Outcome Written) → outcome_of i o ≡ x → (answer_of x).refusal ≡ 0 → Finished o Agree (afterwards i o)
    unfolding answer_of outcome_of
    by-outcome (refused n) e z = absurd (never-zero n z (number_of (refuses-outcome i o early) e))
    by-outcome (done w) e z = with_done o (λ s. fitting i (written s)) e λ s q r. read s q (e ∙ sym (ap done (fits-is i (written s) w r)))

    finished : (afterwards i o).answer.refusal ≡ 0 → Finished o Agree (afterwards i o)
    unfolding afterwards
    finished z = by-outcome (outcome_of i o) refl z

pub demand : Demand
unfolding after
demand i l = finished i (import_of i) (ChosenAgrees i (at (units i.main) i.ordinal)) (refuses-import i) (λ s. producing i s l) (was-chosen i l)

-- the same of all units
pub dwarf-demand : DwarfDemand
unfolding after_dwarf
dwarf-demand i l =
    finished i (import_dwarf_of i) (UnitsAgree (dwarf_of i) i.inlines (units i.main)) (refuses-dwarf i) (λ s. dwarf-producing i s l) (all-imported i l)
