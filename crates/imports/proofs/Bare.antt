-- A package without debug data: what the import and the pass answer (`AllBare`).
use mathlib.Core.Path.{◌≡◌, refl, sym, ap, ◌∙◌}
use mathlib.Core.Bool.{Bool, true, cond, ◌&&◌}
use mathlib.Core.List.{[]}
use mathlib.Core.Option.{none}
use Prim.Native.Nat.{ℕ, ◌+◌, ◌-◌}
use native.Mathlib.Omega.{arith}
use lib.ListN.{length, replicate}
use lib.Dec.{ltb, eqb}
use borrow.Author.Tests.{le-ltb, lt-ltb, ne_eqb}
use Rattle.tlv.specs.Outcome.{Outcome, refused, done, ◌>>=◌}
use Rattle.tlv.specs.Lists.{at, is_empty}
use Rattle.tlv.specs.Limits.{work_besides}
use Rattle.tlv.specs.Fields.{grouped, fields_from, whole_fields}
use Rattle.tlv.specs.Grammar.{check_from, check_input}
use Rattle.tlv.specs.Model.{units}
use Rattle.buffers.specs.Output.{each_of, records_bytes, files_bytes, warnings_bytes}
use Rattle.imports.specs.Import.{State, import_units}
use Rattle.imports.specs.Answer.{Inputs, oversize, work_of_units, work_needed, initial_state, import_worked, is_bare, import_chosen, checked, import_of}
use Rattle.imports.specs.Answer.{import_dwarf_of, Written, written, fitting, outcome_of, answer_of, buffer_after, afterwards, after, after_dwarf}
use Rattle.imports.specs.Sizes.{measured, measuring, measure, measure_dwarf}
use Rattle.imports.specs.Bare.{nothing_done, untouched, Tested, AllBare}
use Rattle.imports.specs.Joined.{NoUnits}

-- an empty sheet is accepted, and has no unit
none-checked : (l : ℕ) → check_input l [] ≡ done 0
unfolding check_input fields_from check_from
none-checked l = refl

no-units : units [] ≡ []
unfolding units grouped whole_fields fields_from
no-units = refl

no-unit : (k : ℕ) → at (units []) k ≡ none
unfolding units grouped whole_fields fields_from at
no-unit k = refl

sum : (n : ℕ) → 0 + n ≡ n
sum n = omega arith

module _ (i : Inputs) (e : i.main ≡ []) where
  abbrev supplementary_checked : Outcome ℕ
  supplementary_checked = check_input (length i.program) i.supplementary

  -- what is left of an import: the sizes, the supplementary sheet, then what follows with no unit
  checked-is : (rest : ℕ → Outcome State) → checked i rest ≡ cond (oversize i) (refused 1) (supplementary_checked >>= rest)
  unfolding checked ◌>>=◌
  checked-is rest =
      let l = length i.program in
      (λ k. cond (oversize i) (refused 1) (check_input l (e k) >>= λ m. supplementary_checked >>= λ s. rest (m + s)))
      ∙ (λ k. cond (oversize i) (refused 1) (none-checked l k >>= λ m. supplementary_checked >>= λ s. rest (m + s)))
      ∙ (λ k. cond (oversize i) (refused 1) (supplementary_checked >>= λ s. rest (sum s k)))

  import_is : import_of i ≡ cond (oversize i) (refused 1) (supplementary_checked >>= λ n. import_chosen i n none)
  unfolding import_of
  import_is =
      (λ k. checked i (λ n. import_chosen i n (at (units (e k)) i.ordinal))) ∙ (λ k. checked i (λ n. import_chosen i n (no-unit i.ordinal k)))
      ∙ checked-is (λ n. import_chosen i n none)

  -- an import that is refused
  refused-is : {n : ℕ} → import_of i ≡ refused n → (after i).answer.refusal ≡ n
  unfolding after afterwards answer_of outcome_of ◌>>=◌
  refused-is q = ap (λ (o : Outcome State). (answer_of (o >>= λ s. fitting i (written s))).refusal) q

  module _ (n : ℕ) (T : Tested i n) where
    chosen_none : import_of i ≡ import_chosen i n none
    unfolding ◌>>=◌
    chosen_none = import_is ∙ (λ k. cond (T.sizes k) (refused 1) (T.supplementary k >>= λ s. import_chosen i s none))

    by_bare : {b : Bool} → is_bare i ≡ b → import_of i ≡ cond b (import_worked i n []) (refused 4)
    by_bare q = chosen_none ∙ ap (λ (x : Bool). cond x (import_worked i n []) (refused 4)) q

    by_work : {b : Bool} → i.ordinal ≡ 0 → ltb (length i.work) (work_needed i n []) ≡ b → import_of i ≡ cond b (refused 5) (done (initial_state i))
    unfolding import_units
    by_work z q = by_bare (λ k. is_empty (e k) && eqb (z k) 0) ∙ ap (λ (x : Bool). cond x (refused 5) (done (initial_state i))) q

  abbrev none_written : Written
  none_written = record { records = []; files = []; warnings = []; stats = (initial_state i).stats }

  written_none : written (initial_state i) ≡ none_written
  unfolding written initial_state records_bytes files_bytes warnings_bytes each_of
  written_none = refl

  fits-none : fitting i none_written ≡ done none_written
  unfolding fitting
  fits-none = rw (le-ltb (length i.records) 0 (omega arith), le-ltb (length i.files) 0 (omega arith), le-ltb (length i.warnings) 0 (omega arith))

  module _ (q : import_of i ≡ done (initial_state i)) where
    outcome-none : outcome_of i (import_of i) ≡ done none_written
    unfolding outcome_of ◌>>=◌
    outcome-none = ap (λ (o : Outcome State). o >>= λ s. fitting i (written s)) q ∙ ap (fitting i) written_none ∙ fits-none

    after_none : after i ≡ untouched i
    unfolding after afterwards answer_of buffer_after initial_state
    after_none = ap (λ (o : Outcome Written). record {
      answer = answer_of o;
      records = buffer_after (λ w. w.records) i.records o;
      files = buffer_after (λ w. w.files) i.files o;
      warnings = buffer_after (λ w. w.warnings) i.warnings o;
      work = (untouched i).work;
    }) outcome-none

    sizes-none : (measure i).answer ≡ nothing_done
    unfolding measure measuring measured written initial_state records_bytes files_bytes warnings_bytes each_of
    sizes-none = ap measured q

pub all-bare : AllBare
unfolding ◌>>=◌
all-bare i e = record {
  bare = λ n T z h. let q = by_work i e n T z (le-ltb (length i.work) (work_needed i n []) h) in (after_none i e q, sizes-none i e q);
  sizes = λ o. refused-is i e (import_is i e ∙ λ k. cond (o k) (refused 1) (supplementary_checked i e >>= λ n. import_chosen i n none));
  supplementary = λ k o c. refused-is i e (import_is i e ∙ λ x. cond (o x) (refused 1) (c x >>= λ n. import_chosen i n none));
  work = λ n T z h. refused-is i e (by_work i e n T z (lt-ltb (length i.work) (work_needed i n []) h));
  other = λ n T h. refused-is i e (by_bare i e n T (λ k. is_empty (e k) && ne_eqb i.ordinal 0 h k));
}

-- ---- the import of all units of an empty main sheet

module _ (i : Inputs) (e : i.main ≡ []) (z : i.ordinal ≡ 0) where
  same-import : import_dwarf_of i ≡ import_of i
  unfolding import_of import_dwarf_of
  same-import =
      (λ k. checked i (λ n. import_worked i n (units (e k)))) ∙ (λ k. checked i (λ n. import_worked i n (no-units k)))
      ∙ sym ((λ k. checked i (λ n. import_chosen i n (at (units (e k)) i.ordinal))) ∙ (λ k. checked i (λ n. import_chosen i n (no-unit i.ordinal k)))
      ∙ (λ k. checked i (λ n. cond (is_empty (e k) && eqb (z k) 0) (import_worked i n []) (refused 4))))

pub no-units-imported : NoUnits
unfolding after after_dwarf measure measure_dwarf
no-units-imported i e z = (ap (afterwards i) (same-import i e z), ap (measuring i) (same-import i e z))

-- ---- computed, of calls without any input: the ordinal, the work length, the refusal

abbrev refusal_of : ℕ → ℕ → ℕ
refusal_of ordinal work = (after (record {
  main = [];
  supplementary = [];
  program = [];
  lists = [];
  addresses = [];
  ordinal = ordinal;
  inlines = true;
  call_sites = true;
  first_file = 1;
  work = replicate work 0;
  records = [];
  files = [];
  warnings = [];
})).answer.refusal

example_bare : (refusal_of 0 work_besides ≡ 0) × (refusal_of 0 (work_besides - 1) ≡ 5) × (refusal_of 1 work_besides ≡ 4) × (refusal_of 1 0 ≡ 4)
unfolding check_input fields_from check_from units grouped whole_fields at ◌>>=◌ oversize work_of_units work_needed initial_state
    import_units checked import_of written records_bytes files_bytes warnings_bytes each_of fitting outcome_of answer_of afterwards after
example_bare = (refl, refl, refl, refl)
