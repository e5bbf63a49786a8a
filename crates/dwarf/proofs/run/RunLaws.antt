-- An import up to refusal 15: refusals 1 to 5, and the units that are asked for.
use mathlib.Core.Path.{◌≡◌, refl, sym, subst, ap, ◌∙◌}
use mathlib.Core.Bool.{Bool, true, false, cond, not}
use mathlib.Core.Logic.{inr}
use mathlib.Core.List.{List, [], ◌∷◌, ◌++◌}
use mathlib.Core.Option.{Option, none, some}
use Prim.Native.Nat.{ℕ, zero, suc, ◌+◌, ◌-◌, ◌*◌, ◌≤◌, ◌<◌}
use native.Mathlib.Omega.{arith}
use lib.ListN.{length, take, drop}
use lib.Seq.{take_all}
use Rattle.std.specs.Prelude.{Result, Ok, Err, Option as Maybe, Some, None}
use Rattle.tlv.specs.declared.refusal.Refusal.{Refusal}
use Rattle.tlv.specs.Refusals.{number_of}
use Rattle.tlv.proofs.AnswerLaws.{numbered}
use Rattle.tlv.specs.Outcome.{Outcome, refused, ◌>>=◌}
use Rattle.tlv.specs.Lists.{at}
use Rattle.tlv.specs.Limits.{joined_limit, work_of_program_byte}
use Rattle.tlv.specs.Grammar.{check_input}
use Rattle.tlv.specs.Model.{CompilationUnit, units}
use Rattle.tlv.specs.Checked.{Accepted}
use Rattle.buffers.specs.Buffer.{top, Put}
use Rattle.buffers.specs.Output.{FileEntry, files_bytes}
use Rattle.buffers.proofs.BufferLaws.{put_as}
use Rattle.buffers.proofs.TableLaws.{but_one}
use Rattle.files.specs.declared.store.StoredFiles.{StoredFiles}
use Rattle.files.specs.Store.{extent, entries_of, table_of, Empty}
use Rattle.files.proofs.GrownLaws.{entries-kept, files-kept}
use Rattle.imports.specs.Import.{State, import_units}
use Rattle.imports.specs.Answer as answer
use Rattle.imports.specs.Answer.{Inputs, is_bare, work_of_units, work_needed, initial_state, import_worked, import_chosen, checked, import_of, import_dwarf_of}
use Rattle.dies.specs.Details.{dwarf_with}
use Rattle.subprograms.specs.declared.model.ConversionStats.{ConversionStats}
use Rattle.subprograms.specs.declared.model.ImportState.{ImportState}
use Rattle.subprograms.specs.Stats.{stats_of}
use Rattle.subprograms.specs.Steps.{sheets, memory, Grows, state_of}
use Rattle.checks.specs.declared.layout.Layout.{Layout}
use Rattle.checks.specs.declared.options.Options.{Options}
use Rattle.checks.specs.Layout.{LaidOut}
use Rattle.checks.specs.Checks.{oversize_of, listed, chosen_units, ChecksBoth, missing_of, missing_unit, short_of, WorkEnough}
use Rattle.dwarf.specs.declared.run.Ran.{Ran}
use Rattle.dwarf.specs.declared.tables.Indexes.{Indexes}
use Rattle.std.specs.declared.ops.Range.{Range}
use Rattle.dwarf.specs.Tables.{IndexesInputs}
use Rattle.dwarf.specs.Units.{Ready}
use Rattle.dwarf.specs.Runs.{ordinal_of, import_all, Chooses, import_accepted, start_state, LengthsOf, Writes}

-- ---- an outcome that is another's, or a refusal

module _ {o : Outcome State} {t f u t' f' u' : List ℕ} where
  writes-refused : {e : Refusal} → o ≡ refused (number_of e) → Writes o t f u t' f' u' (Err e)
  writes-refused eo = record { is = eo }

  writes_as : {x : Outcome State} {r : Result Ran Refusal} → o ≡ x → Writes x t f u t' f' u' r → Writes o t f u t' f' u' r
  writes_as e W = rw e W

-- ---- which units

module _ (o : Options) (count : ℕ) where
  pub chooses-all : {r : Range ℕ} → o.ordinal ≡ None → r.start ≡ 0 → r.end ≡ count → Chooses o count r
  unfolding chosen_units
  chooses-all {r} e a b = record {
    order = omega arith;
    within = omega arith;
    is = λ us l. let z : r.end - r.start ≡ count = omega arith in rw (e, z, a) (take_all count us (omega arith));
  }

  module _ {n : ℕ} (one : o.ordinal ≡ Some n) where
    -- past the last there is none
    at-past : (us : List CompilationUnit) (k : ℕ) → length us ≤ k → at us k ≡ none
    unfolding at
    at-past [] k h = refl
    at-past (u ∷ us) zero h = absurd (omega arith)
    at-past (u ∷ us) (suc k) h = at-past us k (omega arith)

    at_one : (us : List CompilationUnit) (k : ℕ) → k < length us → take 1 (drop k us) ≡ listed (at us k)
    unfolding at
    at_one [] k h = absurd (omega arith)
    at_one (u ∷ us) zero h = refl
    at_one (u ∷ us) (suc k) h = at_one us k (omega arith)

    pub chooses_none : {r : Range ℕ} → count ≤ n → r.start ≡ 0 → r.end ≡ 0 → Chooses o count r
    unfolding chosen_units
    chooses_none {r} h a b = record {
      order = omega arith;
      within = omega arith;
      is = λ us l. let z : r.end - r.start ≡ 0 = omega arith in rw (one, z, at-past us n (omega arith));
    }

    pub chooses-one : {r : Range ℕ} → n < count → r.start ≡ n → r.end ≡ r.start + 1 → Chooses o count r
    unfolding chosen_units
    chooses-one {r} h a b = record {
      order = omega arith;
      within = omega arith;
      is = λ us l. let z : r.end - r.start ≡ 1 = omega arith in rw (one, z, a) (at_one us n (omega arith));
    }

-- ---- the import by its inputs

either_way : {A : Type 0} (b : Bool) (x y : A) → cond b x y ≡ cond (not b) y x
either_way true x y = refl
either_way false x y = refl

chosen_is : (i : Inputs) (n : ℕ) (x : Option CompilationUnit) → import_chosen i n x ≡ cond (missing_unit i.main i.ordinal x) (refused 4) (import_worked i n (listed x))
chosen_is i n none = either_way (is_bare i) (import_worked i n []) (refused 4)
chosen_is i n (some u) = refl

module _ (o : Options) (i : Inputs) (asked : i.ordinal ≡ ordinal_of o.ordinal) where
  pub by_tests : import_all o.ordinal i ≡ checked i (import_accepted o i)
  unfolding import_of import_dwarf_of missing_of chosen_units
  by_tests = go o.ordinal refl
    where
      go : (x : Maybe ℕ) → o.ordinal ≡ x → import_all x i ≡ checked i (import_accepted o i)
      go None e = rw e
      go (Some n) e = let same : i.ordinal ≡ n = asked ∙ ap ordinal_of e in rw (e, ← same) (λ k. checked i (λ m. chosen_is i m (at (units i.main) i.ordinal) k))

module _ (i : Inputs) (rest : ℕ → Outcome State) {b : Bool} (e : b ≡ oversize_of i.main i.supplementary i.program i.lists i.addresses) where
  abbrev fields_first : Outcome State
  fields_first = check_input (length i.program) i.main >>= λ m. check_input (length i.program) i.supplementary >>= λ s. rest (m + s)

  by_size : checked i rest ≡ cond b (refused 1) fields_first
  unfolding checked answer.oversize
  by_size = ap (λ (a : Bool). cond a (refused 1) fields_first) (sym e)

  checked-oversize : b ≡ true → checked i rest ≡ refused 1
  checked-oversize is = by_size ∙ ap (λ (a : Bool). cond a (refused 1) fields_first) is

  module _ (is : b ≡ false) where
    sized : checked i rest ≡ fields_first
    sized = by_size ∙ ap (λ (a : Bool). cond a (refused 1) fields_first) is

    checked_refused : {q : Refusal} → ChecksBoth i.main i.supplementary (length i.program) (Err q) → checked i rest ≡ refused (number_of q)
    checked_refused C = sized ∙ C.is (λ m s. rest (m + s))

    checked-accepted : {n : ℕ} → ChecksBoth i.main i.supplementary (length i.program) (Ok n) → checked i rest ≡ rest n
    unfolding ◌>>=◌
    checked-accepted C =
        let B = C.is in
        sized ∙ rw (B.main-accepted, B.supplementary-accepted, ← B.sum)

module _ (o : Options) (i : Inputs) (asked : i.ordinal ≡ ordinal_of o.ordinal) {t f u t' f' u' : List ℕ} {b : Bool}
    (e : b ≡ oversize_of i.main i.supplementary i.program i.lists i.addresses) where
  pub run-oversize : b ≡ true → Writes (import_all o.ordinal i) t f u t' f' u' (Err Refusal.Oversize)
  run-oversize is = writes-refused (by_tests o i asked ∙ checked-oversize i (import_accepted o i) e is)

  module _ (is : b ≡ false) where
    pub run-refused : {q : Refusal} → ChecksBoth i.main i.supplementary (length i.program) (Err q) → Writes (import_all o.ordinal i) t f u t' f' u' (Err q)
    run-refused C = writes-refused (by_tests o i asked ∙ checked_refused i (import_accepted o i) e is C)

    pub run-accepted : {n : ℕ} {r : Result Ran Refusal} → ChecksBoth i.main i.supplementary (length i.program) (Ok n) → Writes (import_accepted o i n) t f u t' f' u' r
        → Writes (import_all o.ordinal i) t f u t' f' u' r
    run-accepted C W = writes_as (by_tests o i asked ∙ checked-accepted i (import_accepted o i) e is C) W

-- ---- refusals 4 and 5

module _ (o : Options) (i : Inputs) (n : ℕ) {t f u t' f' u' : List ℕ} {a : Bool} (ea : a ≡ missing_of i.main o) where
  pub accepted-missing : a ≡ true → Writes (import_accepted o i n) t f u t' f' u' (Err Refusal.NoUnit)
  accepted-missing is = writes-refused (rw (sym ea ∙ is))

  module _ (there : a ≡ false) {most : ℕ} {b : Bool} (ee : most ≡ work_of_units (length i.program) (length i.lists) (chosen_units o (units i.main)))
      (eb : b ≡ short_of i.work n most) where
    pub accepted-short : b ≡ true → Writes (import_accepted o i n) t f u t' f' u' (Err Refusal.ShortWork)
    unfolding work_needed
    accepted-short is = writes-refused (rw (sym ea ∙ there, ← ee, sym eb ∙ is))

    pub accepted-long : {r : Result Ran Refusal} → b ≡ false
        → Writes (import_units (dwarf_with i.main i.supplementary i.lists i.addresses) (chosen_units o (units i.main)) i.program i.inlines i.call_sites (start_state i.first_file)) t f u t' f' u' r
        → Writes (import_accepted o i n) t f u t' f' u' r
    unfolding work_needed answer.dwarf_of initial_state
    accepted-long is W = writes_as (rw (sym ea ∙ there, ← ee, sym eb ∙ is)) W

-- ---- the units

module _ {main supplementary program lists : List ℕ} {l : Layout} {size most : ℕ} (A : Accepted main) (B : Accepted supplementary)
    (W : WorkEnough main supplementary size most) (least : work_of_program_byte * length program ≤ most) (L : LaidOut main supplementary program lists l) where
  pub files-room : l.files + (l.room * 45 + joined_limit) ≤ size
  files-room =
      let a = L.within A.number B.number A.is B.is in
      let b = W.long A.number B.number A.is B.is in
      let c = L.size_is in
      omega (arith, L.lines)

  pub tables-room : l.files ≤ size
  tables-room = omega (arith, files-room)

module _ {main supplementary program lists : List ℕ} {l : Layout} {first : ℕ} {w w₁ w₂ : List ℕ} {table : StoredFiles} {x : Indexes} {stats : ConversionStats}
    (L : LaidOut main supplementary program lists l) (E : Empty main supplementary w w₁ l.files l.room first 0 table)
    (X : IndexesInputs main supplementary program lists w₁ w₂ l x) (size : length w₂ ≡ length w₁)
    (none : stats ≡ record { functions = 0; line_rows = 0; inline_nodes = 0; rejected_ranges = 0 }) (fits : (0 ≤ top) × (0 ≤ top)) where
  abbrev begun : ImportState
  begun = record { table = table; at = 0; warned = 0; stats = stats; past = false; within = fits }

  below : table.base + extent table ≤ l.lines
  below = let a = E.base-is in let b = E.room-is in let c = L.lines in omega arith

  clear : 0 + l.files ≤ table.base
  clear = let a = E.base-is in omega arith

  pub ready-first : Ready main supplementary w₂ l begun
  ready-first = record {
    files = files-kept E.holds (but_one X.rest) (inr clear, tt) size;
    above = let a = clear in omega arith;
    below = below;
  }

  entries_none : entries_of main supplementary w₂ table ≡ []
  entries_none = entries-kept E.holds (but_one X.rest) (inr clear, tt) ∙ E.entries

  -- the definition's state before any unit
  started : start_state first ≡ state_of main supplementary w₂ begun [] []
  unfolding table_of
  started = λ k. record {
    table = record { first = sym E.first-is k; entries = sym entries_none k };
    records = [];
    warnings = [];
    stats = stats_of (sym none k);
  }

  module _ {o : Options} {count : ℕ} {c : Range ℕ} (K : Chooses o count c) (many : length (units main) ≡ count) (addresses : List ℕ) (inlines call_sites : Bool) where
    abbrev pub outcome : Outcome State
    outcome = import_units (dwarf_with main supplementary lists addresses) (chosen_units o (units main)) program inlines call_sites (start_state first)

    abbrev pub asked : State → Outcome State
    asked = import_units (dwarf_with main supplementary lists addresses) (take (c.end - c.start) (drop c.start (units main))) program inlines call_sites

    told : outcome ≡ asked (state_of main supplementary w₂ begun [] [])
    told = λ k. import_units (dwarf_with main supplementary lists addresses) (sym (K.is (units main) many) k) program inlines call_sites (started k)

    module _ {over : List (ℕ × ℕ)} {t f u w₃ t₃ f₃ u₃ : List ℕ} {st : ImportState} where
      pub units-refused : {e : Refusal} → Grows asked (sheets main supplementary) over (memory w₂ t f u) begun (memory w₃ t₃ f₃ u₃) (number_of e) st → Writes outcome t f u t₃ f₃ u₃ (Err e)
      units-refused {e} G = record { is = told ∙ G.no (numbered e) [] [] }

      pub writes-units : {r : Ran} → LengthsOf st r → Grows asked (sheets main supplementary) over (memory w₂ t f u) begun (memory w₃ t₃ f₃ u₃) 0 st → Writes outcome t f u t₃ f₃ u₃ (Ok r)
      unfolding table_of
      writes-units R G =
          let D = G.grown refl in
          record {
            is = record {
              state = state_of main supplementary w₃ st G.records G.new;
              is = told ∙ G.ok refl [] [];
              records = rw R.records (G.laid refl);
              past = R.past ∙ G.past refl;
              files = rw R.files (put_as (ap files_bytes (D.entries ∙ ap (λ (es : List FileEntry). es ++ D.new) entries_none))
                  (subst (λ (p : ℕ). Put p (files_bytes D.new) f f₃ st.table.written) E.written_is D.put));
              warnings = rw R.warnings (G.warned refl);
              stats = ap stats_of R.stats;
            };
          }
