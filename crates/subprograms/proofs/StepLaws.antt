-- Steps of an import one after the other.
use mathlib.Core.Path.{◌≡◌, refl, sym, ap, ◌∙◌}
use mathlib.Core.Bool.{◌||◌}
use mathlib.Core.List.{List, [], ◌++◌, append-nil, append_assoc}
use Prim.Native.Nat.{ℕ, ◌≤◌, ◌<◌}
use lib.ListN.{length}
use Rattle.std.specs.Prelude.{Result, Ok, Err}
use Rattle.tlv.specs.declared.refusal.Refusal.{Refusal}
use Rattle.tlv.specs.Refusals.{status_of}
use Rattle.tlv.proofs.AnswerLaws.{numbered}
use Rattle.tlv.specs.Outcome.{Outcome, refused, done, ◌>>=◌}
use Rattle.buffers.specs.Buffer.{top, Put}
use Rattle.buffers.specs.Table.{KeptBut}
use Rattle.buffers.specs.Output.{Function, Warning, each_of, function_bytes, records_bytes, warnings_bytes}
use Rattle.buffers.proofs.BufferLaws.{◌then◌, put-none, put_as}
use Rattle.buffers.proofs.TableLaws.{but_refl, but_trans}
use Rattle.lines.specs.Files.{FileTable}
use Rattle.files.specs.Store.{entries_of, table_of, FilesIn, Grown}
use Rattle.files.proofs.GrownLaws.{grown-none, grown-trans}
use Rattle.imports.specs.Import.{State, rejected}
use Rattle.dies.specs.Answers.{value_or}
use Rattle.dies.specs.Past.{is_past}
use Rattle.dies.proofs.PastLaws.{past_same}
use Rattle.dies.proofs.NodeStepLaws.{each_append, warnings-append}
use Rattle.subprograms.specs.declared.model.ImportState.{ImportState}
use Rattle.subprograms.specs.declared.model.ImportContext.{ImportContext}
use Rattle.subprograms.specs.Contexts.{ContextIn, touched}
use Rattle.subprograms.specs.Steps.{sheets, memory, Grows, Imports, Rejects, state_of}
use Rattle.subprograms.proofs.ContextLaws.{context-kept, touched-as}
use Rattle.subprograms.proofs.LaidPastLaws.{past-both}

pub records-append : (xs ys : List Function) → records_bytes (xs ++ ys) ≡ records_bytes xs ++ records_bytes ys
unfolding records_bytes
records-append xs ys = each_append function_bytes xs ys

pub no-records : records_bytes [] ≡ []
unfolding records_bytes each_of
no-records = refl

pub no-warnings : warnings_bytes [] ≡ []
unfolding warnings_bytes each_of
no-warnings = refl

module _ {main supplementary : List ℕ} {over : List (ℕ × ℕ)} where
  -- nothing is done, but for what may be written over in the work slice
  pub grows_beside : {w w' t f u : List ℕ} {st : ImportState} → KeptBut w w' over
      → table_of main supplementary w' st.table ≡ table_of main supplementary w st.table → FilesIn main supplementary w' st.table
      → length t < top → length f < top → length u < top
      → Grows done (sheets main supplementary) over (memory w t f u) st (memory w' t f u) 0 st
  unfolding table_of
  grows_beside {w} {w'} {t} {f} {u} {st} K same F t-small f-small u-small = record {
    records = [];
    new = [];
    laid = λ e. put_as no-records (put-none st.within.0 t-small);
    past = λ e. past_same st.past st.at st.within.0 ∙ ap (λ (l : List ℕ). st.past || is_past st.at (length l)) (sym no-records);
    warned = λ e. put_as no-warnings (put-none st.within.1 u-small);
    grown = λ e. grown;
    kept = λ e. K;
    ok = λ e rs ws. rw (same, append-nil rs, append-nil ws);
    no = λ n. absurd (n refl);
  }
    where
      entries-same : entries_of main supplementary w' st.table ≡ entries_of main supplementary w st.table
      entries-same = ap (λ (x : FileTable). x.entries) same

      grown : Grown main supplementary w w' f f st.table st.table
      grown = let G : Grown main supplementary w' w' f f st.table st.table = grown-none F f-small in record {
        new = G.new;
        entries = G.entries ∙ ap (λ es. es ++ G.new) entries-same;
        holds = F;
        put = G.put;
        base = refl;
        room = refl;
        first = refl;
      }

  -- nothing at all
  pub grows_none : {w t f u : List ℕ} {st : ImportState} → FilesIn main supplementary w st.table
      → length t < top → length f < top → length u < top → Grows done (sheets main supplementary) over (memory w t f u) st (memory w t f u) 0 st
  grows_none {w} F = grows_beside (but_refl w over) refl F

  -- one step, which was done, and then another
  pub grows_then : {F G : State → Outcome State} {w t f u w₁ t₁ f₁ u₁ w₂ t₂ f₂ u₂ : List ℕ} {st st₁ st₂ : ImportState} {n m : ℕ} → n ≡ 0
      → Grows F (sheets main supplementary) over (memory w t f u) st (memory w₁ t₁ f₁ u₁) n st₁ → Grows G (sheets main supplementary) over (memory w₁ t₁ f₁ u₁) st₁ (memory w₂ t₂ f₂ u₂) m st₂
      → Grows (λ s. F s >>= G) (sheets main supplementary) over (memory w t f u) st (memory w₂ t₂ f₂ u₂) m st₂
  unfolding ◌>>=◌
  grows_then {F} {G} {w = w} {w₁ = w₁} {st = st} {st₁ = st₁} z A B = record {
    records = A.records ++ B.records;
    new = A.new ++ B.new;
    laid = λ e. put_as (records-append A.records B.records) (A.laid z then B.laid e);
    past = λ e. past-both (A.laid z) st.past (records_bytes B.records) (A.past z) (B.past e)
        ∙ ap (λ (n : List ℕ). st.past || is_past st.at (length n)) (sym (records-append A.records B.records));
    warned = λ e. put_as (warnings-append A.new B.new) (A.warned z then B.warned e);
    grown = λ e. grown-trans (A.grown z) (B.grown e);
    kept = λ e. but_trans (A.kept z) (B.kept e);
    ok = λ e rs ws. first rs ws ∙ B.ok e (rs ++ A.records) (ws ++ A.new) ∙ rw (append_assoc rs A.records B.records, append_assoc ws A.new B.new);
    no = λ n rs ws. first rs ws ∙ B.no n (rs ++ A.records) (ws ++ A.new);
  }
    where
      first : (rs : List Function) (ws : List Warning) → (F (state_of main supplementary w st rs ws) >>= G) ≡ G (state_of main supplementary w₁ st₁ (rs ++ A.records) (ws ++ A.new))
      first rs ws = ap (λ (o : Outcome State). o >>= G) (A.ok z rs ws)

  -- a step that is refused at once
  pub grows_no : {F : State → Outcome State} {w t f u w₁ t₁ f₁ u₁ : List ℕ} {st st₁ : ImportState} {n : ℕ} → (n ≡ 0 → ⊥)
      → ((rs : List Function) (ws : List Warning) → F (state_of main supplementary w st rs ws) ≡ refused n)
      → Grows F (sheets main supplementary) over (memory w t f u) st (memory w₁ t₁ f₁ u₁) n st₁
  grows_no n refuses = record {
    records = [];
    new = [];
    laid = λ e. absurd (n e);
    past = λ e. absurd (n e);
    warned = λ e. absurd (n e);
    grown = λ e. absurd (n e);
    kept = λ e. absurd (n e);
    ok = λ e. absurd (n e);
    no = λ e. refuses;
  }

  -- a step that was refused, whatever was to follow
  pub grows-refused : {F : State → Outcome State} (G : State → Outcome State) {w t f u w₁ t₁ f₁ u₁ : List ℕ} {st st₁ : ImportState} {n : ℕ} → (n ≡ 0 → ⊥)
      → Grows F (sheets main supplementary) over (memory w t f u) st (memory w₁ t₁ f₁ u₁) n st₁ → Grows (λ s. F s >>= G) (sheets main supplementary) over (memory w t f u) st (memory w₁ t₁ f₁ u₁) n st₁
  unfolding ◌>>=◌
  grows-refused G n A = record {
    records = A.records;
    new = A.new;
    laid = A.laid;
    past = A.past;
    warned = A.warned;
    grown = A.grown;
    kept = A.kept;
    ok = λ e. absurd (n e);
    no = λ m rs ws. ap (λ (o : Outcome State). o >>= G) (A.no m rs ws);
  }

  -- the same step, told otherwise
  pub grows_as : {F G : State → Outcome State} {w t f u w₁ t₁ f₁ u₁ : List ℕ} {st st₁ : ImportState} {n : ℕ} → ((s : State) → G s ≡ F s)
      → Grows F (sheets main supplementary) over (memory w t f u) st (memory w₁ t₁ f₁ u₁) n st₁ → Grows G (sheets main supplementary) over (memory w t f u) st (memory w₁ t₁ f₁ u₁) n st₁
  grows_as {w = w} {st = st} same A = record {
    records = A.records;
    new = A.new;
    laid = A.laid;
    past = A.past;
    warned = A.warned;
    grown = A.grown;
    kept = A.kept;
    ok = λ e rs ws. same (state_of main supplementary w st rs ws) ∙ A.ok e rs ws;
    no = λ n rs ws. same (state_of main supplementary w st rs ws) ∙ A.no n rs ws;
  }

  -- the same step, whatever else it may write to
  pub grows_over : {F : State → Outcome State} {wider : List (ℕ × ℕ)} {w t f u w₁ t₁ f₁ u₁ : List ℕ} {st st₁ : ImportState} {n : ℕ}
      → (KeptBut w w₁ over → KeptBut w w₁ wider)
      → Grows F (sheets main supplementary) over (memory w t f u) st (memory w₁ t₁ f₁ u₁) n st₁ → Grows F (sheets main supplementary) wider (memory w t f u) st (memory w₁ t₁ f₁ u₁) n st₁
  grows_over widen A = record {
    records = A.records;
    new = A.new;
    laid = A.laid;
    past = A.past;
    warned = A.warned;
    grown = A.grown;
    kept = λ e. widen (A.kept e);
    ok = A.ok;
    no = A.no;
  }

  -- of a refused state nothing is promised
  pub refused_as : {F : State → Outcome State} {w t f u w₁ t₁ f₁ u₁ : List ℕ} {st st₁ st₂ : ImportState} {n : ℕ} → (n ≡ 0 → ⊥)
      → Grows F (sheets main supplementary) over (memory w t f u) st (memory w₁ t₁ f₁ u₁) n st₁ → Grows F (sheets main supplementary) over (memory w t f u) st (memory w₁ t₁ f₁ u₁) n st₂
  refused_as h A = grows_no h (A.no h)

  pub grows-any : {F : State → Outcome State} {w t f u w₁ t₁ f₁ u₁ : List ℕ} {st : ImportState} (st₁ st₂ : ImportState) (r : Result ImportState Refusal)
      → Grows F (sheets main supplementary) over (memory w t f u) st (memory w₁ t₁ f₁ u₁) (status_of r) (value_or st₁ r) → Grows F (sheets main supplementary) over (memory w t f u) st (memory w₁ t₁ f₁ u₁) (status_of r) (value_or st₂ r)
  grows-any st₁ st₂ (Ok x) A = A
  grows-any st₁ st₂ (Err e) A = refused_as (numbered e) A

-- ---- those that write to nothing but what an import of ranges does

module _ {main supplementary : List ℕ} where
  pub imports_then : (q : ImportContext) {F G : State → Outcome State} {w t f u w₁ t₁ f₁ u₁ w₂ t₂ f₂ u₂ : List ℕ} {st st₁ st₂ : ImportState} {n m : ℕ} → n ≡ 0
      → Imports F (sheets main supplementary) q (memory w t f u) st (memory w₁ t₁ f₁ u₁) n st₁ → Imports G (sheets main supplementary) q (memory w₁ t₁ f₁ u₁) st₁ (memory w₂ t₂ f₂ u₂) m st₂
      → Imports (λ s. F s >>= G) (sheets main supplementary) q (memory w t f u) st (memory w₂ t₂ f₂ u₂) m st₂
  imports_then q {st = st} {st₁ = st₁} z A B =
      grows_then z A (grows_over (touched-as main supplementary q st.table st₁.table (A.grown z).base (A.grown z).room) B)

-- a range was rejected when its warning was laid
pub rejects-from : {st r : ImportState} {x warned : ℕ} {fits : (st.at ≤ top) × (x ≤ top)}
    → Rejects (record { table = st.table; at = st.at; warned = x; stats = st.stats; past = st.past; within = fits }) warned r → Rejects st warned r
rejects-from R = record { table = R.table; at = R.at; warned-is = R.warned-is; past = R.past; counted = R.counted }

module _ {main supplementary : List ℕ} {q : ImportContext} where
  -- a range was rejected, with warnings that were laid
  pub imports-rejected : (ws : List Warning) {w t f u u' : List ℕ} {st r : ImportState} {warned : ℕ} → ContextIn main supplementary w q st.table
      → length t < top → length f < top
      → Put st.warned (warnings_bytes ws) u u' warned → Rejects st warned r
      → Imports (λ s. done (rejected ws s)) (sheets main supplementary) q (memory w t f u) st (memory w t f u') 0 r
  unfolding rejected
  imports-rejected ws {w} {t} {f} {u} {u'} {st} {r} C t-small f-small W R = record {
    records = [];
    new = ws;
    laid = λ e. rw R.at (put_as no-records (put-none st.within.0 t-small));
    past = λ e. R.past ∙ past_same st.past st.at st.within.0 ∙ ap (λ (l : List ℕ). st.past || is_past st.at (length l)) (sym no-records);
    warned = λ e. rw R.warned-is W;
    grown = λ e. rw R.table (grown-none C.files f-small);
    kept = λ e. but_refl w (touched main supplementary q st.table);
    ok = λ e rs vs. rw (R.table, R.counted, append-nil rs);
    no = λ n. absurd (n refl);
  }

  -- after it the tables stand for the next
  pub imports-context : {F : State → Outcome State} {w t f u w₁ t₁ f₁ u₁ : List ℕ} {st st₁ : ImportState} {n : ℕ} → length w₁ ≡ length w → n ≡ 0
      → ContextIn main supplementary w q st.table → Imports F (sheets main supplementary) q (memory w t f u) st (memory w₁ t₁ f₁ u₁) n st₁ → ContextIn main supplementary w₁ q st₁.table
  imports-context size z C A = let G = A.grown z in context-kept C (A.kept z) size G.base G.room G.holds
