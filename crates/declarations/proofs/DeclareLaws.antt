-- How a search for a declaration is put together: it ends here, goes on after other work, or one search follows another.
use mathlib.Core.Path.{◌≡◌, refl, sym, ap, ◌∙◌}
use mathlib.Core.Bool.{cond, true, false, true≢false, false≢true}
use mathlib.Core.List.{List, [], ◌∷◌, ◌++◌, append-nil, append_assoc}
use mathlib.Core.Option.{Option, none}
use Prim.Native.Nat.{ℕ, ◌+◌, ◌≤◌, ◌<◌}
use native.Mathlib.Omega.{arith}
use lib.ListN.{length}
use Rattle.std.specs.Prelude.{Some, None, Result, Ok, Err, is_some}
use Rattle.std.specs.declared.option.Option.{Option as Given}
use Rattle.tlv.specs.declared.model.LineEntry.{LineEntry}
use Rattle.tlv.specs.declared.refusal.Refusal.{Refusal}
use Rattle.tlv.specs.Refusals.{number_of}
use Rattle.tlv.specs.Outcome.{refused, done}
use Rattle.tlv.specs.Lists.{is_none}
use Rattle.tlv.specs.Fields.{encode}
use Rattle.buffers.specs.Buffer.{top}
use Rattle.buffers.specs.Table.{KeptBut}
use Rattle.buffers.specs.Output.{Warning, warning_payload, each_of, warnings_bytes}
use Rattle.buffers.proofs.BufferLaws.{◌then◌, put-none, put_as}
use Rattle.buffers.proofs.TableLaws.{but_refl, but_trans}
use Rattle.files.proofs.GrownLaws.{grown-none, grown-trans}
use Rattle.references.specs.Search.{Declaring}
use Rattle.references.specs.Reads.{Counted, after, ◌>>>◌}
use Rattle.declarations.specs.declared.declaring.Places.{Places}
use Rattle.declarations.specs.declared.declaring.DeclaringState.{DeclaringState}
use Rattle.declarations.specs.declared.declaring.Declaration.{Declaration}
use Rattle.declarations.specs.declared.declaring.Declared.{Declared}
use Rattle.declarations.specs.Declarations.{found_in, none_found, declaring_at, DeclaringIn, DeclaredState, searched, DeclaresCounted}

abbrev Search : Type 0
Search = Declaring → Counted Declaring

pub warnings-append : (a b : List Warning) → warnings_bytes (a ++ b) ≡ warnings_bytes a ++ warnings_bytes b
unfolding warnings_bytes each_of
warnings-append [] b = refl
warnings-append (x ∷ a) b = rw (warnings-append a b) (sym (append_assoc (encode 0x46 (warning_payload x)) (warnings_bytes a) (warnings_bytes b)))

-- ---- a search ends where it stands

module _ {main supplementary w files warnings : List ℕ} {d : Places} {st : DeclaringState} (D : DeclaringIn main supplementary w d st) (few : length files < top) (short : length warnings < top) where
  pub state-none : DeclaredState main supplementary w w files files warnings warnings d st st []
  unfolding warnings_bytes each_of
  state-none = record { grown = grown-none D.files few; put = put-none D.warned short; ready = D }

  pub declares-here : (found : Given Declaration) {f : Search} {a : ℕ} → a ≤ st.trail.count + 1
      → ((k : ℕ) (ws : List Warning) → f (declaring_at main supplementary w d st ws k) ≡ record { reads = k; outcome = done (found_in found (declaring_at main supplementary w d st ws k)) })
      → DeclaresCounted f main supplementary w w files files warnings warnings d st a a (Ok (record { state = st; found = found }))
  declares-here found read e = record { reads = λ k. k; adds = λ k. refl; few = read; new = []; is = λ k ws. rw (append-nil ws) (e k ws); after = state-none; rest = but_refl _ _ }

pub declares-refused : {f : Search} {main supplementary w w' files files' warnings warnings' : List ℕ} {d : Places} {st : DeclaringState} {a b : ℕ} (n : Refusal)
    (reads : ℕ → ℕ) → ((k : ℕ) → reads k + a ≡ k + b)
    → ((k : ℕ) (ws : List Warning) → f (declaring_at main supplementary w d st ws k) ≡ record { reads = reads k; outcome = refused (number_of n) }) → KeptBut w w' (searched main supplementary d st.table)
    → DeclaresCounted f main supplementary w w' files files' warnings warnings' d st a b (Err n)
declares-refused n reads adds e K = record { reads = reads; adds = adds; few = tt; new = []; is = e; after = tt; rest = K }

-- ---- a search as another

pub declares-as : {f g : Search} {main supplementary w w' files files' warnings warnings' : List ℕ} {d : Places} {st : DeclaringState} {a b : ℕ} (r : Result Declared Refusal)
    → ((k : ℕ) (ws : List Warning) → f (declaring_at main supplementary w d st ws k) ≡ g (declaring_at main supplementary w d st ws k))
    → DeclaresCounted g main supplementary w w' files files' warnings warnings' d st a b r → DeclaresCounted f main supplementary w w' files files' warnings warnings' d st a b r
declares-as (Err n) e G = record { reads = G.reads; adds = G.adds; few = G.few; new = G.new; is = λ k ws. e k ws ∙ G.is k ws; after = G.after; rest = G.rest }
declares-as (Ok r) e G = record { reads = G.reads; adds = G.adds; few = G.few; new = G.new; is = λ k ws. e k ws ∙ G.is k ws; after = G.after; rest = G.rest }

-- ---- a search after other work

both-add : (a a₁ b : ℕ) (reads more : ℕ → ℕ) → ((k : ℕ) → reads k + a ≡ k + a₁) → ((k : ℕ) → more k + a₁ ≡ k + b) → (k : ℕ) → more (reads k) + a ≡ k + b
both-add a a₁ b reads more adds h k = let p = h (reads k) in let q = adds k in omega arith

module _ {main supplementary w w₁ files files₁ warnings warnings₁ : List ℕ} {d : Places} {st st₁ : DeclaringState} {new : List Warning}
    (A : DeclaredState main supplementary w w₁ files files₁ warnings warnings₁ d st st₁ new) (K : KeptBut w w₁ (searched main supplementary d st.table)) where
  state-trans : {w₂ files₂ warnings₂ : List ℕ} {st₂ : DeclaringState} {more : List Warning} → DeclaredState main supplementary w₁ w₂ files₁ files₂ warnings₁ warnings₂ d st₁ st₂ more
      → DeclaredState main supplementary w w₂ files files₂ warnings warnings₂ d st st₂ (new ++ more)
  state-trans {more = more} B = record { grown = grown-trans A.grown B.grown; put = put_as (warnings-append new more) (A.put then B.put); ready = B.ready }

  rest-trans : {w₂ : List ℕ} → KeptBut w₁ w₂ (searched main supplementary d st₁.table) → KeptBut w w₂ (searched main supplementary d st.table)
  rest-trans R = but_trans K (rw (A.grown.base, A.grown.room) at R)

  module _ {f g : Search} {w₂ files₂ warnings₂ : List ℕ} {a a₁ b : ℕ} (reads : ℕ → ℕ) (adds : (k : ℕ) → reads k + a ≡ k + a₁)
      (e : (k : ℕ) (ws : List Warning) → f (declaring_at main supplementary w d st ws k) ≡ g (declaring_at main supplementary w₁ d st₁ (ws ++ new) (reads k))) where
    pub declares-after : (r : Result Declared Refusal) → DeclaresCounted g main supplementary w₁ w₂ files₁ files₂ warnings₁ warnings₂ d st₁ a₁ b r
        → DeclaresCounted f main supplementary w w₂ files files₂ warnings warnings₂ d st a b r
    declares-after (Err n) G = record {
      reads = λ k. G.reads (reads k);
      adds = both-add a a₁ b reads G.reads adds G.adds;
      few = tt;
      new = new ++ G.new;
      is = λ k ws. e k ws ∙ G.is (reads k) (ws ++ new);
      after = tt;
      rest = rest-trans G.rest;
    }
    declares-after (Ok r) G = record {
      reads = λ k. G.reads (reads k);
      adds = both-add a a₁ b reads G.reads adds G.adds;
      few = G.few;
      new = new ++ G.new;
      is = λ k ws. rw (← append_assoc ws new G.new) (e k ws ∙ G.is (reads k) (ws ++ new));
      after = state-trans G.after;
      rest = rest-trans G.rest;
    }

-- ---- one search, then another where it found nothing

abbrev pub and_then : Search → Search → Search
and_then f g x = f x >>> λ r. cond (is_none r.found) (g r) (after r.trail (done r))

-- a search that found something, or is refused
abbrev pub Stops : Result Declared Refusal → Type 0
Stops (Ok r) = is_some r.found ≡ true
Stops (Err e) = Unit

there-is : (o : Given Declaration) → is_some o ≡ true → (l : Declaration) × (o ≡ Some l)
there-is None h = absurd (false≢true h)
there-is (Some l) h = (l, refl)

pub none_is : (o : Given Declaration) → is_some o ≡ false → o ≡ None
none_is None h = refl
none_is (Some l) h = absurd (true≢false h)

-- the last of several searches, which leaves all as it is where nothing was found
ends : (g : Search) (x : Declaring) (n : ℕ) (o : Given Declaration) → ((y : Declaring) → g y ≡ after y.trail (done y)) → x.found ≡ none → x.trail.reads ≡ n
    → (record { reads = n; outcome = done (found_in o x) } >>> λ r. cond (is_none r.found) (g r) (after r.trail (done r))) ≡ record { reads = n; outcome = done (found_in o x) }
ends g x n None e missing read = ap (λ (o : Option LineEntry). cond (is_none o) (g x) (after x.trail (done x))) missing ∙ e x ∙ rw read
ends g x n (Some l) e missing read = rw read

module _ {f : Search} {main supplementary w w₁ files files₁ warnings warnings₁ : List ℕ} {d : Places} {st : DeclaringState} where
  pub then-missing : {g : Search} {w₂ files₂ warnings₂ : List ℕ} {st₁ : DeclaringState} {a a₁ b : ℕ} (r : Result Declared Refusal)
      → DeclaresCounted f main supplementary w w₁ files files₁ warnings warnings₁ d st a a₁ (none_found st₁)
      → DeclaresCounted g main supplementary w₁ w₂ files₁ files₂ warnings₁ warnings₂ d st₁ a₁ b r
      → DeclaresCounted (and_then f g) main supplementary w w₂ files files₂ warnings warnings₂ d st a b r
  then-missing r F G = declares-after F.after F.rest F.reads F.adds (λ k ws. rw (F.is k ws)) r G

  -- it ended
  pub then_stop : {a b : ℕ} (g : Search) (r : Result Declared Refusal) → Stops r → DeclaresCounted f main supplementary w w₁ files files₁ warnings warnings₁ d st a b r
      → DeclaresCounted (and_then f g) main supplementary w w₁ files files₁ warnings warnings₁ d st a b r
  then_stop g (Err n) h F = record { reads = F.reads; adds = F.adds; few = tt; new = F.new; is = λ k ws. rw (F.is k ws); after = tt; rest = F.rest }
  then_stop g (Ok r) h F =
      let s = there-is r.found h in
      record { reads = F.reads; adds = F.adds; few = F.few; new = F.new; is = λ k ws. rw (F.is k ws, s.1); after = F.after; rest = F.rest }

  -- it was the last
  pub then_last : {g : Search} {a b : ℕ} (r : Result Declared Refusal) → ((x : Declaring) → g x ≡ after x.trail (done x)) → DeclaresCounted f main supplementary w w₁ files files₁ warnings warnings₁ d st a b r
      → DeclaresCounted (and_then f g) main supplementary w w₁ files files₁ warnings warnings₁ d st a b r
  then_last (Err n) e F = record { reads = F.reads; adds = F.adds; few = tt; new = F.new; is = λ k ws. rw (F.is k ws); after = tt; rest = F.rest }
  then_last {g} (Ok r) e F = record {
    reads = F.reads;
    adds = F.adds;
    few = F.few;
    new = F.new;
    is = λ k ws. rw (F.is k ws) (ends g _ (F.reads k) r.found e refl refl);
    after = F.after;
    rest = F.rest;
  }
