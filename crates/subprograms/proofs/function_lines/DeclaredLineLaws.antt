-- The declaration of a subprogram as its only row: what the search is given, and what its answers make of the rows.
use mathlib.Core.Path.{◌≡◌, refl, sym, ap, ◌∙◌}
use mathlib.Core.Logic.{inr}
use mathlib.Core.List.{List, [], ◌∷◌, append-nil}
use mathlib.Core.Bool.{Bool, ◌||◌}
use Prim.Native.Nat.{ℕ, ◌*◌, ◌≤◌, ◌<◌}
use native.Mathlib.Omega.{arith}
use lib.ListN.{length}
use Rattle.std.specs.Prelude.{Result, Ok, Err, Some, None}
use Rattle.tlv.specs.declared.refusal.Refusal.{Refusal}
use Rattle.tlv.specs.Refusals.{number_of}
use Rattle.tlv.proofs.AnswerLaws.{numbered}
use Rattle.tlv.specs.Outcome.{Outcome, done, ◌>>=◌}
use Rattle.tlv.specs.Fields.{encode}
use Rattle.buffers.specs.Buffer.{top, Put}
use Rattle.buffers.specs.Table.{KeptBut}
use Rattle.buffers.specs.Output.{Warning, row_payload, each_of}
use Rattle.buffers.proofs.BufferLaws.{put-none, put_as}
use Rattle.buffers.proofs.TableLaws.{here, there}
use Rattle.access.specs.Places.{entry_here, unit_here}
use Rattle.files.specs.Store.{table_of}
use Rattle.files.specs.Indices.{indices_in}
use Rattle.collect.specs.Collects.{lines_in}
use Rattle.collect.proofs.FrameLaws.{but_wide}
use Rattle.references.specs.declared.trails.Trail.{Trail}
use Rattle.references.specs.Search.{Declaring, resolve_declaration, resolve_declaration_line}
use Rattle.references.specs.Names.{dwarf_of, place_at, start_at}
use Rattle.references.proofs.SectionLaws.{declaration-line_same}
use Rattle.declarations.specs.declared.declaring.DeclaringState.{DeclaringState}
use Rattle.declarations.specs.declared.declaring.Declaration.{Declaration}
use Rattle.declarations.specs.declared.declaring.Declared.{Declared}
use Rattle.declarations.specs.Declarations.{declaring_at, DeclaringIn, Declares, searched}
use Rattle.declarations.proofs.ResolveLaws.{declaration-line}
use Rattle.imports.specs.Import.{lines_with}
use Rattle.dies.specs.Past.{is_past}
use Rattle.dies.proofs.PastLaws.{past_same}
use Rattle.dies.specs.Details.{dwarf_with}
use Rattle.subprograms.specs.declared.model.ImportContext.{ImportContext}
use Rattle.subprograms.specs.declared.model.ImportState.{ImportState}
use Rattle.subprograms.specs.declared.function_lines.FoundLines.{FoundLines}
use Rattle.subprograms.specs.Contexts.{ContextIn, entry_of, places_of, context_with, touched}
use Rattle.subprograms.specs.Steps.{FunctionLines, declared_line, FindsLines}
use Rattle.subprograms.proofs.LaidPastLaws.{lines-length}

-- where the search starts
abbrev pub declaring_from : Trail → ImportState → DeclaringState
declaring_from trail st = record { trail = trail; table = st.table; warned = st.warned }

-- the search of the declaration of the entry at p has answered r
abbrev pub Searches : List ℕ → List ℕ → ImportContext → Trail → ImportState → ℕ → List ℕ → List ℕ → List ℕ → List ℕ → List ℕ → List ℕ → Result Declared Refusal → Type 0
Searches main supplementary q trail st p w w' f f' u u' r =
    Declares (resolve_declaration 64 (dwarf_of main supplementary) (place_at main supplementary (start_at (entry_of q p))) (indices_in w q.context.indices))
    main supplementary w w' f f' u u' (places_of q) (declaring_from trail st) r

-- the rows that an answer of the search leaves
abbrev rows_of : ℕ → Declaring → FunctionLines
rows_of start d = record { rows = lines_with (record { start = start; end = start }) d.found []; table = d.table; warnings = d.warnings }

module _ {main supplementary w : List ℕ} {q : ImportContext} (st : ImportState) (C : ContextIn main supplementary w q st.table) where
  pub declaring_in : (trail : Trail) → trail.count ≡ 0 → DeclaringIn main supplementary w (places_of q) (declaring_from trail st)
  declaring_in trail none =
      let o = C.ordered in
      record {
        search-tables = rw none C.tables;
        files = C.files;
        warned = st.within.1;
        table = o.table;
        indices = omega (arith, o.indices, o.lines, o.sequences, o.buffer, o.text);
        keys = omega (arith, o.spans, o.ranges, o.stack, o.sites);
        main-units = inr o.main-units;
        main-entries = inr o.main-entries;
        supplementary-units = inr o.supplementary-units;
        supplementary-entries = inr o.supplementary-entries;
        room-main = o.room-main;
        room-supplementary = o.room-supplementary;
      }

  -- what the search writes to is among what an import may write to
  pub searched-touched : {w' : List ℕ} → KeptBut w w' (searched main supplementary (places_of q) st.table) → KeptBut w w' (touched main supplementary q st.table)
  unfolding touched
  searched-touched K =
      let above : q.context.ranges ≤ q.context.tables.keys = omega (arith, C.ordered.ranges, C.ordered.stack, C.ordered.sites) in
      but_wide (touched main supplementary q st.table) K
      (here (omega arith) (omega arith), (there (there (here (omega arith) (omega arith))), (there (there (there (here (omega arith) (omega arith)))), tt)))

  -- the search starts where no target is followed yet, and looks at no list
  module _ (lists addresses : List ℕ) (trail : Trail) (none : trail.count ≡ 0) (p : ℕ) where
    begun : (ws : List Warning)
        → resolve_declaration_line (dwarf_with main supplementary lists addresses) (unit_here main q.context.unit) (entry_here main p) (indices_in w q.context.indices)
        (table_of main supplementary w st.table) ws
        ≡ resolve_declaration 64 (dwarf_of main supplementary) (place_at main supplementary (start_at (entry_of q p))) (indices_in w q.context.indices)
        (declaring_at main supplementary w (places_of q) (declaring_from trail st) ws 1)
    begun ws =
        declaration-line_same lists addresses (dwarf_of main supplementary) (unit_here main q.context.unit) (entry_here main p) (indices_in w q.context.indices)
        (table_of main supplementary w st.table) ws
        ∙ declaration-line main supplementary w (places_of q) (declaring_from trail st) (entry_of q p) (indices_in w q.context.indices) ws none

    module _ (start : ℕ) where
      goes : (ws : List Warning) {o : Outcome Declaring}
          → resolve_declaration 64 (dwarf_of main supplementary) (place_at main supplementary (start_at (entry_of q p))) (indices_in w q.context.indices)
          (declaring_at main supplementary w (places_of q) (declaring_from trail st) ws 1) ≡ o
          → declared_line (context_with main supplementary lists addresses w q) (entry_here main p) start (table_of main supplementary w st.table) ws ≡ (o >>= λ d. done (rows_of start d))
      unfolding declared_line lines_in
      goes ws h = ap (λ (x : Outcome Declaring). x >>= λ d. done (rows_of start d)) (begun ws ∙ h)

      module _ {f u w' f' u' : List ℕ} where
        pub finds-refused : {e : Refusal} {t t' : List ℕ} {r : FoundLines} → Searches main supplementary q trail st p w w' f f' u u' (Err e)
            → FindsLines (declared_line (context_with main supplementary lists addresses w q) (entry_here main p) start) main supplementary q w t f u st w' t' f' u' (number_of e) r
        unfolding ◌>>=◌
        finds-refused {e} D = record {
          rows = [];
          new = [];
          count = λ z. absurd (numbered e z);
          stats = λ z. absurd (numbered e z);
          laid = λ z. absurd (numbered e z);
          past = λ z. absurd (numbered e z);
          warned = λ z. absurd (numbered e z);
          grown = λ z. absurd (numbered e z);
          kept = λ z. absurd (numbered e z);
          ok = λ z. absurd (numbered e z);
          no = λ _ ws. goes ws (D.is 1 ws);
        }

        module _ {x : Declared} (D : Searches main supplementary q trail st p w w' f f' u u' (Ok x)) where
          pub finds-nothing : {t : List ℕ} {fits : (st.at ≤ top) × (x.state.warned ≤ top)} → x.found ≡ None → length t < top
              → FindsLines (declared_line (context_with main supplementary lists addresses w q) (entry_here main p) start) main supplementary q w t f u st w' t f' u' 0
              (record { state = record { table = x.state.table; at = st.at; warned = x.state.warned; stats = st.stats; past = st.past; within = fits }; count = 0 })
          unfolding ◌>>=◌ each_of
          finds-nothing e small = record {
            rows = [];
            new = D.new;
            count = λ z. refl;
            stats = λ z. refl;
            laid = λ z. put-none st.within.0 small;
            past = λ z. past_same st.past st.at st.within.0;
            warned = λ z. D.after.put;
            grown = λ z. D.after.grown;
            kept = λ z. searched-touched D.rest;
            ok = λ z ws. goes ws (rw e at (D.is 1 ws));
            no = λ n. absurd (n refl);
          }

          pub finds-line : {l : Declaration} {a : ℕ} {b : Bool} {fits : (a ≤ top) × (x.state.warned ≤ top)} {t t' : List ℕ} → x.found ≡ Some l → b ≡ (st.past || is_past st.at (21 * 1))
              → Put st.at (encode 0x42 (row_payload (record { address = start; file = l.file; line = l.line; column = 0 }))) t t' a
              → FindsLines (declared_line (context_with main supplementary lists addresses w q) (entry_here main p) start) main supplementary q w t f u st w' t' f' u' 0
              (record { state = record { table = x.state.table; at = a; warned = x.state.warned; stats = st.stats; past = b; within = fits }; count = 1 })
          unfolding ◌>>=◌ each_of
          finds-line {l} e B P =
              record {
                rows = record { address = start; file = l.file; line = l.line; column = 0 } ∷ [];
                new = D.new;
                count = λ z. refl;
                stats = λ z. refl;
                laid = λ z. put_as (append-nil (encode 0x42 (row_payload (record { address = start; file = l.file; line = l.line; column = 0 })))) P;
                warned = λ z. D.after.put;
                past = λ z. B ∙ ap (λ (n : ℕ). st.past || is_past st.at n)
                    (sym (lines-length (record { address = start; file = l.file; line = l.line; column = 0 } ∷ [])));
                grown = λ z. D.after.grown;
                kept = λ z. searched-touched D.rest;
                ok = λ z ws. goes ws (rw e at (D.is 1 ws));
                no = λ n. absurd (n refl);
              }
