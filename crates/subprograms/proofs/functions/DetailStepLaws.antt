-- The nodes and call sites of a record: what the walk below a subprogram is given, and what it gives back.
use mathlib.Core.Path.{◌≡◌, refl, sym, ap, ◌∙◌}
use mathlib.Core.Bool.{Bool, ◌||◌}
use mathlib.Core.List.{List}
use Prim.Native.Nat.{ℕ, ◌+◌, ◌≤◌, ◌<◌}
use native.Mathlib.Omega.{arith}
use lib.ListN.{length}
use Rattle.std.specs.Prelude.{Ok, Err}
use Rattle.tlv.specs.declared.model.AddressRange.{AddressRange}
use Rattle.tlv.specs.declared.refusal.Refusal.{Refusal}
use Rattle.tlv.specs.Refusals.{number_of}
use Rattle.tlv.proofs.AnswerLaws.{numbered}
use Rattle.tlv.specs.Bytes.{le_at}
use Rattle.tlv.specs.Checked.{Accepted}
use Rattle.buffers.specs.Buffer.{top}
use Rattle.access.specs.Places.{entry_here}
use Rattle.files.specs.declared.store.StoredFiles.{StoredFiles}
use Rattle.collect.specs.Collects.{lines_in}
use Rattle.references.specs.Tables.{EntryKnown}
use Rattle.imports.specs.Tree.{no_descendants, extract_subprogram_details}
use Rattle.imports.specs.Import.{detail_context}
use Rattle.dies.specs.declared.details.Details.{Details}
use Rattle.dies.specs.declared.dies.Extracted.{Extracted}
use Rattle.dies.specs.Details.{DetailsIn, Extracts, entries_from}
use Rattle.dies.proofs.CallLaws.{entry_depth-here}
use Rattle.subprograms.specs.declared.model.ConversionStats.{ConversionStats as Stats}
use Rattle.subprograms.specs.declared.model.ImportContext.{ImportContext}
use Rattle.subprograms.specs.declared.model.ImportState.{ImportState}
use Rattle.subprograms.specs.Stats.{stats_of, with_function}
use Rattle.subprograms.specs.declared.model.Subprogram.{Subprogram}
use Rattle.subprograms.specs.Contexts.{context_with, ContextIn}
use Rattle.subprograms.specs.Steps.{below_entry, ImportsDetails}

-- what the walk is given
abbrev pub details_of : (q : ImportContext) (s : Subprogram) (depth : ℕ) (r : AddressRange) → 10 + length s.name.now < 65536 → Details
details_of q s depth r b = record { context = q.context; name = s.name; depth = depth; range = r; name_bound = b }

module _ {main supplementary w : List ℕ} {q : ImportContext} {t : StoredFiles} (C : ContextIn main supplementary w q t) where
  pub context-accepted : Accepted main
  context-accepted = record { number = C.tables.main-index.number; is = C.tables.main-index.accepted }

  -- the walk's tables stand in order
  pub details-in : (s : Subprogram) (depth : ℕ) (r : AddressRange) (b : 10 + length s.name.now < 65536)
      → DetailsIn main supplementary w (details_of q s depth r b)
  details-in s depth r b = let o = C.ordered in
      let below : t.base ≤ q.context.ranges = omega (arith, o.table, o.indices, o.lines, o.sequences, o.buffer, o.text, o.spans) in record {
        tables = C.tables;
        indices = omega (arith, o.indices, o.lines, o.sequences, o.buffer, o.text, o.spans);
        main-units = omega (arith, below, o.main-units);
        main-entries = omega (arith, below, o.main-entries);
        supplementary-units = omega (arith, below, o.supplementary-units);
        supplementary-entries = omega (arith, below, o.supplementary-entries);
        ranges = o.ranges;
        stack = o.stack;
        sites = o.sites;
        third = C.third;
        listless = C.listless;
      }

  depth-is : {p depth : ℕ} → EntryKnown main q.context.unit p → depth ≡ le_at 2 main (p + 11) → depth ≡ (entry_here main p).depth
  depth-is K read = read ∙ sym (entry_depth-here context-accepted K)

module _ {main supplementary lists addresses w w' : List ℕ} {q : ImportContext} (s : Subprogram) {depth : ℕ} {name t t' u u' : List ℕ} {r : AddressRange}
    {b : 10 + length s.name.now < 65536} (p rows : ℕ) (st : ImportState) {below : ℕ} {files : StoredFiles}
    (C : ContextIn main supplementary w q files) (K : EntryKnown main q.context.unit p) (read : depth ≡ le_at 2 main (p + 11))
    (same : entries_from main below ≡ entries_from main (p + 15)) where
  -- the walk is refused
  pub details-refused : {e : Refusal} → Extracts main supplementary lists addresses w w' (details_of q s depth r b) name below depth st.at st.warned t t' u u' (Err e)
      → ImportsDetails (extract_subprogram_details (detail_context (context_with main supplementary lists addresses w q) r) (below_entry main p)) main supplementary q name r rows
      w t u st w' t' u' (number_of e) st
  unfolding lines_in
  details-refused {e} E = record {
    table = refl;
    rest = E.rest;
    descendants = no_descendants;
    ok = λ z. absurd (numbered e z);
    laid = λ z. absurd (numbered e z);
    past = λ z. absurd (numbered e z);
    warned = λ z. absurd (numbered e z);
    counted = λ z. absurd (numbered e z);
    no = λ z. rw (depth-is C K read, same) at E.is;
  }

  -- it is done
  pub details-done : {x : Extracted} {stats : Stats} {past : Bool} {fits : (x.at ≤ top) × (x.warned ≤ top)}
      → Extracts main supplementary lists addresses w w' (details_of q s depth r b) name below depth st.at st.warned t t' u u' (Ok x)
      → stats_of stats ≡ with_function rows x.nodes (stats_of st.stats) → past ≡ (st.past || x.past)
      → ImportsDetails (extract_subprogram_details (detail_context (context_with main supplementary lists addresses w q) r) (below_entry main p)) main supplementary q name r rows
      w t u st w' t' u' 0 (record { table = st.table; at = x.at; warned = x.warned; stats = stats; past = past; within = fits })
  unfolding lines_in
  details-done E counted passed =
      let I = E.is in
      record {
        table = refl;
        rest = E.rest;
        descendants = I.descendants;
        ok = λ z. rw (depth-is C K read, same) at I.is;
        laid = λ z. I.put;
        past = λ z. passed ∙ ap (λ (y : Bool). st.past || y) I.passes;
        warned = λ z. I.warns;
        counted = λ z. rw (← I.count) counted;
        no = λ z. absurd (z refl);
      }
