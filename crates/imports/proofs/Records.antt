-- The records that the import of a unit adds answer for the unit's subjects, if walks, rows and lines are as their own laws say. Assumes those four laws.
use mathlib.Core.Path.{◌≡◌, refl, sym, ap, ◌∙◌}
use mathlib.Core.Bool.{true, false}
use mathlib.Core.List.{List, [], ◌++◌, map}
use mathlib.Core.Option.{Option, none, some}
use Prim.Native.Nat.{ℕ, ◌<◌}
use native.Mathlib.Omega.{arith}
use lib.ListN.{length}
use borrow.Author.Tests.{eqb-true}
use Rattle.tlv.specs.declared.model.AddressRange.{AddressRange}
use Rattle.tlv.specs.declared.model.LineEntry.{LineEntry}
use Rattle.tlv.specs.Addresses.{Nonempty}
use Rattle.tlv.specs.Outcome.{done}
use Rattle.tlv.specs.Model.{CompilationUnit, Entry, program_of}
use Rattle.tlv.specs.Accepted.{UnitAccepted}
use Rattle.tlv.proofs.TestLaws.{empty-filled}
use Rattle.tlv.proofs.PlaceLaws.{front-among, front_is, front_next}
use Rattle.tlv.proofs.OutcomeLaws.{with_done}
use Rattle.buffers.specs.Output.{Function}
use Rattle.lines.specs.Files.{FileTable}
use Rattle.lines.specs.Lines.{UnitLines, Collected}
use Rattle.lines.specs.Rows.{for_range}
use Rattle.lines.specs.RowsAgree.{RowsAgree}
use Rattle.lines.proofs.Bounds.{Sorted}
use Rattle.machine.specs.LineRows.{collect_lines}
use Rattle.imports.specs.Tree.{DetailContext, Descendants, extract_subprogram_details}
use Rattle.imports.specs.Import.{ImportContext, statement_sequence_offset, lines_with, rooted, detail_context, descendants_of, import_unit}
use Rattle.imports.specs.Agree.{TreeEntry, found_name, tree_entry, tree_entries, entry, tree_node, TreeAgrees}
use Rattle.imports.specs.Demand.{Subject, subjects, Live, RecordAgrees, Units, entries_below}
use Rattle.imports.proofs.Adding.{pointwise_map}
use Rattle.imports.proofs.WalkPlaces.{tree-at}
use Rattle.imports.proofs.Subjects.{Written, live-range, from_entries}

-- the row of a declaration alone agrees with a range
declared-rows : (r : AddressRange) (found : Option LineEntry) (rows : List LineEntry) → Nonempty r → RowsAgree r rows → RowsAgree r (lines_with r found rows)
declared-rows r none rows h a = a
declared-rows r (some l) rows h a = record { within = omega arith; rising = omega arith; distinct = tt }

module _
    (walk-tree : (c : DetailContext) (s : ℕ) (x : Descendants) → c.include_inlines ≡ true → UnitAccepted c.unit → s < length c.unit.entries
    → extract_subprogram_details c (entries_below c.unit s) ≡ done x → TreeAgrees c.function_range (tree_entries c.dwarf c.unit) s (map tree_node x.inlines))
    (walk-treeless : (c : DetailContext) (es : List Entry) (x : Descendants) → c.include_inlines ≡ false → extract_subprogram_details c es ≡ done x → x.inlines ≡ [])
    (rows_agree : (l : UnitLines) (r : AddressRange) (requested : Option ℕ) → Sorted 0 l.entries → Nonempty r → RowsAgree r (for_range l r requested).rows)
    (sorted-lines : (u : CompilationUnit) (program : List ℕ) (t : FileTable) (c : Collected) → collect_lines u program t ≡ done c → Sorted 0 c.lines.entries)
  where
    -- what is written into a record for a subject answers for it
    written-agrees : (q : ImportContext) → UnitAccepted q.unit → Sorted 0 q.lines.entries → (k : Subject) (f : Function) → Written q k f → RecordAgrees q.dwarf q.unit q.include_inlines k f
    unfolding tree_entry tree_entries
    written-agrees q accepted sorted k f w = record {
      among = inside;
      subprogram = ap (λ (x : TreeEntry). x.tag) same ∙ eqb-true w.source.tag 0x2e w.subprogram;
      name = sym (ap (λ (x : TreeEntry). x.name) same ∙ ap found_name w.name);
      named = empty-filled f.name w.named;
      range = w.range;
      live = rw w.range live;
      rows = rw (w.range, w.lines) (declared-rows k.range w.found (for_range q.lines k.range (statement_sequence_offset q.unit w.source)).rows live.filled
          (rows_agree q.lines k.range (statement_sequence_offset q.unit w.source) sorted live.filled));
      tree = λ h. (w.walk.inlines, rw w.range w.inline, rw w.range (walk-tree (detail_context q k.range) k.number w.walk h accepted inside (rw below w.walked)));
      treeless = λ h. w.inline ∙ ap (rooted f.name k.range) (walk-treeless (detail_context q k.range) (descendants_of w.source.depth w.after) w.walk h w.walked);
    }
      where
        inside : k.number < length q.unit.entries
        inside = front-among k.number q.unit.entries w.source w.after w.place

        same : entry (tree_entries q.dwarf q.unit) k.number ≡ tree_entry q.dwarf q.unit w.source
        same = tree-at q.dwarf q.unit k.number inside ∙ ap (tree_entry q.dwarf q.unit) (front_is k.number q.unit.entries w.source w.after w.place _)

        live : Live q.unit.text k.range
        live = live-range q.unit.text k.range w.live

        below : entries_below q.unit k.number ≡ descendants_of w.source.depth w.after
        below = rw (front_is k.number q.unit.entries w.source w.after w.place, front_next k.number q.unit.entries w.source w.after w.place)

    -- what the import of a unit adds to the records answers for its subjects, one for each, in order
    pub units-agree : Units
    unfolding import_unit subjects
    units-agree d u program inlines call_sites s t accepted h = with_done (collect_lines u (program_of u program) s.table) _ h λ c h₁ h₂.
        let q : ImportContext = record { dwarf = d; unit = u; lines = c.lines; include_inlines = inlines; include_call_sites = call_sites } in
        let new = from_entries q u.entries 0 refl (record { table = c.table; records = s.records; warnings = s.warnings ++ c.warnings; stats = s.stats }) t h₂ in
        record { new = new.new; added = new.added; agree = pointwise_map (Written q) (RecordAgrees d u inlines) (written-agrees q accepted (sorted-lines u (program_of u program) s.table c h₁)) (subjects d u) new.new new.agree }
