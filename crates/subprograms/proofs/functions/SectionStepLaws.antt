-- The rows of a record do not depend on the list section and the address table: only the search for a declaration has them at hand, and it does not look at
-- them.
use mathlib.Core.Path.{◌≡◌, refl}
use mathlib.Core.List.{List, [], ◌∷◌, ◌++◌}
use Prim.Native.Nat.{ℕ}
use Rattle.tlv.specs.declared.model.AddressRange.{AddressRange}
use Rattle.tlv.specs.declared.model.LineEntry.{LineEntry}
use Rattle.tlv.specs.Outcome.{done, ◌>>=◌}
use Rattle.tlv.specs.Model.{Entry}
use Rattle.buffers.specs.Output.{Warning}
use Rattle.lines.specs.Files.{FileTable}
use Rattle.lines.specs.Rows.{for_range}
use Rattle.references.specs.Names.{dwarf_of}
use Rattle.references.proofs.SectionLaws.{declaration-line_same}
use Rattle.imports.specs.Import.{statement_sequence_offset, sequence_warning, declaration_if, lines_with}
use Rattle.subprograms.specs.declared.model.ImportContext.{ImportContext}
use Rattle.subprograms.specs.Contexts.{context_with}
use Rattle.subprograms.specs.Steps.{function_lines}

module _ (main supplementary lists addresses w : List ℕ) (q : ImportContext) (e : Entry) where
  declared_same : (table : FileTable) (ws : List Warning) (rows : List LineEntry)
      → declaration_if (context_with main supplementary lists addresses w q) e table ws rows
      ≡ declaration_if (context_with main supplementary [] [] w q) e table ws rows
  declared_same table ws [] =
      declaration-line_same lists addresses (dwarf_of main supplementary) (context_with main supplementary [] [] w q).unit e
      (context_with main supplementary [] [] w q).lines.files table ws
  declared_same table ws (x ∷ xs) = refl

  pub lines_same : (r : AddressRange) (table : FileTable) (ws : List Warning)
      → function_lines (context_with main supplementary lists addresses w q) e r table ws ≡ function_lines (context_with main supplementary [] [] w q) e r table ws
  unfolding function_lines
  lines_same r table ws =
      let k = context_with main supplementary [] [] w q in
      let requested = statement_sequence_offset k.unit e in
      let own = for_range k.lines r requested in
      λ i.
      sequence_warning k.unit e requested own.invalid >>= λ new.
      declared_same table (ws ++ new) own.rows i >>= λ d.
      done (record { rows = lines_with r d.found own.rows; table = d.table; warnings = d.warnings })
