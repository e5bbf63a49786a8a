-- Contract. The numbers of a unit's files by the table alone, once all of them are in it: for units that are reached by reference, whose maps are not kept.
use Rattle.std.specs.Prelude.{Option, Some, None, ℕ, ◌+◌, ◌≡◌, cond, List, ◌∷◌, map, leb, drop}
use Rattle.std.proofs.Math.Option.{none, some}
use Rattle.std.proofs.Math.Option as math
use Rattle.tlv.specs.Tags.{file_tag}
use Rattle.tlv.specs.declared.model.FileIndex.{FileIndex}
use Rattle.tlv.specs.Outcome.{Outcome, refused, done}
use Rattle.tlv.specs.Lists.{at, map_option, All}
use Rattle.tlv.specs.Fields.{fields, payloads}
use Rattle.tlv.specs.Model.{CompilationUnit, LineHeader}
use Rattle.buffers.specs.Table.{Kept}
use Rattle.buffers.specs.Output.{FileEntry}
use Rattle.tlv.specs.declared.fields.FieldSpan.{FieldSpan}
use Rattle.access.specs.Places.{own_fields, unit_here}
use Rattle.paths.specs.Paths.{file_entry}
use Rattle.lines.specs.Files.{FileTable, FileIndices, file_index, place_of, get}
use Rattle.files.specs.declared.spans.FileUnit.{FileUnit}
use Rattle.files.specs.declared.store.StoredFiles.{StoredFiles}
use Rattle.files.specs.declared.index.FileNumber.{FileNumber}
use Rattle.files.specs.Pieces.{span_in, header_here, FileSpanIn}
use Rattle.files.specs.Store.{extent, table_of, FilesIn}
use Rattle.files.specs.Indices.{number_of}

-- the number of a header's file in the table
abbrev pub number_in : FileTable → Outcome (math.Option FileEntry) → math.Option FileIndex
number_in t (refused n) = none
number_in t (done none) = none
number_in t (done (some e)) = map_option (λ k. file_index (t.first + k)) (place_of e t.entries)

-- the numbers of a unit's files: before version 5 nothing stands at 0
unfoldable pub reached_indices : CompilationUnit → LineHeader → FileTable → FileIndices
reached_indices u h t =
    let numbers = map (λ f. number_in t (file_entry u h f)) u.files in
    cond (leb h.version 4) (none ∷ numbers) numbers

-- a file that has a path is in the table
abbrev pub InTable : FileTable → Outcome (math.Option FileEntry) → Type 0
InTable t (refused n) = Unit
InTable t (done none) = Unit
InTable t (done (some e)) = (k : ℕ) × (place_of e t.entries ≡ some k)

-- all files of a unit that have a path are in the table
pub record Reached (u : CompilationUnit) (h : LineHeader) (t : FileTable) : Type 0 where
  pub files : All (λ f. InTable t (file_entry u h f)) u.files

-- ---- what is promised

-- the payload that an answer hands out
abbrev pub own_file : List ℕ → Option FieldSpan → math.Option (List ℕ)
own_file s (Some f) = some (span_in s (record { start = f.start; len = f.len }))
own_file s None = none

abbrev pub OwnFileIn : List ℕ → Option FieldSpan → Type 0
OwnFileIn s (Some f) = FileSpanIn s (record { start = f.start; len = f.len })
OwnFileIn s None = Unit

-- the n-th field of a file from place p on
pub record NthFile (s : List ℕ) (p n : ℕ) (r : Option FieldSpan) : Type 0 where
  pub is : own_file s r ≡ at (payloads file_tag (own_fields (fields (drop p s)))) n
  pub within : OwnFileIn s r

-- a number was looked up, and the table stayed
pub record Found (main supplementary w w' : List ℕ) (t : StoredFiles) (o : math.Option FileIndex) (r : Option FileIndex) : Type 0 where
  pub is : number_of r ≡ o
  pub same : table_of main supplementary w' t ≡ table_of main supplementary w t
  pub holds : FilesIn main supplementary w' t
  pub rest : Kept w w' t.base (extent t)

-- the number of a unit's n-th file
unfoldable pub nth_number : CompilationUnit → LineHeader → FileTable → ℕ → math.Option FileIndex
nth_number u h t n = get (map (λ f. number_in t (file_entry u h f)) u.files) n

-- the number of a reached unit's file was looked up
pub record LookedUp (main supplementary w w' : List ℕ) (t : StoredFiles) (s : List ℕ) (u : FileUnit) (n : FileNumber) (r : Option FileIndex) : Type 0 where
  pub is : number_of r ≡ get (reached_indices (unit_here s u.place) (header_here s u.place) (table_of main supplementary w t)) n.0
  pub same : table_of main supplementary w' t ≡ table_of main supplementary w t
  pub holds : FilesIn main supplementary w' t
  pub rest : Kept w w' t.base (extent t)
