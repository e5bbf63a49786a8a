-- Contract. What the functions that intern a unit's files promise.
use Rattle.std.specs.Prelude.{Option, Some, None, Result, Ok, Err, ℕ, ◌+◌, ◌*◌, ◌≤◌, ◌≡◌, List, [], ◌∷◌, ◌++◌, length}
use Rattle.std.proofs.Math.Option.{none, some}
use Rattle.tlv.specs.declared.refusal.Refusal.{Refusal}
use Rattle.tlv.specs.Refusals as refusals
use Rattle.tlv.specs.Outcome.{Outcome, refused, done, ◌>>=◌}
use Rattle.tlv.specs.Lists.{Any}
use Rattle.tlv.specs.Model.{CompilationUnit, LineHeader, HeaderFile, file_of}
use Rattle.buffers.specs.Table.{chunk, Kept, KeptBut}
use Rattle.buffers.specs.Output.{FileEntry}
use Rattle.access.specs.Places.{unit_here}
use Rattle.paths.specs.Paths.{file_entry}
use Rattle.lines.specs.Files.{FileIndices, Interned, intern_file, Indexed, intern_files, intern_header_files}
use Rattle.files.specs.declared.spans.Span.{Span}
use Rattle.files.specs.declared.spans.FileUnit.{FileUnit}
use Rattle.files.specs.declared.store.StoredFiles.{StoredFiles}
use Rattle.files.specs.declared.store.AddedFile.{AddedFile}
use Rattle.files.specs.declared.header.InternedFiles.{InternedFiles}
use Rattle.files.specs.Pieces.{span_in, header_here, span_record}
use Rattle.files.specs.Possible.{with_zero, Possible}
use Rattle.files.specs.Store.{extent, table_of, Grown}
use Rattle.files.specs.Indices.{index_of, indices_of, index_record}

-- the room of a unit's directories and of its map from file numbers
abbrev pub map_extent : List ℕ → ℕ → ℕ
map_extent s q = span_record * length (unit_here s q).directories + index_record * (1 + length (unit_here s q).files)

-- the files of a unit are ones that an import can meet
-- Stays a clause: that a file is among others can have two proofs, so no ghost field may hold it.
pub record Listed (main supplementary : List ℕ) (u : CompilationUnit) (h : LineHeader) : Type 0 where
  pub possible : (f : HeaderFile) (e : FileEntry) → Any (λ x. f ≡ x) (with_zero u.file_zero u.files) → file_entry u h f ≡ done (some e)
      → Possible main supplementary e

-- the file is one of the unit's at place p of s
pub record OfUnit (s : List ℕ) (p : ℕ) (file : Span) : Type 0 where
  pub listed : Any (λ x. file_of (span_in s file) ≡ x) (with_zero (unit_here s p).file_zero (unit_here s p).files)

-- ---- intern_file

abbrev pub interned_of : List ℕ → List ℕ → List ℕ → StoredFiles → Result (Option AddedFile) Refusal → Outcome Interned
interned_of main supplementary w t (Ok None) = done (record { table = table_of main supplementary w t; number = none })
interned_of main supplementary w t (Ok (Some a)) = done (record { table = table_of main supplementary w a.table; number = some a.number })
interned_of main supplementary w t (Err e) = refused (refusals.number_of e)

-- the table has grown; after a refusal the files tray is as it was
abbrev pub InternedAfter : List ℕ → List ℕ → List ℕ → List ℕ → List ℕ → List ℕ → StoredFiles → Result (Option AddedFile) Refusal → Type 0
InternedAfter main supplementary w w' files files' t (Ok None) = Grown main supplementary w w' files files' t t
InternedAfter main supplementary w w' files files' t (Ok (Some a)) = Grown main supplementary w w' files files' t a.table
InternedAfter main supplementary w w' files files' t (Err e) = files' ≡ files

pub record Interns (main supplementary w w' files files' : List ℕ) (t : StoredFiles) (s : List ℕ) (u : FileUnit) (file : Span)
    (r : Result (Option AddedFile) Refusal) : Type 0 where
  pub is : interned_of main supplementary w' t r
      ≡ intern_file (unit_here s u.place) (header_here s u.place) (table_of main supplementary w t) (file_of (span_in s file))
  pub after : InternedAfter main supplementary w w' files files' t r
  pub rest : Kept w w' t.base (extent t)

-- ---- intern_at

-- the number of an interned file was written at p
abbrev pub NumberedAt : List ℕ → ℕ → Result (Option AddedFile) Refusal → Type 0
NumberedAt w p (Ok None) = index_of (chunk w p 5) ≡ none
NumberedAt w p (Ok (Some a)) = index_of (chunk w p 5) ≡ some a.number
NumberedAt w p (Err e) = Unit

pub record InternsAt (main supplementary w w' files files' : List ℕ) (t : StoredFiles) (s : List ℕ) (u : FileUnit) (file : Span) (p : ℕ)
    (r : Result (Option AddedFile) Refusal) : Type 0 where
  pub is : interned_of main supplementary w' t r
      ≡ intern_file (unit_here s u.place) (header_here s u.place) (table_of main supplementary w t) (file_of (span_in s file))
  pub after : InternedAfter main supplementary w w' files files' t r
  pub number : NumberedAt w' p r
  pub rest : KeptBut w w' ((t.base, extent t) ∷ (p, 5) ∷ [])

-- ---- intern_header_files

-- the table stands below the directories' spans, and these below the map at base, which has room for the unit's files and one more
pub record MapRoom (s w : List ℕ) (t : StoredFiles) (u : FileUnit) (base : ℕ) : Type 0 where
  pub table : t.base + extent t ≤ u.directories.base
  pub directories : u.directories.base + u.directories.count * 8 ≤ base
  pub map : base + index_record * (1 + length (unit_here s u.place).files) ≤ length w

abbrev pub indexed_of : List ℕ → List ℕ → List ℕ → ℕ → Result InternedFiles Refusal → Outcome Indexed
indexed_of main supplementary w base (Ok r) = done (record { table = table_of main supplementary w r.table; indices = indices_of w base r.map.count })
indexed_of main supplementary w base (Err e) = refused (refusals.number_of e)

-- the table has grown, and the map stands at base and has at most m numbers
abbrev pub IndexedAfter : List ℕ → List ℕ → List ℕ → List ℕ → List ℕ → List ℕ → StoredFiles → ℕ → ℕ → Result InternedFiles Refusal → Type 0
IndexedAfter main supplementary w w' files files' t base m (Ok r) =
    Grown main supplementary w w' files files' t r.table × ((r.map.base ≡ base) × (r.map.count ≤ m))
IndexedAfter main supplementary w w' files files' t base m (Err e) = Unit

-- a map, before what was indexed
abbrev pub with_indices : FileIndices → Indexed → Outcome Indexed
with_indices is r = done (record { table = r.table; indices = is ++ r.indices })

-- the files of a header, after the n records of the map
pub record InternsFiles (main supplementary w w' files files' : List ℕ) (t : StoredFiles) (s : List ℕ) (u : FileUnit) (base n : ℕ)
    (r : Result InternedFiles Refusal) : Type 0 where
  pub is : indexed_of main supplementary w' base r
      ≡ (intern_files (unit_here s u.place) (header_here s u.place) (table_of main supplementary w t) (unit_here s u.place).files >>= with_indices
      (indices_of w base n))
  pub after : IndexedAfter main supplementary w w' files files' t base (1 + length (unit_here s u.place).files) r
  pub rest : KeptBut w w' ((t.base, extent t) ∷ (base, index_record * (1 + length (unit_here s u.place).files)) ∷ [])

pub record InternsHeader (main supplementary w w' files files' : List ℕ) (t : StoredFiles) (s : List ℕ) (u : FileUnit) (base : ℕ)
    (r : Result InternedFiles Refusal) : Type 0 where
  pub is : indexed_of main supplementary w' base r ≡ intern_header_files (unit_here s u.place) (header_here s u.place) (table_of main supplementary w t)
  pub after : IndexedAfter main supplementary w w' files files' t base (1 + length (unit_here s u.place).files) r
  pub rest : KeptBut w w' ((t.base, extent t) ∷ (base, index_record * (1 + length (unit_here s u.place).files)) ∷ [])
