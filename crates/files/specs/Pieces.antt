-- Contract. A file by the pieces of a sheet that its path is joined from.
use Rattle.std.specs.Prelude.{Option, Some, None, Result, Ok, Err}
use Rattle.std.specs.Prelude.{ℕ, ◌+◌, ◌-◌, ◌*◌, ◌≤◌, ◌<◌, ◌^◌, ◌≡◌, cond, List, [], ◌++◌, map, length, drop, replicate, leb, eqb}
use Rattle.std.proofs.Math.Option.{none, some}
use Rattle.std.proofs.Math.Option as math
use Rattle.tlv.specs.Tags.{compilation_tag, directory_tag, header_tag, unit_tag, unit_whole, field_head}
use Rattle.tlv.specs.declared.refusal.Refusal.{Refusal}
use Rattle.tlv.specs.Refusals as refusals
use Rattle.tlv.specs.Outcome.{Outcome, refused, done, ◌>>=◌}
use Rattle.tlv.specs.Bytes.{le_at}
use Rattle.tlv.specs.Limits.{string_limit}
use Rattle.tlv.specs.Lists.{map_option}
use Rattle.tlv.specs.Fields.{fields, payloads, payload_of}
use Rattle.tlv.specs.Cursor.{field_here, step_at}
use Rattle.tlv.specs.Checked.{Placed}
use Rattle.tlv.specs.Model.{CompilationUnit, LineHeader, header_of, directory_of, file_of}
use Rattle.tlv.specs.declared.model.DebugSource.{DebugSource}
use Rattle.buffers.specs.Table.{chunk, records, Kept}
use Rattle.buffers.specs.Output.{FileEntry}
use Rattle.access.specs.Places.{own_fields, unit_here}
use Rattle.line_program.specs.Standard.{slash}
use Rattle.line_program.specs.Scan.{header_at}
use Rattle.paths.specs.Paths.{or_empty, basename_of, directory_name, append_path, needs_compilation, named_directory, joined_directory, file_entry}
use Rattle.files.specs.declared.spans.Span.{Span}
use Rattle.files.specs.declared.pieces.FilePieces.{FilePieces}
use Rattle.files.specs.declared.spans.FileUnit.{FileUnit}
use Rattle.files.specs.declared.pieces.PathParts.{PathParts}

-- the sheet of a source
abbrev pub source_in : List ℕ → List ℕ → DebugSource → List ℕ
source_in main supplementary DebugSource.Main = main
source_in main supplementary DebugSource.Supplementary = supplementary

abbrev pub span_in : List ℕ → Span → List ℕ
span_in s a = chunk s a.start a.len

-- the file that pieces make
unfoldable pub file_in : List ℕ → FilePieces → FileEntry
file_in s p = record {
  directory = append_path (append_path (span_in s p.compilation) (span_in s p.directory)) (span_in s p.own);
  basename = span_in s p.base;
}

-- a span is a string of the sheet
-- Stays a clause: spans are also read from the work slice, where no sheet is at hand, and most are made for one call.
pub record SpanIn (s : List ℕ) (a : Span) : Type 0 where
  pub within : a.start + a.len ≤ length s
  pub short : a.len ≤ string_limit

-- the same of the pieces of a file
-- Stays a clause for the reason at SpanIn, which it asks of four spans.
pub record PiecesIn (s : List ℕ) (p : FilePieces) : Type 0 where
  pub compilation : SpanIn s p.compilation
  pub directory : SpanIn s p.directory
  pub own : SpanIn s p.own
  pub base : SpanIn s p.base

-- the pieces end at numbers of 4 bytes
-- Stays a clause: a span is any stretch of a sheet, and only one that is written to a record must be so small.
pub record PiecesSmall (p : FilePieces) : Type 0 where
  pub compilation : p.compilation.start + p.compilation.len < 2 ^ 32
  pub directory : p.directory.start + p.directory.len < 2 ^ 32
  pub own : p.own.start + p.own.len < 2 ^ 32
  pub base : p.base.start + p.base.len < 2 ^ 32

-- the number of slashes, 0 or 1, that joining puts between a path and a component
pub record Separated (path component : List ℕ) (r : ℕ) : Type 0 where
  pub joined : append_path path component ≡ path ++ replicate r slash ++ component
  pub one : r ≤ 1

-- ---- a unit's header and directories

-- the line header of the unit at a place; an empty one where it has none
abbrev pub or_header : math.Option LineHeader → LineHeader
or_header none = header_at 0 0 0 0
or_header (some h) = h

unfoldable pub header_here : List ℕ → ℕ → LineHeader
header_here s p = or_header (unit_here s p).header

-- the place, counted from 0, of the file or directory of a number: before version 5 they are numbered from 1, and 0 is none
unfoldable pub counted_from : ℕ → ℕ → Option ℕ
counted_from version n = cond (leb version 4) (cond (eqb n 0) None (Some (n - 1))) (Some n)

-- bytes of a span of a sheet in a table of spans: the start 4, the length 4
abbrev pub span_record : ℕ
span_record = 8

unfoldable pub span_of : List ℕ → Span
span_of b = record { start = le_at 4 b 0; len = le_at 4 b 4 }

-- a span was written at p
pub record PutSpan (w w' : List ℕ) (p : ℕ) (a : Span) : Type 0 where
  pub span : span_of (chunk w' p 8) ≡ a
  pub rest : Kept w w' p 8

-- the payloads whose spans stand in a table
unfoldable pub spanned_of : List ℕ → List ℕ → ℕ → ℕ → List (List ℕ)
spanned_of s w base n = records (λ b. span_in s (span_of b)) 8 w base n

-- the payload of a directory: a flag and a string
pub record DirectoryIn (s : List ℕ) (a : Span) : Type 0 where
  pub within : a.start + a.len ≤ length s
  pub flagged : 1 ≤ a.len
  pub short : a.len ≤ 1 + string_limit

-- the spans of a unit's directories, whose fields follow place p, were written at base
pub record DirectoriesIn (s w w' : List ℕ) (p base r : ℕ) : Type 0 where
  pub is : spanned_of s w' base r ≡ payloads directory_tag (own_fields (fields (drop p s)))
  pub spans : (i : ℕ) → i < r → DirectoryIn s (span_of (chunk w' (base + i * 8) 8))
  pub within : base + r * 8 ≤ length w'
  pub rest : Kept w w' base (r * 8)

-- the compilation directory of the unit whose fields follow place p; an empty span where it has none
pub record CompilationIn (s : List ℕ) (p : ℕ) (r : Span) : Type 0 where
  pub is : span_in s r ≡ or_empty (payload_of compilation_tag (own_fields (fields (drop p s))))
  pub string : SpanIn s r

-- the version of the line header of the unit whose fields follow place p
unfoldable pub version_in : List ℕ → ℕ → ℕ
version_in s p = (or_header (map_option header_of (payload_of header_tag (own_fields (fields (drop p s)))))).version

-- a unit's field stands at p in an accepted sheet
-- Stays a clause: a type of the sheet and the place would be made anew at each call, since a unit is handed on by its source and its place.
pub record UnitPlaced (s : List ℕ) (p : ℕ) : Type 0 where
  pub placed : Placed s p
  pub is : step_at s p ≡ field_here unit_tag (p + field_head) 18 (p + unit_whole)

-- a unit's place, its header's version, its compilation directory, and its directories' spans in a table of the work slice
-- Stays a clause: it speaks of the work slice, which each write changes.
pub record FileUnitIn (s w : List ℕ) (u : FileUnit) : Type 0 where
  pub version : u.version ≡ (header_here s u.place).version
  pub compilation : span_in s u.compilation ≡ or_empty (unit_here s u.place).directory
  pub directories : map directory_of (spanned_of s w u.directories.base u.directories.count) ≡ (unit_here s u.place).directories
  pub string : SpanIn s u.compilation
  pub spans : (i : ℕ) → i < u.directories.count → DirectoryIn s (span_of (chunk w (u.directories.base + i * 8) 8))
  pub within : u.directories.base + u.directories.count * 8 ≤ length w

-- the unit at p was described, its directories' spans written at base
pub record Described (s w w' : List ℕ) (source : DebugSource) (p base : ℕ) (r : FileUnit) : Type 0 where
  pub unit : FileUnitIn s w' r
  pub source-is : r.source ≡ source
  pub place : r.place ≡ p
  pub directories : r.directories.base ≡ base
  pub count : r.directories.count ≡ length (unit_here s p).directories
  pub rest : Kept w w' base (r.directories.count * 8)

-- ---- the pieces of a header's file

-- the payload of a file: a flag, a number and a string
-- Stays a clause, for the reason at SpanIn: a span is made for one call, and where one is read from the work slice no sheet is at hand.
pub record FileSpanIn (s : List ℕ) (a : Span) : Type 0 where
  pub within : a.start + a.len ≤ length s
  pub numbered : 9 ≤ a.len
  pub short : a.len ≤ 9 + string_limit

abbrev pub named_of : List ℕ → Result (Option FilePieces) Refusal → Outcome (math.Option FileEntry)
named_of s (Ok None) = done none
named_of s (Ok (Some p)) = done (some (file_in s p))
named_of s (Err e) = refused (refusals.number_of e)

abbrev pub NamedIn : List ℕ → Result (Option FilePieces) Refusal → Type 0
NamedIn s (Ok None) = Unit
NamedIn s (Ok (Some p)) = PiecesIn s p
NamedIn s (Err e) = Unit

-- the parts of the path in a span
pub record PartsIn (s : List ℕ) (path : Span) (r : PathParts) : Type 0 where
  pub own : span_in s r.own ≡ directory_name (span_in s path)
  pub base : span_in s r.base ≡ basename_of (span_in s path)
  pub own_in : SpanIn s r.own
  pub base-in : SpanIn s r.base

-- what a directory that the code hands out means
abbrev pub read_in : List ℕ → Result Span Refusal → Outcome (List ℕ)
read_in s (Ok a) = done (span_in s a)
read_in s (Err e) = refused (refusals.number_of e)

abbrev pub ReadIn : List ℕ → Result Span Refusal → Type 0
ReadIn s (Ok a) = SpanIn s a
ReadIn s (Err e) = Unit

pub record Reads (s : List ℕ) (r : Result Span Refusal) (o : Outcome (List ℕ)) : Type 0 where
  pub is : read_in s r ≡ o
  pub within : ReadIn s r

-- the compilation directory where it stands before a file's directory, else an empty span
pub record Before (s : List ℕ) (version : ℕ) (compilation : Span) (number : ℕ) (directory r : Span) : Type 0 where
  pub is : span_in s r ≡ cond (needs_compilation version number (span_in s directory)) (span_in s compilation) []
  pub string : SpanIn s r

-- the file of a relative path by the number of its directory and the two parts of the path
unfoldable pub relative_entry : CompilationUnit → ℕ → ℕ → List ℕ → List ℕ → Outcome (math.Option FileEntry)
relative_entry u version n own base =
    named_directory u version n >>= λ d.
    done (some (record { directory = joined_directory version n (or_empty u.directory) d own; basename = base }))

pub record Relative (s : List ℕ) (u : FileUnit) (number : ℕ) (parts : PathParts) (r : Result (Option FilePieces) Refusal) : Type 0 where
  pub is : named_of s r ≡ relative_entry (unit_here s u.place) (header_here s u.place).version number (span_in s parts.own) (span_in s parts.base)
  pub within : NamedIn s r

pub record Pieced (s : List ℕ) (u : FileUnit) (file : Span) (r : Result (Option FilePieces) Refusal) : Type 0 where
  pub is : named_of s r ≡ file_entry (unit_here s u.place) (header_here s u.place) (file_of (span_in s file))
  pub within : NamedIn s r
