-- collect_lines by its steps, a unit without a header, and the source of the rows of any other.
use mathlib.Core.Path.{◌≡◌, refl, sym, ap, ◌∙◌}
use mathlib.Core.List.{List, []}
use mathlib.Core.Option.{none, some}
use Prim.Native.Nat.{ℕ, ◌+◌, ◌≤◌, ◌<◌}
use native.Mathlib.Omega.{arith}
use lib.ListN.{length}
use Rattle.std.specs.Prelude.{Option as Maybe, None, Some, Ok}
use Rattle.tlv.specs.declared.model.FileIndex.{FileIndex}
use Rattle.tlv.specs.Outcome.{Outcome, refused, done, ◌>>=◌}
use Rattle.tlv.specs.Checked.{Placed}
use Rattle.tlv.specs.Model.{CompilationUnit, LineHeader, LineRow}
use Rattle.buffers.specs.declared.table.Stored.{Stored}
use Rattle.buffers.specs.Buffer.{top}
use Rattle.buffers.proofs.TableLaws.{but_refl}
use Rattle.buffers.proofs.RecordLaws.{records-nil}
use Rattle.access.specs.Access.{NextOwn}
use Rattle.access.specs.Places.{unit_here}
use Rattle.line_program.specs.Program.{line_sequence_offsets}
use Rattle.lines.specs.Files.{FileTable, Indexed, intern_header_files}
use Rattle.lines.specs.Lines.{Run, run_rows, Collected, collect_header}
use Rattle.files.specs.declared.store.StoredFiles.{StoredFiles}
use Rattle.files.specs.Pieces.{header_here}
use Rattle.files.specs.Store.{table_of, FilesIn}
use Rattle.files.specs.Indices.{index_of, indices_of, indices_in}
use Rattle.files.proofs.UnitLaws.{unit-next, unit-within}
use Rattle.files.proofs.GrownLaws.{grown-none}
use Rattle.rows.specs.declared.line.LineSequenceRange.{LineSequenceRange}
use Rattle.rows.specs.declared.line.SequencedLine.{SequencedLine}
use Rattle.rows.specs.Stored.{lines_of, ranges_of}
use Rattle.rows.proofs.StoredLaws.{lines-nil, ranges-nil}
use Rattle.machine.specs.LineRows.{line_rows, rows_most, collect_from, collect_lines}
use Rattle.collect.specs.declared.source.UnitProgram.{UnitProgram}
use Rattle.collect.specs.Passes.{Counted, count_rows, count_all}
use Rattle.collect.specs.Sources.{program_in, source_rows, most_rows, rows_with, most_with, ProgramLent, SourceFound, first_fault}
use Rattle.collect.specs.Collects.{lines_in, lines_extent, UnitIn, LinesRoom, CollectsLines}
use Rattle.collect.specs.Stages.{HeaderIn, finish_run}
use Rattle.collect.proofs.RunLaws.{count-refused, count-done}
use Rattle.collect.proofs.LineLaws.{none-put}
use Rattle.collect.proofs.HeaderPlaces.{header_is, unit-stands, rows-here, encoding-here, header-none}

-- ---- the definition by its steps

module _ (u : CompilationUnit) (program : List ℕ) (t : FileTable) where
  pub collects_none : u.header ≡ none → collect_lines u program t ≡ done (record { table = t; lines = record { entries = []; files = []; sequences = [] }; warnings = [] })
  unfolding collect_lines
  collects_none e = rw e

  module _ (h : LineHeader) (e : u.header ≡ some h) where
    headed : collect_lines u program t ≡ (line_rows u h program >>= λ rows. collect_header u h program rows t)
    unfolding collect_lines
    headed = ap (collect_from u program t) e

    -- the rows are refused, or their count, or else something later
    pub collects-first : (n : ℕ) → ((rows : List LineRow) → line_rows u h program ≡ done rows → (run : Run) → run_rows rows 0 [] ≡ done run
        → collect_lines u program t ≡ refused n) → collect_lines u program t ≡ refused (first_fault (count_all (line_rows u h program)) n)
    unfolding collect_header ◌>>=◌
    collects-first n later = go (line_rows u h program) refl
      where
        counted : (rows : List LineRow) → line_rows u h program ≡ done rows → (k : Outcome Counted) → count_rows rows 0 0 0 ≡ k
            → collect_lines u program t ≡ refused (first_fault k n)
        counted rows l (refused m) k = headed ∙ rw (l, count-refused rows m k)
        counted rows l (done k) c = let R = count-done rows k c in later rows l R.run R.is

        go : (x : Outcome (List LineRow)) → line_rows u h program ≡ x → collect_lines u program t ≡ refused (first_fault (count_all x) n)
        go (refused m) l = headed ∙ rw l
        go (done rows) l = counted rows l (count_rows rows 0 0 0) refl

    module _ (rows : List LineRow) (l : line_rows u h program ≡ done rows) (run : Run) (r : run_rows rows 0 [] ≡ done run) where
      pub collects_program-refused : (n : ℕ) → line_sequence_offsets h program ≡ refused n → collect_lines u program t ≡ refused n
      unfolding collect_header ◌>>=◌
      collects_program-refused n o = headed ∙ rw (l, r, o)

      pub collects_files-refused : (os : List ℕ) → line_sequence_offsets h program ≡ done os → (n : ℕ) → intern_header_files u h t ≡ refused n
          → collect_lines u program t ≡ refused n
      unfolding collect_header ◌>>=◌
      collects_files-refused os o n f = headed ∙ rw (l, r, o, f)

    pub collects_end : (os : List ℕ) → line_sequence_offsets h program ≡ done os → (i : Indexed) → intern_header_files u h t ≡ done i → (y : Outcome Collected)
        → (line_rows u h program >>= λ rows. run_rows rows 0 [] >>= finish_run u h os i.table i.indices) ≡ y → collect_lines u program t ≡ y
    unfolding collect_header ◌>>=◌
    collects_end os o i f y k = headed ∙ go (line_rows u h program) ∙ k
      where
        ran : (x : Outcome Run)
            → (x >>= λ run. line_sequence_offsets h program >>= λ offsets. intern_header_files u h t >>= λ i. finish_run u h offsets i.table i.indices run)
            ≡ (x >>= finish_run u h os i.table i.indices)
        ran (refused n) = refl
        ran (done run) = rw (o, f)

        go : (x : Outcome (List LineRow)) → (x >>= λ rows. collect_header u h program rows t)
            ≡ (x >>= λ rows. run_rows rows 0 [] >>= finish_run u h os i.table i.indices)
        go (refused n) = refl
        go (done rows) = ran (run_rows rows 0 [])

-- ---- a unit without a header

module _ {main supplementary program w files warnings : List ℕ} {p warned free : ℕ} {t : StoredFiles} (h : Placed main 0) (U : UnitIn main p) (F : FilesIn main supplementary w t) (R : LinesRoom main w program t p free)
    (own : NextOwn main (p + 21) 0x13 None) {lines : Stored SequencedLine} {sequences : Stored LineSequenceRange} (b₁ : lines.base ≡ free) (n₁ : lines.count ≡ 0) (b₂ : sequences.base ≡ free) (n₂ : sequences.count ≡ 0)
    {indices : Stored FileIndex} (b₃ : indices.base ≡ free) (n₃ : indices.count ≡ 0) where
  pub collected-nothing : length files < top → length warnings < top → warned ≤ top
      → CollectsLines main supplementary program w w files files warnings warnings p t warned free
      (Ok (record {
        lines = record { lines = lines; sequences = sequences; buffer = free };
        indices = indices;
        table = t;
        warned = warned;
      }))
  unfolding lines_in indices_of lines_extent
  collected-nothing small-files small-warnings most =
      let room = R.room in
      let no-lines : lines_of w lines.base lines.count ≡ [] = rw (n₁) (lines-nil w lines.base) in
      let no-files : indices_in w indices ≡ [] = rw (n₃) (records-nil index_of 5 w indices.base) in
      let no-ranges : ranges_of w sequences.base sequences.count ≡ [] = rw (n₂) (ranges-nil w sequences.base) in
      record {
        is = record {
          new = [];
          collected =
              collects_none (unit_here main p) program (table_of main supplementary w t) (header-none (unit-stands h U) own)
              ∙ (λ i. done (record {
                table = table_of main supplementary w t;
                lines = record { entries = sym no-lines i; files = sym no-files i; sequences = sym no-ranges i };
                warnings = [];
              }));
          grown = grown-none F small-files;
          put = none-put most small-warnings;
          rows = record { lines = omega arith; sequences = omega arith; buffer = omega arith; sorted = rw no-lines tt };
          from = omega arith;
          indices = omega arith;
          sequences = omega arith;
          within = omega arith;
          rest = but_refl w _;
        };
        rest = but_refl w _;
      }

-- ---- a unit with a header

-- its header is there
pub header-there : {main payload : List ℕ} {p : ℕ} → HeaderIn main p payload → (unit_here main p).header ≡ some (header_here main p)
header-there H = H.is ∙ ap some (sym (header_is H))

-- the rows by the program that is lent
module _ (main : List ℕ) (p : ℕ) (program : List ℕ) where
  pub rows-lent : (source : Maybe UnitProgram) → ProgramLent source program → source_rows main p source ≡ rows_with main p source program
  rows-lent None L = refl
  rows-lent (Some u) L = ap (program_in u.encoding u.lengths.now) L

  pub most-lent : (source : Maybe UnitProgram) → ProgramLent source program → most_rows main p source ≡ most_with main p source program
  most-lent None L = refl
  most-lent (Some u) L = ap length L

module _ {main : List ℕ} {p : ℕ} (h : Placed main 0) (U : UnitIn main p) where
  pub place-within : p + 21 ≤ length main
  place-within = unit-within (unit-stands h U)

  pub rows-placed : Placed main (p + 21)
  rows-placed = unit-next (unit-stands h U)

  module _ {payload : List ℕ} (H : HeaderIn main p payload) where
    module _ {program : List ℕ} {source : Maybe UnitProgram} (F : SourceFound main (p + 21) payload program source) where
      -- the source that was found is that of its rows
      pub source-here : source_rows main (p + 21) source ≡ line_rows (unit_here main p) (header_here main p) program
      source-here =
          rows-lent main (p + 21) program source F.lent
          ∙ F.is (unit_here main p) program (encoding-here (unit-stands h U)) (rows-here (unit-stands h U))
          ∙ ap (λ (x : LineHeader). line_rows (unit_here main p) x program) (sym (header_is H))

      pub most-here : most_rows main (p + 21) source ≡ rows_most (unit_here main p) program
      most-here = most-lent main (p + 21) program source F.lent ∙ F.most (unit_here main p) program (encoding-here (unit-stands h U)) (rows-here (unit-stands h U))
