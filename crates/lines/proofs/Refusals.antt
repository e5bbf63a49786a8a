-- The numbers that reading a unit's lines can refuse with: 7 to 12 for its program, 6 for rows and paths, 15 for the file table.
use Prim.Native.Nat.{ℕ, zero, suc}
use mathlib.Core.List.{List, [], ◌∷◌}
use mathlib.Core.Option.{Option, none, some}
use Rattle.tlv.specs.Model.{CompilationUnit, LineHeader, Directory, HeaderFile, LineRow}
use Rattle.tlv.specs.declared.model.FileIndex.{FileIndex}
use Rattle.tlv.proofs.RefusalLaws.{RefusesIn, never, refuses-wider, refusing}
use Rattle.buffers.specs.Output.{FileEntry}
use Rattle.line_program.specs.Standard.{OperandKind, unsigned, signed, half, Opcodes}
use Rattle.line_program.specs.Program.{uleb_within, uleb, sleb_within, sleb, skip_operand, skip_operands, take_line_bytes, extended_body, extended, skip}
use Rattle.line_program.specs.Program.{sequences_within, scan_line_sequence_offsets, line_sequence_offsets}
use Rattle.paths.specs.Paths.{read_directory, named_directory, file_entry}
use Rattle.lines.specs.Files.{FileTable, place_of, append_file, add_file_at, add_file, intern_entry, intern_file, intern_files, intern_header_files, header_file}
use Rattle.lines.specs.Files.{get}
use Rattle.lines.specs.Lines.{RawLine, run_rows, Converted, convert_looked_up, convert_known, convert_row, convert_rows, collect_header}

-- ---- the line program: 7 to 12

refuses-uleb_within : (k : ℕ) (s : List ℕ) → RefusesIn 7 12 (uleb_within k s)
unfolding uleb_within
refuses-uleb_within zero [] = search refusing
refuses-uleb_within zero (b ∷ s) = search refusing
refuses-uleb_within (suc k) [] = search refusing
refuses-uleb_within (suc k) (b ∷ s) = let later = refuses-uleb_within k s in search refusing

pub refuses-uleb : (s : List ℕ) → RefusesIn 7 12 (uleb s)
unfolding uleb
refuses-uleb s = refuses-uleb_within 9 s

refuses-sleb_within : (k : ℕ) (s : List ℕ) → RefusesIn 7 12 (sleb_within k s)
unfolding sleb_within
refuses-sleb_within zero [] = search refusing
refuses-sleb_within zero (b ∷ s) = search refusing
refuses-sleb_within (suc k) [] = search refusing
refuses-sleb_within (suc k) (b ∷ s) = let later = refuses-sleb_within k s in search refusing

pub refuses-sleb : (s : List ℕ) → RefusesIn 7 12 (sleb s)
unfolding sleb
refuses-sleb s = refuses-sleb_within 9 s

refuses-operand : (k : OperandKind) (s : List ℕ) → RefusesIn 7 12 (skip_operand k s)
unfolding skip_operand
refuses-operand unsigned s = search (refusing, refuses-uleb)
refuses-operand signed s = search (refusing, refuses-sleb)
refuses-operand half s = search refusing

pub refuses-operands : (ks : List OperandKind) (s : List ℕ) → RefusesIn 7 12 (skip_operands ks s)
unfolding skip_operands
refuses-operands [] s = never
refuses-operands (k ∷ ks) s = let later = refuses-operands ks in search (refusing, refuses-operand)

pub refuses-take : (whole n : ℕ) (s : List ℕ) → RefusesIn 7 12 (take_line_bytes whole n s)
unfolding take_line_bytes
refuses-take whole n s = search refusing

refuses-body : (whole n : ℕ) (s : List ℕ) → RefusesIn 7 12 (extended_body whole n s)
unfolding extended_body
refuses-body whole n [] = search refusing
refuses-body whole n (b ∷ s) = search (refusing, refuses-take)

refuses-extended : (whole : ℕ) (s : List ℕ) → RefusesIn 7 12 (extended whole s)
unfolding extended
refuses-extended whole s = search (refusing, refuses-uleb, refuses-body)

pub refuses-skip : (h : Opcodes) (whole o : ℕ) (s : List ℕ) → RefusesIn 7 12 (skip h whole o s)
unfolding skip
refuses-skip h whole o s = search (refusing, refuses-extended, refuses-operands)

refuses-sequences : (k : ℕ) (h : Opcodes) (base whole from : ℕ) (s : List ℕ) → RefusesIn 7 12 (sequences_within k h base whole from s)
unfolding sequences_within
refuses-sequences zero h base whole from s = never
refuses-sequences (suc k) h base whole from [] = never
refuses-sequences (suc k) h base whole from (o ∷ s) = let later = refuses-sequences k in search (refusing, refuses-skip)

pub refuses-program : (h : LineHeader) (program : List ℕ) → RefusesIn 7 12 (line_sequence_offsets h program)
unfolding line_sequence_offsets scan_line_sequence_offsets
refuses-program h program = search (refusing, refuses-sequences)

-- ---- paths: 6

refuses-directory : (o : Option Directory) → RefusesIn 6 6 (read_directory o)
refuses-directory none = never
refuses-directory (some d) = search refusing

refuses-named : (u : CompilationUnit) (version n : ℕ) → RefusesIn 6 6 (named_directory u version n)
unfolding named_directory
refuses-named u version n = search (refusing, refuses-directory)

pub refuses-path : (u : CompilationUnit) (h : LineHeader) (f : HeaderFile) → RefusesIn 6 6 (file_entry u h f)
unfolding file_entry
refuses-path u h f = search (refusing, refuses-named)

-- ---- the file table: 15

pub refuses-add : (t : FileTable) (e : FileEntry) → RefusesIn 15 15 (add_file t e)
unfolding add_file append_file
refuses-add t e = go (place_of e t.entries)
  where
    go : (o : Option ℕ) → RefusesIn 15 15 (add_file_at t e o)
    go none = search refusing
    go (some n) = never

-- ---- a unit's files and rows: 6 to 15

pub refuses-intern : (u : CompilationUnit) (h : LineHeader) (t : FileTable) (f : HeaderFile) → RefusesIn 6 15 (intern_file u h t f)
unfolding intern_file
refuses-intern u h t f = search (refusing, refuses-wider 6 6, refuses-path, go)
  where
    go : (o : Option FileEntry) → RefusesIn 6 15 (intern_entry t o)
    go none = never
    go (some e) = search (refusing, refuses-wider 15 15, refuses-add)

refuses-interns : (u : CompilationUnit) (h : LineHeader) (fs : List HeaderFile) (t : FileTable) → RefusesIn 6 15 (intern_files u h t fs)
unfolding intern_files
refuses-interns u h [] t = never
refuses-interns u h (f ∷ fs) t = let later = refuses-interns u h fs in search (refusing, refuses-intern)

pub refuses-header-files : (u : CompilationUnit) (h : LineHeader) (t : FileTable) → RefusesIn 6 15 (intern_header_files u h t)
unfolding intern_header_files
refuses-header-files u h t = search (refusing, refuses-interns)

refuses-run : (rs : List LineRow) (n : ℕ) (opened : List RawLine) → RefusesIn 6 6 (run_rows rs n opened)
unfolding run_rows
refuses-run [] n opened = never
refuses-run (r ∷ rs) n opened = let later = refuses-run rs in search refusing

module _ (u : CompilationUnit) (h : LineHeader) (offsets : List ℕ) where
  refuses-looked_up : (r : RawLine) (c : Converted) (o : Option HeaderFile) → RefusesIn 6 15 (convert_looked_up u h offsets r c o)
  refuses-looked_up r c none = never
  refuses-looked_up r c (some f) = search (refusing, refuses-intern)

  refuses-known : (r : RawLine) (c : Converted) (o : Option FileIndex) → RefusesIn 6 15 (convert_known u h offsets r c o)
  refuses-known r c none = refuses-looked_up r c (header_file u h r.file)
  refuses-known r c (some file) = never

  refuses-row : (r : RawLine) (c : Converted) → RefusesIn 6 15 (convert_row u h offsets r c)
  unfolding convert_row
  refuses-row r c = refuses-known r c (get c.indices r.file)

  refuses-rows : (rs : List RawLine) (c : Converted) → RefusesIn 6 15 (convert_rows u h offsets rs c)
  unfolding convert_rows
  refuses-rows [] c = never
  refuses-rows (r ∷ rs) c = let later = refuses-rows rs in search (refusing, refuses-row)

pub refuses-collect : (u : CompilationUnit) (h : LineHeader) (program : List ℕ) (rows : List LineRow) (t : FileTable)
    → RefusesIn 6 15 (collect_header u h program rows t)
unfolding collect_header
refuses-collect u h program rows t =
    search (refusing, refuses-wider 6 6, refuses-run, refuses-wider 7 12, refuses-program, refuses-header-files, refuses-rows) depth 8
