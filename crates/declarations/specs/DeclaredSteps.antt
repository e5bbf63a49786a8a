-- Contract. What the steps of the declaration search promise: an entry's own declaration, a unit's files that join the table, an offset that is followed.
use Rattle.std.specs.Prelude.{Some, None, Result, Ok, Err, ℕ, ◌+◌, ◌≤◌, ◌<◌, ◌≡◌, List, length}
use Rattle.std.specs.declared.option.Option.{Option as Given}
use Rattle.tlv.specs.declared.model.FileIndex.{FileIndex}
use Rattle.tlv.specs.declared.refusal.Refusal.{Refusal}
use Rattle.tlv.specs.Refusals as refusals
use Rattle.tlv.specs.Outcome.{Outcome, refused, done}
use Rattle.tlv.specs.Model.{CompilationUnit}
use Rattle.buffers.specs.Buffer.{top}
use Rattle.buffers.specs.Table.{KeptBut}
use Rattle.buffers.specs.declared.warning.WarningKind.{WarningKind}
use Rattle.buffers.specs.WarningKinds as kinds
use Rattle.access.specs.Places.{unit_here, entry_here, UnitOf}
use Rattle.lines.specs.Files.{FileIndices, get}
use Rattle.files.specs.declared.store.StoredFiles.{StoredFiles}
use Rattle.files.specs.declared.index.FileNumber.{FileNumber}
use Rattle.files.specs.Pieces.{UnitPlaced}
use Rattle.files.specs.Store.{table_of, FilesIn, Grown}
use Rattle.files.specs.Indices.{number_of}
use Rattle.references.specs.Search.{absolute_entry_offset, Declaring, declaration_of, own_declaration, unit_files}
use Rattle.references.specs.Reads.{after}
use Rattle.references.specs.Warnings.{WarningLaid}
use Rattle.declarations.specs.declared.declaring.Places.{Places}
use Rattle.declarations.specs.declared.declaring.DeclaringState.{DeclaringState}
use Rattle.declarations.specs.declared.declaring.Declared.{Declared}
use Rattle.declarations.specs.declared.own_declarations.OwnLine.{OwnLine}
use Rattle.declarations.specs.Declarations.{reached_files, ReachedUnit, lower, DeclaresCounted}

-- ---- the file number and the line of an entry

-- what a file number and a line make of the entry's own declaration
abbrev pub declared_by : CompilationUnit → List ℕ → ℕ → FileIndices → Given OwnLine → Declaring → Outcome Declaring
declared_by u s p is None x = done x
declared_by u s p is (Some l) x = declaration_of u (entry_here s p) l.file.0 l.line (get is l.file.0) x

pub record OwnAt (s : List ℕ) (p : ℕ) (r : Given OwnLine) : Type 0 where
  pub is : (u : CompilationUnit) (is : FileIndices) (x : Declaring) → own_declaration u (entry_here s p) is x ≡ declared_by u s p is r x

-- ---- the table's number for one of a unit's

pub record Numbered (main supplementary w w' : List ℕ) (d : Places) (st : DeclaringState) (is : FileIndices) (n : FileNumber)
    (r : Given FileIndex) : Type 0 where
  pub is_number : number_of r ≡ get is n.0
  pub same : table_of main supplementary w' st.table ≡ table_of main supplementary w st.table
  pub holds : FilesIn main supplementary w' st.table
  pub rest : KeptBut w w' (lower d st.table)

-- ---- a warning

-- a warning of the entry at p of the unit at q was laid
pub record WarnedOf (s : List ℕ) (q p : ℕ) (kind : WarningKind) (number : ℕ) (warnings warnings' : List ℕ) (st st' : DeclaringState) : Type 0 where
  pub warning : WarningLaid s q p (kinds.number_of kind) number st.warned warnings warnings' st'.warned
  pub trail : st'.trail ≡ st.trail
  pub table : st'.table ≡ st.table

abbrev pub WarnedIs : List ℕ → ℕ → ℕ → WarningKind → ℕ → List ℕ → List ℕ → DeclaringState → Result Declared Refusal → Type 0
WarnedIs s q p kind number warnings warnings' st (Ok r) = WarnedOf s q p kind number warnings warnings' st r.state × (r.found ≡ None)
WarnedIs s q p kind number warnings warnings' st (Err e) = absolute_entry_offset (unit_here s q) (entry_here s p).offset ≡ refused (refusals.number_of e)

pub record Warns (s : List ℕ) (q p : ℕ) (kind : WarningKind) (number : ℕ) (warnings warnings' : List ℕ) (st : DeclaringState)
    (r : Result Declared Refusal) : Type 0 where
  pub is : WarnedIs s q p kind number warnings warnings' st r

-- ---- an entry's own declaration: it adds no files

pub record Owns (f : Declaring → Outcome Declaring) (main supplementary w w' warnings warnings' : List ℕ) (d : Places) (st : DeclaringState)
    (r : Result Declared Refusal) : Type 0 where
  pub declares : (files : List ℕ) → length files < top → (a : ℕ) → a ≤ st.trail.count + 1
      → DeclaresCounted (λ s. after s.trail (f s)) main supplementary w w' files files warnings warnings' d st a a r

-- ---- a unit

-- the unit at q, one of its sheet
pub record UnitKnown (s : List ℕ) (q : ℕ) : Type 0 where
  pub placed : UnitPlaced s q
  pub listed : UnitOf s q

-- its files joined the table t, which is t' now
pub record JoinedTo (main supplementary w w' files files' : List ℕ) (t t' : StoredFiles) (u : CompilationUnit) : Type 0 where
  pub is : unit_files u u.header (table_of main supplementary w t)
      ≡ done (record { table = table_of main supplementary w' t'; indices = reached_files u u.header (table_of main supplementary w' t') })
  pub reached : ReachedUnit u u.header (table_of main supplementary w' t')
  pub grown : Grown main supplementary w w' files files' t t'

abbrev pub JoinedIs : List ℕ → List ℕ → List ℕ → List ℕ → List ℕ → List ℕ → StoredFiles → CompilationUnit → Result StoredFiles Refusal → Type 0
JoinedIs main supplementary w w' files files' t u (Err e) = unit_files u u.header (table_of main supplementary w t) ≡ refused (refusals.number_of e)
JoinedIs main supplementary w w' files files' t u (Ok t') = JoinedTo main supplementary w w' files files' t t' u

pub record Joins (main supplementary w w' files files' : List ℕ) (d : Places) (t : StoredFiles) (u : CompilationUnit)
    (r : Result StoredFiles Refusal) : Type 0 where
  pub is : JoinedIs main supplementary w w' files files' t u r
  pub rest : KeptBut w w' (lower d t)
