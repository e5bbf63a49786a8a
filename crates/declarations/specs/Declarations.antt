-- Contract. What the declaration search promises: the file and line, the files that join the table, the warnings.
use Rattle.std.specs.Prelude.{Some, None, Result, Ok, Err, ℕ, ◌+◌, ◌*◌, ◌≤◌, ◌≡◌, ◌⊎◌, Bool, true, cond, List, [], ◌∷◌, ◌++◌}
use Rattle.std.proofs.Math.Option.{Option, none, some}
use Rattle.std.specs.declared.option.Option.{Option as Given}
use Rattle.tlv.specs.declared.model.DebugSource.{DebugSource}
use Rattle.tlv.specs.declared.refusal.Refusal.{Refusal}
use Rattle.tlv.specs.Refusals.{number_of}
use Rattle.tlv.specs.Outcome.{Outcome, refused, done}
use Rattle.tlv.specs.Model.{CompilationUnit, LineHeader}
use Rattle.buffers.specs.Buffer.{top, Put}
use Rattle.buffers.specs.Table.{KeptBut}
use Rattle.buffers.specs.Output.{Warning, warnings_bytes}
use Rattle.access.specs.Places.{unit_here, entry_here, UnitOf}
use Rattle.access.specs.Units.{unit_record}
use Rattle.access.specs.Index.{entry_record}
use Rattle.lines.specs.Files.{FileTable, FileIndices}
use Rattle.files.specs.Pieces.{source_in}
use Rattle.files.specs.declared.store.StoredFiles.{StoredFiles}
use Rattle.files.specs.Store.{extent, table_of, FilesIn, Grown}
use Rattle.files.specs.Indices.{indices_in, index_record}
use Rattle.files.specs.Reached.{reached_indices, Reached}
use Rattle.files.specs.Interns.{map_extent}
use Rattle.references.specs.declared.ways.EntryAt.{EntryAt}
use Rattle.references.specs.declared.ways.OffsetAt.{OffsetAt}
use Rattle.references.specs.Search.{Declaring, with_found, with_trail, follow_absolute}
use Rattle.references.specs.Reads.{Counted, after, ◌>>>◌, counted_declaration_at, counted_declaration, declaration_reads, ReadsWithin}
use Rattle.references.specs.Keys.{keys_from, keys_extent}
use Rattle.references.specs.Names.{trail_at, SearchIn, dwarf_of, search_source, follow_from}
use Rattle.declarations.specs.declared.declaring.Places.{Places}
use Rattle.declarations.specs.declared.declaring.DeclaringState.{DeclaringState}
use Rattle.declarations.specs.declared.declaring.Declaration.{Declaration}
use Rattle.declarations.specs.declared.declaring.Declared.{Declared}

-- the numbers of the files of a unit that was reached by section offset, all of which are in the table
abbrev pub reached_files : CompilationUnit → Option LineHeader → FileTable → FileIndices
reached_files u none t = []
reached_files u (some h) t = reached_indices u h t

abbrev pub ReachedUnit : CompilationUnit → Option LineHeader → FileTable → Type 0
ReachedUnit u none t = Unit
ReachedUnit u (some h) t = Reached u h t

-- the numbers of a place's unit: by the map of the unit that is imported, or, of a unit that was reached, by the table
unfoldable pub indices_at : List ℕ → List ℕ → List ℕ → Places → DeclaringState → DebugSource → ℕ → Bool → FileIndices
indices_at main supplementary w d st input q reached =
    cond reached
    (reached_files (unit_here (source_in main supplementary input) q) (unit_here (source_in main supplementary input) q).header
    (table_of main supplementary w st.table))
    (indices_in w d.indices)

-- the search's state in w, with the warnings so far and the number of entries that it has read
abbrev pub declaring_at : List ℕ → List ℕ → List ℕ → Places → DeclaringState → List Warning → ℕ → Declaring
declaring_at main supplementary w d st ws reads = record {
  trail = trail_at w (keys_from d.tables) st.trail.count reads;
  table = table_of main supplementary w st.table;
  warnings = ws;
  found = none;
}

-- the n bytes at p stand above the spans of a unit's directories, or below the file table t
abbrev pub Beside : Places → StoredFiles → ℕ → ℕ → Type 0
Beside d t p n = (d.spans + d.room ≤ p) ⊎ (p + n ≤ t.base)

-- the file table stands below the imported unit's map, this below the spans of a unit's directories, these below the followed targets; the tables of both
-- sheets stand beside them; there is room for the directories of every unit, and for its map, which is written and not read
-- Stays a clause: it speaks of the work slice, which is written between two calls.
pub record DeclaringIn (main supplementary w : List ℕ) (d : Places) (st : DeclaringState) : Type 0 where
  pub search-tables : SearchIn main supplementary w d.tables st.trail.count
  pub files : FilesIn main supplementary w st.table
  pub warned : st.warned ≤ top
  pub table : st.table.base + extent st.table ≤ d.indices.base
  pub indices : d.indices.base + d.indices.count * index_record ≤ d.spans
  pub keys : d.spans + d.room ≤ d.tables.keys
  pub main-units : Beside d st.table d.tables.main.units.base (unit_record * d.tables.main.units.count)
  pub main-entries : Beside d st.table d.tables.main.entries.base (entry_record * d.tables.main.entries.count)
  pub supplementary-units : Beside d st.table d.tables.supplementary.units.base (unit_record * d.tables.supplementary.units.count)
  pub supplementary-entries : Beside d st.table d.tables.supplementary.entries.base (entry_record * d.tables.supplementary.entries.count)
  pub room-main : (q : ℕ) → UnitOf main q
      → map_extent main q ≤ d.room
  pub room-supplementary : (q : ℕ) → UnitOf supplementary q
      → map_extent supplementary q ≤ d.room

-- the state with what was found
abbrev pub found_in : Given Declaration → Declaring → Declaring
found_in None x = x
found_in (Some l) x = with_found x (some (record { address = 0; file = l.file; line = l.line; column = 0 }))

-- the answer of a search that found nothing
abbrev pub none_found : DeclaringState → Result Declared Refusal
none_found st = Ok (record { state = st; found = None })

-- the answer with the state after it
abbrev pub answered : DeclaringState → Result (Given Declaration) Refusal → Result Declared Refusal
answered st (Ok found) = Ok (record { state = st; found = found })
answered st (Err e) = Err e

-- what an answer says of the definition's outcome, from any warnings and any number of reads
abbrev pub DeclaredAs : List ℕ → List ℕ → List ℕ → Places → List Warning → ℕ → List Warning → Outcome Declaring → Result Declared Refusal → Type 0
DeclaredAs main supplementary w' d ws reads new o (Ok r) = o ≡ done (found_in r.found (declaring_at main supplementary w' d r.state (ws ++ new) reads))
DeclaredAs main supplementary w' d ws reads new o (Err e) = o ≡ refused (number_of e)

-- the state after, its new files and warnings written
pub record DeclaredState (main supplementary w w' files files' warnings warnings' : List ℕ) (d : Places) (st st' : DeclaringState)
    (new : List Warning) : Type 0 where
  pub grown : Grown main supplementary w w' files files' st.table st'.table
  pub put : Put st.warned (warnings_bytes new) warnings warnings' st'.warned
  pub ready : DeclaringIn main supplementary w' d st'

abbrev pub DeclaredAfter : List ℕ → List ℕ → List ℕ → List ℕ → List ℕ → List ℕ → List ℕ → List ℕ → Places → DeclaringState
    → List Warning → Result Declared Refusal → Type 0
DeclaredAfter main supplementary w w' files files' warnings warnings' d st new (Ok r) =
    DeclaredState main supplementary w w' files files' warnings warnings' d st r.state new
DeclaredAfter main supplementary w w' files files' warnings warnings' d st new (Err e) = Unit

-- what a search writes: the file table, a unit's directories and map, and its targets
abbrev pub lower : Places → StoredFiles → List (ℕ × ℕ)
lower d t = (t.base, extent t) ∷ (d.spans, d.room) ∷ []

abbrev pub searched : List ℕ → List ℕ → Places → StoredFiles → List (ℕ × ℕ)
searched main supplementary d t = (t.base, extent t) ∷ (d.spans, d.room) ∷ (d.tables.keys, keys_extent main supplementary d.tables) ∷ []

-- a search f from the state st has answered r
pub record Declares (f : Declaring → Outcome Declaring) (main supplementary w w' files files' warnings warnings' : List ℕ) (d : Places)
    (st : DeclaringState) (r : Result Declared Refusal) : Type 0 where
  pub reads : ℕ → ℕ
  pub new : List Warning
  pub is : (k : ℕ) (ws : List Warning) → DeclaredAs main supplementary w' d ws (reads k) new (f (declaring_at main supplementary w d st ws k)) r
  pub after : DeclaredAfter main supplementary w w' files files' warnings warnings' d st new r
  pub rest : KeptBut w w' (searched main supplementary d st.table)

-- ---- with the count of the entries that were read

abbrev pub CountedAs : List ℕ → List ℕ → List ℕ → Places → List Warning → ℕ → List Warning → Counted Declaring → Result Declared Refusal → Type 0
CountedAs main supplementary w' d ws n new c (Ok r) =
    c ≡ record { reads = n; outcome = done (found_in r.found (declaring_at main supplementary w' d r.state (ws ++ new) n)) }
CountedAs main supplementary w' d ws n new c (Err e) = c ≡ record { reads = n; outcome = refused (number_of e) }

-- the search has read no more entries than it followed targets, and its start
abbrev pub FewRead : ℕ → Result Declared Refusal → Type 0
FewRead b (Ok r) = b ≤ r.state.trail.count + 1
FewRead b (Err e) = Unit

-- a search f from the state st, a entries read, has answered r, b entries read
pub record DeclaresCounted (f : Declaring → Counted Declaring) (main supplementary w w' files files' warnings warnings' : List ℕ) (d : Places)
    (st : DeclaringState) (a b : ℕ) (r : Result Declared Refusal) : Type 0 where
  pub reads : ℕ → ℕ
  pub adds : (k : ℕ) → reads k + a ≡ k + b
  pub few : FewRead b r
  pub new : List Warning
  pub is : (k : ℕ) (ws : List Warning) → CountedAs main supplementary w' d ws (reads k) new (f (declaring_at main supplementary w d st ws k)) r
  pub after : DeclaredAfter main supplementary w w' files files' warnings warnings' d st new r
  pub rest : KeptBut w w' (searched main supplementary d st.table)

-- the count of the search from the entry at place p of the unit at place q; which warnings there were before decides nothing
pub record LineRead (main supplementary w : List ℕ) (d : Places) (st : DeclaringState) (q p n : ℕ) : Type 0 where
  pub is : (ws : List Warning) → n
      ≡ declaration_reads (dwarf_of main supplementary) (unit_here main q) (entry_here main p) (indices_in w d.indices)
      (table_of main supplementary w st.table) ws
  pub within : ReadsWithin (dwarf_of main supplementary) n

-- the files of a unit that was reached by section offset are in the table
pub record Reaching (main supplementary w : List ℕ) (st : DeclaringState) (at : EntryAt) (reached : Bool) : Type 0 where
  pub unit : reached ≡ true
      → ReachedUnit (unit_here (source_in main supplementary at.input) at.entry.unit) (unit_here (source_in main supplementary at.input) at.entry.unit).header
      (table_of main supplementary w st.table)

-- ---- the members of the cycle

-- resolve_reference: the declaration that the attribute of a name leads to; k is how many entries are left behind this one
unfoldable pub resolve_reference : ℕ → List ℕ → List ℕ → EntryAt → FileIndices → ℕ → Declaring → Counted Declaring
resolve_reference k main supplementary at is name s =
    after s.trail (follow_from main supplementary at name s.trail) >>> λ f.
    counted_declaration_at (counted_declaration k (dwarf_of main supplementary)) is (with_trail s f.trail) f.target

-- resolve_absolute: the declaration at an offset of the section; k is how many entries are left
unfoldable pub resolve_absolute : ℕ → List ℕ → List ℕ → OffsetAt → Declaring → Counted Declaring
resolve_absolute k main supplementary at s =
    after s.trail (follow_absolute (dwarf_of main supplementary) (search_source at.input) (search_source at.key.source) s.trail at.key.offset) >>> λ f.
    counted_declaration_at (counted_declaration k (dwarf_of main supplementary)) [] (with_trail s f.trail) f.target
