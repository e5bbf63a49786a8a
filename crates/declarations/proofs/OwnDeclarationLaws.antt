-- An entry's own declaration: its unit's number of the file, the warnings, and what they make of the search.
use mathlib.Core.Path.{◌≡◌, refl, sym, ap, ◌∙◌}
use mathlib.Core.Bool.{Bool, true, false, true≢false, false≢true}
use mathlib.Core.Logic.{inl}
use mathlib.Core.List.{List, [], ◌∷◌, ◌++◌, append-nil}
use mathlib.Core.Option.{Option, none, some}
use Prim.Native.Nat.{ℕ, ◌+◌, ◌*◌, ◌^◌, ◌≤◌, ◌<◌}
use native.Mathlib.Omega.{arith}
use lib.ListN.{length}
use borrow.Author.Tests.{le-ltb, lt-ltb}
use Rattle.tlv.specs.declared.model.DebugSource.{DebugSource}
use Rattle.tlv.specs.declared.model.FileIndex.{FileIndex}
use Rattle.std.specs.Prelude.{Some, None, Result, Ok, Err}
use Rattle.std.specs.declared.option.Option.{Option as Given}
use Rattle.tlv.specs.declared.refusal.Refusal.{Refusal}
use Rattle.tlv.specs.Outcome.{Outcome, ◌>>=◌}
use Rattle.tlv.specs.Lists.{is_none}
use Rattle.tlv.specs.Fields.{fields}
use Rattle.tlv.specs.Model.{CompilationUnit, LineHeader}
use Rattle.tlv.specs.Checked.{Placed, Accepted}
use Rattle.tlv.proofs.ListLaws.{any_one}
use Rattle.tlv.proofs.CursorLaws.{field-within}
use Rattle.tlv.proofs.PlaceFacts.{placed-start}
use Rattle.tlv.proofs.PlacePromises.{placed-unit}
use Rattle.buffers.specs.Buffer.{top}
use Rattle.buffers.specs.Table.{Clear, KeptBut}
use Rattle.buffers.specs.declared.warning.WarningKind.{WarningKind as Told}
use Rattle.buffers.specs.WarningKinds as told
use Rattle.buffers.specs.Output.{WarningKind, about, invalid_declaration_file, invalid_declaration_line, kind_number, each_of, files_bytes, warnings_bytes}
use Rattle.buffers.proofs.TableLaws.{here, there, but_of, but_one, but_refl, but_trans}
use Rattle.buffers.proofs.BufferLaws.{put-none}
use Rattle.access.specs.Places.{unit_here, entry_here, unit_places, UnitOf}
use Rattle.access.proofs.UnitFacts.{UnitAt, all-unit_places}
use Rattle.lines.specs.Files.{FileTable, FileIndices, get}
use Rattle.files.specs.declared.spans.FileUnit.{FileUnit}
use Rattle.files.specs.declared.index.FileNumber.{FileNumber}
use Rattle.files.specs.Pieces.{source_in, or_header, header_here, UnitPlaced, Described}
use Rattle.files.specs.Store.{extent, entries_of, table_of, FilesIn}
use Rattle.files.specs.Indices.{indices_in, number_of}
use Rattle.files.proofs.GrownLaws.{table_kept, files-kept, grown-none}
use Rattle.files.specs.Reached.{reached_indices, LookedUp}
use Rattle.references.specs.declared.ways.EntryAt.{EntryAt}
use Rattle.references.specs.Search.{Declaring, warn_declaration, declaration_of, own_declaration}
use Rattle.references.specs.Keys.{keys_from}
use Rattle.references.specs.Names.{place_at, trail_at, Stands}
use Rattle.references.specs.Reads.{after as still}
use Rattle.references.proofs.TargetLaws.{known-unit}
use Rattle.references.proofs.FollowLaws.{index_at}
use Rattle.declarations.specs.declared.declaring.Places.{Places}
use Rattle.declarations.specs.declared.declaring.DeclaringState.{DeclaringState}
use Rattle.declarations.specs.declared.declaring.Declared.{Declared}
use Rattle.declarations.specs.declared.own_declarations.OwnLine.{OwnLine}
use Rattle.declarations.specs.Declarations.{none_found, reached_files, indices_at, declaring_at, DeclaringIn, DeclaredState, lower, DeclaresCounted}
use Rattle.references.specs.Warnings.{AboutWarned}
use Rattle.declarations.specs.DeclaredSteps.{declared_by, OwnAt, Numbered, Warns, Owns, UnitKnown}
use Rattle.declarations.proofs.DeclareFrames.{unit-room, lower-keys, lower-ready, lower-rest}
use Rattle.declarations.proofs.DeclareLaws.{declares-here, declares-refused, declares-after}

-- ---- the unit of a place

unit-placed : {s : List ℕ} (q : ℕ) → Placed s 0 → UnitOf s q → UnitPlaced s q
unit-placed {s} q accepted listed =
    let u : UnitAt s q = any_one (unit_places 0 (fields s)) (λ y at same. rw same at at) (all-unit_places s 0 accepted) listed in
    let w = field-within s q _ 0x10 u.start u.len u.next refl u.is in
    let l = placed-unit s q _ 0x10 u.start u.len u.next u.placed refl u.is refl in
    let behind : u.next ≡ q + 21 = omega arith in
    record { placed = u.placed; is = rw (w.0, l, behind) at u.is }

module _ {main supplementary w : List ℕ} {d : Places} {st : DeclaringState} (D : DeclaringIn main supplementary w d st) where
  pub accepted-at : (input : DebugSource) → Placed (source_in main supplementary input) 0
  accepted-at input =
      let I = index_at D.search-tables input in
      placed-start (source_in main supplementary input) I.number I.accepted

  pub sheet-accepted : (input : DebugSource) → Accepted (source_in main supplementary input)
  sheet-accepted input = let I = index_at D.search-tables input in record { number = I.number; is = I.accepted }

  pub unit-known : (at : EntryAt) → Stands main supplementary at → UnitKnown (source_in main supplementary at.input) at.entry.unit
  unit-known at A =
      let I = index_at D.search-tables at.input in
      let listed = known-unit I.number I.accepted A.known in
      record { placed = unit-placed at.entry.unit (accepted-at at.input) listed; listed = listed }

  -- ---- the table's number

  pub number-imported : {n : FileNumber} (input : DebugSource) (q : ℕ) {reached : Bool} {r : Given FileIndex} → reached ≡ false → number_of r ≡ get (indices_in w d.indices) n.0
      → Numbered main supplementary w w d st (indices_at main supplementary w d st input q reached) n r
  unfolding indices_at
  number-imported input q not_so e = record { is_number = rw not_so e; same = refl; holds = D.files; rest = but_refl _ _ }

  pub number-reached : {w' : List ℕ} {n : FileNumber} (input : DebugSource) (q : ℕ) {reached : Bool} {r : Given FileIndex} → reached ≡ true
      → Numbered main supplementary w w' d st (reached_files (unit_here (source_in main supplementary input) q) (unit_here (source_in main supplementary input) q).header (table_of main supplementary w st.table)) n r
      → Numbered main supplementary w w' d st (indices_at main supplementary w d st input q reached) n r
  unfolding indices_at
  number-reached input q so N = rw so N

  -- of a unit that was reached
  module _ (input : DebugSource) {q : ℕ} (U : UnitKnown (source_in main supplementary input) q) where
    module _ {lacks : Bool} (e : lacks ≡ is_none (unit_here (source_in main supplementary input) q).header) where
      no_header : (u : CompilationUnit) (o : Option LineHeader) (t : FileTable) (n : ℕ) → is_none o ≡ true → none ≡ get (reached_files u o t) n
      unfolding get
      no_header u none t n y = refl
      no_header u (some h) t n y = absurd (false≢true y)

      pub number-none : {n : FileNumber} → lacks ≡ true
          → Numbered main supplementary w w d st (reached_files (unit_here (source_in main supplementary input) q) (unit_here (source_in main supplementary input) q).header (table_of main supplementary w st.table)) n None
      number-none {n} so = record {
        is_number = no_header (unit_here (source_in main supplementary input) q) (unit_here (source_in main supplementary input) q).header (table_of main supplementary w st.table) n.0 (sym e ∙ so);
        same = refl;
        holds = D.files;
        rest = but_refl _ _;
      }

      some-header : (u : CompilationUnit) (o : Option LineHeader) (t : FileTable) → is_none o ≡ false → reached_indices u (or_header o) t ≡ reached_files u o t
      some-header u none t y = absurd (true≢false y)
      some-header u (some h) t y = refl

      module _ {w₁ : List ℕ} {u : FileUnit} (not_so : lacks ≡ false) (B : Described (source_in main supplementary input) w w₁ input q d.spans u) (size : length w₁ ≡ length w) where
        pub described-clear : Clear st.table.base (extent st.table) ((d.spans, u.directories.count * 8) ∷ [])
        described-clear = let a = D.table in let b = D.indices in (inl (omega arith), tt)

        pub described-files : FilesIn main supplementary w₁ st.table
        described-files = files-kept D.files (but_one B.rest) described-clear size

        pub described-table : table_of main supplementary w₁ st.table ≡ table_of main supplementary w st.table
        described-table = table_kept D.files (but_one B.rest) described-clear

        pub described-room : u.directories.count * 8 + 5 * (1 + length (unit_here (source_in main supplementary input) q).files) ≤ d.room
        described-room =
            let a = unit-room D input q U.listed in
            let b : u.directories.count ≡ length (unit_here (source_in main supplementary input) q).directories = B.count in
            omega arith

        pub described-rest : KeptBut w w₁ (lower d st.table)
        described-rest = let a = described-room in but_of B.rest (there (here (omega arith) (omega arith)))

        pub number-looked : {w₂ : List ℕ} {n : FileNumber} {r : Given FileIndex} → LookedUp main supplementary w₁ w₂ st.table (source_in main supplementary u.source) u n r
            → Numbered main supplementary w w₂ d st (reached_files (unit_here (source_in main supplementary input) q) (unit_here (source_in main supplementary input) q).header (table_of main supplementary w st.table)) n r
        unfolding header_here
        number-looked {n = n} looked =
            let S = source_in main supplementary input in
            let L = rw B.source-is at looked in
            record {
              is_number = rw (B.place, described-table, some-header (unit_here S q) (unit_here S q).header (table_of main supplementary w st.table) (sym e ∙ not_so)) at L.is;
              same = L.same ∙ described-table;
              holds = L.holds;
              rest = but_trans described-rest (but_of L.rest (here (omega arith) (omega arith)));
            }

-- ---- a warning

module _ {s : List ℕ} {q p number : ℕ} {kind : Told} {warnings : List ℕ} {st : DeclaringState} where
  pub warns-refused : {warnings' : List ℕ} {n : Refusal} → AboutWarned s q p (told.number_of kind) number st.warned warnings warnings' (Err n) → Warns s q p kind number warnings warnings' st (Err n)
  warns-refused W = record { is = W.is }

  pub warns-laid : {warnings' : List ℕ} {r : ℕ} → AboutWarned s q p (told.number_of kind) number st.warned warnings warnings' (Ok r)
      → Warns s q p kind number warnings warnings' st (none_found (record { trail = st.trail; table = st.table; warned = r }))
  warns-laid W = record { is = (record { warning = W.is; trail = refl; table = refl }, refl) }

module _ {main supplementary w : List ℕ} {d : Places} {st : DeclaringState} (D : DeclaringIn main supplementary w d st) {s : List ℕ} {q p number : ℕ} {kind : Told} {warnings warnings' : List ℕ} where
  declares-warned : (k : WarningKind) (r : Result Declared Refusal) (files : List ℕ) → length files < top → told.number_of kind ≡ kind_number k → {a : ℕ} → a ≤ st.trail.count + 1 → Warns s q p kind number warnings warnings' st r
      → DeclaresCounted (λ y. still y.trail (warn_declaration k (unit_here s q) (entry_here s p) number y)) main supplementary w w files files warnings warnings' d st a a r
  unfolding warn_declaration ◌>>=◌
  declares-warned k (Err n) files few kd read W = declares-refused n (λ m. m) (λ m. refl) (λ m ws. rw W.is) (but_refl _ _)
  declares-warned k (Ok r) files few kd read W =
      let X = W.is.0 in
      let put = X.warning.laid k kd in
      record {
        reads = λ m. m;
        adds = λ m. refl;
        few = rw X.trail read;
        new = about k X.warning.offset number ∷ [];
        is = λ m ws. rw (X.warning.is, X.trail, X.table, W.is.1);
        after = record {
          grown = rw X.table (grown-none D.files few);
          put = put;
          ready = lower-ready D (but_refl w _) refl (rw X.trail refl) (rw X.table D.files) (rw X.table) (rw X.table) (let z = put.place in omega arith);
        };
        rest = but_refl _ _;
      }

-- ---- the search

module _ {main supplementary w : List ℕ} {d : Places} {st : DeclaringState} (D : DeclaringIn main supplementary w d st) {s : List ℕ} (at : EntryAt) (ids : FileIndices)
    (is : s ≡ source_in main supplementary at.input) {o : Given OwnLine} (O : OwnAt s at.entry.place o) where
  pub own-nothing : {warnings : List ℕ} → length warnings < top → o ≡ None
      → Owns (own_declaration (place_at main supplementary at).unit (place_at main supplementary at).entry ids) main supplementary w w warnings warnings d st (none_found st)
  own-nothing short none_is = record {
    declares = λ files few a read. declares-here D few short None read (λ k ws.
        let e = rw is at (O.is (place_at main supplementary at).unit ids (declaring_at main supplementary w d st ws k)) in ap (still (trail_at w (keys_from d.tables) st.trail.count k)) (e ∙ rw none_is));
  }

  module _ {w₁ : List ℕ} {l : OwnLine} {r : Given FileIndex} (there-is : o ≡ Some l) (N : Numbered main supplementary w w₁ d st ids l.file r) (size : length w₁ ≡ length w) where
    ready : DeclaringIn main supplementary w₁ d st
    ready = lower-ready D N.rest size refl N.holds refl refl D.warned

    state : (files warnings : List ℕ) → length files < top → length warnings < top → DeclaredState main supplementary w w₁ files files warnings warnings d st st []
    unfolding warnings_bytes files_bytes each_of table_of
    state files warnings few short = record {
      grown = record {
        new = [];
        entries = ap (λ (t : FileTable). t.entries) N.same ∙ sym (append-nil (entries_of main supplementary w st.table));
        holds = N.holds;
        put = put-none D.files.written few;
        base = refl;
        room = refl;
        first = refl;
      };
      put = put-none D.warned short;
      ready = ready;
    }

    after : (g : Declaring → Outcome Declaring) (x : Result Declared Refusal) (files warnings warnings₂ : List ℕ) → length files < top → length warnings < top → {a : ℕ}
        → ((y : Declaring) → declaration_of (place_at main supplementary at).unit (place_at main supplementary at).entry l.file.0 l.line (number_of r) y ≡ g y)
        → DeclaresCounted (λ y. still y.trail (g y)) main supplementary w₁ w₁ files files warnings warnings₂ d st a a x
        → DeclaresCounted (λ y. still y.trail (own_declaration (place_at main supplementary at).unit (place_at main supplementary at).entry ids y)) main supplementary w w₁ files files warnings warnings₂ d st a a x
    after g x files warnings warnings₂ few short to G =
        declares-after (state files warnings few short) (lower-rest D N.rest) (λ k. k) (λ k. refl)
        (λ k ws.
        let e = rw is at (O.is (place_at main supplementary at).unit ids (declaring_at main supplementary w d st ws k)) in
        let same : declaring_at main supplementary w d st ws k ≡ declaring_at main supplementary w₁ d st (ws ++ []) k = rw (append-nil ws, lower-keys D N.rest size, N.same) in
        let told : declared_by (place_at main supplementary at).unit (source_in main supplementary at.input) at.entry.place ids o (declaring_at main supplementary w d st ws k) ≡ g (declaring_at main supplementary w d st ws k)
        = rw (there-is, ← N.is_number) (to _) in
        ap (still (trail_at w (keys_from d.tables) st.trail.count k)) (e ∙ told) ∙ ap (λ (y : Declaring). still y.trail (g y)) same)
        x G

    pub own-no_file : {warnings warnings₂ : List ℕ} {x : Result Declared Refusal} → length warnings < top → r ≡ None → Warns s at.entry.unit at.entry.place Told.InvalidDeclarationFile l.file.0 warnings warnings₂ st x
        → Owns (own_declaration (place_at main supplementary at).unit (place_at main supplementary at).entry ids) main supplementary w w₁ warnings warnings₂ d st x
    unfolding kind_number
    own-no_file {warnings} {warnings₂} {x} short missing W = record {
      declares = λ files few a read.
          after (warn_declaration invalid_declaration_file (place_at main supplementary at).unit (place_at main supplementary at).entry l.file.0) x files warnings warnings₂ few short (λ y. rw missing)
          (declares-warned ready invalid_declaration_file x files few refl read (rw is at W));
    }

    pub own-long_line : {warnings warnings₂ : List ℕ} {x : Result Declared Refusal} {i : FileIndex} → length warnings < top → r ≡ Some i → 2 ^ 32 ≤ l.line → Warns s at.entry.unit at.entry.place Told.InvalidDeclarationLine l.line warnings warnings₂ st x
        → Owns (own_declaration (place_at main supplementary at).unit (place_at main supplementary at).entry ids) main supplementary w w₁ warnings warnings₂ d st x
    unfolding kind_number
    own-long_line {warnings} {warnings₂} {x} short number long W = record {
      declares = λ files few a read.
          after (warn_declaration invalid_declaration_line (place_at main supplementary at).unit (place_at main supplementary at).entry l.line) x files warnings warnings₂ few short (λ y. rw (number, le-ltb l.line (2 ^ 32) long))
          (declares-warned ready invalid_declaration_line x files few refl read (rw is at W));
    }

    pub own-found : {warnings : List ℕ} {i : FileIndex} {m : ℕ} → length warnings < top → r ≡ Some i → (l.line < 2 ^ 32) × (m ≡ l.line)
        → Owns (own_declaration (place_at main supplementary at).unit (place_at main supplementary at).entry ids) main supplementary w w₁ warnings warnings d st (Ok (record { state = st; found = Some (record { file = i; line = m }) }))
    own-found {warnings} {i} {m} short number small = record {
      declares = λ files few a read.
          after (declaration_of (place_at main supplementary at).unit (place_at main supplementary at).entry l.file.0 l.line (some i)) (Ok (record { state = st; found = Some (record { file = i; line = m }) })) files warnings warnings few short (λ y. rw number)
          (declares-here ready few short (Some (record { file = i; line = m })) read (λ k ws. rw (lt-ltb l.line (2 ^ 32) small.0, small.1)));
    }
