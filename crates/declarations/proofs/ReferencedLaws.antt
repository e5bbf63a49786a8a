-- The ways through a reference and through an offset of a section: nothing, a refusal, an entry of the same unit, an entry of a unit that is reached.
use mathlib.Core.Path.{◌≡◌, refl, sym, ap, ◌∙◌}
use mathlib.Core.Bool.{Bool, true, false}
use mathlib.Core.List.{List, [], ◌∷◌, ◌++◌, append-nil}
use mathlib.Core.Option.{none}
use Prim.Native.Nat.{ℕ, ◌+◌, ◌-◌, ◌≤◌, ◌<◌}
use native.Mathlib.Omega.{arith}
use lib.ListN.{length}
use Rattle.std.specs.Prelude.{Some, None, Result, Ok, Err}
use Rattle.std.specs.declared.option.Option.{Option as Given}
use Rattle.tlv.specs.declared.refusal.Refusal.{Refusal}
use Rattle.tlv.specs.Refusals.{number_of}
use Rattle.tlv.specs.Outcome.{Outcome, refused, done}
use Rattle.tlv.specs.Lists.{exists}
use Rattle.tlv.proofs.OutcomeLaws.{Gives, gives}
use Rattle.buffers.specs.Buffer.{top}
use Rattle.buffers.specs.Table.{KeptBut}
use Rattle.buffers.specs.Output.{Warning, each_of, warnings_bytes, files_bytes}
use Rattle.buffers.proofs.BufferLaws.{put-none}
use Rattle.buffers.proofs.TableLaws.{but_refl, but_trans}
use Rattle.access.specs.Places.{unit_here}
use Rattle.lines.specs.Files.{FileTable, FileIndices}
use Rattle.files.specs.Pieces.{source_in}
use Rattle.files.specs.declared.store.StoredFiles.{StoredFiles}
use Rattle.files.specs.Store.{entries_of, table_of}
use Rattle.files.proofs.GrownLaws.{grown-trans}
use Rattle.references.specs.declared.ways.EntryAt.{EntryAt}
use Rattle.references.specs.declared.keys.DieKey.{DieKey as Key}
use Rattle.references.specs.declared.ways.OffsetAt.{OffsetAt}
use Rattle.references.specs.declared.ways.Way.{Way}
use Rattle.references.specs.declared.trails.Trail.{Trail as Walked}
use Rattle.references.specs.Search.{DieKey, same_key, Followed, followed_nothing, Target, nothing, same_unit, by_offset, Declaring, with_trail}
use Rattle.references.specs.Reads.{after, ◌>>>◌, CountedDeclarations, counted_declaration_at, counted_declaration}
use Rattle.references.specs.Keys.{keys_at, key_in, Pushed, PossibleKey, keys_from}
use Rattle.references.specs.Names.{dwarf_of, search_source, place_at, trail_at, follow_from, EntryNext, OffsetNext, Ways, Aims}
use Rattle.declarations.specs.declared.declaring.Places.{Places}
use Rattle.declarations.specs.declared.declaring.DeclaringState.{DeclaringState}
use Rattle.declarations.specs.declared.declaring.Declared.{Declared}
use Rattle.declarations.specs.Declarations.{none_found, indices_at, declaring_at, DeclaringIn, DeclaredState, searched, DeclaresCounted, Reaching, resolve_reference, resolve_absolute}
use Rattle.declarations.specs.DeclaredSteps.{JoinedTo, Joins}
use Rattle.declarations.proofs.AimLaws.{follow_offset, AimOutside, AimEntry}
use Rattle.declarations.proofs.DeclareFrames.{more, lower-keys, lower-ready, lower-rest, pushed_rest, pushed-table, pushed_map, pushed_ready}
use Rattle.declarations.proofs.DeclareLaws.{declares-here, declares-refused, declares-as, declares-after}
use Rattle.declarations.proofs.ResolveLaws.{Far, absolute-far, same-unit, indices-as, reaching_as}

-- the state as files join the table
abbrev joining : DeclaringState → Walked → StoredFiles → DeclaringState
joining st t table = record { trail = t; table = table; warned = st.warned }

-- ---- a target is written down

module _ {main supplementary w w₁ : List ℕ} {d : Places} {st : DeclaringState} (D : DeclaringIn main supplementary w d st) {k : DieKey} (possible : PossibleKey main supplementary k)
    (new : exists (same_key k) (keys_at w (keys_from d.tables) st.trail.count) ≡ false) (P : Pushed w w₁ d.tables st.trail.count k) (t : Walked) (one : t.count ≡ st.trail.count + 1) (size : length w₁ ≡ length w) where
  pushed-state : (files warnings : List ℕ) → length files < top → length warnings < top → DeclaredState main supplementary w w₁ files files warnings warnings d st (more st t) []
  unfolding warnings_bytes files_bytes each_of table_of
  pushed-state files warnings few short = record {
    grown = record {
      new = [];
      entries = ap (λ (t : FileTable). t.entries) (pushed-table D possible new P) ∙ sym (append-nil (entries_of main supplementary w st.table));
      holds = (pushed_ready D possible new P t one size).files;
      put = put-none D.files.written few;
      base = refl;
      room = refl;
      first = refl;
    };
    put = put-none D.warned short;
    ready = pushed_ready D possible new P t one size;
  }

  pushed_at : (ws : List Warning) (n : ℕ)
      → record { trail = record { visited = k ∷ keys_at w (keys_from d.tables) st.trail.count; reads = n }; table = table_of main supplementary w st.table; warnings = ws; found = none }
      ≡ declaring_at main supplementary w₁ d (more st t) (ws ++ []) n
  pushed_at ws n = rw (append-nil ws, one, P.keys, pushed-table D possible new P)

-- ---- a reference

module _ {main supplementary w : List ℕ} {d : Places} {st : DeclaringState} (D : DeclaringIn main supplementary w d st) (at : EntryAt) (reached : Bool) (name : ℕ) where
  pub reference-nothing : {files warnings : List ℕ} {a : ℕ} (is : FileIndices) → length files < top → length warnings < top → a ≤ st.trail.count + 1 → (y : Given Way) → y ≡ None
      → Ways (follow_from main supplementary at name) main supplementary w d.tables st.trail.count at.left (Ok y)
      → DeclaresCounted (resolve_reference (at.left - 1) main supplementary at is name) main supplementary w w files files warnings warnings d st a a (none_found st)
  unfolding resolve_reference
  reference-nothing is few short read y to W = let e = rw to at W.is in declares-here D few short None read (λ k ws. rw (e k))

  pub reference-refused : {files warnings : List ℕ} {a : ℕ} (is : FileIndices) (n : Refusal)
      → Ways (follow_from main supplementary at name) main supplementary w d.tables st.trail.count at.left (Err n)
      → DeclaresCounted (resolve_reference (at.left - 1) main supplementary at is name) main supplementary w w files files warnings warnings d st a a (Err n)
  unfolding resolve_reference
  reference-refused is n W = declares-refused n (λ k. k) (λ k. refl) (λ k ws. rw (W.is k)) (but_refl _ _)

  pub entry_next : (next : EntryAt) (key : Key) (y : Given Way) → y ≡ Some (Way.Entry next key) → Ways (follow_from main supplementary at name) main supplementary w d.tables st.trail.count at.left (Ok y)
      → EntryNext (follow_from main supplementary at name) main supplementary w d.tables st.trail.count at.left next key
  entry_next next key y to W = rw to at W.is

  pub offset-next : (next : OffsetAt) (y : Given Way) → y ≡ Some (Way.Offset next) → Ways (follow_from main supplementary at name) main supplementary w d.tables st.trail.count at.left (Ok y)
      → OffsetNext (follow_from main supplementary at name) main supplementary w d.tables st.trail.count at.left next
  offset-next next y to W = rw to at W.is

  module _ (R : Reaching main supplementary w st at reached) {next : EntryAt} {key : Key}
      (N : EntryNext (follow_from main supplementary at name) main supplementary w d.tables st.trail.count at.left next key) where
    next-unit : (place_at main supplementary next).unit ≡ (place_at main supplementary at).unit
    next-unit = same-unit main supplementary at name _ _ (place_at main supplementary next) (N.is 0)

    module _ {w₁ : List ℕ} (P : Pushed w w₁ d.tables st.trail.count (key_in key.source key.offset)) (t : Walked) (one : t.count ≡ st.trail.count + 1) where
      pub entry-reaching : Reaching main supplementary w₁ (more st t) next reached
      entry-reaching = reaching_as R (pushed-table D N.possible N.new P) next-unit

      pub reference-entry : {files warnings w₂ files₂ warnings₂ : List ℕ} {a b : ℕ} → length w₁ ≡ length w → length files < top → length warnings < top → (r : Result Declared Refusal)
          → DeclaresCounted (counted_declaration next.left (dwarf_of main supplementary) (place_at main supplementary next) (indices_at main supplementary w₁ d (more st t) next.input next.entry.unit reached))
          main supplementary w₁ w₂ files files₂ warnings warnings₂ d (more st t) (a + 1) b r
          → DeclaresCounted (resolve_reference (at.left - 1) main supplementary at (indices_at main supplementary w d st at.input at.entry.unit reached) name)
          main supplementary w w₂ files files₂ warnings warnings₂ d st a b r
      unfolding resolve_reference
      reference-entry {files} {warnings} size few short r G =
          let ids = indices-as main supplementary w w₁ d st (more st t) at next reached (pushed_map D N.possible N.new P) (pushed-table D N.possible N.new P) next-unit in
          declares-after (pushed-state D N.possible N.new P t one size files warnings few short) (pushed_rest D N.possible N.new P) (λ k. k + 1) (λ k. omega arith)
          (λ k ws. rw (N.is k) (ap (counted_declaration (at.left - 1) (dwarf_of main supplementary) (place_at main supplementary next) (indices_at main supplementary w d st at.input at.entry.unit reached))
          (pushed_at D N.possible N.new P t one size ws (k + 1))))
          r (rw (ids, N.deeper) at G)

  -- an offset of a section leads to no entry by its unit alone
  far_as : (s : CountedDeclarations) (is : FileIndices) (x : Declaring) (o : Outcome Followed) → Gives (λ f. Far f.target) o
      → (after x.trail o >>> λ f. counted_declaration_at s is (with_trail x f.trail) f.target) ≡ (after x.trail o >>> λ f. counted_declaration_at s [] (with_trail x f.trail) f.target)
  far_as s is x (refused n) g = refl
  far_as s is x (done f) (gives h) = go f.target h
    where
      go : (y : Target) → Far y → counted_declaration_at s is (with_trail x f.trail) y ≡ counted_declaration_at s [] (with_trail x f.trail) y
      go nothing h = refl
      go (same_unit p) h = absurd h
      go (by_offset p) h = refl

  pub reference-offset : {w₂ files files₂ warnings warnings₂ : List ℕ} {a b : ℕ} (is : FileIndices) {next : OffsetAt} (r : Result Declared Refusal)
      → OffsetNext (follow_from main supplementary at name) main supplementary w d.tables st.trail.count at.left next
      → DeclaresCounted (resolve_absolute next.left main supplementary next) main supplementary w w₂ files files₂ warnings warnings₂ d st a b r
      → DeclaresCounted (resolve_reference (at.left - 1) main supplementary at is name) main supplementary w w₂ files files₂ warnings warnings₂ d st a b r
  unfolding resolve_reference resolve_absolute
  reference-offset is {next} r N G =
      declares-as r (λ k ws. rw (N.is k) (far_as (counted_declaration (at.left - 1) (dwarf_of main supplementary)) is (declaring_at main supplementary w d st ws k) _
      (absolute-far (dwarf_of main supplementary) (search_source next.input) (search_source next.key.source) (trail_at w (keys_from d.tables) st.trail.count k) next.key.offset))) (rw N.deeper at G)

-- ---- an offset of a section

module _ {main supplementary w : List ℕ} {d : Places} {st : DeclaringState} (D : DeclaringIn main supplementary w d st) (at : OffsetAt) where
  pub absolute-seen : {files warnings : List ℕ} {c : ℕ} → length files < top → length warnings < top → c ≤ st.trail.count + 1
      → ((k : ℕ) → follow_offset main supplementary at (trail_at w (keys_from d.tables) st.trail.count k) ≡ followed_nothing (trail_at w (keys_from d.tables) st.trail.count k))
      → DeclaresCounted (resolve_absolute at.left main supplementary at) main supplementary w w files files warnings warnings d st c c (none_found st)
  unfolding resolve_absolute follow_offset
  absolute-seen few short read e = declares-here D few short None read (λ k ws. rw (e k))

  pub absolute-refused : {files warnings : List ℕ} {c : ℕ} (n : Refusal)
      → ((k : ℕ) → follow_offset main supplementary at (trail_at w (keys_from d.tables) st.trail.count k) ≡ refused (number_of n))
      → DeclaresCounted (resolve_absolute at.left main supplementary at) main supplementary w w files files warnings warnings d st c c (Err n)
  unfolding resolve_absolute follow_offset
  absolute-refused n e = declares-refused n (λ k. k) (λ k. refl) (λ k ws. rw (e k)) (but_refl _ _)

  module _ (a : Aims main supplementary at) {w₁ : List ℕ} (P : Pushed w w₁ d.tables st.trail.count (key_in at.key.source at.key.offset)) (t : Walked)
      (one : t.count ≡ st.trail.count + 1) (size : length w₁ ≡ length w) where
    pub absolute-outside : {files warnings : List ℕ} {c : ℕ} → length files < top → length warnings < top → c ≤ st.trail.count + 1 → AimOutside main supplementary w d.tables st.trail.count at
        → DeclaresCounted (resolve_absolute at.left main supplementary at) main supplementary w w₁ files files warnings warnings d st c c (none_found (more st t))
    unfolding resolve_absolute follow_offset
    absolute-outside {files} {warnings} few short read A =
        let S = pushed-state D a.possible A.new P t one size files warnings few short in
        record {
          reads = λ k. k;
          adds = λ k. refl;
          few = omega arith;
          new = [];
          is = λ k ws. rw (A.is k) (ap (λ (y : Declaring). record { reads = k; outcome = done y }) (pushed_at D a.possible A.new P t one size ws k));
          after = S;
          rest = pushed_rest D a.possible A.new P;
        }

    module _ {next : EntryAt} (A : AimEntry main supplementary w d.tables st.trail.count at next) {files files₂ w₂ : List ℕ} {j : Result StoredFiles Refusal}
        (J : Joins main supplementary w₁ w₂ files files₂ d st.table (unit_here (source_in main supplementary next.input) next.entry.unit) j) where
      ready₁ : DeclaringIn main supplementary w₁ d (more st t)
      ready₁ = pushed_ready D a.possible A.new P t one size

      rest₂ : KeptBut w w₂ (searched main supplementary d st.table)
      rest₂ = but_trans (pushed_rest D a.possible A.new P) (lower-rest ready₁ J.rest)

      pub absolute-join-refused : {warnings : List ℕ} {c : ℕ} (n : Refusal) → j ≡ Err n
          → DeclaresCounted (resolve_absolute at.left main supplementary at) main supplementary w w₂ files files₂ warnings warnings d st c (c + 1) (Err n)
      unfolding resolve_absolute follow_offset
      absolute-join-refused n to =
          let e = rw to at J.is in
          declares-refused n (λ k. k + 1) (λ k. omega arith) (λ k ws. rw (A.is k, ← pushed-table D a.possible A.new P, e)) rest₂

      module _ (table : StoredFiles) (to : j ≡ Ok table) (size₂ : length w₂ ≡ length w₁) where
        joined : JoinedTo main supplementary w₁ w₂ files files₂ st.table table (unit_here (source_in main supplementary next.input) next.entry.unit)
        joined = rw to at J.is

        pub joined-ready : DeclaringIn main supplementary w₂ d (joining st t table)
        joined-ready = lower-ready ready₁ J.rest size₂ refl joined.grown.holds joined.grown.base joined.grown.room D.warned

        pub joined-reaching : Reaching main supplementary w₂ (joining st t table) next true
        joined-reaching = record { unit = λ y. joined.reached }

        joined-state : (warnings : List ℕ) → length files < top → length warnings < top
            → DeclaredState main supplementary w w₂ files files₂ warnings warnings d st (joining st t table) []
        unfolding warnings_bytes each_of
        joined-state warnings few short = record {
          grown = grown-trans (pushed-state D a.possible A.new P t one size files warnings few short).grown joined.grown;
          put = put-none D.warned short;
          ready = joined-ready;
        }

        pub absolute-entry : {warnings w₃ files₃ warnings₃ : List ℕ} {c b : ℕ} → length files < top → length warnings < top → (r : Result Declared Refusal)
            → DeclaresCounted (counted_declaration next.left (dwarf_of main supplementary) (place_at main supplementary next)
            (indices_at main supplementary w₂ d (joining st t table) next.input next.entry.unit true))
            main supplementary w₂ w₃ files₂ files₃ warnings warnings₃ d (joining st t table) (c + 1) b r
            → DeclaresCounted (resolve_absolute at.left main supplementary at) main supplementary w w₃ files files₃ warnings warnings₃ d st c b r
        unfolding resolve_absolute follow_offset indices_at
        absolute-entry {warnings} few short r G =
            let keys : keys_at w₂ (keys_from d.tables) t.count ≡ key_in at.key.source at.key.offset ∷ keys_at w (keys_from d.tables) st.trail.count = lower-keys ready₁ J.rest size₂ ∙ rw one P.keys in
            declares-after (joined-state warnings few short) rest₂ (λ k. k + 1) (λ k. omega arith)
            (λ k ws. rw (A.is k, ← pushed-table D a.possible A.new P, joined.is, append-nil ws, keys)) r (rw A.left at G)
