-- What stays of the declaration search's regions of the work slice: where the lower ones are written, where a target is written down, and after a search.
use mathlib.Core.Path.{◌≡◌}
use mathlib.Core.Bool.{false}
use mathlib.Core.Logic.{inl, inr}
use mathlib.Core.List.{List, [], ◌∷◌}
use Prim.Native.Nat.{ℕ, ◌+◌, ◌*◌, ◌≤◌}
use native.Mathlib.Omega.{arith}
use lib.ListN.{length}
use Rattle.tlv.specs.declared.model.DebugSource.{DebugSource}
use Rattle.tlv.specs.Lists.{Any, exists}
use Rattle.tlv.specs.Fields.{fields}
use Rattle.buffers.specs.Buffer.{top}
use Rattle.buffers.specs.Table.{Clear, KeptBut}
use Rattle.buffers.proofs.TableLaws.{here, there, but_of, but_one}
use Rattle.buffers.proofs.RecordLaws.{records-but}
use Rattle.access.specs.Places.{unit_here, unit_places}
use Rattle.files.specs.Pieces.{source_in}
use Rattle.files.specs.Store.{extent, table_of, FilesIn}
use Rattle.files.specs.Indices.{index_of, indices_of, indices_in}
use Rattle.files.proofs.GrownLaws.{table_kept, files-kept}
use Rattle.references.specs.declared.trails.Trail.{Trail as Walked}
use Rattle.references.specs.Search.{DieKey, same_key}
use Rattle.references.specs.Keys.{keys_at, chain_count, Pushed, PossibleKey, keys_from, TrailIn}
use Rattle.references.specs.Names.{SearchIn}
use Rattle.references.proofs.ChainLaws.{keys-clear, chained-clear}
use Rattle.references.proofs.FollowLaws.{index-clear, push_room, push_kept, push_search}
use Rattle.declarations.specs.declared.declaring.Places.{Places}
use Rattle.declarations.specs.declared.declaring.DeclaringState.{DeclaringState}
use Rattle.declarations.specs.Declarations.{Beside, DeclaringIn, lower, searched}

-- the state from another trail on
abbrev pub more : DeclaringState → Walked → DeclaringState
more st t = record { trail = t; table = st.table; warned = st.warned }

-- ---- tables and targets that lie clear of what is written

module _ {main supplementary w : List ℕ} {d : Places} {st : DeclaringState} (D : DeclaringIn main supplementary w d st) where
  table_below : st.table.base + extent st.table ≤ d.spans
  table_below = let a = D.table in let b = D.indices in omega arith

  pub unit-room : (input : DebugSource) (q : ℕ) → Any (λ p. p ≡ q) (unit_places 0 (fields (source_in main supplementary input)))
      → 8 * length (unit_here (source_in main supplementary input) q).directories + 5 * (1 + length (unit_here (source_in main supplementary input) q).files) ≤ d.room
  unit-room DebugSource.Main q h = D.room-main q h
  unit-room DebugSource.Supplementary q h = D.room-supplementary q h

  pub spans-inside : d.spans + d.room ≤ length w
  spans-inside = let a = D.keys in let b = D.search-tables.keys.room in omega arith

  -- ---- the table and the spans are written
  module _ {w' : List ℕ} (K : KeptBut w w' (lower d st.table)) (size : length w' ≡ length w) where
    above : (p n : ℕ) → d.spans + d.room ≤ p → Clear p n (lower d st.table)
    above p n h = let t = table_below in (inr (omega arith), (inr (omega arith), tt))

    beside : (p n k : ℕ) → n ≡ k → Beside d st.table p n → Clear p k (lower d st.table)
    beside p n k e (inl h) = above p k h
    beside p n k e (inr h) = let t = table_below in (inl (omega arith), (inl (omega arith), tt))

    pub lower-keys : keys_at w' (keys_from d.tables) st.trail.count ≡ keys_at w (keys_from d.tables) st.trail.count
    lower-keys = keys-clear (keys_from d.tables) st.trail.count K (above (keys_from d.tables) (st.trail.count * 13) (let a = D.keys in omega arith))

    lower-search : SearchIn main supplementary w' d.tables st.trail.count
    lower-search =
        let S = D.search-tables in
        record {
          main-index = index-clear S.main-index K (beside _ _ _ (omega arith) D.main-units) (beside _ _ _ (omega arith) D.main-entries) size;
          supplementary-index = index-clear S.supplementary-index K (beside _ _ _ (omega arith) D.supplementary-units)
              (beside _ _ _ (omega arith) D.supplementary-entries) size;
          keys = record { distinct = rw lower-keys S.keys.distinct; possible = rw lower-keys S.keys.possible; chained = λ y. chained-clear (S.keys.chained y) K (above d.tables.keys _ D.keys); room = rw size S.keys.room };
          main-units = S.main-units;
          main-entries = S.main-entries;
          supplementary-units = S.supplementary-units;
          supplementary-entries = S.supplementary-entries;
        }

    pub lower-ready : {st' : DeclaringState} → st'.trail.count ≡ st.trail.count → FilesIn main supplementary w' st'.table → st'.table.base ≡ st.table.base → st'.table.room ≡ st.table.room
        → st'.warned ≤ top → DeclaringIn main supplementary w' d st'
    lower-ready {st'} same F base room warned = record {
      search-tables = rw same lower-search;
      files = F;
      warned = warned;
      table = rw (base, room) D.table;
      indices = D.indices;
      keys = D.keys;
      main-units = rw base D.main-units;
      main-entries = rw base D.main-entries;
      supplementary-units = rw base D.supplementary-units;
      supplementary-entries = rw base D.supplementary-entries;
      room-main = D.room-main;
      room-supplementary = D.room-supplementary;
    }

  pub lower-rest : {w' : List ℕ} → KeptBut w w' (lower d st.table) → KeptBut w w' (searched main supplementary d st.table)
  lower-rest K = record { same = λ q k c. K.same q k (c.0, (c.1.0, tt)) }

  -- ---- after a search the imported unit's map is as it was
  pub searched-map : {w' : List ℕ} → KeptBut w w' (searched main supplementary d st.table) → indices_in w' d.indices ≡ indices_in w d.indices
  unfolding indices_of
  searched-map K =
      let a = D.table in
      let b = D.indices in
      let c = D.keys in
      records-but index_of 5 d.indices.base d.indices.count K (inr (omega arith), (inl (omega arith), (inl (omega arith), tt)))

  -- ---- a target is written down
  module _ {k : DieKey} (possible : PossibleKey main supplementary k) (new : exists (same_key k) (keys_at w (keys_from d.tables) st.trail.count) ≡ false) where
    pub pushed_room : TrailIn w d.tables st.trail.count 1
    pushed_room = push_room D.search-tables possible new

    module _ {w' : List ℕ} (P : Pushed w w' d.tables st.trail.count k) where
      pub pushed_rest : KeptBut w w' (searched main supplementary d st.table)
      pushed_rest = but_of (push_kept D.search-tables possible new P) (there (there (here (omega arith) (omega arith))))

      table-clear : Clear st.table.base (extent st.table) ((d.tables.keys, chain_count d.tables * 4 + (st.trail.count + 1) * 13) ∷ [])
      table-clear = let t = table_below in let a = D.keys in (inl (omega arith), tt)

      pub pushed-table : table_of main supplementary w' st.table ≡ table_of main supplementary w st.table
      pushed-table = table_kept D.files (but_one P.rest) table-clear

      pub pushed_map : indices_in w' d.indices ≡ indices_in w d.indices
      pushed_map = searched-map pushed_rest

      pub pushed_ready : (t : Walked) → t.count ≡ st.trail.count + 1 → length w' ≡ length w → DeclaringIn main supplementary w' d (more st t)
      pushed_ready t one size = record {
        search-tables = rw one (push_search D.search-tables possible new P size);
        files = files-kept D.files (but_one P.rest) table-clear size;
        warned = D.warned;
        table = D.table;
        indices = D.indices;
        keys = D.keys;
        main-units = D.main-units;
        main-entries = D.main-entries;
        supplementary-units = D.supplementary-units;
        supplementary-entries = D.supplementary-entries;
        room-main = D.room-main;
        room-supplementary = D.room-supplementary;
      }
