-- What the searches of two sheets need has room and stands in the work slice, and a search leaves it there.
use mathlib.Core.Path.{◌≡◌, refl, ◌∙◌}
use mathlib.Core.Logic.{inl, inr}
use mathlib.Core.Bool.{Bool, true}
use mathlib.Core.List.{List}
use Prim.Native.Nat.{ℕ, ◌+◌, ◌*◌, ◌≤◌}
use native.Mathlib.Omega.{arith}
use lib.ListN.{length}
use Rattle.tlv.specs.Outcome.{Outcome}
use Rattle.tlv.specs.Fields.{fields, whole_fields, payloads}
use Rattle.tlv.specs.Checked.{Accepts}
use Rattle.tlv.specs.Limits.{joined_limit}
use Rattle.buffers.specs.Table.{KeptBut, Clear}
use Rattle.buffers.proofs.TableLaws.{kept_trans, kept-wide, but_of, here}
use Rattle.buffers.proofs.RecordLaws.{records-kept}
use Rattle.access.specs.Places.{unit_places, UnitOf}
use Rattle.access.specs.Index.{Indexed}
use Rattle.access.specs.Units.{unit_of24, IndexedUnits}
use Rattle.access.proofs.IndexLaws.{index-length}
use Rattle.access.proofs.UnitsOrder.{unit_places-length}
use Rattle.files.specs.Store.{FilesIn, Empty}
use Rattle.files.specs.declared.sheets.Sheets.{Sheets}
use Rattle.files.specs.declared.store.StoredFiles.{StoredFiles}
use Rattle.files.proofs.FewLaws.{tags-few, possible-few, directories-few, files-few_in}
use Rattle.files.specs.Interns.{map_extent}
use Rattle.buffers.specs.declared.table.Stored.{Stored}
use Rattle.tlv.specs.declared.model.FileIndex.{FileIndex}
use Rattle.references.specs.declared.tables.Index.{Index}
use Rattle.references.specs.declared.trails.Trail.{Trail}
use Rattle.references.specs.Search.{Declaring}
use Rattle.references.specs.Tables.{IndexIn}
use Rattle.references.specs.Names.{Resolved}
use Rattle.references.proofs.KeyLaws.{keys-in_none}
use Rattle.references.proofs.FollowLaws.{index_kept, index-clear}
use Rattle.references.proofs.FewKeys.{keys-few}
use Rattle.declarations.specs.declared.declaring.Places.{Places}
use Rattle.std.specs.Prelude.{Result}
use Rattle.tlv.specs.declared.refusal.Refusal.{Refusal}
use Rattle.declarations.specs.declared.declaring.Declared.{Declared}
use Rattle.declarations.specs.Declarations.{DeclaringIn, Declares, searched}
use Rattle.search_answers.specs.Searches.{Room, HasRoom, IndexedSheet, SearchesIn, BuildsTables}

pub room-yes : {main supplementary n m work : ℕ} {r : Bool} → HasRoom main supplementary n m work r → r ≡ true → Room main supplementary n m work
room-yes {main} {supplementary} {n} {m} {work} {r} H e = let Y : HasRoom main supplementary n m work true = rw e at H in Y.is

-- ---- the tables of a sheet

pub units-fit : (s : List ℕ) (n base w : ℕ) → Accepts s n → base + n * 40 ≤ w → base + 24 * length (unit_places 0 (fields s)) ≤ w
units-fit s n base w e h = omega (arith, unit_places-length 0 (fields s), tags-few s n e)

pub entries_fit : (s : List ℕ) (n base w w' : ℕ) → Accepts s n → base + n * 40 ≤ w → w' ≡ w → base + n * 24 + 16 * length (payloads 0x17 (whole_fields (fields s))) ≤ w'
entries_fit s n base w w' e h same = omega (arith, tags-few s n e)

pub sheet-indexed : {s w w₁ w₂ : List ℕ} {base n : ℕ} {r : Index} → Accepts s n → base + n * 40 ≤ length w → r.units.base ≡ base → r.entries.base ≡ base + n * 24
    → IndexedUnits s w w₁ base r.units.count → Indexed s w₁ w₂ (base + n * 24) r.entries.count → IndexedSheet s w w₂ base n r
sheet-indexed {s} {w} {w₁} {w₂} {base} {n} {r} e h ub eb A B =
    let units-few : r.units.count ≤ n = omega (arith, A.count, unit_places-length 0 (fields s), tags-few s n e) in
    let entries-few : r.entries.count ≤ n = omega (arith, B.count, index-length 0 0 0 (fields s), tags-few s n e) in
    record {
      index = record {
        number = n;
        accepted = e;
        units = rw ub (records-kept unit_of24 24 base r.units.count B.rest (inl (omega arith)) ∙ A.table);
        entries = rw eb B.table;
        units-within = omega (arith, A.size, B.size);
        entries-within = omega (arith, A.size, B.size);
      };
      units-above = omega arith;
      entries-above = omega arith;
      units-below = omega arith;
      entries_within = omega arith;
      few = entries-few;
      rest = kept_trans (kept-wide base (n * 40) A.rest (omega arith) (omega arith)) (kept-wide base (n * 40) B.rest (omega arith) (omega arith));
      size = B.size ∙ A.size;
    }

-- ---- the tables of both

-- a unit's directories and files are no more than the fields of its sheet
map-fits : (s : List ℕ) (n k : ℕ) → Accepts s n → n ≤ k → (q : ℕ) → UnitOf s q → map_extent s q ≤ k * 8 + 5
map-fits s n k e few q any = omega (arith, directories-few s q any, files-few_in s q any, tags-few s n e)

-- one sheet's behind the other's, and the followed targets behind them
pub tables-built : (sheets : Sheets) {w w₁ w₂ : List ℕ} {n m : ℕ} {a b : Index} → Accepts sheets.main.now n → Accepts sheets.supplementary.now m
    → Room (length sheets.main.now) (length sheets.supplementary.now) n m (length w)
    → IndexedSheet sheets.main.now w w₁ ((n + m) * 45 + (joined_limit + 45) + ((n + m) * 8 + 5)) n a
    → IndexedSheet sheets.supplementary.now w₁ w₂ ((n + m) * 45 + (joined_limit + 45) + ((n + m) * 8 + 5) + n * 40) m b
    → {is : Stored FileIndex} → is.base ≡ (n + m) * 45 + (joined_limit + 45) → is.count ≡ 0
    → BuildsTables sheets w₂ (n + m + 1)
    (record {
      tables = record { sheets = sheets; main = a; supplementary = b; keys = (n + m) * 45 + (joined_limit + 45) + ((n + m) * 8 + 5) + n * 40 + m * 40 };
      indices = is;
      spans = (n + m) * 45 + (joined_limit + 45);
      room = (n + m) * 8 + 5;
    })
tables-built sheets {n = n} {m = m} e d R A B is-base is-count =
    let s = sheets.main.now in
    let t = sheets.supplementary.now in
    record {
      of-sheets = refl;
      here = record {
        search-tables = record {
          main-index = index_kept A.index B.rest (omega (arith, A.units-below)) (omega (arith, A.entries_within)) B.size;
          supplementary-index = B.index;
          keys = keys-in_none (omega (arith, R.within, A.size, B.size, A.few, B.few, keys-few s t, tags-few s n e, tags-few t m d));
          main-units = omega (arith, A.units-below);
          main-entries = omega (arith, A.entries_within);
          supplementary-units = B.units-below;
          supplementary-entries = B.entries_within;
        };
        few = omega (arith, possible-few s t, tags-few s n e, tags-few t m d);
        small = omega (arith, R.main-few, R.supplementary-few);
        main-small = R.main-small;
        supplementary-small = R.supplementary-small;
        table = omega arith;
        indices = omega arith;
        main-units = A.units-above;
        main-entries = A.entries-above;
        supplementary-units = omega (arith, B.units-above);
        supplementary-entries = omega (arith, B.entries-above);
        room-main = map-fits s n (n + m) e (omega arith);
        room-supplementary = map-fits t m (n + m) d (omega arith);
      };
    }

-- ---- a search

module _ {s t w : List ℕ} {d : Places} {files : ℕ} (S : SearchesIn s t w d files) where
  -- the tables stand as they were, and so the next search can start
  ready : {w' : List ℕ} → IndexIn s w' d.tables.main → IndexIn t w' d.tables.supplementary → length w' ≡ length w → SearchesIn s t w' d files
  ready I J size = record {
    search-tables = record {
      main-index = I;
      supplementary-index = J;
      keys = keys-in_none (omega (arith, S.search-tables.keys.room));
      main-units = S.search-tables.main-units;
      main-entries = S.search-tables.main-entries;
      supplementary-units = S.search-tables.supplementary-units;
      supplementary-entries = S.search-tables.supplementary-entries;
    };
    few = S.few;
    small = S.small;
    main-small = S.main-small;
    supplementary-small = S.supplementary-small;
    table = S.table;
    indices = S.indices;
    main-units = S.main-units;
    main-entries = S.main-entries;
    supplementary-units = S.supplementary-units;
    supplementary-entries = S.supplementary-entries;
    room-main = S.room-main;
    room-supplementary = S.room-supplementary;
  }

  -- after a name search
  pub search_still : {w' : List ℕ} {o : Outcome (List ℕ)} {st : ℕ} {r : List ℕ} → Resolved s t d.tables w w' o st r → length w' ≡ length w → SearchesIn s t w' d files
  search_still R size =
      let T = S.search-tables in
      ready (index_kept T.main-index R.rest T.main-units T.main-entries size)
      (index_kept T.supplementary-index R.rest T.supplementary-units T.supplementary-entries size) size

  -- the file table has room below the others
  pub files-room : 0 + (files * 45 + joined_limit) ≤ length w
  files-room = omega (arith, S.table, S.indices, S.main-units, S.search-tables.main-index.units-within)

  -- after writes of a declaration search, whose table of files is the one at 0
  module _ (table : StoredFiles) (base : table.base ≡ 0) (room : table.room ≡ files) where
    clear : (p n : ℕ) → d.spans + d.room ≤ p → p + n ≤ d.tables.keys → Clear p n (searched s t d table)
    clear p n over under = (inr (omega (arith, S.table, S.indices)), (inr (omega arith), (inl (omega arith), tt)))

    pub searched-still : {w' : List ℕ} → KeptBut w w' (searched s t d table) → length w' ≡ length w → SearchesIn s t w' d files
    searched-still K size =
        let T = S.search-tables in
        ready
        (index-clear T.main-index K (clear _ _ S.main-units (omega (arith, T.main-units))) (clear _ _ S.main-entries (omega (arith, T.main-entries))) size)
        (index-clear T.supplementary-index K (clear _ _ S.supplementary-units (omega (arith, T.supplementary-units)))
        (clear _ _ S.supplementary-entries (omega (arith, T.supplementary-entries))) size)
        size

    -- such a search can start
    declaring : {trail : Trail} → trail.count ≡ 0 → FilesIn s t w table → DeclaringIn s t w d (record { trail = trail; table = table; warned = 0 })
    declaring z F = record {
      search-tables = rw z S.search-tables;
      files = F;
      warned = omega arith;
      table = omega (arith, S.table);
      indices = S.indices;
      keys = omega (arith, S.main-units, S.search-tables.main-units);
      main-units = inl S.main-units;
      main-entries = inl S.main-entries;
      supplementary-units = inl S.supplementary-units;
      supplementary-entries = inl S.supplementary-entries;
      room-main = S.room-main;
      room-supplementary = S.room-supplementary;
    }

-- a declaration search from an empty table of files
module _ {s t w w₁ : List ℕ} {d : Places} {files : ℕ} {table : StoredFiles} (S : SearchesIn s t w d files) (E : Empty s t w w₁ 0 files 1 0 table) (size : length w₁ ≡ length w) where
  emptied : SearchesIn s t w₁ d files
  emptied = searched-still S table E.base-is E.room-is (but_of E.rest (here (omega (arith, E.base-is)) (omega (arith, E.base-is)))) size

  pub declaring_in : {trail : Trail} → trail.count ≡ 0 → DeclaringIn s t w₁ d (record { trail = trail; table = table; warned = 0 })
  declaring_in z = declaring emptied table E.base-is E.room-is z E.holds

  pub declared-still : {w₂ f f' u u' : List ℕ} {g : Declaring → Outcome Declaring} {trail : Trail} {r : Result Declared Refusal}
      → Declares g s t w₁ w₂ f f' u u' d (record { trail = trail; table = table; warned = 0 }) r → length w₂ ≡ length w₁ → SearchesIn s t w₂ d files
  declared-still D same = searched-still emptied table E.base-is E.room-is D.rest same
