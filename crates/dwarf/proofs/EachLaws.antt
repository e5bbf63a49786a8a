-- The import of units one after another: what the loop keeps.
use mathlib.Core.Path.{◌≡◌, refl, sym, ap, ◌∙◌}
use mathlib.Core.Bool.{Bool}
use mathlib.Core.List.{List, [], ◌∷◌, map}
use mathlib.Core.Option.{some, some-injective}
use Prim.Native.Nat.{ℕ, zero, suc, ◌+◌, ◌-◌, ◌*◌, ◌≤◌, ◌<◌}
use native.Mathlib.Omega.{arith}
use lib.ListN.{length, get_or, take, drop, length-map}
use Rattle.tlv.specs.Outcome.{Outcome, refused, done, ◌>>=◌}
use Rattle.tlv.specs.Lists.{All, at, map_option}
use Rattle.tlv.specs.Fields.{fields}
use Rattle.tlv.specs.Model.{CompilationUnit, units}
use Rattle.tlv.proofs.PlaceLaws.{get_or_image}
use Rattle.buffers.specs.Buffer.{top}
use Rattle.buffers.specs.Table.{chunk, records}
use Rattle.buffers.proofs.RecordLaws.{records-at}
use Rattle.access.specs.Places.{unit_here, unit_places}
use Rattle.access.specs.Units.{IndexedUnit, indexed_unit, unit_of24}
use Rattle.access.proofs.UnitPlaceLaws.{units-places, units-at}
use Rattle.collect.specs.Collects.{UnitIn}
use Rattle.references.specs.Search.{Dwarf}
use Rattle.imports.specs.Import.{State, import_unit, import_units}
use Rattle.dies.specs.Details.{dwarf_with}
use Rattle.subprograms.specs.declared.model.ImportState.{ImportState}
use Rattle.subprograms.specs.Steps.{sheets, memory, Grows}
use Rattle.subprograms.proofs.StepLaws.{grows_none, grows_then, grows-refused, grows_no, grows_as}
use Rattle.checks.specs.declared.layout.Layout.{Layout}
use Rattle.checks.specs.Checks.{UnitEnough}
use Rattle.dwarf.specs.declared.tables.Indexes.{Indexes}
use Rattle.dwarf.specs.Tables.{TablesIn}
use Rattle.dwarf.specs.Units.{Ready, above_tables}
use Rattle.dwarf.proofs.TablesLaws.{tables-kept}

-- ---- a step, and the next

module _ {main supplementary : List ℕ} {over : List (ℕ × ℕ)} where
  -- after a step that was done the next can be
  grows-ready : {F : State → Outcome State} {l : Layout} {w t f u w₁ t₁ f₁ u₁ : List ℕ} {st st₁ : ImportState}
      → Ready main supplementary w l st → Grows F (sheets main supplementary) over (memory w t f u) st (memory w₁ t₁ f₁ u₁) 0 st₁ → Ready main supplementary w₁ l st₁
  grows-ready R A =
      let G = A.grown refl in
      record {
        files = G.holds;
        above = omega (arith, R.above, G.base);
        below = omega (arith, R.below, G.base, G.room);
      }

-- ---- the place of a unit

module _ {A : Type 0} where
  at-inside : (xs : List A) (k : ℕ) (d : A) → k < length xs → at xs k ≡ some (get_or xs k d)
  unfolding at
  at-inside [] k d h = absurd (omega arith)
  at-inside (x ∷ xs) zero d h = refl
  at-inside (x ∷ xs) (suc k) d h = at-inside xs k d (omega arith)

  -- the list from a place on begins with what stands there
  from_at : (xs : List A) (k : ℕ) (x : A) → at xs k ≡ some x → k < length xs → drop k xs ≡ x ∷ drop (suc k) xs
  unfolding at
  from_at [] k x e h = absurd (omega arith)
  from_at (y ∷ xs) zero x e h = ap (λ (z : A). z ∷ xs) (some-injective y x e)
  from_at (y ∷ xs) (suc k) x e h = from_at xs k x e (omega arith)

module _ {main supplementary program lists w : List ℕ} {l : Layout} {x : Indexes} (T : TablesIn main supplementary program lists w l x) where
  pub place_inside : (k p : ℕ) → k < x.main.units.count → p ≡ (unit_of24 (chunk w (x.main.units.base + k * 24) 24)).place → UnitIn main p × (at (units main) k ≡ some (unit_here main p))
  unfolding unit_of24 indexed_unit map_option
  place_inside k p h e =
      let I = T.of_main.index in
      let places = unit_places 0 (fields main) in
      let inside : k < length places = omega (arith, T.of_main.unit-count) in
      let one : get_or (records unit_of24 24 w x.main.units.base x.main.units.count) k (indexed_unit main 0) ≡ unit_of24 (chunk w (x.main.units.base + k * 24) 24) =
      records-at unit_of24 24 w x.main.units.base x.main.units.count k (indexed_unit main 0) h in
      let two : get_or (map (indexed_unit main) places) k (indexed_unit main 0) ≡ indexed_unit main (get_or places k 0) = get_or_image (indexed_unit main) places k 0 (indexed_unit main 0) inside in
      let same : unit_of24 (chunk w (x.main.units.base + k * 24) 24) ≡ indexed_unit main (get_or places k 0) =
      sym one ∙ ap (λ (us : List IndexedUnit). get_or us k (indexed_unit main 0)) I.units ∙ two in
      let place_is : p ≡ get_or places k 0 =
      e ∙ ap (λ (u : IndexedUnit). u.place) same in
      let stands : at places k ≡ some p = at-inside places k 0 inside ∙ ap some (sym place_is) in
      (record { number = k; is = stands }, units-at main k ∙ ap (map_option (unit_here main)) stands)

  pub units-many : length (units main) ≡ x.main.units.count
  units-many = ap length (units-places main) ∙ length-map (unit_places 0 (fields main)) (unit_here main) ∙ sym T.of_main.unit-count

-- ---- what the definition does

module _ (d : Dwarf) (program : List ℕ) (inlines call_sites : Bool) where
  after_none : (o : Outcome State) → (o >>= import_units d [] program inlines call_sites) ≡ o
  unfolding import_units ◌>>=◌
  after_none (refused n) = refl
  after_none (done s) = refl

  after_one : (u : CompilationUnit) (us : List CompilationUnit) (o : Outcome State)
      → (o >>= import_units d (u ∷ us) program inlines call_sites) ≡ ((o >>= import_unit d u program inlines call_sites) >>= import_units d us program inlines call_sites)
  unfolding import_units ◌>>=◌
  after_one u us (refused n) = refl
  after_one u us (done s) = refl

  after-done : (us : List CompilationUnit) (s : State) → import_units d us program inlines call_sites s ≡ (done s >>= import_units d us program inlines call_sites)
  unfolding ◌>>=◌
  after-done us s = refl

-- ---- the loop

-- the units of a sheet from number k to below `to`
abbrev pub units_from : List ℕ → ℕ → ℕ → List CompilationUnit
units_from main k to = take (to - k) (drop k (units main))

-- what was done so far, and that the whole is this and then the units that are left
pub record ImportingUnits (main supplementary program lists addresses : List ℕ) (l : Layout) (x : Indexes) (inlines call_sites : Bool) (from to : ℕ) (w₀ t₀ f₀ u₀ : List ℕ) (st₀ : ImportState)
    (w t f u : List ℕ) (st : ImportState) (k : ℕ) : Type 0 where
  pub begun : from ≤ k
  pub few : k ≤ to
  pub within : to ≤ x.main.units.count
  pub fits : All (UnitEnough main supplementary program lists (length w)) (units_from main k to)
  pub tables : TablesIn main supplementary program lists w l x
  pub ready : Ready main supplementary w l st
  pub size : length w ≡ length w₀
  pub records-size : length t ≡ length t₀
  pub files-size : length f ≡ length f₀
  pub warnings-size : length u ≡ length u₀
  pub before : State → Outcome State
  pub does : Grows before (sheets main supplementary) (above_tables l (length w₀)) (memory w₀ t₀ f₀ u₀) st₀ (memory w t f u) 0 st
  pub left : (s : State) → import_units (dwarf_with main supplementary lists addresses) (units_from main from to) program inlines call_sites s
      ≡ (before s >>= import_units (dwarf_with main supplementary lists addresses) (units_from main k to) program inlines call_sites)

pub units-start : {main supplementary program lists : List ℕ} (addresses : List ℕ) {l : Layout} {x : Indexes} (inlines call_sites : Bool) {from to : ℕ} {w t f u : List ℕ} {st : ImportState} → from ≤ to → to ≤ x.main.units.count
    → All (UnitEnough main supplementary program lists (length w)) (units_from main from to) → TablesIn main supplementary program lists w l x → Ready main supplementary w l st → length t < top → length f < top → length u < top
    → ImportingUnits main supplementary program lists addresses l x inlines call_sites from to w t f u st w t f u st from
units-start {main} {supplementary} {program} {lists} addresses inlines call_sites {from} {to} a b F T R small tiny few = record {
  begun = omega arith;
  few = a;
  within = b;
  fits = F;
  tables = T;
  ready = R;
  size = refl;
  records-size = refl;
  files-size = refl;
  warnings-size = refl;
  before = done;
  does = grows_none R.files small tiny few;
  left = after-done (dwarf_with main supplementary lists addresses) program inlines call_sites (units_from main from to);
}

module _ {main supplementary program lists addresses : List ℕ} {l : Layout} {x : Indexes} {inlines call_sites : Bool} {from to : ℕ} {w₀ t₀ f₀ u₀ : List ℕ} {st₀ : ImportState}
    {w t f u : List ℕ} {st : ImportState} {k : ℕ} (I : ImportingUnits main supplementary program lists addresses l x inlines call_sites from to w₀ t₀ f₀ u₀ st₀ w t f u st k) where
  abbrev whole : State → Outcome State
  whole = import_units (dwarf_with main supplementary lists addresses) (units_from main from to) program inlines call_sites

  pub units-end : to ≤ k → Grows whole (sheets main supplementary) (above_tables l (length w₀)) (memory w₀ t₀ f₀ u₀) st₀ (memory w t f u) 0 st
  units-end h =
      let none : to - k ≡ 0 = omega arith in
      grows_as (λ s. I.left s ∙ ap (λ (n : ℕ). I.before s >>= import_units (dwarf_with main supplementary lists addresses) (take n (drop k (units main))) program inlines call_sites) none
      ∙ after_none (dwarf_with main supplementary lists addresses) program inlines call_sites (I.before s)) I.does

  module _ (h : k < to) {p : ℕ} (e : p ≡ (unit_of24 (chunk w (x.main.units.base + k * 24) 24)).place) where
    pub unit-in : UnitIn main p
    unit-in = (place_inside I.tables k p (let b = I.within in omega arith) e).0

    -- the unit is the first of those that are left
    first-left : units_from main k to ≡ unit_here main p ∷ units_from main (k + 1) to
    first-left =
        let n : to - k ≡ suc (to - (k + 1)) = omega arith in
        let m : k + 1 ≡ suc k = omega arith in
        let b = I.within in
        let is = (place_inside I.tables k p (omega arith) e).1 in
        rw (n, m, from_at (units main) k (unit_here main p) is (omega (arith, units-many I.tables)))

    all_fit : All (UnitEnough main supplementary program lists (length w)) (unit_here main p ∷ units_from main (k + 1) to)
    all_fit = rw first-left at I.fits

    pub unit-fits : UnitEnough main supplementary program lists (length w) (unit_here main p)
    unit-fits = all_fit.0

    module _ {w' t' f' u' : List ℕ} {n : ℕ} {st' : ImportState}
        (A : Grows (import_unit (dwarf_with main supplementary lists addresses) (unit_here main p) program inlines call_sites) (sheets main supplementary) (above_tables l (length w)) (memory w t f u) st (memory w' t' f' u') n st') where
      abbrev through : State → Outcome State
      through s = I.before s >>= import_unit (dwarf_with main supplementary lists addresses) (unit_here main p) program inlines call_sites

      framed : Grows (import_unit (dwarf_with main supplementary lists addresses) (unit_here main p) program inlines call_sites) (sheets main supplementary) (above_tables l (length w₀)) (memory w t f u) st (memory w' t' f' u') n st'
      framed = rw I.size at A

      passed : Grows through (sheets main supplementary) (above_tables l (length w₀)) (memory w₀ t₀ f₀ u₀) st₀ (memory w' t' f' u') n st'
      passed = grows_then refl I.does framed

      left_after : (s : State) → whole s ≡ (through s >>= import_units (dwarf_with main supplementary lists addresses) (units_from main (k + 1) to) program inlines call_sites)
      left_after s =
          I.left s ∙ ap (λ (us : List CompilationUnit). I.before s >>= import_units (dwarf_with main supplementary lists addresses) us program inlines call_sites) first-left
          ∙ after_one (dwarf_with main supplementary lists addresses) program inlines call_sites (unit_here main p) (units_from main (k + 1) to) (I.before s)

      -- a refused state may be any
      pub units-refused : {st'' : ImportState} → (n ≡ 0 → ⊥) → Grows whole (sheets main supplementary) (above_tables l (length w₀)) (memory w₀ t₀ f₀ u₀) st₀ (memory w' t' f' u') n st''
      units-refused z =
          let G = grows_as left_after (grows-refused (import_units (dwarf_with main supplementary lists addresses) (units_from main (k + 1) to) program inlines call_sites) z passed) in
          grows_no z (G.no z)

    module _ {w' t' f' u' : List ℕ} {st' : ImportState}
        (A : Grows (import_unit (dwarf_with main supplementary lists addresses) (unit_here main p) program inlines call_sites) (sheets main supplementary) (above_tables l (length w)) (memory w t f u) st (memory w' t' f' u') 0 st') where
      pub units-turn : length w' ≡ length w → length t' ≡ length t → length f' ≡ length f → length u' ≡ length u
          → ImportingUnits main supplementary program lists addresses l x inlines call_sites from to w₀ t₀ f₀ u₀ st₀ w' t' f' u' st' (k + 1)
      units-turn lw lt lf lu = record {
        begun = let b = I.begun in omega arith;
        few = omega arith;
        within = I.within;
        fits = rw lw all_fit.1;
        tables = tables-kept I.tables (A.kept refl) lw;
        ready = grows-ready I.ready A;
        size = lw ∙ I.size;
        records-size = lt ∙ I.records-size;
        files-size = lf ∙ I.files-size;
        warnings-size = lu ∙ I.warnings-size;
        before = through A;
        does = passed A;
        left = left_after A;
      }
