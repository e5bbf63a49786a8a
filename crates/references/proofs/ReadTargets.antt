-- The targets that a search can follow, where it can stand, and what following a reference leaves of its trail.
use mathlib.Core.Path.{◌≡◌, refl}
use mathlib.Core.Bool.{Bool, true, false, cond, ◌&&◌}
use mathlib.Core.Logic.{inl, inr}
use mathlib.Core.List.{List, [], ◌∷◌, ◌++◌}
use mathlib.Core.Option.{Option, none, some}
use Prim.Native.Nat.{ℕ, suc, ◌+◌, ◌-◌, ◌*◌, ◌^◌, ◌≤◌}
use native.Mathlib.Nat.{mul-add}
use native.Mathlib.Omega.{arith}
use lib.Dec.{leb, ltb, eqb}
use lib.ListN.{length, length-append}
use borrow.Author.Tests.{eqb-true}
use Rattle.tlv.specs.Lists.{Any, All, filter, first}
use Rattle.tlv.specs.Accepted.{Given}
use Rattle.tlv.specs.Model.{CompilationUnit, Entry, Attribute}
use Rattle.tlv.proofs.OutcomeLaws.{Gives, gives, gives_none, gives-cond, gives-bind}
use Rattle.access.proofs.IndexModel.{either}
use Rattle.references.specs.Search.{Dwarf, DebugSource, main_source, supplementary_source, units_in, Place, DieKey, Trail, is_visited, visit, visit_entry}
use Rattle.references.specs.Search.{attribute, absolute_entry_offset, or_no_entry, entry_at, unit_containing, Target, nothing, same_unit, by_offset, Followed}
use Rattle.references.specs.Search.{follow_in, follow_absolute, follow_unit, follow_supplementary, follow}
use Rattle.references.specs.Keys.{main_keys, supplementary_keys, entry_keys, unit_keys, Distinct}
use Rattle.references.specs.Reads.{is_reference, entry_references, reference_attributes}
use Rattle.references.proofs.TargetLaws.{first_any}
use Rattle.references.proofs.KeyLaws.{distinct-few, any_left, any_right, entry-keys, unit-keys, taken, later-main, later-supplementary}

-- ---- the targets that a search in d can follow

abbrev pub possible : Dwarf → List DieKey
possible d = unit_keys main_keys d.main ++ unit_keys supplementary_keys d.supplementary

abbrev pub Possible : Dwarf → DieKey → Type 0
Possible d k = Any (λ x. k ≡ x) (possible d)

-- no more than the reference attributes, those of the supplementary sheet twice

one_more : (b : Bool) (a : Attribute) (xs : List Attribute)
    → length (filter is_reference xs) ≤ length (cond b (a ∷ filter is_reference xs) (filter is_reference xs))
one_more true a xs = omega arith
one_more false a xs = omega arith

main-few : (u : CompilationUnit) (xs : List Attribute) → length (main_keys u xs) ≤ length (filter is_reference xs)
unfolding main_keys filter
main-few u [] = omega arith
main-few u (a ∷ xs) =
    let rest = main-few u xs in
    either (eqb a.kind 4) (λ d. let k = eqb-true a.kind 4 d in rw k (omega arith)) (λ d.
    either (eqb a.kind 5) (λ e. let k = eqb-true a.kind 5 e in rw k (omega arith)) (λ e.
    either (eqb a.kind 6) (λ f. let k = eqb-true a.kind 6 f in rw k (omega arith)) (λ f. rw (d, e, f) (omega (arith, one_more (is_reference a) a xs)))))

supplementary-few : (u : CompilationUnit) (xs : List Attribute) → length (supplementary_keys u xs) ≤ 2 * length (filter is_reference xs)
unfolding supplementary_keys filter
supplementary-few u [] = omega arith
supplementary-few u (a ∷ xs) =
    let rest = supplementary-few u xs in
    either (eqb a.kind 4) (λ d. let k = eqb-true a.kind 4 d in rw k (omega arith)) (λ d.
    either (eqb a.kind 5) (λ e. let k = eqb-true a.kind 5 e in rw k (omega arith)) (λ e. rw (d, e) (omega (arith, one_more (is_reference a) a xs))))

module _ (f : CompilationUnit → List Attribute → List DieKey) (k : ℕ)
    (each : (u : CompilationUnit) (xs : List Attribute) → length (f u xs) ≤ k * length (filter is_reference xs)) where
  entries-few : (u : CompilationUnit) (es : List Entry) → length (entry_keys f u es) ≤ k * entry_references es
  unfolding entry_keys entry_references
  entries-few u [] = omega arith
  entries-few u (e ∷ es) =
      let one = each u e.attributes in
      let rest = entries-few u es in
      simp length-append (omega (arith, mul-add k (length (filter is_reference e.attributes)) (entry_references es)))

  units-few : (us : List CompilationUnit) → length (unit_keys f us) ≤ k * reference_attributes us
  unfolding unit_keys reference_attributes
  units-few [] = omega arith
  units-few (u ∷ us) =
      let one = entries-few u u.entries in
      let rest = units-few us in
      simp length-append (omega (arith, mul-add k (entry_references u.entries) (reference_attributes us)))

pub possible-few : (d : Dwarf) → length (possible d) ≤ reference_attributes d.main + 2 * reference_attributes d.supplementary
possible-few d =
    simp length-append
    (omega (arith, units-few main_keys 1 (λ u xs. omega (arith, main-few u xs)) d.main, units-few supplementary_keys 2 supplementary-few d.supplementary))

-- ---- where a search can stand, and what its trail is then

-- entries of the main sheet are remembered under no other source
abbrev pub MainOnly : DebugSource → DebugSource → Type 0
MainOnly main_source source = source ≡ main_source
MainOnly supplementary_source source = Unit {0}

pub record Stood (d : Dwarf) (p : Place) : Type 0 where
  pub unit : Any (λ v. v ≡ p.unit) (units_in d p.input)
  pub entry : Any (λ x. x ≡ p.entry) p.unit.entries
  pub sourced : MainOnly p.input p.source

abbrev pub TargetStood : Dwarf → Target → Type 0
TargetStood d nothing = Unit {0}
TargetStood d (same_unit p) = Stood d p
TargetStood d (by_offset p) = Stood d p

pub record Sound (d : Dwarf) (t : Trail) : Type 0 where
  pub distinct : Distinct t.visited
  pub each : All (Possible d) t.visited
  pub few : t.reads ≤ suc (length t.visited)

pub sound_few : (d : Dwarf) (t : Trail) → Sound d t → t.reads ≤ suc (length (possible d))
sound_few d t S = omega (arith, S.few, distinct-few t.visited (possible d) S.distinct S.each)

module _ {d : Dwarf} (t : Trail) (k : DieKey) (S : Sound d t) (new : is_visited t k ≡ false) (is : Possible d k) where
  sound-visit : Sound d (visit t k)
  unfolding is_visited
  sound-visit = record { distinct = (new, S.distinct); each = (is, S.each); few = omega (arith, S.few) }

  sound-entry : Sound d (visit_entry t k)
  unfolding is_visited
  sound-entry = record { distinct = (new, S.distinct); each = (is, S.each); few = omega (arith, S.few) }

-- ---- an attribute of an entry where a search stands leads to a possible target

module _ (d : Dwarf) (p : Place) (a : Attribute) (stood : Stood d p) (own : Any (λ b. b ≡ a) p.entry.attributes) where
  from-main : (k : ℕ) (key : ℕ → DieKey)
      → ((b : Attribute) (later : List Attribute) → b.kind ≡ k → Any (λ x. key b.value ≡ x) (main_keys p.unit (b ∷ later)))
      → a.kind ≡ k → Any (λ v. v ≡ p.unit) d.main → Possible d (key a.value)
  from-main k key here is listed =
      any_left (λ x. key a.value ≡ x) (unit_keys main_keys d.main) (unit_keys supplementary_keys d.supplementary)
      (unit-keys main_keys (λ x. key a.value ≡ x) p.unit d.main listed
      (entry-keys main_keys (λ x. key a.value ≡ x) p.unit p.entry p.unit.entries stood.entry
      (taken main_keys later-main p.unit k key here p.entry.attributes a own is)))

  from-supplementary : (k : ℕ) (key : ℕ → DieKey)
      → ((b : Attribute) (later : List Attribute) → b.kind ≡ k → Any (λ x. key b.value ≡ x) (supplementary_keys p.unit (b ∷ later)))
      → a.kind ≡ k → Any (λ v. v ≡ p.unit) d.supplementary → Possible d (key a.value)
  from-supplementary k key here is listed =
      any_right (λ x. key a.value ≡ x) (unit_keys main_keys d.main) (unit_keys supplementary_keys d.supplementary)
      (unit-keys supplementary_keys (λ x. key a.value ≡ x) p.unit d.supplementary listed
      (entry-keys supplementary_keys (λ x. key a.value ≡ x) p.unit p.entry p.unit.entries stood.entry
      (taken supplementary_keys later-supplementary p.unit k key here p.entry.attributes a own is)))

  abbrev unit_key : DebugSource → ℕ → DieKey
  unit_key source = λ v. record { source = source; offset = p.unit.offset + v }

  abbrev key_of : DebugSource → ℕ → DieKey
  key_of source = λ v. record { source = source; offset = v }

  key_unit : a.kind ≡ 4 → Possible d (unit_key p.source a.value)
  unfolding units_in main_keys supplementary_keys
  key_unit is = go p.input p.source stood.sourced stood.unit
    where
      go : (input source : DebugSource) → MainOnly input source → Any (λ v. v ≡ p.unit) (units_in d input) → Possible d (unit_key source a.value)
      go main_source source only listed = rw only (from-main 4 (unit_key main_source) (λ b later e. rw e (inl refl)) is listed)
      go supplementary_source main_source only listed = from-supplementary 4 (unit_key main_source) (λ b later e. rw e (inl refl)) is listed
      go supplementary_source supplementary_source only listed = from-supplementary 4 (unit_key supplementary_source) (λ b later e. rw e (inr (inl refl))) is listed

  key_section : a.kind ≡ 5 → Possible d (key_of main_source a.value)
  unfolding units_in main_keys supplementary_keys
  key_section is = go p.input stood.unit
    where
      go : (input : DebugSource) → Any (λ v. v ≡ p.unit) (units_in d input) → Possible d (key_of main_source a.value)
      go main_source listed = from-main 5 (key_of main_source) (λ b later e. rw e (inl refl)) is listed
      go supplementary_source listed = from-supplementary 5 (key_of main_source) (λ b later e. rw e (inl refl)) is listed

  key-supplementary : a.kind ≡ 6 → Any (λ v. v ≡ p.unit) d.main → Possible d (key_of supplementary_source a.value)
  unfolding main_keys
  key-supplementary is listed = from-main 6 (key_of supplementary_source) (λ b later e. rw e (inl refl)) is listed

-- ---- following a reference

abbrev pub FollowedSound : Dwarf → Followed → Type 0
FollowedSound d f = Sound d f.trail × TargetStood d f.target

entry_listed : (u : CompilationUnit) (o : ℕ) → Gives (λ e. Any (λ x. x ≡ e) u.entries) (entry_at u o)
unfolding entry_at
entry_listed u o = go (first (λ e. eqb e.offset o) u.entries) refl
  where
    go : (x : Option Entry) → first (λ e. eqb e.offset o) u.entries ≡ x → Gives (λ e. Any (λ x. x ≡ e) u.entries) (or_no_entry x)
    go none e = gives_none
    go (some y) e = gives (first_any (λ e. eqb e.offset o) y u.entries e)

offset-is : (u : CompilationUnit) (v : ℕ) → Gives (λ o. o ≡ u.offset + v) (absolute_entry_offset u v)
unfolding absolute_entry_offset
offset-is u v = gives-cond (ltb (u.offset + v) (2 ^ 64)) (λ _. gives refl) (λ _. gives_none)

module _ (d : Dwarf) (t : Trail) (S : Sound d t) where
  absolute-sound : (input source : DebugSource) (o : ℕ) → MainOnly input source → Possible d (record { source = source; offset = o })
      → Gives (FollowedSound d) (follow_absolute d input source t o)
  unfolding follow_absolute unit_containing
  absolute-sound input source o only is =
      gives-cond (is_visited t (record { source = source; offset = o })) (λ _. gives (S, tt))
      (λ new. go new (first (λ u. leb u.offset o && ltb o (u.offset + u.length)) (units_in d input)) refl)
    where
      go : is_visited t (record { source = source; offset = o }) ≡ false → (x : Option CompilationUnit)
          → first (λ u. leb u.offset o && ltb o (u.offset + u.length)) (units_in d input) ≡ x
          → Gives (FollowedSound d) (follow_in input (record { source = source; offset = o }) t x)
      go new none e = gives (sound-visit t (record { source = source; offset = o }) S new is, tt)
      go new (some u) e = gives-bind (entry_listed u (o - u.offset)) λ y listed.
          gives (
            sound-entry t (record { source = source; offset = o }) S new is,
            record {
              unit = first_any (λ u. leb u.offset o && ltb o (u.offset + u.length)) u (units_in d input) e;
              entry = listed;
              sourced = only;
            },
          )

  module _ (p : Place) (stood : Stood d p) where
    unit-sound : (a : Attribute) → Any (λ b. b ≡ a) p.entry.attributes → a.kind ≡ 4 → Gives (FollowedSound d) (follow_unit p t a.value)
    unfolding follow_unit
    unit-sound a own is =
        gives-bind (offset-is p.unit a.value) λ o at.
        gives-cond (is_visited t (record { source = p.source; offset = o })) (λ _. gives (S, tt)) λ new.
        gives-bind (entry_listed p.unit a.value) λ y listed.
        gives (
          sound-entry t (record { source = p.source; offset = o }) S new (rw at (key_unit d p a stood own is)),
          record { unit = stood.unit; entry = listed; sourced = stood.sourced },
        )

    follow-sound : (o : Option Attribute) → Given (λ a. Any (λ b. b ≡ a) p.entry.attributes) o → Gives (FollowedSound d) (follow d p t o)
    unfolding follow units_in
    follow-sound none own = gives (S, tt)
    follow-sound (some a) own =
        gives-cond (eqb a.kind 4) (λ e. unit-sound a own (eqb-true a.kind 4 e)) λ _.
        gives-cond (eqb a.kind 5)
        (λ e. absolute-sound p.input main_source a.value (either-input p.input) (key_section d p a stood own (eqb-true a.kind 5 e))) λ _.
        gives-cond (eqb a.kind 6) (λ e. go p.input d.supplementary (eqb-true a.kind 6 e) stood.unit) λ _. gives (S, tt)
      where
        either-input : (input : DebugSource) → MainOnly input main_source
        either-input main_source = refl
        either-input supplementary_source = tt

        go : (input : DebugSource) (us : List CompilationUnit) → a.kind ≡ 6 → Any (λ v. v ≡ p.unit) (units_in d input)
            → Gives (FollowedSound d) (follow_supplementary d input us t a.value)
        go main_source [] is listed = gives (S, tt)
        go main_source (u ∷ us) is listed = absolute-sound supplementary_source supplementary_source a.value tt (key-supplementary d p a stood own is listed)
        go supplementary_source us is listed = gives (S, tt)

    pub named-sound : (name : ℕ) → Gives (FollowedSound d) (follow d p t (attribute p.entry name))
    unfolding attribute
    named-sound name = go (first (λ a. eqb a.name name) p.entry.attributes) refl
      where
        go : (o : Option Attribute) → first (λ a. eqb a.name name) p.entry.attributes ≡ o → Gives (FollowedSound d) (follow d p t o)
        go none e = follow-sound none tt
        go (some a) e = follow-sound (some a) (first_any (λ a. eqb a.name name) a p.entry.attributes e)
