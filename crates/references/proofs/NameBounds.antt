-- Where the sheets are accepted, a search only comes to entries of accepted units, and the name that it finds is a string.
use mathlib.Core.Path.{◌≡◌}
use mathlib.Core.Bool.{Bool, ◌&&◌}
use mathlib.Core.List.{List, [], ◌∷◌}
use mathlib.Core.Option.{Option, none, some}
use Prim.Native.Nat.{ℕ, zero, suc, ◌+◌, ◌-◌, ◌^◌, ◌<◌}
use borrow.Author.Tests.{ltb-true, eqb-true}
use lib.Dec.{leb, ltb, eqb}
use Rattle.tlv.specs.Outcome.{Outcome, done}
use Rattle.tlv.specs.Lists.{All, first, is_empty}
use Rattle.tlv.specs.Model.{CompilationUnit, Entry, Attribute}
use Rattle.tlv.specs.Accepted.{String, Given, AttributeAccepted, EntryAccepted, UnitAccepted}
use Rattle.tlv.proofs.TestLaws.{by_test}
use Rattle.tlv.proofs.ListLaws.{all_first}
use Rattle.tlv.proofs.OutcomeLaws.{Gives, gives, gives_none, gives-cond, gives-bind, given}
use Rattle.tlv.proofs.AcceptedFields.{no-string}
use Rattle.references.specs.Search.{Dwarf, DebugSource, main_source, supplementary_source, units_in, Place, DieKey, Trail, is_visited, empty_trail, attribute, number_if, unsigned_attribute, file_index_attribute, absolute_entry_offset, or_no_entry, entry_at, unit_containing, Target, nothing, same_unit, by_offset, Followed, follow_in, follow_absolute, follow_unit, follow_supplementary, follow, origin_attributes, chain_limit}
use Rattle.references.specs.Search.{name_attributes, if_empty, name_from, own_name, Named, NameSearch, name_at_target, referenced_name, resolve_name_inner, place_in, resolve_named, resolve_name, resolve_reference_name}

-- ---- where a search can stand

pub record DwarfAccepted (d : Dwarf) : Type 0 where
  pub main : All UnitAccepted d.main
  pub supplementary : All UnitAccepted d.supplementary

pub record PlaceAccepted (p : Place) : Type 0 where
  pub unit : UnitAccepted p.unit
  pub entry : EntryAccepted p.unit.length p.entry

abbrev pub TargetAccepted : Target → Type 0
TargetAccepted nothing = Unit {0}
TargetAccepted (same_unit p) = PlaceAccepted p
TargetAccepted (by_offset p) = PlaceAccepted p

-- ---- what is found in an entry

number_small : (p : ℕ → Bool) (o : Option Attribute) → Given AttributeAccepted o → Given (λ v. v < 2 ^ 64) (number_if p o)
number_small p none h = tt
number_small p (some a) h = by_test (Given (λ v. v < 2 ^ 64)) (p a.kind) (λ e. h.value) (λ e. tt)

module _ {n : ℕ} (e : Entry) (k : ℕ) (accepted : EntryAccepted n e) where
  pub attribute-accepted : Given AttributeAccepted (attribute e k)
  unfolding attribute
  attribute-accepted = all_first AttributeAccepted (λ a. eqb a.name k) e.attributes accepted.attributes

  pub unsigned_small : Given (λ v. v < 2 ^ 64) (unsigned_attribute e k)
  unfolding unsigned_attribute
  unsigned_small = number_small _ (attribute e k) attribute-accepted

  pub file_index-small : Given (λ v. v < 2 ^ 64) (file_index_attribute e k)
  unfolding file_index_attribute
  file_index-small = number_small _ (attribute e k) attribute-accepted

-- ---- following a reference

pub absolute-small : (u : CompilationUnit) (o : ℕ) → Gives (λ a. a < 2 ^ 64) (absolute_entry_offset u o)
unfolding absolute_entry_offset
absolute-small u o = gives-cond _ (λ e. gives (ltb-true (u.offset + o) (2 ^ 64) e)) (λ e. gives_none)

entry_at-accepted : (u : CompilationUnit) (o : ℕ) → UnitAccepted u → Gives (EntryAccepted u.length) (entry_at u o)
unfolding entry_at
entry_at-accepted u o h = go (first (λ e. eqb e.offset o) u.entries) (all_first (EntryAccepted u.length) (λ e. eqb e.offset o) u.entries h.entries)
  where
    go : (x : Option Entry) → Given (EntryAccepted u.length) x → Gives (EntryAccepted u.length) (or_no_entry x)
    go none a = gives_none
    go (some e) a = gives a

abbrev FollowedAccepted : Followed → Type 0
FollowedAccepted f = TargetAccepted f.target

module _ (d : Dwarf) (accepted : DwarfAccepted d) where
  units-accepted : (s : DebugSource) → All UnitAccepted (units_in d s)
  unfolding units_in
  units-accepted main_source = accepted.main
  units-accepted supplementary_source = accepted.supplementary

  absolute-accepted : (input source : DebugSource) (t : Trail) (o : ℕ) → Gives FollowedAccepted (follow_absolute d input source t o)
  unfolding follow_absolute unit_containing
  absolute-accepted input source t o =
      gives-cond (is_visited t (record { source = source; offset = o })) (λ e. gives tt) (λ e. go _ (first holding (units_in d input)) (all_first UnitAccepted holding (units_in d input) (units-accepted input)))
    where
      holding : CompilationUnit → Bool
      holding u = leb u.offset o && ltb o (u.offset + u.length)

      go : (k : DieKey) (x : Option CompilationUnit) → Given UnitAccepted x → Gives FollowedAccepted (follow_in input k t x)
      go k none a = gives tt
      go k (some u) a = gives-bind (entry_at-accepted u (k.offset - u.offset) a) λ e b. gives (record { unit = a; entry = b })

  supplementary-accepted : (s : DebugSource) (us : List CompilationUnit) (t : Trail) (o : ℕ) → Gives FollowedAccepted (follow_supplementary d s us t o)
  supplementary-accepted main_source [] t o = gives tt
  supplementary-accepted main_source (u ∷ us) t o = absolute-accepted supplementary_source supplementary_source t o
  supplementary-accepted supplementary_source us t o = gives tt

  module _ (p : Place) (stands : PlaceAccepted p) where
    follow_unit-accepted : (t : Trail) (o : ℕ) → Gives FollowedAccepted (follow_unit p t o)
    unfolding follow_unit
    follow_unit-accepted t o = gives-bind (absolute-small p.unit o) λ a _.
        gives-cond (is_visited t (record { source = p.source; offset = a })) (λ e. gives tt) (λ e. gives-bind (entry_at-accepted p.unit o stands.unit) λ x b. gives (record { unit = stands.unit; entry = b }))

    pub follow-accepted : (t : Trail) (o : Option Attribute) → Gives FollowedAccepted (follow d p t o)
    unfolding follow
    follow-accepted t none = gives tt
    follow-accepted t (some a) =
        gives-cond (eqb a.kind 4) (λ e. follow_unit-accepted t a.value) λ e.
        gives-cond (eqb a.kind 5) (λ e. absolute-accepted p.input main_source t a.value) λ e.
        gives-cond (eqb a.kind 6) (λ e. supplementary-accepted p.input d.supplementary t a.value) λ e. gives tt

-- ---- names

own-string : {n : ℕ} (e : Entry) → EntryAccepted n e → (ns : List ℕ) → Gives String (own_name e ns)
unfolding own_name
own-string e h [] = gives no-string
own-string e h (n ∷ ns) = go (attribute e n) (attribute-accepted e n h) (own-string e h ns)
  where
    text : (s : List ℕ) (x : Outcome (List ℕ)) → String s → Gives String x → Gives String (if_empty s x)
    text [] x s later = later
    text (b ∷ s) x h later = gives h

    go : (o : Option Attribute) {x : Outcome (List ℕ)} → Given AttributeAccepted o → Gives String x → Gives String (name_from o x)
    go none a later = later
    go (some x) a later = gives-cond _ (λ e. text x.text _ (a.text (eqb-true x.kind 3 e)) later) (λ e. gives_none)

abbrev NamedString : Named → Type 0
NamedString r = String r.name

-- a search of which every answer is a string
abbrev FindsString : NameSearch → Type 0
FindsString inner = (p : Place) (t : Trail) → PlaceAccepted p → Gives NamedString (inner p t)

target-string : {inner : NameSearch} → FindsString inner → (t : Trail) (x : Target) → TargetAccepted x → Gives NamedString (name_at_target inner t x)
target-string r t nothing h = gives no-string
target-string r t (same_unit p) h = r p t h
target-string r t (by_offset p) h = r p t h

module _ (d : Dwarf) (accepted : DwarfAccepted d) where
  referenced-string : {inner : NameSearch} → FindsString inner → (p : Place) → PlaceAccepted p → (ns : List ℕ) (t : Trail) → Gives NamedString (referenced_name inner d p ns t)
  unfolding referenced_name
  referenced-string r p h [] t = gives no-string
  referenced-string r p h (n ∷ ns) t =
      let later = referenced-string r p h ns in
      gives-bind (follow-accepted d accepted p h t (attribute p.entry n)) λ f a.
      gives-bind (target-string r f.trail f.target a) λ x s.
      gives-cond (is_empty x.name) (λ e. later x.trail) (λ e. gives s)

  inner-string : (k : ℕ) → FindsString (resolve_name_inner k d)
  unfolding resolve_name_inner
  inner-string zero p t h = gives no-string
  inner-string (suc k) p t h =
      gives-bind (own-string p.entry h.entry name_attributes) λ own s.
      gives-cond (is_empty own) (λ e. referenced-string (inner-string k) p h origin_attributes t) (λ e. gives s)

  module _ (u : CompilationUnit) (e : Entry) (unit : UnitAccepted u) (entry : EntryAccepted u.length e) where
    here : PlaceAccepted (place_in u e)
    here = record { unit = unit; entry = entry }

    pub gives-name : Gives String (resolve_name d u e)
    unfolding resolve_name resolve_named
    gives-name = gives-bind (inner-string chain_limit (place_in u e) empty_trail here) λ r s. gives s

    pub gives-reference_name : (a : Attribute) → Gives String (resolve_reference_name d u e a)
    unfolding resolve_reference_name
    gives-reference_name a =
        gives-bind (follow-accepted d accepted (place_in u e) here empty_trail (some a)) λ f h.
        gives-bind (target-string (inner-string (chain_limit - 1)) f.trail f.target h) λ r s. gives s

pub name-string : (d : Dwarf) (u : CompilationUnit) (e : Entry) (name : List ℕ)
    → DwarfAccepted d → UnitAccepted u → EntryAccepted u.length e → resolve_name d u e ≡ done name → String name
name-string d u e name accepted unit entry = given (gives-name d accepted u e unit entry)
