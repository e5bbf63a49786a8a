-- How many there can be of what a sheet holds: no more than it has fields of a tag, and all tags together no more than it has fields.
use mathlib.Core.Path.{◌≡◌, refl}
use mathlib.Core.Bool.{cond}
use mathlib.Core.Logic.{inl, inr}
use mathlib.Core.List.{List, [], ◌∷◌, map}
use mathlib.Core.Option.{Option, none, some}
use Prim.Native.Nat.{ℕ, ◌+◌, ◌≤◌, ◌<◌}
use native.Mathlib.Omega.{arith}
use lib.Dec.{eqb}
use lib.ListN.{length, length-append, length-map}
use borrow.Author.Tests.{eqb-true, ne_eqb}
use Rattle.tlv.specs.Outcome.{Outcome, refused, done}
use Rattle.tlv.specs.Lists.{Any, All, map_option}
use Rattle.tlv.specs.Fields.{Field, fields, whole_fields, Group, grouped, payloads, head_of, payload_of, count_of}
use Rattle.tlv.specs.Checked.{Accepts}
use Rattle.tlv.specs.Model.{CompilationUnit, LineHeader, HeaderFile, file_of, unit_of, units}
use Rattle.tlv.proofs.ListLaws.{all_map, all-image}
use Rattle.tlv.proofs.PlaceFacts.{accepted-count}
use Rattle.buffers.specs.Output.{FileEntry}
use Rattle.access.specs.Places.{unit_here, unit_places, UnitOf}
use Rattle.access.proofs.UnitPlaceLaws.{units-places}
use Rattle.access.proofs.IndexModel.{either}
use Rattle.paths.specs.Paths.{file_entry}
use Rattle.files.specs.Possible.{named_file, named_files, with_zero, headed, files_of_units, possible_files}

-- ---- fields of a tag

-- how many fields of tag t a list has
abbrev pub amount : ℕ → List Field → ℕ
amount t fs = length (payloads t fs)

-- one where the tag u is t
abbrev hit : ℕ → ℕ → ℕ
hit u t = cond (eqb u t) 1 0

amount_none : (t : ℕ) → amount t [] ≡ 0
unfolding payloads
amount_none t = refl

amount_more : (t : ℕ) (f : Field) (fs : List Field) → amount t (f ∷ fs) ≡ hit f.tag t + amount t fs
unfolding payloads
amount_more t f fs = either (eqb f.tag t) (λ e. rw e (omega arith)) (λ e. rw e (omega arith))

-- ---- tags that differ: a field has one of them at most

-- the tags rise, and begin at b or above
abbrev pub Rising : ℕ → List ℕ → Type 0
Rising b [] = Unit {0}
Rising b (t ∷ ts) = (b ≤ t) × Rising (t + 1) ts

abbrev hits : ℕ → List ℕ → ℕ
hits u [] = 0
hits u (t ∷ ts) = hit u t + hits u ts

-- how many fields have one of the tags
abbrev pub amounts : List ℕ → List Field → ℕ
amounts [] fs = 0
amounts (t ∷ ts) fs = amount t fs + amounts ts fs

no_hit : (u b : ℕ) (ts : List ℕ) → u < b → Rising b ts → hits u ts ≡ 0
no_hit u b [] l r = refl
no_hit u b (t ∷ ts) l r =
    let first = r.0 in
    let rest = no_hit u (t + 1) ts (omega arith) r.1 in
    rw (ne_eqb u t (λ e. omega arith)) (omega arith)

one_hit : (u b : ℕ) (ts : List ℕ) → Rising b ts → hits u ts ≤ 1
one_hit u b [] r = omega arith
one_hit u b (t ∷ ts) r =
    either (eqb u t)
    (λ e.
    let is = eqb-true u t e in
    let rest = no_hit u (t + 1) ts (omega arith) r.1 in
    rw e (omega arith))
    (λ e.
    let rest = one_hit u (t + 1) ts r.1 in
    rw e (omega arith))

amounts_none : (ts : List ℕ) → amounts ts [] ≡ 0
amounts_none [] = refl
amounts_none (t ∷ ts) = omega (arith, amount_none t, amounts_none ts)

amounts_more : (ts : List ℕ) (f : Field) (fs : List Field) → amounts ts (f ∷ fs) ≡ hits f.tag ts + amounts ts fs
amounts_more [] f fs = refl
amounts_more (t ∷ ts) f fs = omega (arith, amount_more t f fs, amounts_more ts f fs)

-- of tags that differ there are together no more than fields
pub amounts_few : (ts : List ℕ) (fs : List Field) → Rising 0 ts → amounts ts fs ≤ length fs
amounts_few ts [] r = omega (arith, amounts_none ts)
amounts_few ts (f ∷ fs) r = omega (arith, amounts_more ts f fs, one_hit f.tag 0 ts r, amounts_few ts fs r)

-- the tags of the fields that tables are made of
tabled : List ℕ
tabled = 0x10 ∷ 0x14 ∷ 0x15 ∷ 0x16 ∷ 0x17 ∷ 0x18 ∷ 0x19 ∷ 0x1c ∷ []

tabled_rise : Rising 0 tabled
unfolding tabled
tabled_rise = (omega arith, (omega arith, (omega arith, (omega arith, (omega arith, (omega arith, (omega arith, (omega arith, tt))))))))

-- they are together no more than the fields of an accepted sheet
pub tags-few : (s : List ℕ) (n : ℕ) → Accepts s n
    → count_of 0x10 s + count_of 0x14 s + count_of 0x15 s + count_of 0x1c s + count_of 0x16 s + count_of 0x17 s + count_of 0x18 s + count_of 0x19 s ≤ n
unfolding tabled
tags-few s n e = omega (arith, accepted-count s n e, amounts_few tabled (whole_fields (fields s)) tabled_rise)

-- ---- groups are parts of the fields, apart from each other

-- how many fields of tag t stand in groups, behind their heads
abbrev pub amount_in : ℕ → List Group → ℕ
amount_in t [] = 0
amount_in t (g ∷ gs) = amount t g.rest + amount_in t gs

pub grouped-few : (t h : ℕ) (fs : List Field) → amount t (grouped h fs).before + amount_in t (grouped h fs).groups ≤ amount t fs
unfolding grouped
grouped-few t h [] = omega arith
grouped-few t h (f ∷ fs) =
    let rest = grouped-few t h fs in
    let one = amount_more t f fs in
    either (eqb f.tag h) (λ e. rw e (omega (arith, amount_none t))) (λ e. rw e (omega (arith, amount_more t f (grouped h fs).before)))

-- no group has more than all
each-few : (t n : ℕ) (gs : List Group) → amount_in t gs ≤ n → All (λ g. amount t g.rest ≤ n) gs
each-few t n [] l = tt
each-few t n (g ∷ gs) l = (omega arith, each-few t n gs (omega arith))

-- the fields of a unit before its first entry
abbrev own : Group → List Field
own g = (grouped 0x17 g.rest).before

own-few : (t : ℕ) (g : Group) → amount t (own g) ≤ amount t g.rest
own-few t g = omega (arith, grouped-few t 0x17 g.rest)

-- ---- the unit at a place

image_one : {A B : Type 0} (P : B → Type 0) (f : A → B) (a : A) (xs : List A) → All P (map f xs) → Any (λ x. x ≡ a) xs → P (f a)
image_one {A = A} {B = B} P f a [] h x'' = elim x'' [ ]
image_one P f a (x ∷ xs) h (inl e) = rw e at h.0
image_one P f a (x ∷ xs) h (inr k) = image_one P f a xs h.1 k

module _ (size : CompilationUnit → ℕ) (t : ℕ) (each : (g : Group) → size (unit_of g) ≤ amount t g.rest) where
  -- what is no more than a tag's fields in each unit is no more than the sheet's, in the unit at a place
  pub unit-few : (s : List ℕ) (q : ℕ) → UnitOf s q → size (unit_here s q) ≤ count_of t s
  unfolding units
  unit-few s q any =
      let gs : List Group = (grouped 0x10 (whole_fields (fields s))).groups in
      let few : amount_in t gs ≤ count_of t s = omega (arith, grouped-few t 0x10 (whole_fields (fields s))) in
      let all : All (λ u. size u ≤ count_of t s) (map unit_of gs) =
      all-image (λ u. size u ≤ count_of t s) unit_of gs (all_map gs (λ g l. omega (arith, each g)) (each-few t (count_of t s) gs few)) in
      image_one (λ u. size u ≤ count_of t s) (unit_here s) q (unit_places 0 (fields s)) (rw (units-places s) at all) any

module _ (s : List ℕ) (q : ℕ) (any : UnitOf s q) where
  pub directories-few : length (unit_here s q).directories ≤ count_of 0x14 s
  unfolding unit_of
  directories-few = unit-few (λ u. length u.directories) 0x14 (λ g. simp length-map (own-few 0x14 g)) s q any

  pub files-few_in : length (unit_here s q).files ≤ count_of 0x15 s
  unfolding unit_of
  files-few_in = unit-few (λ u. length u.files) 0x15 (λ g. simp length-map (own-few 0x15 g)) s q any

  pub rows_few : length (unit_here s q).rows ≤ count_of 0x16 s
  unfolding unit_of
  rows_few = unit-few (λ u. length u.rows) 0x16 (λ g. simp length-map (own-few 0x16 g)) s q any

-- ---- the files of all units

one-named : (o : Outcome (Option FileEntry)) → length (named_file o) ≤ 1
one-named (refused n) = omega arith
one-named (done none) = omega arith
one-named (done (some e)) = omega arith

named-few : (u : CompilationUnit) (h : LineHeader) (fs : List HeaderFile) → length (named_files u h fs) ≤ length fs
unfolding named_files
named-few u h [] = omega arith
named-few u h (f ∷ fs) =
    let rest = named-few u h fs in
    simp length-append (omega (arith, one-named (file_entry u h f)))

headed-few : (u : CompilationUnit) (o : Option LineHeader) → length (headed u o) ≤ length (with_zero u.file_zero u.files)
headed-few u none = omega arith
headed-few u (some h) = named-few u h (with_zero u.file_zero u.files)

zero-few : (ps : List (List ℕ)) (fs : List HeaderFile) → length (with_zero (map_option file_of (head_of ps)) fs) ≤ length fs + length ps
unfolding map_option
zero-few [] fs = omega arith
zero-few (p ∷ ps) fs = omega arith

unit-headed : (g : Group) → length (headed (unit_of g) (unit_of g).header) ≤ amount 0x15 g.rest + amount 0x1c g.rest
unfolding unit_of payload_of
unit-headed g =
    let a = headed-few (unit_of g) (unit_of g).header in
    let b = zero-few (payloads 0x1c (own g)) (map file_of (payloads 0x15 (own g))) in
    omega (arith, length-map (payloads 0x15 (own g)) file_of, own-few 0x15 g, own-few 0x1c g)

groups-files : (gs : List Group) → length (files_of_units (map unit_of gs)) ≤ amount_in 0x15 gs + amount_in 0x1c gs
unfolding files_of_units
groups-files [] = omega arith
groups-files (g ∷ gs) =
    let rest = groups-files gs in
    let one = unit-headed g in
    simp length-append (omega arith)

units-files : (s : List ℕ) → length (files_of_units (units s)) ≤ count_of 0x15 s + count_of 0x1c s
unfolding units
units-files s =
    let fs : List Field = whole_fields (fields s) in
    omega (arith, groups-files (grouped 0x10 fs).groups, grouped-few 0x15 0x10 fs, grouped-few 0x1c 0x10 fs)

-- the files that an import can meet are no more than the fields 15 and 1c of both sheets
pub possible-few : (main supplementary : List ℕ) → length (possible_files main supplementary) ≤ count_of 0x15 main + count_of 0x1c main + (count_of 0x15 supplementary + count_of 0x1c supplementary)
unfolding possible_files
possible-few main supplementary = simp length-append (omega (arith, units-files main, units-files supplementary))
