-- Units by place: the units of a sheet are those at the places of its fields 10, and the turns of the loop that looks for one by its number.
use mathlib.Core.Path.{◌≡◌, refl, sym, ap, ◌∙◌}
use mathlib.Core.Bool.{Bool, true, false, cond, not}
use mathlib.Core.List.{List, [], ◌∷◌, map}
use mathlib.Core.Option.{Option, none, some}
use Prim.Native.Nat.{ℕ, zero, suc, ◌+◌, ◌-◌}
use native.Mathlib.Omega.{arith}
use lib.Dec.{eqb}
use lib.ListN.{length, take, drop}
use borrow.Author.Tests.{eq-eqb, ne_eqb}
use Rattle.std.specs.Prelude.{Some, None}
use Rattle.tlv.specs.declared.fields.FieldSpan.{FieldSpan}
use Rattle.tlv.specs.Lists.{take_while, at, map_option}
use Rattle.tlv.specs.Fields.{Field, FieldList, more, fields, Groups, whole_fields, grouped}
use Rattle.tlv.specs.Model.{CompilationUnit, unit_of, units}
use Rattle.tlv.specs.Cursor.{field_from}
use Rattle.tlv.specs.Checked.{field_in}
use Rattle.tlv.proofs.ListLaws.{at-image}
use Rattle.tlv.proofs.CursorLaws.{row-ind}
use Rattle.tlv.proofs.FieldLaws.{at-none, fields-field, field-within, payload-length}
use Rattle.access.specs.Places.{unit_fields, unit_here, unit_places}

-- ---- the units and their places

-- what stands before the first group is the fields up to the first of its tag
pub before-is : (t : ℕ) (xs : List Field) → (grouped t xs).before ≡ take_while (λ f. not (eqb f.tag t)) xs
unfolding grouped take_while
before-is t [] = refl
before-is t (x ∷ xs) = go (eqb x.tag t) (before-is t xs)
  where
    go : (b : Bool) → (grouped t xs).before ≡ take_while (λ f. not (eqb f.tag t)) xs
        → (cond {A = Groups} b (record { before = []; groups = record { head = x; rest = (grouped t xs).before } ∷ (grouped t xs).groups }) (record { before = x ∷ (grouped t xs).before; groups = (grouped t xs).groups })).before
        ≡ cond (not b) (x ∷ take_while (λ f. not (eqb f.tag t)) xs) []
    go true e = refl
    go false e = ap (λ (l : List Field). x ∷ l) e

-- a field at p, and the units from the next place on
module _ (s : List ℕ) (p t start n next : ℕ) (place_is : p + 3 + length (take n (drop start s)) ≡ next)
    (here : fields (drop p s) ≡ more (field_in s t start n) (fields (drop next s)))
    (rest : map unit_of (grouped 0x10 (whole_fields (fields (drop next s)))).groups ≡ map (unit_here s) (unit_places next (fields (drop next s)))) where
  unit-is : unit_here s p ≡ unit_of (record { head = field_in s t start n; rest = (grouped 0x10 (whole_fields (fields (drop next s)))).before })
  unfolding unit_here unit_fields
  unit-is = rw (here, before-is)

  one_more : (b : Bool) → eqb t 0x10 ≡ b
      → map unit_of (grouped 0x10 (whole_fields (more (field_in s t start n) (fields (drop next s))))).groups ≡ map (unit_here s) (unit_places p (more (field_in s t start n) (fields (drop next s))))
  unfolding whole_fields grouped unit_places
  one_more true e = rw (e, place_is, unit-is, rest)
  one_more false e = rw (e, place_is, rest)

-- the units of a sheet are those at the places of its fields 10
pub units-places : (s : List ℕ) → units s ≡ map (unit_here s) (unit_places 0 (fields s))
unfolding units whole_fields grouped unit_places
units-places s =
    row-ind s
    (λ p fs. fields (drop p s) ≡ fs → map unit_of (grouped 0x10 (whole_fields fs)).groups ≡ map (unit_here s) (unit_places p fs))
    (λ p here. refl)
    (λ p here. refl)
    (λ p t start n next begins ends within long ih here. one_more s p t start n next (omega arith) here (ih refl) (eqb t 0x10) refl)
    0
    refl

-- the unit of a number is the one at the place of that number
pub units-at : (s : List ℕ) (k : ℕ) → at (units s) k ≡ map_option (unit_here s) (at (unit_places 0 (fields s)) k)
units-at s k = ap (λ (l : List CompilationUnit). at l k) (units-places s) ∙ at-image (unit_here s) (unit_places 0 (fields s)) k

-- ---- a turn of the loop that looks for the place of a number: o is what is looked for

at-later : (x : ℕ) (xs : List ℕ) (k : ℕ) → (k ≡ 0 → ⊥) → at (x ∷ xs) k ≡ at xs (k - 1)
unfolding at
at-later x xs zero h = absurd (h refl)
at-later x xs (suc k) h = let less : suc k - 1 ≡ k = omega arith in rw less

module _ (s : List ℕ) (p k : ℕ) (o : Option ℕ) (inv : o ≡ at (unit_places p (fields (drop p s))) k) where
  pub unit-end : None ≡ field_from s p → none ≡ o
  unfolding unit_places at
  unit-end reads = sym (inv ∙ at-none s p reads (λ (fs : FieldList). at (unit_places p fs) k ≡ none) refl refl)

  module _ (f : FieldSpan) (reads : Some f ≡ field_from s p) where
    next-is : p + 3 + length (take f.len (drop f.start s)) ≡ f.next
    next-is = let w = field-within s p f reads in omega (arith, payload-length s p f reads)

    turn : o ≡ at (unit_places p (more (field_in s f.tag f.start f.len) (fields (drop f.next s)))) k
    turn = inv ∙ rw (fields-field s p f reads)

    pub unit-found : f.tag ≡ 0x10 → k ≡ 0 → some p ≡ o
    unfolding unit_places at
    unit-found h z = sym (rw (eq-eqb f.tag 0x10 h, z) at turn)

    pub unit-passed : f.tag ≡ 0x10 → (k ≡ 0 → ⊥) → o ≡ at (unit_places f.next (fields (drop f.next s))) (k - 1)
    unfolding unit_places
    unit-passed h z = rw (eq-eqb f.tag 0x10 h, next-is) at turn ∙ at-later p (unit_places f.next (fields (drop f.next s))) k z

    pub unit-other : (f.tag ≡ 0x10 → ⊥) → o ≡ at (unit_places f.next (fields (drop f.next s))) k
    unfolding unit_places
    unit-other h = rw (ne_eqb f.tag 0x10 h, next-is) at turn
