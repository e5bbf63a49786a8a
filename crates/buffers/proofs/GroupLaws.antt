-- Rows of fields by tag: the groups and the payloads in what is appended.
use mathlib.Core.Path.{◌≡◌, refl}
use mathlib.Core.List.{List, [], ◌∷◌, ◌++◌, map}
use mathlib.Core.Bool.{Bool, true, false, cond}
use Prim.Native.Nat.{ℕ}
use lib.Dec.{eqb}
use borrow.Author.Tests.{eq-eqb}
use Rattle.tlv.specs.Lists.{All}
use Rattle.tlv.specs.Fields.{Field, grouped, payloads}
use Rattle.tlv.proofs.ListLaws.{all_append}
use Rattle.buffers.proofs.FieldLaws.{fields_of_each, tagged}

-- the field has another tag than t
abbrev pub Other : ℕ → Field → Type 0
Other t f = eqb f.tag t ≡ false

-- every field has
abbrev pub Lacks : ℕ → List Field → Type 0
Lacks t xs = All (Other t) xs

-- ---- groups

pub grouped-head : (t : ℕ) (f : Field) (fs : List Field) → eqb f.tag t ≡ true
    → grouped t (f ∷ fs) ≡ record { before = []; groups = record { head = f; rest = (grouped t fs).before } ∷ (grouped t fs).groups }
unfolding grouped
grouped-head t f fs h = rw h

-- fields of other tags go to what stands before the first group
pub grouped-lacking : (t : ℕ) (xs ys : List Field) → Lacks t xs
    → grouped t (xs ++ ys) ≡ record { before = xs ++ (grouped t ys).before; groups = (grouped t ys).groups }
unfolding grouped
grouped-lacking t [] ys h = refl
grouped-lacking t (x ∷ xs) ys h = rw (h.0, grouped-lacking t xs ys h.1)

pub grouped-none : (t : ℕ) (xs : List Field) → Lacks t xs → grouped t xs ≡ record { before = xs; groups = [] }
unfolding grouped
grouped-none t [] h = refl
grouped-none t (x ∷ xs) h = rw (h.0, grouped-none t xs h.1)

-- ---- payloads

pub payloads-append : (t : ℕ) (xs ys : List Field) → payloads t (xs ++ ys) ≡ payloads t xs ++ payloads t ys
unfolding payloads
payloads-append t [] ys = refl
payloads-append t (x ∷ xs) ys = go (eqb x.tag t) (payloads-append t xs ys)
  where
    go : (b : Bool) → payloads t (xs ++ ys) ≡ payloads t xs ++ payloads t ys
        → cond b (x.payload ∷ payloads t (xs ++ ys)) (payloads t (xs ++ ys)) ≡ cond b (x.payload ∷ payloads t xs) (payloads t xs) ++ payloads t ys
    go true e = rw e
    go false e = e

pub payloads-lacking : (t : ℕ) (xs : List Field) → Lacks t xs → payloads t xs ≡ []
unfolding payloads
payloads-lacking t [] h = refl
payloads-lacking t (x ∷ xs) h = rw h.0 (payloads-lacking t xs h.1)

-- fields of other tags in front have no part in it
pub payloads-behind : (t : ℕ) (xs ys : List Field) → Lacks t xs → payloads t (xs ++ ys) ≡ payloads t ys
payloads-behind t xs ys h = rw (payloads-append t xs ys, payloads-lacking t xs h)

module _ {A : Type 0} where
  pub payloads-tagged : (t : ℕ) (g : A → List ℕ) (xs : List A) → payloads t (tagged t g xs) ≡ map g xs
  unfolding payloads
  payloads-tagged t g [] = refl
  payloads-tagged t g (x ∷ xs) = rw (eq-eqb t t refl, payloads-tagged t g xs)

  -- fields of tag u, and u is not t
  pub lacks-tagged : (t u : ℕ) (g : A → List ℕ) (xs : List A) → eqb u t ≡ false → Lacks t (tagged u g xs)
  lacks-tagged t u g [] h = tt
  lacks-tagged t u g (x ∷ xs) h = (h, lacks-tagged t u g xs h)

  pub lacks_each : (t : ℕ) (g : A → List Field) (xs : List A) → ((x : A) → Lacks t (g x)) → Lacks t (fields_of_each g xs)
  lacks_each t g [] h = tt
  lacks_each t g (x ∷ xs) h = all_append (Other t) (g x) (fields_of_each g xs) (h x) (lacks_each t g xs h)
