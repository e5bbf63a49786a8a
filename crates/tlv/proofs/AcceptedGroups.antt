-- The fields of an accepted sheet pass one after the other, and so do those of each group of them.
use mathlib.Core.Path.{◌≡◌, refl}
use mathlib.Core.Bool.{Bool, true, false, cond}
use mathlib.Core.List.{List, [], ◌∷◌}
use Prim.Native.Nat.{ℕ, zero, suc, ◌<◌}
use lib.Dec.{leb, eqb}
use lib.ListN.{length}
use borrow.Author.Tests.{eqb-true, eqb-false}
use Rattle.tlv.specs.Outcome.{Outcome, refused, done}
use Rattle.tlv.specs.Lists.{All}
use Rattle.tlv.specs.Bytes.{Bytes, le}
use Rattle.tlv.specs.Fields.{Field, FieldList, end, cut, more, fields_from, whole_fields, Group, Groups, grouped}
use Rattle.tlv.specs.declared.grammar.Context.{Context}
use Rattle.tlv.specs.Grammar.{shaped, limited, next, check_from}
use Rattle.tlv.proofs.TestLaws.{by_test}
use Rattle.tlv.proofs.ListLaws.{all_take}
use Rattle.tlv.proofs.OutcomeLaws.{refused-not}
use Rattle.tlv.proofs.AcceptedFields.{Passed, AllPassed}

-- ---- the fields of a sheet

-- the payload is of bytes
abbrev pub OfBytes : Field → Type 0
OfBytes f = Bytes f.payload

pub fields-bytes : (k : ℕ) (s : List ℕ) → Bytes s → All OfBytes (whole_fields (fields_from k s))
unfolding fields_from whole_fields
fields-bytes zero [] h = tt
fields-bytes zero (t ∷ []) h = tt
fields-bytes zero (t ∷ a ∷ []) h = tt
fields-bytes zero (t ∷ a ∷ b ∷ rest) h =
    let n : ℕ = le (a ∷ b ∷ []) in
    let after : Bytes rest = h.1.1.1 in
    by_test (λ (fs : FieldList). All OfBytes (whole_fields fs)) (leb n (length rest)) (λ e. (all_take (λ x. x < 256) n rest after, fields-bytes n rest after)) (λ e. tt)
fields-bytes (suc k) [] h = tt
fields-bytes (suc k) (x ∷ rest) h = fields-bytes k rest h.1

-- a check that is done has passed its field
pub passed-both : (a b : Bool) (o : Outcome ℕ) (n : ℕ) → cond a (cond b o (refused 3)) (refused 2) ≡ done n → (a ≡ true) × (b ≡ true) × (o ≡ done n)
passed-both true true o n e = (refl, refl, e)
passed-both true false o n e = refused-not e
passed-both false b o n e = refused-not e

pub checked-passed : (c : Context) (fs : FieldList) (n : ℕ) → All OfBytes (whole_fields fs) → check_from c fs ≡ done n → AllPassed c (whole_fields fs)
unfolding whole_fields check_from
checked-passed c end n b e = tt
checked-passed c cut n b e = tt
checked-passed c (more f fs) n b e =
    let both = passed-both (shaped c f) (limited c f) (check_from (next c f) fs) n e in
    (record { bytes = b.0; shape = both.0; limit = both.1 }, checked-passed (next c f) fs n b.1 both.2)

-- ---- their groups

-- no field is of tag t
abbrev pub Without : ℕ → List Field → Type 0
Without t fs = All (λ f. f.tag ≡ t → ⊥) fs

-- a group of fields that pass: it begins with a field of tag t and has no other
pub record Passage (t : ℕ) (g : Group) : Type 0 where
  pub context : Context
  pub tag : g.head.tag ≡ t
  pub head : Passed context g.head
  pub rest : AllPassed (next context g.head) g.rest
  pub without : Without t g.rest

-- the groups of fields that pass from c on
pub record Passages (t : ℕ) (c : Context) (g : Groups) : Type 0 where
  pub before : AllPassed c g.before
  pub without : Without t g.before
  pub groups : All (Passage t) g.groups

joined : (t : ℕ) (c : Context) (f : Field) (g : Groups) (b : Bool) → eqb f.tag t ≡ b → Passed c f → Passages t (next c f) g
    → Passages t c (cond b
    (record { before = []; groups = record { head = f; rest = g.before } ∷ g.groups })
    (record { before = f ∷ g.before; groups = g.groups }))
joined t c f g true e h rest = record {
  before = tt;
  without = tt;
  groups = (record { context = c; tag = eqb-true f.tag t e; head = h; rest = rest.before; without = rest.without }, rest.groups);
}
joined t c f g false e h rest = record { before = (h, rest.before); without = (eqb-false f.tag t e, rest.without); groups = rest.groups }

pub grouped-passed : (t : ℕ) (c : Context) (fs : List Field) → AllPassed c fs → Passages t c (grouped t fs)
unfolding grouped
grouped-passed t c [] h = record { before = tt; without = tt; groups = tt }
grouped-passed t c (f ∷ fs) h = joined t c f (grouped t fs) (eqb f.tag t) refl h.0 (grouped-passed t (next c f) fs h.1)
