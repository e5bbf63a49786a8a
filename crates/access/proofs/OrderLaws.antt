-- Where the order of fields lets no field of a tag come any more before the next entry or unit.
use mathlib.Core.Path.{◌≡◌, refl, subst}
use mathlib.Core.Bool.{Bool, true, not, ◌||◌, false≢true}
use mathlib.Core.Logic.{inl, inr}
use mathlib.Core.List.{List, [], ◌∷◌}
use Prim.Native.Nat.{ℕ}
use lib.Dec.{eqb}
use lib.ListN.{drop}
use borrow.Author.Tests.{eqb-true}
use Rattle.std.specs.Prelude.{Some}
use Rattle.tlv.specs.declared.fields.FieldSpan.{FieldSpan}
use Rattle.tlv.specs.declared.grammar.Context.{Context}
use Rattle.tlv.specs.Outcome.{done}
use Rattle.tlv.specs.Lists.{Any, exists, take_while}
use Rattle.tlv.specs.Fields.{Field, FieldList, end, cut, more, fields, whole_fields, payloads}
use Rattle.tlv.specs.Cursor.{step_at, field_from}
use Rattle.tlv.specs.Grammar.{after, may_follow, payload_shaped, shaped, limited, next, check_from}
use Rattle.tlv.specs.Tags.{encoding_tag, part_tag}
use Rattle.tlv.specs.Checked.{field_in, Placed}
use Rattle.tlv.proofs.TestLaws.{by_test, and_left, or_either}
use Rattle.tlv.proofs.FieldLaws.{is-step, fields-field}
use Rattle.tlv.proofs.AcceptedGroups.{passed-both}
use Rattle.tlv.proofs.PlaceFacts.{follows, next-previous, placed-rest, placed-next}
use Rattle.access.specs.Places.{own_fields}

-- a field of this tag is no entry and no unit
abbrev pub is_own : ℕ → Bool
is_own t = not (eqb t 0x17 || eqb t 0x10)

-- among a unit's or an entry's own fields `tag` is not late, and what may follow a late field is late
pub record Passing (tag : ℕ) (Late : ℕ → Type 0) : Type 0 where
  pub never : Late tag → is_own tag ≡ true → ⊥
  pub keeps : (t u : ℕ) → Late t → is_own t ≡ true → may_follow t u ≡ true → Late u

-- ---- the law

module _ (tag : ℕ) (Late : ℕ → Type 0) (passing : Passing tag Late) where
  -- a late field adds nothing
  one : (f : Field) (fs : List Field) → Late f.tag → (is_own f.tag ≡ true → payloads tag (take_while (λ g. is_own g.tag) fs) ≡ [])
      → payloads tag (take_while (λ g. is_own g.tag) (f ∷ fs)) ≡ []
  unfolding take_while payloads
  one f fs late rest =
      by_test (λ (l : List Field). payloads tag l ≡ []) (is_own f.tag) {x = f ∷ take_while (λ g. is_own g.tag) fs} {y = []}
      (λ own. by_test (λ (l : List (List ℕ)). l ≡ []) (eqb f.tag tag)
      (λ e. let is = eqb-true f.tag tag e in absurd (passing.never (subst Late is late) (rw is at own))) (λ _. rest own))
      (λ _. refl)

  -- from a late field on no field of `tag` comes
  none_left : (c : Context) (f : Field) (fs : FieldList) (n : ℕ) → Late f.tag → check_from (next c f) fs ≡ done n → payloads tag (own_fields (more f fs)) ≡ []
  unfolding own_fields take_while whole_fields payloads check_from shaped
  none_left c f end n late e = one f [] late (λ _. refl)
  none_left c f cut n late e = one f [] late (λ _. refl)
  none_left c f (more g gs) n late e =
      let d = next c f in
      let both = passed-both (shaped d g) (limited d g) (check_from (next d g) gs) n e in
      let may : may_follow f.tag g.tag ≡ true = rw (next-previous c f) at (and_left (may_follow d.previous g.tag) (payload_shaped d g.tag g.payload) both.0) in
      one f (whole_fields (more g gs)) late (λ own. none_left d g gs n (passing.keeps f.tag g.tag late own may) both.2)

  -- the same at a place
  pub none_from : (s : List ℕ) (p : ℕ) (f : FieldSpan) → Placed s p → Some f ≡ field_from s p → Late f.tag
      → payloads tag (own_fields (fields (drop p s))) ≡ []
  none_from s p f h at late =
      rw (fields-field s p f at)
      (none_left h.context (field_in s f.tag f.start f.len) (fields (drop f.next s)) h.count late
      (placed-rest s p (step_at s p) f.tag f.start f.len f.next h refl (is-step s p f at)))

-- ---- rows: only rows may follow, and entries and units

abbrev RowOrEnd : ℕ → Type 0
RowOrEnd t = Any (λ x. t ≡ x) (0x10 ∷ 0x16 ∷ 0x17 ∷ [])

row_is : (t : ℕ) → RowOrEnd t → is_own t ≡ true → t ≡ 0x16
row_is t (inl e) own = absurd (false≢true (rw e at own))
row_is t (inr (inl e)) own = e
row_is t (inr (inr (inr x4))) own = elim x4 [ ]
row_is t (inr (inr (inl e))) own = absurd (false≢true (rw e at own))

passing-rows : (tag : ℕ) → (tag ≡ 0x16 → ⊥) → Passing tag RowOrEnd
unfolding after
passing-rows tag other = record {
  never = λ late own. other (row_is tag late own);
  keeps = λ t u late own may. follows 0x16 u (rw (row_is t late own) at may);
}

-- ---- attributes: they may follow entries and attributes alone

may-attribute : (t : ℕ) → may_follow t 0x18 ≡ true → (eqb t 0x17 || eqb t 0x18) ≡ true
unfolding may_follow after exists
may-attribute t =
    let P : List ℕ → Type 0 = λ l. exists (eqb 0x18) l ≡ true → (eqb t 0x17 || eqb t 0x18) ≡ true in
    by_test P (eqb t 0x10) (λ _ k. absurd (false≢true k)) (λ _.
    by_test P (eqb t 0x11 || eqb t 0x12) (λ _ k. absurd (false≢true k)) (λ _.
    by_test P (eqb t 0x13) (λ _ k. absurd (false≢true k)) (λ _.
    by_test P (eqb t encoding_tag) (λ _ k. absurd (false≢true k)) (λ _.
    by_test P (eqb t part_tag || eqb t 0x14) (λ _ k. absurd (false≢true k)) (λ _.
    by_test P (eqb t 0x1c || eqb t 0x15) (λ _ k. absurd (false≢true k)) (λ _.
    by_test P (eqb t 0x16) (λ _ k. absurd (false≢true k)) (λ _.
    by_test P (eqb t 0x17 || eqb t 0x18) (λ e k. e) (λ _.
    by_test P (eqb t 0x19) (λ _ k. absurd (false≢true k)) (λ _.
    by_test P (eqb t 0x1a || eqb t 0x1f) (λ _ k. absurd (false≢true k)) (λ _ k. absurd (false≢true k)))))))))))

passing-attributes : Passing 0x18 (λ t. t ≡ 0x18 → ⊥)
passing-attributes = record { never = λ late own. late refl; keeps = keeps }
  where
    keeps : (t u : ℕ) → (t ≡ 0x18 → ⊥) → is_own t ≡ true → may_follow t u ≡ true → u ≡ 0x18 → ⊥
    keeps t u late own may is = elim (or_either (eqb t 0x17) (eqb t 0x18) (may-attribute t (rw is at may))) [
      | inl e ↦ false≢true (rw e at own)
      | inr e ↦ late (eqb-true t 0x18 e)
    ]

-- ---- at a place

module _ (s : List ℕ) (p : ℕ) (f : FieldSpan) (h : Placed s p) (at : Some f ≡ field_from s p) where
  -- from a row on no field of another tag is a unit's own
  pub none-after_row : (tag : ℕ) → (tag ≡ 0x16 → ⊥) → f.tag ≡ 0x16 → payloads tag (own_fields (fields (drop p s))) ≡ []
  none-after_row tag other is = none_from tag RowOrEnd (passing-rows tag other) s p f h at (inr (inl is))

  -- from a field that is no attribute on no attribute is the entry's
  pub none-after-attributes : (f.tag ≡ 0x18 → ⊥) → payloads 0x18 (own_fields (fields (drop p s))) ≡ []
  none-after-attributes = none_from 0x18 (λ t. t ≡ 0x18 → ⊥) passing-attributes s p f h at

  -- its next place is a place
  pub next-placed : Placed s f.next
  next-placed = placed-next s p (step_at s p) f.tag f.start f.len f.next h refl (is-step s p f at)
