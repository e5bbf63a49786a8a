-- What is read of the entry at a place: that its field 17 stands there, the reference that an attribute is, and the entry's own name.
use mathlib.Core.Path.{◌≡◌, refl, sym, ap, ◌∙◌}
use mathlib.Core.Bool.{Bool, true, false}
use mathlib.Core.List.{List, [], ◌∷◌, map}
use mathlib.Core.Option.{Option, none, some}
use Prim.Native.Nat.{ℕ, ◌+◌, ◌-◌, ◌≤◌}
use native.Mathlib.Omega.{arith}
use lib.Dec.{eqb}
use lib.ListN.{length, take, drop}
use borrow.Author.Tests.{eq-eqb, ne_eqb, eqb-true, eqb-false}
use Rattle.tlv.specs.declared.grammar.Context.{Context}
use Rattle.tlv.specs.Outcome.{Outcome, refused, done}
use Rattle.tlv.specs.Lists.{All, first}
use Rattle.tlv.specs.Bytes.{le_at}
use Rattle.tlv.specs.Fields.{Field, FieldList, end, cut, more, fields, payloads}
use Rattle.tlv.specs.Grammar.{shaped, limited, next, check_from}
use Rattle.tlv.specs.Model.{Attribute, attribute_of}
use Rattle.tlv.specs.Cursor.{Step, field_here, cut_short, nothing_left, step_at, fields_of}
use Rattle.tlv.specs.Checked.{field_in, Placed}
use Rattle.tlv.proofs.ListLaws.{any_one}
use Rattle.tlv.proofs.CursorLaws.{fields-at, fields-field, field-within, row-ind}
use Rattle.tlv.proofs.AcceptedGroups.{passed-both}
use Rattle.tlv.proofs.PlaceFacts.{placed-next}
use Rattle.tlv.proofs.PlacePromises.{placed-entry}
use Rattle.std.specs.Prelude.{Some, None, ◌==◌}
use Rattle.std.specs.declared.option.Option.{Option as Given}
use Rattle.access.specs.declared.access.Value.{Value}
use Rattle.access.specs.Places.{own_fields, entry_here, behind, IndexedEntry, entry_index}
use Rattle.access.specs.Access.{Meaning, absent, text, unit_reference, section_reference, supplementary_reference, is_named, value_of, meaning_of, meant, said, Says}
use Rattle.access.proofs.EntryPlaceLaws.{entry-says}
use Rattle.access.proofs.IndexLaws.{index-unit, index-entry, index-other}
use Rattle.access.proofs.IndexModel.{either}
use Rattle.references.specs.declared.attributes.Reference.{Reference}
use Rattle.references.specs.Search.{attribute, if_empty, name_from, own_name}
use Rattle.references.specs.Tables.{EntryKnown, reference_of, reference_in, name_then, NameRead, bytes_given}

-- ---- the field 17 of an entry

-- an entry's field stands at p, in an accepted sheet
pub record EntryStands (s : List ℕ) (p : ℕ) : Type 0 where
  pub placed : Placed s p
  pub step : step_at s p ≡ field_here 0x17 (p + 3) 12 (p + 15)

-- the step at the place of a field 17
step-entry : (s : List ℕ) (p : ℕ) (f : Field) (fs : FieldList) → Placed s p → fields (drop p s) ≡ more f fs → f.tag ≡ 0x17 → step_at s p ≡ field_here 0x17 (p + 3) 12 (p + 15)
step-entry s p f fs h at is = sym (go (step_at s p) refl)
  where
    go : (r : Step) → r ≡ step_at s p → field_here 0x17 (p + 3) 12 (p + 15) ≡ r
    go nothing_left reads =
        let none : end ≡ more f fs = sym (fields-at s p ∙ ap (fields_of s) (sym reads)) ∙ at in
        let z : ◌≡◌ {A = ℕ} 0 1 = cc in
        absurd (omega arith)
    go cut_short reads =
        let none : cut ≡ more f fs = sym (fields-at s p ∙ ap (fields_of s) (sym reads)) ∙ at in
        let z : ◌≡◌ {A = ℕ} 0 1 = cc in
        absurd (omega arith)
    go (field_here t start n past) reads =
        let w = field-within s p _ t start n past reads refl in
        let same : more (field_in s t start n) (fields (drop past s)) ≡ more f fs = sym (fields-field s p _ t start n past reads refl) ∙ at in
        let first : field_in s t start n ≡ f = cc in
        let tag : t ≡ 0x17 = ap (λ (x : Field). x.tag) first ∙ is in
        let long = placed-entry s p _ t start n past h reads refl tag in
        let behind-it : past ≡ p + 15 = omega arith in
        rw (tag, w.0, long, behind-it)

-- the fields from p on, in a unit at q and at offset o
abbrev Standing : List ℕ → ℕ → FieldList → Type 0
Standing s p fs = (c : Context) (m q o : ℕ) → check_from c fs ≡ done m → All (λ e. EntryStands s e.place) (entry_index p q o fs)

standing_turn : (s : List ℕ) (p past : ℕ) (f : Field) (fs : FieldList) → behind p f ≡ past → fields (drop p s) ≡ more f fs → p ≤ length s → Standing s past fs
    → Standing s p (more f fs)
unfolding check_from
standing_turn s p past f fs to at inside ih c m q o e =
    let both = passed-both (shaped c f) (limited c f) (check_from (next c f) fs) m e in
    either (eqb f.tag 0x10)
    (λ a. rw (index-unit p q o f fs past to (eqb-true f.tag 0x10 a)) (ih (next c f) m p (le_at 8 f.payload 0) both.2))
    (λ a. either (eqb f.tag 0x17)
    (λ b.
    let is = eqb-true f.tag 0x17 b in
    let here : Placed s p = record { context = c; count = m; passes = rw at e; within = inside } in
    rw (index-entry p q o f fs past to is) (record { placed = here; step = step-entry s p f fs here at is }, ih (next c f) m q o both.2))
    (λ b. rw (index-other p q o f fs past to (eqb-false f.tag 0x10 a) (eqb-false f.tag 0x17 b)) (ih (next c f) m q o both.2)))

standing : (s : List ℕ) (p : ℕ) → Standing s p (fields (drop p s))
unfolding entry_index
standing s p =
    row-ind s (λ (p : ℕ) (fs : FieldList). fields (drop p s) ≡ fs → Standing s p fs) (λ p at c m q o e. tt) (λ p at c m q o e. tt)
    (λ p t start n past is to most long ih at. standing_turn s p past (field_in s t start n) (fields (drop past s)) (omega arith) at (omega arith) (ih refl))
    p refl

module _ {s : List ℕ} {q p : ℕ} (accepted : Placed s 0) (known : EntryKnown s q p) where
  stands : EntryStands s p
  stands =
      any_one (entry_index 0 0 0 (fields s))
      (λ e at same. let is : e.place ≡ p = ap (λ (x : IndexedEntry). x.place) same ∙ known.place in rw is at at)
      (standing s 0 accepted.context accepted.count 0 0 accepted.passes) known.listed

  pub entry-placed : Placed s p
  entry-placed = stands.placed

  -- what the cursor reads at the place of an entry
  pub entry-step : step_at s p ≡ field_here 0x17 (p + 3) 12 (p + 15)
  entry-step = stands.step

  -- the fields behind it
  pub entry_next : Placed s (p + 15)
  entry_next = placed-next s p _ 0x17 (p + 3) 12 (p + 15) entry-placed refl entry-step

  pub entry-inside : p + 15 ≤ length s
  entry-inside = entry_next.within

  -- what is read there of the attribute of a name
  pub attribute-says : (v : Given Value) (name : ℕ) → Says s v (meaning_of (first (is_named name) (map attribute_of (payloads 0x18 (own_fields (fields (drop (p + 15) s)))))))
      → Says s v (meaning_of (attribute (entry_here s p) name))
  unfolding attribute
  attribute-says v name says = entry-says s p _ 0x17 (p + 3) 12 (p + 15) refl entry-step v name says

-- ---- the reference that an attribute is

abbrev reference_meant : Meaning → Given Reference
reference_meant (unit_reference n) = Some (Reference.Unit n)
reference_meant (section_reference n) = Some (Reference.Section n)
reference_meant (supplementary_reference n) = Some (Reference.Supplementary n)
reference_meant m = None

value-reference : (s : List ℕ) (v : Given Value) → reference_in v ≡ reference_meant (said s v)
value-reference s None = refl
value-reference s (Some (Value.Unsigned n)) = refl
value-reference s (Some (Value.FileNumber n)) = refl
value-reference s (Some (Value.Text start len)) = refl
value-reference s (Some (Value.UnitReference n)) = refl
value-reference s (Some (Value.SectionReference n)) = refl
value-reference s (Some (Value.SupplementaryReference n)) = refl
value-reference s (Some (Value.SectionOffset n)) = refl
value-reference s (Some (Value.LineOffset n)) = refl
value-reference s (Some (Value.Address n)) = refl
value-reference s (Some Value.Failed) = refl

-- a statement of the kind of an attribute, by cases
pub by_kind : (C : ℕ → Type 0) (k : ℕ) → C 1 → C 2 → C 3 → C 4 → C 5 → C 6 → C 7 → C 8 → C 9
    → (eqb k 1 ≡ false → eqb k 2 ≡ false → eqb k 3 ≡ false → eqb k 4 ≡ false → eqb k 5 ≡ false → eqb k 6 ≡ false → eqb k 7 ≡ false → eqb k 8 ≡ false → eqb k 9 ≡ false → C k) → C k
by_kind C k c1 c2 c3 c4 c5 c6 c7 c8 c9 other =
    either (eqb k 1) (λ y. rw (eqb-true k 1 y) c1) (λ n1.
    either (eqb k 2) (λ y. rw (eqb-true k 2 y) c2) (λ n2.
    either (eqb k 3) (λ y. rw (eqb-true k 3 y) c3) (λ n3.
    either (eqb k 4) (λ y. rw (eqb-true k 4 y) c4) (λ n4.
    either (eqb k 5) (λ y. rw (eqb-true k 5 y) c5) (λ n5.
    either (eqb k 6) (λ y. rw (eqb-true k 6 y) c6) (λ n6.
    either (eqb k 7) (λ y. rw (eqb-true k 7 y) c7) (λ n7.
    either (eqb k 8) (λ y. rw (eqb-true k 8 y) c8) (λ n8.
    either (eqb k 9) (λ y. rw (eqb-true k 9 y) c9) (λ n9. other n1 n2 n3 n4 n5 n6 n7 n8 n9)))))))))

-- an attribute of another kind
abbrev pub of_kind : Attribute → ℕ → Attribute
of_kind a k = record { name = a.name; kind = k; value = a.value; text = a.text }

meaning-reference : (o : Option Attribute) → reference_meant (meaning_of o) ≡ reference_of o
unfolding meaning_of reference_of value_of
meaning-reference none = refl
meaning-reference (some a) =
    by_kind (λ k. reference_meant (value_of (of_kind a k)) ≡ reference_of (some (of_kind a k))) a.kind refl refl refl refl refl refl refl refl refl
    (λ n1 n2 n3 n4 n5 n6 n7 n8 n9. rw (n1, n2, n3, n4, n5, n6, n7, n8, n9))

pub reference-read : {s : List ℕ} (p : ℕ) {v : Given Value} (name : ℕ) (r : Given Reference) → Says s v (meaning_of (attribute (entry_here s p) name))
    → r ≡ reference_in v → r ≡ reference_of (attribute (entry_here s p) name)
reference-read {s} p {v} name r says is = is ∙ value-reference s v ∙ ap reference_meant says.is ∙ meaning-reference (attribute (entry_here s p) name)

-- ---- the name that an attribute is

abbrev name_meant : Meaning → Outcome (List ℕ) → Outcome (List ℕ)
name_meant absent other = other
name_meant (text b) other = if_empty b other
name_meant m other = refused 6

meaning_name : (o : Option Attribute) (other : Outcome (List ℕ)) → name_from o other ≡ name_meant (meaning_of o) other
unfolding meaning_of value_of
meaning_name none other = refl
meaning_name (some a) other =
    by_kind (λ k. name_from (some (of_kind a k)) other ≡ name_meant (value_of (of_kind a k)) other) a.kind refl refl refl refl refl refl refl refl refl
    (λ n1 n2 n3 n4 n5 n6 n7 n8 n9. rw (n1, n2, n3, n4, n5, n6, n7, n8, n9))

-- a value that is no string
abbrev pub NoText : Value → Type 0
NoText (Value.Text start len) = ⊥
NoText v = Unit

no_text : (s : List ℕ) (v : Value) (other : Outcome (List ℕ)) → NoText v → name_meant (meant s v) other ≡ refused 6
no_text s (Value.Unsigned n) other h = refl
no_text s (Value.FileNumber n) other h = refl
no_text s (Value.Text start len) other h = absurd h
no_text s (Value.UnitReference n) other h = refl
no_text s (Value.SectionReference n) other h = refl
no_text s (Value.SupplementaryReference n) other h = refl
no_text s (Value.SectionOffset n) other h = refl
no_text s (Value.LineOffset n) other h = refl
no_text s (Value.Address n) other h = refl
no_text s Value.Failed other h = refl

module _ {s : List ℕ} (p : ℕ) {v : Given Value} (name : ℕ) (says : Says s v (meaning_of (attribute (entry_here s p) name))) where
  named : (other : Outcome (List ℕ)) → name_from (attribute (entry_here s p) name) other ≡ name_meant (said s v) other
  named other = meaning_name (attribute (entry_here s p) name) other ∙ ap (λ (m : Meaning). name_meant m other) (sym says.is)

  pub name-absent : v ≡ None → NameRead s p name 0 []
  unfolding name_then
  name-absent is = record { is = λ other. named other ∙ rw is }

  module _ {y : Value} (there : v ≡ Some y) where
    pub name-text : {start len : ℕ} {r : List ℕ} → y ≡ Value.Text start len → r ≡ take (start + len - start) (drop start s) → NameRead s p name 0 r
    unfolding name_then
    name-text {start} {len} is part =
        let long : start + len - start ≡ len = omega arith in
        record { is = λ other. named other ∙ rw (there, is, part, long) }

    pub name-refused : {r : List ℕ} → NoText y → NameRead s p name 6 r
    unfolding name_then
    name-refused h = record { is = λ other. named other ∙ rw there (no_text s y other h) }

-- ---- the entry's own name: the first of several that is not empty

own-or : (r : List ℕ) (other : Outcome (List ℕ)) → (length r ≡ 0 → ⊥) → if_empty r other ≡ done r
own-or [] other h = absurd (h refl)
own-or (b ∷ r) other h = refl

own-empty : (r : List ℕ) (other : Outcome (List ℕ)) → length r ≡ 0 → if_empty r other ≡ other
own-empty [] other h = refl
own-empty (b ∷ r) other h = absurd (omega arith)

own-end : (r : List ℕ) → if_empty r (done []) ≡ done r
own-end [] = refl
own-end (b ∷ r) = refl

-- what was read of the name n, of n and the later names ns
module _ {s : List ℕ} {p n st : ℕ} {r : List ℕ} (read : NameRead s p n st r) where
  own_is : (ns : List ℕ) → name_then st r (own_name (entry_here s p) ns) ≡ own_name (entry_here s p) (n ∷ ns)
  unfolding own_name
  own_is ns = sym (read.is (own_name (entry_here s p) ns))

  pub own-refused : (ns : List ℕ) → (st ≡ 0 → ⊥) → bytes_given st r ≡ own_name (entry_here s p) (n ∷ ns)
  unfolding name_then bytes_given
  own-refused ns h = rw (ne_eqb st 0 h) (rw (ne_eqb st 0 h) at (own_is ns))

  pub own-found : (ns : List ℕ) {v : Bool} → st ≡ 0 → v ≡ (length r == 0) → v ≡ false → bytes_given st r ≡ own_name (entry_here s p) (n ∷ ns)
  unfolding name_then bytes_given
  own-found ns z e h = rw (eq-eqb st 0 z) (sym (own-or r (own_name (entry_here s p) ns) (eqb-false (length r) 0 (sym e ∙ h))) ∙ rw (eq-eqb st 0 z) at (own_is ns))

  pub own-later : (ns : List ℕ) (st' : ℕ) (r' : List ℕ) {v : Bool} → st ≡ 0 → v ≡ (length r == 0) → v ≡ true → bytes_given st' r' ≡ own_name (entry_here s p) ns
      → bytes_given st' r' ≡ own_name (entry_here s p) (n ∷ ns)
  unfolding name_then
  own-later ns st' r' z e h later = later ∙ sym (own-empty r (own_name (entry_here s p) ns) (eqb-true (length r) 0 (sym e ∙ h))) ∙ rw (eq-eqb st 0 z) at (own_is ns)

  pub own-last : bytes_given st r ≡ own_name (entry_here s p) (n ∷ [])
  unfolding name_then bytes_given own_name
  own-last =
      either (eqb st 0)
      (λ y. rw y (sym (own-end r) ∙ rw y at (own_is [])))
      (λ n. rw n (rw n at (own_is [])))
