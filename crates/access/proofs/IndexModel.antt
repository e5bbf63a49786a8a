-- The index of an accepted sheet finds the entries of each of its units: by the unit's offset and an entry's own.
use mathlib.Core.Path.{◌≡◌, refl, sym}
use mathlib.Core.Bool.{Bool, true, false, cond, ◌||◌, not}
use mathlib.Core.Logic.{⊎_elim}
use mathlib.Core.List.{List, [], ◌∷◌, map}
use mathlib.Core.Option.{Option, none, some}
use Prim.Native.Nat.{ℕ, ◌+◌, ◌≤◌, ◌<◌}
use native.Mathlib.Omega.{arith}
use lib.Dec.{eqb}
use lib.ListN.{drop}
use borrow.Author.Tests.{eq-eqb, ne_eqb, eqb-true, eqb-false}
use Rattle.tlv.specs.declared.grammar.Context.{Context}
use Rattle.tlv.specs.Outcome.{done}
use Rattle.tlv.specs.Lists.{All, Any, first, take_while}
use Rattle.tlv.specs.Bytes.{le_at}
use Rattle.tlv.specs.Fields.{Field, FieldList, end, cut, more, fields, whole_fields, grouped}
use Rattle.tlv.specs.Grammar.{start, shaped, limited, next, check_from, check_input}
use Rattle.tlv.specs.Model.{Entry, entry_of, unit_of}
use Rattle.tlv.specs.Checked.{Accepts, field_in}
use Rattle.tlv.proofs.TestLaws.{by_test}
use Rattle.tlv.proofs.CursorLaws.{row-ind}
use Rattle.tlv.proofs.AcceptedGroups.{passed-both}
use Rattle.access.specs.Places.{own_fields, unit_fields, entry_here, unit_here, behind, unit_places, IndexedEntry, entry_index, UnitOf}
use Rattle.access.specs.Index.{lookup, entry_in}
use Rattle.access.proofs.IndexLaws.{index-unit, index-entry, index-other}
use Rattle.access.proofs.IndexOrder.{unit-behind, entry-high, after-unit, after-entry, after-other}

-- the entry of an offset
abbrev entry_at : ℕ → List Entry → Option Entry
entry_at o es = first (λ e. eqb e.offset o) es

-- the entries among fields
abbrev pub entries_of : List Field → List Entry
entries_of fs = map entry_of (grouped 0x17 fs).groups

-- a test holds, or not
pub either : {C : Type 0} (b : Bool) → (b ≡ true → C) → (b ≡ false → C) → C
either true f g = f refl
either false f g = g refl

-- ---- fields before an entry, and among them

-- those of an entry are up to the next entry or unit
own-before : (fs : List Field) → (grouped 0x17 (take_while (λ f. not (eqb f.tag 0x10)) fs)).before ≡ take_while (λ f. not (eqb f.tag 0x17 || eqb f.tag 0x10)) fs
unfolding grouped take_while
own-before [] = refl
own-before (f ∷ fs) =
    either (eqb f.tag 0x10) (λ a. either (eqb f.tag 0x17) (λ b. rw (a, b)) (λ b. rw (a, b)))
    (λ a. either (eqb f.tag 0x17) (λ b. rw (a, b)) (λ b. rw (a, b, own-before fs)))

-- ---- one unit after another

-- entries of other units are none of this one's
other-units : (s : List ℕ) (q x : ℕ) (es : List IndexedEntry) → All (λ e. q < e.unit) es → entry_in s q (lookup x es) ≡ none
unfolding entry_in lookup first
other-units s q x [] h = refl
other-units s q x (e ∷ es) h = go (eqb e.offset x) (other-units s q x es h.1)
  where
    go : (b : Bool) → entry_in s q (first (λ e. eqb e.offset x) es) ≡ none → entry_in s q (cond b (some e) (first (λ e. eqb e.offset x) es)) ≡ none
    go true ih = rw (ne_eqb e.unit q (λ is. let l = h.0 in omega arith))
    go false ih = ih

-- units come at their places, in their order
later-units : (q p u o : ℕ) (fs : FieldList) → q < p → q < u → All (λ e. q < e.unit) (entry_index p u o fs)
unfolding entry_index
later-units q p u o end h k = tt
later-units q p u o cut h k = tt
later-units q p u o (more f fs) h k =
    by_test (All (λ e. q < e.unit)) (eqb f.tag 0x10) (λ is. later-units q (behind p f) p (le_at 8 f.payload 0) fs (omega arith) h)
    (λ _. by_test (All (λ e. q < e.unit)) (eqb f.tag 0x17) (λ is. (k, later-units q (behind p f) u o fs (omega arith) k))
    (λ _. later-units q (behind p f) u o fs (omega arith) k))

-- ---- what a field adds to the entries and the places of units

module _ (s : List ℕ) (p : ℕ) (f : Field) (fs : FieldList) (at : fields (drop p s) ≡ more f fs) where
  pub here-offset : (entry_here s p).offset ≡ le_at 8 f.payload 0
  unfolding entry_here entry_of
  here-offset = rw at

  pub here-unit : ((unit_here s p).offset ≡ le_at 8 f.payload 0) × ((unit_here s p).length ≡ le_at 8 f.payload 8) × ((unit_here s p).entries ≡ entries_of (unit_fields fs))
  unfolding unit_here unit_of
  here-unit = rw at (refl, refl, refl)

  entries-entry : f.tag ≡ 0x17 → entries_of (unit_fields (more f fs)) ≡ entry_here s p ∷ entries_of (unit_fields fs)
  unfolding unit_fields whole_fields take_while grouped entry_here own_fields
  entries-entry is = rw (ne_eqb f.tag 0x10 (λ no. omega arith), eq-eqb f.tag 0x17 is, at, own-before (whole_fields fs))

module _ (f : Field) (fs : FieldList) where
  entries-unit : f.tag ≡ 0x10 → entries_of (unit_fields (more f fs)) ≡ []
  unfolding unit_fields whole_fields take_while grouped
  entries-unit is = rw is

  entries-other : (f.tag ≡ 0x10 → ⊥) → (f.tag ≡ 0x17 → ⊥) → entries_of (unit_fields (more f fs)) ≡ entries_of (unit_fields fs)
  unfolding unit_fields whole_fields take_while grouped
  entries-other h k = rw (ne_eqb f.tag 0x10 h, ne_eqb f.tag 0x17 k)

module _ (p : ℕ) (f : Field) (fs : FieldList) (past : ℕ) (to : behind p f ≡ past) where
  pub places-unit : f.tag ≡ 0x10 → unit_places p (more f fs) ≡ p ∷ unit_places past fs
  unfolding unit_places
  places-unit is = rw (is, to)

  pub places-other : (f.tag ≡ 0x10 → ⊥) → unit_places p (more f fs) ≡ unit_places past fs
  unfolding unit_places
  places-other h = rw (ne_eqb f.tag 0x10 h, to)

-- ---- in a unit

-- the first of both is asked alike
both_first : (s : List ℕ) (q u o own p : ℕ) (xs : List Entry) (es : List IndexedEntry) → (entry_here s p).offset ≡ own → entry_at o xs ≡ entry_in s q (lookup (u + o) es)
    → entry_at o (entry_here s p ∷ xs) ≡ entry_in s q (lookup (u + o) (record { offset = u + own; place = p; unit = q } ∷ es))
unfolding first lookup entry_in
both_first s q u o own p xs es at ih =
    either (eqb (entry_here s p).offset o)
    (λ y. let is = eqb-true (entry_here s p).offset o y in rw (y, eq-eqb (u + own) (u + o) (omega arith), eq-eqb q q refl))
    (λ n. let not_is = eqb-false (entry_here s p).offset o n in rw (n, ne_eqb (u + own) (u + o) (λ k. not_is (omega arith))) ih)

-- the index from a place in the unit at q on, at offset u, has the entries from there on
abbrev Inside : List ℕ → ℕ → ℕ → ℕ → ℕ → FieldList → Type 0
Inside s o q u p fs = entry_at o (entries_of (unit_fields fs)) ≡ entry_in s q (lookup (u + o) (entry_index p q u fs))

inside-turn : (s : List ℕ) (o q u p past : ℕ) (f : Field) (fs : FieldList) → behind p f ≡ past → fields (drop p s) ≡ more f fs → q < p → Inside s o q u past fs
    → Inside s o q u p (more f fs)
unfolding first
inside-turn s o q u p past f fs to at h ih =
    either (eqb f.tag 0x10)
    (λ a.
    let is = eqb-true f.tag 0x10 a in
    let own : ℕ = le_at 8 f.payload 0 in
    rw (entries-unit f fs is, index-unit p q u f fs past to is)
    (sym (other-units s q (u + o) (entry_index past p own fs) (later-units q past p own fs (omega arith) h))))
    (λ a. either (eqb f.tag 0x17)
    (λ b.
    let is = eqb-true f.tag 0x17 b in
    rw (entries-entry s p f fs at is, index-entry p q u f fs past to is)
    (both_first s q u o (le_at 8 f.payload 0) p (entries_of (unit_fields fs)) (entry_index past q u fs) (here-offset s p f fs at) ih))
    (λ b.
    let no = eqb-false f.tag 0x10 a in
    let not_entry = eqb-false f.tag 0x17 b in
    rw (entries-other f fs no not_entry, index-other p q u f fs past to no not_entry) ih))

inside : (s : List ℕ) (o q u p : ℕ) → q < p → Inside s o q u p (fields (drop p s))
unfolding first lookup entry_in entry_index unit_fields whole_fields take_while grouped
inside s o q u p =
    row-ind s (λ (p : ℕ) (fs : FieldList). fields (drop p s) ≡ fs → q < p → Inside s o q u p fs) (λ p at h. refl) (λ p at h. refl)
    (λ p t start n past is to most long ih at h. inside-turn s o q u p past (field_in s t start n) (fields (drop past s)) (omega arith) at h (ih refl (omega arith)))
    p refl

-- ---- up to the unit at q

-- the unit at q lies at k or later, and these entries have its own
abbrev Tied : List ℕ → ℕ → ℕ → ℕ → List IndexedEntry → Type 0
Tied s o q k es = (k ≤ (unit_here s q).offset) × (entry_at o (unit_here s q).entries ≡ entry_in s q (lookup ((unit_here s q).offset + o) es))

-- fields that pass after c, in a unit at place v and offset u, with the unit at q among them
abbrev Before : List ℕ → ℕ → ℕ → ℕ → FieldList → Type 0
Before s o q p fs = (c : Context) (m v u : ℕ) → check_from c fs ≡ done m → u + c.length ≡ c.end → Any (λ x. x ≡ q) (unit_places p fs) → Tied s o q c.end (entry_index p v u fs)

-- an entry that lies before the unit is passed over
stays_passed : (s : List ℕ) (o q x p v : ℕ) (es : List IndexedEntry) → x < (unit_here s q).offset
    → lookup ((unit_here s q).offset + o) (record { offset = x; place = p; unit = v } ∷ es) ≡ lookup ((unit_here s q).offset + o) es
unfolding lookup first
stays_passed s o q x p v es h = rw (ne_eqb x ((unit_here s q).offset + o) (λ is. omega arith))

before-turn : (s : List ℕ) (o q p past : ℕ) (f : Field) (fs : FieldList) → behind p f ≡ past → fields (drop p s) ≡ more f fs
    → ((u : ℕ) → Inside s o p u past fs) → Before s o q past fs → Before s o q p (more f fs)
unfolding check_from
before-turn s o q p past f fs to at own ih c m v u e unit any =
    let both = passed-both (shaped c f) (limited c f) (check_from (next c f) fs) m e in
    let x : ℕ = le_at 8 f.payload 0 in
    either (eqb f.tag 0x10)
    (λ a.
    let is = eqb-true f.tag 0x10 a in
    let n = after-unit c f is in
    let l = unit-behind c f both.0 is in
    let here = here-unit s p f fs at in
    ⊎_elim
    (λ same. rw (← same, index-unit p v u f fs past to is, here.0, here.2) (l, own x))
    (λ rest. let t = ih (next c f) m p x both.2 (omega arith) rest in rw (index-unit p v u f fs past to is) (omega arith, t.1))
    (rw (places-unit p f fs past to is) at any))
    (λ a.
    let no = eqb-false f.tag 0x10 a in
    let rest = rw (places-other p f fs past to no) at any in
    either (eqb f.tag 0x17)
    (λ b.
    let is = eqb-true f.tag 0x17 b in
    let n = after-entry c f is in
    let l = entry-high c f both.0 is in
    let t = ih (next c f) m v u both.2 (omega arith) rest in
    rw (index-entry p v u f fs past to is, stays_passed s o q (u + x) p v (entry_index past v u fs) (omega arith)) (omega arith, t.1))
    (λ b.
    let not_entry = eqb-false f.tag 0x17 b in
    let n = after-other c f no not_entry in
    let t = ih (next c f) m v u both.2 (omega arith) rest in
    rw (index-other p v u f fs past to no not_entry) (omega arith, t.1)))

before : (s : List ℕ) (o q p : ℕ) → Before s o q p (fields (drop p s))
unfolding unit_places
before s o q p =
    row-ind s (λ (p : ℕ) (fs : FieldList). fields (drop p s) ≡ fs → Before s o q p fs) (λ p at c m v u e unit any. absurd any) (λ p at c m v u e unit any. absurd any)
    (λ p t start n past is to most long ih at.
    before-turn s o q p past (field_in s t start n) (fields (drop past s)) (omega arith) at (λ u. inside s o p u past (omega arith)) (ih refl))
    p refl

-- the entry of a unit by its offset is the one that the index has at the unit's offset and its own, where that is the unit's
pub index-finds : (s : List ℕ) (n q o : ℕ) → Accepts s n → UnitOf s q
    → first (λ e. eqb e.offset o) (unit_here s q).entries ≡ entry_in s q (lookup ((unit_here s q).offset + o) (entry_index 0 0 0 (fields s)))
unfolding check_input
index-finds s n q o e any = (before s o q 0 (start e.program) n 0 0 e.passes refl any).1
