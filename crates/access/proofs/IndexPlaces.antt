-- Each entry in the index of an accepted sheet is one of its unit's: where it and its unit stand, and what its offset is.
use mathlib.Core.Path.{◌≡◌, refl, sym, ◌∙◌}
use mathlib.Core.Logic.{inl, inr}
use mathlib.Core.List.{List, [], ◌∷◌}
use mathlib.Core.Option.{Option, none, some, none-ne-some}
use Prim.Native.Nat.{ℕ, ◌+◌, ◌<◌}
use native.Mathlib.Omega.{arith}
use lib.Dec.{eqb}
use lib.ListN.{length, drop}
use borrow.Author.Tests.{eq-eqb, eqb-true, eqb-false}
use Rattle.tlv.specs.declared.grammar.Context.{Context}
use Rattle.tlv.specs.Outcome.{done}
use Rattle.tlv.specs.Lists.{All, Any, first}
use Rattle.tlv.specs.Bytes.{le_at}
use Rattle.tlv.specs.Fields.{Field, FieldList, more, fields}
use Rattle.tlv.specs.Grammar.{start, shaped, limited, next, check_from, check_input}
use Rattle.tlv.specs.Checked.{Accepts, field_in, Placed}
use Rattle.tlv.proofs.TestLaws.{by_test}
use Rattle.tlv.proofs.ListLaws.{all_map, all_first, given-some}
use Rattle.tlv.proofs.CursorLaws.{row-ind}
use Rattle.tlv.proofs.AcceptedGroups.{passed-both}
use Rattle.buffers.specs.Table.{records}
use Rattle.std.specs.Prelude.{Some, None}
use Rattle.access.specs.declared.index.EntryPlace.{EntryPlace}
use Rattle.access.specs.Places.{entry_here, unit_here, behind, unit_places, IndexedEntry, entry_index}
use Rattle.access.specs.Index.{indexed_of, lookup, found_of, entry_in}
use Rattle.access.proofs.IndexOrder.{entry-high, after-unit, after-entry, after-other}
use Rattle.access.proofs.IndexLaws.{index-unit, index-entry, index-other}
use Rattle.access.proofs.IndexModel.{either, here-offset, here-unit, places-unit, places-other, index-finds}

-- an entry of the index, of a sheet s whose units stand at the places us
pub record EntryPlaced (s us : List ℕ) (e : IndexedEntry) : Type 0 where
  pub placed : Placed s e.place
  pub inside : e.place < length s
  pub unit : Any (λ p. p ≡ e.unit) us
  pub before : e.unit < e.place
  pub offset : e.offset ≡ (unit_here s e.unit).offset + (entry_here s e.place).offset
  pub below : (entry_here s e.place).offset < (unit_here s e.unit).length

-- the unit that the next field is in, where it can have entries: it is at q, at the offset u
record Current (s us : List ℕ) (c : Context) (p q u : ℕ) : Type 0 where
  unit : Any (λ x. x ≡ q) us
  before : q < p
  offset : u ≡ (unit_here s q).offset
  size : c.length ≡ (unit_here s q).length

-- the fields from p on, whose units are among us
abbrev Placing : List ℕ → List ℕ → ℕ → FieldList → Type 0
Placing s us p fs = (c : Context) (m q u : ℕ) → check_from c fs ≡ done m → (0 < c.length → Current s us c p q u) → All (λ x. Any (λ y. y ≡ x) us) (unit_places p fs)
    → All (EntryPlaced s us) (entry_index p q u fs)

placing_turn : (s us : List ℕ) (p past : ℕ) (f : Field) (fs : FieldList) → behind p f ≡ past → fields (drop p s) ≡ more f fs → p < length s → Placing s us past fs
    → Placing s us p (more f fs)
unfolding check_from
placing_turn s us p past f fs to at inside ih c m q u e now among =
    let both = passed-both (shaped c f) (limited c f) (check_from (next c f) fs) m e in
    let x : ℕ = le_at 8 f.payload 0 in
    either (eqb f.tag 0x10)
    (λ a.
    let is = eqb-true f.tag 0x10 a in
    let here = here-unit s p f fs at in
    let us' = rw (places-unit p f fs past to is) at among in
    rw (index-unit p q u f fs past to is)
    (ih (next c f) m p x both.2
    (λ _. record { unit = us'.0; before = omega arith; offset = sym here.0; size = (after-unit c f is).1 ∙ sym here.1 })
    us'.1))
    (λ a.
    let no = eqb-false f.tag 0x10 a in
    let us' = rw (places-other p f fs past to no) at among in
    either (eqb f.tag 0x17)
    (λ b.
    let is = eqb-true f.tag 0x17 b in
    let n = after-entry c f is in
    let l = entry-high c f both.0 is in
    let own = here-offset s p f fs at in
    let here = now (omega arith) in
    rw (index-entry p q u f fs past to is) (
      record {
        placed = record { context = c; count = m; passes = rw at e; within = omega arith };
        inside = inside;
        unit = here.unit;
        before = here.before;
        offset = rw (own, here.offset);
        below = rw own (omega (arith, here.size));
      },
      ih (next c f) m q u both.2 (λ h. record { unit = here.unit; before = omega (arith, here.before); offset = here.offset; size = n.1 ∙ here.size }) us',
    ))
    (λ b.
    let not_entry = eqb-false f.tag 0x17 b in
    let n = after-other c f no not_entry in
    rw (index-other p q u f fs past to no not_entry)
    (ih (next c f) m q u both.2
    (λ h. let here = now (omega arith) in record { unit = here.unit; before = omega (arith, here.before); offset = here.offset; size = n.1 ∙ here.size }) us')))

placing : (s us : List ℕ) (p : ℕ) → Placing s us p (fields (drop p s))
unfolding entry_index
placing s us p =
    row-ind s (λ (p : ℕ) (fs : FieldList). fields (drop p s) ≡ fs → Placing s us p fs) (λ p at c m q u e now among. tt) (λ p at c m q u e now among. tt)
    (λ p t start n past is to most long ih at. placing_turn s us p past (field_in s t start n) (fields (drop past s)) (omega arith) at (omega arith) (ih refl))
    p refl

each-among : (xs : List ℕ) → All (λ x. Any (λ y. y ≡ x) xs) xs
each-among [] = tt
each-among (x ∷ xs) = (inl refl, all_map xs (λ y h. inr h) (each-among xs))

-- an entry that is found has the offset that was asked for
lookup-offset : (x : ℕ) (es : List IndexedEntry) (e : IndexedEntry) → lookup x es ≡ some e → e.offset ≡ x
unfolding lookup first
lookup-offset x [] e found = absurd (none-ne-some e found)
lookup-offset x (d ∷ es) e found =
    by_test (λ (o : Option IndexedEntry). o ≡ some e → e.offset ≡ x) (eqb d.offset x) {x = some d} {y = lookup x es}
    (λ y is. let same : d ≡ e = cc in rw same at (eqb-true d.offset x y)) (λ n. lookup-offset x es e) found

-- ---- an accepted sheet

module _ (s : List ℕ) (n : ℕ) (accepted : Accepts s n) where
  pub index-placed : All (EntryPlaced s (unit_places 0 (fields s))) (entry_index 0 0 0 (fields s))
  unfolding check_input
  index-placed =
      let places = unit_places 0 (fields s) in
      placing s places 0 (start accepted.program) n 0 0 accepted.passes (λ h. absurd (omega arith)) (each-among places)

  -- what is found in it
  module _ (x : ℕ) (e : IndexedEntry) (found : lookup x (entry_index 0 0 0 (fields s)) ≡ some e) where
    pub found-placed : EntryPlaced s (unit_places 0 (fields s)) e
    unfolding lookup
    found-placed =
        given-some (EntryPlaced s (unit_places 0 (fields s))) (lookup x (entry_index 0 0 0 (fields s))) e
        (all_first (EntryPlaced s (unit_places 0 (fields s))) (λ e. eqb e.offset x) (entry_index 0 0 0 (fields s)) index-placed) found

    pub found-offset : e.offset ≡ x
    found-offset = lookup-offset x (entry_index 0 0 0 (fields s)) e found

    -- its unit has it
    pub found-entry : first (λ d. eqb d.offset (entry_here s e.place).offset) (unit_here s e.unit).entries ≡ some (entry_here s e.place)
    unfolding entry_in
    found-entry =
        let sum : (unit_here s e.unit).offset + (entry_here s e.place).offset ≡ x = sym found-placed.offset ∙ found-offset in
        index-finds s n e.unit (entry_here s e.place).offset accepted found-placed.unit ∙ rw (sum, found, eq-eqb e.unit e.unit refl)

-- what an answer of the search says of the sheet whose index the table is
module _ (s w : List ℕ) (base r x : ℕ) (table : records indexed_of 16 w base r ≡ entry_index 0 0 0 (fields s)) where
  pub answer_at : (e : EntryPlace) → found_of x (Some e) ≡ lookup x (records indexed_of 16 w base r)
      → lookup x (entry_index 0 0 0 (fields s)) ≡ some (record { offset = x; place = e.place; unit = e.unit })
  answer_at e answer = sym (rw table at answer)

  pub answer-missing : found_of x None ≡ lookup x (records indexed_of 16 w base r) → lookup x (entry_index 0 0 0 (fields s)) ≡ none
  answer-missing answer = sym (rw table at answer)
