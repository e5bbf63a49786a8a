-- Behind the field of a unit the index of the sheet goes on with the unit's entries.
use mathlib.Core.Path.{◌≡◌, refl, sym, ap, ◌∙◌}
use mathlib.Core.Logic.{inl, inr, ⊎_elim}
use mathlib.Core.List.{List, [], ◌∷◌}
use Prim.Native.Nat.{ℕ, ◌≤◌}
use native.Mathlib.Omega.{arith}
use lib.Dec.{eqb}
use lib.ListN.{length, take, drop}
use borrow.Author.Tests.{eqb-true, eqb-false}
use Rattle.tlv.specs.Lists.{Any, All}
use Rattle.tlv.specs.Bytes.{le_at}
use Rattle.tlv.specs.Fields.{Field, FieldList, more, fields, whole_fields, payloads}
use Rattle.tlv.specs.Cursor.{field_here, step_at}
use Rattle.tlv.specs.Checked.{field_in}
use Rattle.tlv.proofs.ListLaws.{all_map}
use Rattle.tlv.proofs.CursorLaws.{fields-field, field-within, payload-length, row-ind}
use Rattle.access.specs.Places.{unit_here, behind, unit_places, IndexedEntry, entry_index, UnitOf}
use Rattle.access.proofs.ListCountLaws.{unit-lists}
use Rattle.access.proofs.IndexLaws.{index-unit, index-entry, index-other}
use Rattle.access.proofs.IndexModel.{either, here-unit, places-unit, places-other}
use Rattle.dies.specs.Details.{EntriesKnown}

all-self : (xs : List IndexedEntry) → All (λ e. Any (λ x. x ≡ e) xs) xs
all-self [] = tt
all-self (x ∷ xs) = (inl refl, all_map xs (λ e h. inr h) (all-self xs))

-- no fewer fields of a tag stand from an earlier place on
one_less : (m : ℕ) (f : Field) (fs : FieldList) → length (payloads m (whole_fields fs)) ≤ length (payloads m (whole_fields (more f fs)))
unfolding whole_fields payloads
one_less m f fs = either (eqb f.tag m) (λ y. rw y (omega arith)) (λ n. rw n (omega arith))

module _ (s : List ℕ) (q start len next : ℕ) (is : step_at s q ≡ field_here 0x10 start len next) where
  here : fields (drop q s) ≡ more (field_in s 0x10 start len) (fields (drop next s))
  here = fields-field s q _ 0x10 start len next refl is

  offset-is : (unit_here s q).offset ≡ le_at 8 (take len (drop start s)) 0
  offset-is = (here-unit s q _ _ here).0

  to_next : behind q (field_in s 0x10 start len) ≡ next
  to_next = let w = field-within s q _ 0x10 start len next refl is in omega (arith, payload-length s q _ 0x10 start len next refl is)

  -- the entries of the unit at q, with what follows
  abbrev own : List IndexedEntry
  own = entry_index next q (unit_here s q).offset (fields (drop next s))

  abbrev Follows : ℕ → FieldList → Type 0
  Follows p fs = Any (λ x. x ≡ q) (unit_places p fs) → (v o : ℕ)
      → All (λ e. Any (λ x. x ≡ e) (entry_index p v o fs)) own × ((m : ℕ) → length (payloads m (whole_fields (fields (drop next s)))) ≤ length (payloads m (whole_fields fs)))

  at_unit : (p : ℕ) (f : Field) (fs : FieldList) → fields (drop p s) ≡ more f fs → p ≡ q → (v o : ℕ)
      → All (λ e. Any (λ x. x ≡ e) (entry_index p v o (more f fs))) own × ((m : ℕ) → length (payloads m (whole_fields (fields (drop next s)))) ≤ length (payloads m (whole_fields (more f fs))))
  at_unit p f fs at same v o =
      let e : more f fs ≡ more (field_in s 0x10 start len) (fields (drop next s)) = sym at ∙ ap (λ (x : ℕ). fields (drop x s)) same ∙ here in
      let i : entry_index q v o (more (field_in s 0x10 start len) (fields (drop next s))) ≡ own =
      index-unit q v o (field_in s 0x10 start len) (fields (drop next s)) next to_next refl ∙ ap (λ (x : ℕ). entry_index next q x (fields (drop next s))) (sym offset-is) in
      rw (e, same) (rw i (all-self own), λ m. one_less m (field_in s 0x10 start len) (fields (drop next s)))

  turn : (p past : ℕ) (f : Field) (fs : FieldList) → behind p f ≡ past → fields (drop p s) ≡ more f fs → Follows past fs → Follows p (more f fs)
  turn p past f fs to at ih any v o =
      either (eqb f.tag 0x10)
      (λ a.
      let unit = eqb-true f.tag 0x10 a in
      ⊎_elim
      (λ same. at_unit p f fs at same v o)
      (λ rest.
      let t = ih rest p (le_at 8 f.payload 0) in
      (rw (index-unit p v o f fs past to unit) t.0, λ m. omega (arith, t.1 m, one_less m f fs)))
      (rw (places-unit p f fs past to unit) at any))
      (λ a.
      let no-unit = eqb-false f.tag 0x10 a in
      let t = ih (rw (places-other p f fs past to no-unit) at any) v o in
      either (eqb f.tag 0x17)
      (λ b. (rw (index-entry p v o f fs past to (eqb-true f.tag 0x17 b)) (all_map own (λ e h. inr h) t.0), λ m. omega (arith, t.1 m, one_less m f fs)))
      (λ b. (rw (index-other p v o f fs past to no-unit (eqb-false f.tag 0x17 b)) t.0, λ m. omega (arith, t.1 m, one_less m f fs))))

  follows : (p : ℕ) → Follows p (fields (drop p s))
  unfolding unit_places
  follows p =
      row-ind s (λ (p : ℕ) (fs : FieldList). fields (drop p s) ≡ fs → Follows p fs) (λ p at any v o. absurd any) (λ p at any v o. absurd any)
      (λ p t begins n past starts to most long ih at. turn p past (field_in s t begins n) (fields (drop past s)) (omega arith) at (ih refl))
      p refl

  -- the entries from behind the unit's field on are known
  pub known_start : UnitOf s q → EntriesKnown s q next
  known_start any =
      let f = follows 0 any 0 0 in
      record { listed = f.0; ranges = f.1 0x19; entries = f.1 0x17; lists = omega (arith, unit-lists s q _ refl 0x10 start len next is) }
