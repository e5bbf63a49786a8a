-- The return address of an entry, as the walk below a subprogram reads it.
use mathlib.Core.Path.{◌≡◌, refl, ap, ◌∙◌}
use mathlib.Core.Bool.{Bool, true, not, ◌||◌}
use mathlib.Core.List.{List, [], ◌∷◌}
use mathlib.Core.Option.{Option, none, some}
use Prim.Native.Nat.{ℕ, ◌+◌, ◌≤◌}
use native.Mathlib.Omega.{arith}
use lib.Dec.{leb, eqb}
use lib.ListN.{length, drop}
use borrow.Author.Tests.{leb-true, eqb-true, eqb-false}
use Rattle.std.specs.Prelude.{Option as Maybe, Some, None, Result, Ok, Err}
use Rattle.tlv.specs.declared.refusal.Refusal.{Refusal}
use Rattle.tlv.specs.declared.refusal.Refusal.TheVariants.{Decoder}
use Rattle.tlv.specs.Lists.{All, take_while}
use Rattle.tlv.specs.Bytes.{Bytes, le_at}
use Rattle.tlv.specs.Fields.{Field, fields, whole_fields, payloads}
use Rattle.tlv.specs.Grammar.{value_shaped, attribute_shaped, payload_shaped}
use Rattle.tlv.specs.Model.{Attribute, attribute_of}
use Rattle.tlv.specs.Accepted.{Given}
use Rattle.tlv.specs.Checked.{Placed, Accepted}
use Rattle.tlv.proofs.TestLaws.{and_left, and_right}
use Rattle.tlv.proofs.ListLaws.{all-image, all_first}
use Rattle.tlv.proofs.AcceptedFields.{Promised, promised_all}
use Rattle.tlv.proofs.PlaceFacts.{placed-start, placed-passed}
use Rattle.access.specs.declared.access.Value.{Value}
use Rattle.access.specs.Places.{own_fields, entry_here}
use Rattle.access.specs.Access.{Meaning, absent, unsigned, file_number, text, unit_reference, section_reference, supplementary_reference, section_offset, line_offset, address, failed, value_of, meaning_of, said, Says}
use Rattle.access.proofs.IndexModel.{either}
use Rattle.access.proofs.EntryPlaceLaws.{entry-attributes}
use Rattle.references.specs.Search.{attribute}
use Rattle.references.specs.Tables.{EntryKnown}
use Rattle.references.proofs.ReferenceLaws.{by_kind, of_kind, entry-step, entry_next}
use Rattle.dies.specs.Calls.{address_of, address_in}

-- ---- the kinds of an accepted sheet

abbrev KindKnown : ℕ → Type 0
KindKnown k = (1 ≤ k) × (k ≤ 10)

shaped-kind : (k n : ℕ) → value_shaped k n ≡ true → KindKnown k
unfolding value_shaped
shaped-kind k n e =
    either (eqb k 3) (λ y. let is = eqb-true k 3 y in (omega arith, omega arith)) (λ a.
    either (eqb k 10) (λ y. let is = eqb-true k 10 y in (omega arith, omega arith)) (λ b.
    let all = rw (a, b) at e in
    let low = leb-true 1 k (search (and_left, and_right)) in
    let high = leb-true k 9 (search (and_left, and_right)) in
    (low, omega arith)))

kind-promise : Promised 0x18 (λ p. KindKnown (attribute_of p).kind)
unfolding payload_shaped attribute_shaped attribute_of
kind-promise c p b sh l = shaped-kind (le_at 1 p 2) _ (and_right (leb 3 (length p)) _ sh)

-- what is so of the payloads of all fields is so of those before the first that fails a test
while-payloads : (Q : List ℕ → Type 0) (own : Field → Bool) (t : ℕ) (xs : List Field) → All Q (payloads t xs) → All Q (payloads t (take_while own xs))
unfolding payloads take_while
while-payloads Q own t [] h = tt
while-payloads Q own t (x ∷ xs) h =
    either (own x)
    (λ y. rw y (either (eqb x.tag t)
    (λ z. let g = rw z at h in rw z (g.0, while-payloads Q own t xs g.1))
    (λ z. let g = rw z at h in rw z (while-payloads Q own t xs g))))
    (λ n. rw n tt)

module _ {s : List ℕ} {q p : ℕ} (A : Accepted s) (K : EntryKnown s q p) where
  pub accepted-placed : Placed s 0
  accepted-placed = placed-start s A.number A.is

  kinds-known : Bytes s → All (λ a. KindKnown a.kind) (entry_here s p).attributes
  unfolding own_fields
  kinds-known b =
      let next = entry_next accepted-placed K in
      let all = promised_all 0x18 (λ x. KindKnown (attribute_of x).kind) kind-promise next.context (whole_fields (fields (drop (p + 15) s))) (placed-passed s (p + 15) b next) in
      rw (entry-attributes s p _ 0x17 (p + 3) 12 (p + 15) refl (entry-step accepted-placed K))
      (all-image (λ a. KindKnown a.kind) attribute_of (payloads 0x18 (own_fields (fields (drop (p + 15) s)))) (while-payloads (λ x. KindKnown (attribute_of x).kind) (λ f. not (eqb f.tag 0x17 || eqb f.tag 0x10)) 0x18 (whole_fields (fields (drop (p + 15) s))) all))

  kind-known : Bytes s → (name : ℕ) → Given (λ a. KindKnown a.kind) (attribute (entry_here s p) name)
  unfolding attribute
  kind-known b name = all_first (λ a. KindKnown a.kind) (λ a. eqb a.name name) (entry_here s p).attributes (kinds-known b)

-- ---- what a value means

abbrev address_meant : Meaning → Result (Maybe ℕ) Refusal
address_meant absent = Ok None
address_meant (unsigned n) = Ok None
address_meant (file_number n) = Ok None
address_meant (text b) = Ok None
address_meant (unit_reference n) = Ok None
address_meant (section_reference n) = Ok None
address_meant (supplementary_reference n) = Ok None
address_meant (section_offset n) = Ok None
address_meant (line_offset n) = Ok None
address_meant (address n) = Ok (Some n)
address_meant failed = Err Decoder

value-address : (s : List ℕ) (v : Maybe Value) → address_in v ≡ address_meant (said s v)
value-address s None = refl
value-address s (Some (Value.Unsigned n)) = refl
value-address s (Some (Value.FileNumber n)) = refl
value-address s (Some (Value.Text start len)) = refl
value-address s (Some (Value.UnitReference n)) = refl
value-address s (Some (Value.SectionReference n)) = refl
value-address s (Some (Value.SupplementaryReference n)) = refl
value-address s (Some (Value.SectionOffset n)) = refl
value-address s (Some (Value.LineOffset n)) = refl
value-address s (Some (Value.Address n)) = refl
value-address s (Some Value.Failed) = refl

meaning-address : (o : Option Attribute) → Given (λ a. KindKnown a.kind) o → address_meant (meaning_of o) ≡ address_of o
unfolding meaning_of value_of
meaning-address none h = refl
meaning-address (some a) h =
    by_kind (λ k. KindKnown k → address_meant (value_of (of_kind a k)) ≡ address_of (some (of_kind a k))) a.kind (λ _. refl) (λ _. refl) (λ _. refl) (λ _. refl) (λ _. refl) (λ _. refl) (λ _. refl) (λ _. refl) (λ _. refl)
    (λ n1 n2 n3 n4 n5 n6 n7 n8 n9 g.
    let four : 4 ≤ a.kind = omega (arith, eqb-false a.kind 1 n1, eqb-false a.kind 2 n2, eqb-false a.kind 3 n3) in
    let seven : 7 ≤ a.kind = omega (arith, eqb-false a.kind 4 n4, eqb-false a.kind 5 n5, eqb-false a.kind 6 n6) in
    let ten : a.kind ≡ 10 = omega (arith, eqb-false a.kind 7 n7, eqb-false a.kind 8 n8, eqb-false a.kind 9 n9) in
    rw ten)
    h

-- ---- what is read of the entry at p

module _ {s : List ℕ} {q p : ℕ} {v : Maybe Value} (A : Accepted s) (K : EntryKnown s q p) where
  pub address_read : {r : Result (Maybe ℕ) Refusal} → Bytes s → Says s v (meaning_of (attribute (entry_here s p) 0x7d)) → r ≡ address_in v → r ≡ address_of (attribute (entry_here s p) 0x7d)
  address_read b says is = is ∙ value-address s v ∙ ap address_meant says.is ∙ meaning-address (attribute (entry_here s p) 0x7d) (kind-known A K b 0x7d)
