-- The value of an attribute: what its payload says, and the turns of the loop that looks for the first of a name.
use mathlib.Core.Path.{◌≡◌, refl, sym, ap, ◌∙◌}
use mathlib.Core.Bool.{Bool, true, false, cond}
use mathlib.Core.List.{List, [], ◌∷◌, map}
use mathlib.Core.Option.{some}
use Prim.Native.Nat.{ℕ, ◌+◌, ◌-◌, ◌≤◌}
use native.Mathlib.Omega.{arith}
use lib.Dec.{eqb}
use lib.ListN.{length, take, drop}
use borrow.Author.Tests.{leb-true, eqb-true, eq-eqb, ne_eqb}
use Rattle.std.specs.Prelude.{Some, None}
use Rattle.tlv.specs.declared.fields.FieldSpan.{FieldSpan}
use Rattle.tlv.specs.Lists.{first, take_while}
use Rattle.tlv.specs.Bytes.{le_at}
use Rattle.tlv.specs.Fields.{FieldList, fields, whole_fields, payloads}
use Rattle.tlv.specs.Cursor.{step_at, field_from}
use Rattle.tlv.specs.Grammar.{may_follow, value_shaped, attribute_shaped, payload_shaped, shaped}
use Rattle.tlv.specs.Model.{attribute_of}
use Rattle.tlv.specs.Checked.{Placed}
use Rattle.tlv.proofs.TestLaws.{by_test, and_left, and_right}
use Rattle.tlv.proofs.WidthLaws.{drop_part}
use Rattle.tlv.proofs.ShapeLaws.{part_length, number_at, number-first}
use Rattle.tlv.proofs.FieldLaws.{is-step, at-none, payload-within, fields-field}
use Rattle.tlv.proofs.PlaceFacts.{placed-shaped}
use Rattle.access.specs.declared.access.Value.{Value}
use Rattle.access.specs.Places.{own_fields}
use Rattle.access.specs.Access.{Meaning, is_named, value_of, meaning_of, number_value, meant, ValueWithin, Says}
use Rattle.access.proofs.OrderLaws.{none-after-attributes}

-- ---- a value

meant-cond : (s : List ℕ) (b : Bool) (x y : Value) → meant s (cond b x y) ≡ cond b (meant s x) (meant s y)
meant-cond s true x y = refl
meant-cond s false x y = refl

number-within : (s : List ℕ) (k n : ℕ) → ValueWithin s (number_value k n)
unfolding number_value
number-within s k n =
    let W : Value → Type 0 = ValueWithin s in
    by_test W (eqb k 1) (λ _. tt) (λ _.
    by_test W (eqb k 2) (λ _. tt) (λ _.
    by_test W (eqb k 4) (λ _. tt) (λ _.
    by_test W (eqb k 5) (λ _. tt) (λ _.
    by_test W (eqb k 6) (λ _. tt) (λ _.
    by_test W (eqb k 7) (λ _. tt) (λ _.
    by_test W (eqb k 8) (λ _. tt) (λ _.
    by_test W (eqb k 9) (λ _. tt) (λ _. tt))))))))

module _ (s : List ℕ) (start len : ℕ) (fits : start + len ≤ length s) (sh : attribute_shaped (take len (drop start s)) ≡ true) where
  both : (3 ≤ len) × (value_shaped (le_at 1 (take len (drop start s)) 2) (len - 3) ≡ true)
  unfolding attribute_shaped
  both =
      let all = rw (part_length s start len fits) at sh in
      (leb-true 3 len (search and_left), search and_right)

  pub attribute-wide : 3 ≤ len
  attribute-wide = both.0

  pub kind-within : start + 2 + 1 ≤ length s
  kind-within = let w = attribute-wide in omega arith

  module _ (k : ℕ) (ek : k ≡ le_at 1 s (start + 2)) where
    kind-is : le_at 1 (take len (drop start s)) 2 ≡ k
    kind-is = number_at s start len 1 2 k attribute-wide ek

    pub number-wide : (k ≡ 3 → ⊥) → (k ≡ 10 → ⊥) → len ≡ 11
    unfolding value_shaped
    number-wide three ten =
        let all = rw (kind-is, ne_eqb k 3 three, ne_eqb k 10 ten) at both.1 in
        let wide = attribute-wide in
        let eight = eqb-true (len - 3) 8 (search and_right) in
        omega arith

    pub number-inside : (k ≡ 3 → ⊥) → (k ≡ 10 → ⊥) → start + 3 + 8 ≤ length s
    number-inside three ten = let w = number-wide three ten in omega arith

    pub says-text : k ≡ 3 → Says s (Some (Value.Text (start + 3) (len - 3))) (value_of (attribute_of (take len (drop start s))))
    unfolding value_of attribute_of
    says-text three = let wide = attribute-wide in record { is = rw (kind-is, three, drop_part s start len 3); within = omega arith }

    pub says-failed : k ≡ 10 → Says s (Some Value.Failed) (value_of (attribute_of (take len (drop start s))))
    unfolding value_of attribute_of
    says-failed ten = record { is = rw (kind-is, ten); within = tt }

    pub says-number : (n : ℕ) (r : Value) → (k ≡ 3 → ⊥) → (k ≡ 10 → ⊥) → n ≡ le_at 8 s (start + 3) → r ≡ number_value k n
        → Says s (Some r) (value_of (attribute_of (take len (drop start s))))
    unfolding value_of attribute_of number_value
    says-number n r three ten en er =
        let wide = number-wide three ten in
        record {
          is = rw (er, kind-is, number_at s start len 8 3 n (omega arith) en, ne_eqb k 3 three) (simp meant-cond);
          within = rw er (number-within s k n);
        }

-- ---- a turn of the loop: m is what is looked for

module _ (s : List ℕ) (p name : ℕ) (m : Meaning) (inv : m ≡ meaning_of (first (is_named name) (map attribute_of (payloads 0x18 (own_fields (fields (drop p s))))))) where
  -- no attribute is left
  absent-where : payloads 0x18 (own_fields (fields (drop p s))) ≡ [] → Says s None m
  unfolding first meaning_of
  absent-where none = record { is = sym (rw none at inv); within = tt }

  pub absent-end : None ≡ field_from s p → Says s None m
  unfolding own_fields take_while whole_fields payloads
  absent-end reads = absent-where (at-none s p reads (λ (fs : FieldList). payloads 0x18 (own_fields fs) ≡ []) refl refl)

  module _ (f : FieldSpan) (reads : Some f ≡ field_from s p) (h : Placed s p) where
    pub absent-other : (f.tag ≡ 0x18 → ⊥) → Says s None m
    absent-other other = absent-where (none-after-attributes s p f h reads other)

    module _ (is : f.tag ≡ 0x18) where
      pub found-shaped : attribute_shaped (take f.len (drop f.start s)) ≡ true
      unfolding shaped payload_shaped
      found-shaped =
          let payload = take f.len (drop f.start s) in
          rw is at (and_right (may_follow h.context.previous f.tag) (payload_shaped h.context f.tag payload)
          (placed-shaped s p (step_at s p) f.tag f.start f.len f.next h refl (is-step s p f reads)))

      wide : 3 ≤ f.len
      wide = attribute-wide s f.start f.len (payload-within s p f reads) found-shaped

      pub name-within : f.start + 2 ≤ length s
      name-within = let w = wide in let l = payload-within s p f reads in omega arith

      turn : m ≡ meaning_of (first (is_named name) (map attribute_of (take f.len (drop f.start s) ∷ payloads 0x18 (own_fields (fields (drop f.next s))))))
      unfolding own_fields take_while whole_fields payloads
      turn = inv ∙ rw (fields-field s p f reads, is)

      module _ (n : ℕ) (en : n ≡ le_at 2 s f.start) where
        name-is : (attribute_of (take f.len (drop f.start s))).name ≡ n
        unfolding attribute_of
        name-is = let w = wide in number-first s f.start f.len 2 n (omega arith) en

        turn-name : m ≡ meaning_of (cond (eqb n name) (some (attribute_of (take f.len (drop f.start s))))
            (first (is_named name) (map attribute_of (payloads 0x18 (own_fields (fields (drop f.next s)))))))
        unfolding first
        turn-name =
            let rest = first (is_named name) (map attribute_of (payloads 0x18 (own_fields (fields (drop f.next s))))) in
            turn ∙ ap (λ (x : ℕ). meaning_of (cond (eqb x name) (some (attribute_of (take f.len (drop f.start s)))) rest)) name-is

        pub attribute-found : (v : Value) → n ≡ name → Says s (Some v) (value_of (attribute_of (take f.len (drop f.start s)))) → Says s (Some v) m
        unfolding meaning_of
        attribute-found v g says = rw (turn-name, eq-eqb n name g) says

        pub attribute-passed : (n ≡ name → ⊥) → m ≡ meaning_of (first (is_named name) (map attribute_of (payloads 0x18 (own_fields (fields (drop f.next s))))))
        attribute-passed g = rw (ne_eqb n name g) at turn-name
