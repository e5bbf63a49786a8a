-- A field of a records tray, its place and what stands behind it.
use mathlib.Core.Path.{◌≡◌, refl}
use mathlib.Core.Bool.{true, ◌&&◌, not}
use mathlib.Core.List.{List, [], ◌∷◌}
use Prim.Native.Nat.{ℕ, ◌≤◌, ◌<◌}
use native.Mathlib.Omega.{arith}
use lib.Dec.{leb, eqb}
use lib.ListN.{length, take, drop}
use borrow.Author.Tests.{leb-true, ltb-true, eq-eqb, ne_eqb}
use Rattle.std.specs.Prelude.{Some, None}
use Rattle.tlv.specs.declared.fields.FieldSpan.{FieldSpan}
use Rattle.tlv.specs.Lists.{exists, take_while}
use Rattle.tlv.specs.Bytes.{le_at}
use Rattle.tlv.specs.Fields.{FieldList, fields}
use Rattle.tlv.specs.Cursor.{field_from}
use Rattle.tlv.specs.Checked.{field_in}
use Rattle.tlv.specs.Model.{range_of}
use Rattle.tlv.proofs.TestLaws.{and_left, and_right}
use Rattle.tlv.proofs.FieldLaws.{fields-field, field-within, payload-length, next-within, at-none}
use Rattle.buffers.specs.Reader.{records_after, range_formed, records_formed, depth_after, records_form}
use Rattle.access.specs.Places.{behind}
use Rattle.lookup.specs.Tray.{FieldAt, GroupAt, has_tag, fields_at, groups_at}
use Rattle.lookup.specs.Walk.{Stands, own_at}

-- ---- a step at a place

-- the functions from a place on
abbrev pub functions_from : List ℕ → ℕ → List GroupAt
functions_from s p = groups_at 0x41 (fields_at p (fields (drop p s)))

module _ (s : List ℕ) (p : ℕ) (at : None ≡ field_from s p) where
  pub own-none : own_at s p ≡ []
  unfolding own_at fields_at take_while
  own-none = at-none s p at (λ (fs : FieldList). take_while (λ x. not (has_tag 0x41 x)) (fields_at p fs) ≡ []) refl refl

  pub functions-none : functions_from s p ≡ []
  unfolding fields_at groups_at
  functions-none = at-none s p at (λ (fs : FieldList). groups_at 0x41 (fields_at p fs) ≡ []) refl refl

module _ (s : List ℕ) (p : ℕ) (f : FieldSpan) (at : Some f ≡ field_from s p) where
  -- the field and its place
  abbrev pub this : FieldAt
  this = record { place = p; field = field_in s f.tag f.start f.len }

  pub behind-is : behind p (field_in s f.tag f.start f.len) ≡ f.next
  behind-is = let w = field-within s p f at in let l = payload-length s p f at in omega arith

  pub fields-this : fields_at p (fields (drop p s)) ≡ this ∷ fields_at f.next (fields (drop f.next s))
  unfolding fields_at
  fields-this = rw (fields-field s p f at, behind-is)

  pub own-function : f.tag ≡ 0x41 → own_at s p ≡ []
  unfolding own_at take_while
  own-function q = rw (fields-this, q)

  pub own-next : (f.tag ≡ 0x41 → ⊥) → own_at s p ≡ this ∷ own_at s f.next
  unfolding own_at take_while
  own-next q = rw (fields-this, ne_eqb f.tag 0x41 q)

  pub functions-this : f.tag ≡ 0x41 → functions_from s p ≡ record { place = p; head = field_in s f.tag f.start f.len; rest = own_at s f.next } ∷ functions_from s f.next
  unfolding own_at groups_at
  functions-this q = rw (fields-this, eq-eqb f.tag 0x41 q)

  pub functions-next : (f.tag ≡ 0x41 → ⊥) → functions_from s p ≡ functions_from s f.next
  unfolding groups_at
  functions-next q = rw (fields-this, ne_eqb f.tag 0x41 q)

  -- ---- what the form says of it

  module _ (st : Stands s p) where
    all-tests : (exists (eqb f.tag) (records_after st.previous) && records_formed st.depth f.tag (take f.len (drop f.start s))
        && records_form f.tag (depth_after st.depth (field_in s f.tag f.start f.len)) (fields (drop f.next s))) ≡ true
    unfolding records_form
    all-tests = rw (fields-field s p f at) at st.formed

    pub formed-here : records_formed st.depth f.tag (take f.len (drop f.start s)) ≡ true
    formed-here =
        and_right (exists (eqb f.tag) (records_after st.previous)) (records_formed st.depth f.tag (take f.len (drop f.start s)))
        (and_left (exists (eqb f.tag) (records_after st.previous) && records_formed st.depth f.tag (take f.len (drop f.start s)))
        (records_form f.tag (depth_after st.depth (field_in s f.tag f.start f.len)) (fields (drop f.next s))) all-tests)

    pub rest-formed : records_form f.tag (depth_after st.depth (field_in s f.tag f.start f.len)) (fields (drop f.next s)) ≡ true
    rest-formed = and_right (exists (eqb f.tag) (records_after st.previous) && records_formed st.depth f.tag (take f.len (drop f.start s)))
        (records_form f.tag (depth_after st.depth (field_in s f.tag f.start f.len)) (fields (drop f.next s))) all-tests

    pub stands-next : Stands s f.next
    stands-next = record {
      previous = f.tag;
      depth = depth_after st.depth (field_in s f.tag f.start f.len);
      formed = rest-formed;
      within = next-within s p f at;
    }

    pub function-long : (g : List ℕ) → g ≡ take f.len (drop f.start s) → f.tag ≡ 0x41 → 16 ≤ length g
    unfolding records_formed
    function-long g is q = leb-true 16 (length g) (and_left (leb 16 (length g)) (range_formed g) (rw (q, ← is) at formed-here))

    -- it does not end at 0
    pub function-filled : f.tag ≡ 0x41 → 0 < (range_of (take f.len (drop f.start s))).end
    unfolding records_formed range_formed range_of
    function-filled q =
        let g = take f.len (drop f.start s) in
        let l : le_at 8 g 0 < le_at 8 g 8 = ltb-true _ _ (and_right (leb 16 (length g)) (range_formed g) (rw q at formed-here)) in
        omega arith
