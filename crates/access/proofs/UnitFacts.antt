-- The unit at a place: where its place is one of an accepted sheet, what is in its field 10, and what is in the fields behind it.
use mathlib.Core.Path.{◌≡◌, refl, sym, ◌∙◌}
use mathlib.Core.Bool.{Bool, true, false, cond, ◌||◌, not}
use mathlib.Core.List.{List, [], ◌∷◌, map}
use Prim.Native.Nat.{ℕ, ◌+◌, ◌≤◌}
use native.Mathlib.Omega.{arith}
use lib.Dec.{eqb}
use lib.ListN.{length, take, drop}
use borrow.Author.Tests.{eqb-true}
use Rattle.tlv.specs.Lists.{All, take_while, at, map_option}
use Rattle.tlv.specs.Bytes.{le_at}
use Rattle.tlv.specs.Fields.{Field, FieldList, end, cut, more, fields, whole_fields, grouped, payloads, payload_of}
use Rattle.tlv.specs.Grammar.{shaped, limited, next, check_from}
use Rattle.tlv.specs.Tags.{encoding_tag, part_tag}
use Rattle.tlv.specs.Model.{range_of, header_of, encoding_of, part_of, directory_of, file_of, row_of, unit_of, units}
use Rattle.tlv.specs.Cursor.{Step, field_here, cut_short, nothing_left, step_at, fields_of}
use Rattle.tlv.specs.Checked.{field_in, Placed}
use Rattle.tlv.proofs.TestLaws.{by_test}
use Rattle.tlv.proofs.ListLaws.{all-at, given-some}
use Rattle.tlv.proofs.CursorLaws.{fields-at, fields-field, row-ind}
use Rattle.tlv.proofs.ShapeLaws.{number_at, number-first}
use Rattle.tlv.proofs.AcceptedGroups.{passed-both}
use Rattle.tlv.proofs.PlacePromises.{placed-unit}
use Rattle.std.specs.Prelude.{Option, Some}
use Rattle.access.specs.Places.{own_fields, unit_fields, unit_here, unit_places}
use Rattle.access.specs.Access.{place_of}
use Rattle.access.proofs.UnitPlaceLaws.{before-is, units-at}

-- ---- the place

-- q is a place of an accepted sheet at which a field 10 stands
pub record UnitAt (s : List ℕ) (q : ℕ) : Type 0 where
  pub placed : Placed s q
  pub start : ℕ
  pub len : ℕ
  pub next : ℕ
  pub is : step_at s q ≡ field_here 0x10 start len next

-- fields that begin with one of tag t come from a step that is a field of tag t
abbrev Begins : ℕ → FieldList → Type 0
Begins t end = ⊥
Begins t cut = ⊥
Begins t (more f fs) = f.tag ≡ t

begun : (s : List ℕ) (q t : ℕ) (r : Step) → r ≡ step_at s q → Begins t (fields_of s r) → (start : ℕ) × (len : ℕ) × (past : ℕ) × (step_at s q ≡ field_here t start len past)
begun s q t nothing_left reads h = absurd h
begun s q t cut_short reads h = absurd h
begun s q t (field_here u start len past) reads h = (start, len, past, rw h at (sym reads))

module _ (s : List ℕ) (p t start n past : ℕ) (within : past ≤ length s)
    (here : fields (drop p s) ≡ more (field_in s t start n) (fields (drop past s))) (h : Placed s p) where
  placed_past : Placed s past
  unfolding check_from
  placed_past =
      let f = field_in s t start n in
      let c = h.context in
      record {
        context = next c f;
        count = h.count;
        passes = (passed-both (shaped c f) (limited c f) (check_from (next c f) (fields (drop past s))) h.count (rw here at h.passes)).2;
        within = within;
      }

  unit-at : eqb t 0x10 ≡ true → UnitAt s p
  unit-at e =
      let g : Begins 0x10 (fields (drop p s)) = rw here (eqb-true t 0x10 e) in
      let b = begun s p 0x10 (step_at s p) refl (rw (fields-at s p) at g) in
      record { placed = h; start = b.0; len = b.1; next = b.2; is = b.3 }

-- the places of the units from a place of an accepted sheet on are such places
pub all-unit_places : (s : List ℕ) (p : ℕ) → Placed s p → All (UnitAt s) (unit_places p (fields (drop p s)))
unfolding unit_places
all-unit_places s p h =
    row-ind s
    (λ p fs. fields (drop p s) ≡ fs → Placed s p → All (UnitAt s) (unit_places p fs))
    (λ p here h. tt)
    (λ p here h. tt)
    (λ p t start n past begins ends within long ih here h.
    let past_is : p + 3 + length (take n (drop start s)) ≡ past = omega arith in
    let rest : All (UnitAt s) (unit_places past (fields (drop past s))) = ih refl (placed_past s p t start n past within here h) in
    rw past_is (by_test (All (UnitAt s)) (eqb t 0x10) (λ e. (unit-at s p t start n past within here h e, rest)) (λ e. rest)))
    p
    refl
    h

-- ---- the unit of a number

module _ (s : List ℕ) (k : ℕ) where
  -- the answer is the unit's place
  pub unit_of-place : (r : Option ℕ) → place_of r ≡ at (unit_places 0 (fields s)) k → at (units s) k ≡ map_option (unit_here s) (place_of r)
  unit_of-place r e = units-at s k ∙ rw (← e)

  pub unit-placed : (q : ℕ) → place_of (Some q) ≡ at (unit_places 0 (fields s)) k → Placed s 0 → UnitAt s q
  unit-placed q e h = given-some (UnitAt s) (at (unit_places 0 (fields s)) k) q (all-at (UnitAt s) (unit_places 0 (fields s)) k (all-unit_places s 0 h)) (sym e)

-- ---- what is in its fields

-- before the first of two tags: before the one, in what is before the other
before-both : (a b : ℕ) (xs : List Field)
    → take_while (λ f. not (eqb f.tag a)) (take_while (λ f. not (eqb f.tag b)) xs) ≡ take_while (λ f. not (eqb f.tag a || eqb f.tag b)) xs
unfolding take_while
before-both a b [] = refl
before-both a b (x ∷ xs) = go (eqb x.tag a) (eqb x.tag b) refl (before-both a b xs)
  where
    go : (c d : Bool) → eqb x.tag a ≡ c
        → take_while (λ f. not (eqb f.tag a)) (take_while (λ f. not (eqb f.tag b)) xs) ≡ take_while (λ f. not (eqb f.tag a || eqb f.tag b)) xs
        → take_while (λ f. not (eqb f.tag a)) (cond (not d) (x ∷ take_while (λ f. not (eqb f.tag b)) xs) [])
        ≡ cond (not (c || d)) (x ∷ take_while (λ f. not (eqb f.tag a || eqb f.tag b)) xs) []
    go true true e ih = refl
    go true false e ih = rw e
    go false true e ih = refl
    go false false e ih = rw (e, ih)

own_is : (fs : FieldList) → (grouped 0x17 (unit_fields fs)).before ≡ own_fields fs
unfolding unit_fields own_fields
own_is fs = before-is 0x17 (take_while (λ f. not (eqb f.tag 0x10)) (whole_fields fs)) ∙ before-both 0x17 0x10 (whole_fields fs)

module _ (s : List ℕ) (p : ℕ) (r : Step) (t start len next : ℕ) (reads : r ≡ step_at s p) (e : r ≡ field_here t start len next) where
  pub unit-directory : (unit_here s p).directory ≡ payload_of 0x11 (own_fields (fields (drop next s)))
  unfolding unit_here unit_of
  unit-directory = rw (fields-field s p r t start len next reads e, own_is)

  pub unit-text : (unit_here s p).text ≡ map range_of (payloads 0x12 (own_fields (fields (drop next s))))
  unfolding unit_here unit_of
  unit-text = rw (fields-field s p r t start len next reads e, own_is)

  pub unit-header : (unit_here s p).header ≡ map_option header_of (payload_of 0x13 (own_fields (fields (drop next s))))
  unfolding unit_here unit_of
  unit-header = rw (fields-field s p r t start len next reads e, own_is)

  pub unit-encoding : (unit_here s p).encoding ≡ map_option encoding_of (payload_of encoding_tag (own_fields (fields (drop next s))))
  unfolding unit_here unit_of
  unit-encoding = rw (fields-field s p r t start len next reads e, own_is)

  pub unit-part : (unit_here s p).part ≡ map_option part_of (payload_of part_tag (own_fields (fields (drop next s))))
  unfolding unit_here unit_of
  unit-part = rw (fields-field s p r t start len next reads e, own_is)

  pub unit-directories : (unit_here s p).directories ≡ map directory_of (payloads 0x14 (own_fields (fields (drop next s))))
  unfolding unit_here unit_of
  unit-directories = rw (fields-field s p r t start len next reads e, own_is)

  pub unit-file_zero : (unit_here s p).file_zero ≡ map_option file_of (payload_of 0x1c (own_fields (fields (drop next s))))
  unfolding unit_here unit_of
  unit-file_zero = rw (fields-field s p r t start len next reads e, own_is)

  pub unit-files : (unit_here s p).files ≡ map file_of (payloads 0x15 (own_fields (fields (drop next s))))
  unfolding unit_here unit_of
  unit-files = rw (fields-field s p r t start len next reads e, own_is)

  pub unit-rows : (unit_here s p).rows ≡ map row_of (payloads 0x16 (own_fields (fields (drop next s))))
  unfolding unit_here unit_of
  unit-rows = rw (fields-field s p r t start len next reads e, own_is)

  module _ (h : Placed s p) (is : t ≡ 0x10) where
    pub unit-offset : (unit_here s p).offset ≡ le_at 8 s start
    unfolding unit_here unit_of
    unit-offset =
        let l = placed-unit s p r t start len next h reads e is in
        rw (fields-field s p r t start len next reads e) (number-first s start len 8 (le_at 8 s start) (omega arith) refl)

    pub unit-length : (unit_here s p).length ≡ le_at 8 s (start + 8)
    unfolding unit_here unit_of
    unit-length =
        let l = placed-unit s p r t start len next h reads e is in
        rw (fields-field s p r t start len next reads e) (number_at s start len 8 8 (le_at 8 s (start + 8)) (omega arith) refl)

    pub unit-word_size : (unit_here s p).word_size ≡ le_at 1 s (start + 17)
    unfolding unit_here unit_of
    unit-word_size =
        let l = placed-unit s p r t start len next h reads e is in
        rw (fields-field s p r t start len next reads e) (number_at s start len 1 17 (le_at 1 s (start + 17)) (omega arith) refl)
