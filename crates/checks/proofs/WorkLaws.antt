-- The work of the unit that asks for most: of one unit, of all, of those that are asked for, of an input without encodings and lists.
use mathlib.Core.Path.{◌≡◌, refl, sym, ap, ◌∙◌}
use mathlib.Core.Bool.{Bool, true, false, cond, not}
use mathlib.Core.Logic.{◌⊎◌, inl, inr}
use mathlib.Core.List.{List, [], ◌∷◌, map}
use mathlib.Core.Option.{Option, none, some}
use Prim.Native.Nat.{ℕ, ◌+◌, ◌*◌, ◌≤◌, max, min}
use native.Mathlib.Nat.{mul-le-mul_left}
use native.Mathlib.Omega.{arith}
use lib.ListN.{length, take, drop}
use borrow.Author.Tests.{eq-eqb, ne_eqb}
use Rattle.std.specs.Prelude.{Option as Maybe, Some, None, is_some}
use Rattle.tlv.specs.declared.fields.FieldSpan.{FieldSpan}
use Rattle.tlv.specs.Lists.{All, Any, at, is_none, map_option}
use Rattle.tlv.specs.Limits.{program_limit, list_limit, work_of_field, work_of_program_byte, work_of_encoded_byte, work_of_list_byte, counted_lists, work_besides}
use Rattle.tlv.specs.Fields.{Group, end, cut, fields, payloads, head_of, payload_of, grouped, count_of}
use Rattle.tlv.specs.Tags.{encoding_tag, list_tag}
use Rattle.tlv.specs.Cursor.{field_here, step_at, field_from}
use Rattle.tlv.specs.Checked.{Accepts, Placed, Accepted}
use Rattle.tlv.specs.Model.{CompilationUnit, LineEncoding, encoding_of, unit_of, units}
use Rattle.tlv.proofs.ListLaws.{all-at, all-image, given-some}
use Rattle.tlv.proofs.FieldLaws.{is-step, field-within, payload-length, fields-field, no-field}
use Rattle.tlv.proofs.PlaceFacts.{placed-start, placed-next}
use Rattle.tlv.proofs.PlacePromises.{placed-unit}
use Rattle.access.specs.Access.{NextOwn, place_of}
use Rattle.access.specs.Places.{unit_here, unit_places, lists_from, UnitOf}
use Rattle.access.proofs.UnitPlaceLaws.{units-places}
use Rattle.access.proofs.UnitFacts.{unit_of-place}
use Rattle.access.proofs.ListCountLaws.{unit-lists}
use Rattle.files.specs.Pieces.{UnitPlaced}
use Rattle.files.proofs.FewLaws.{unit-few, grouped-few}
use Rattle.collect.proofs.HeaderPlaces.{encoding-here, unit-stands}
use Rattle.imports.specs.Answer.{work_of_byte, work_of_lists, work_of_unit, work_of_units}
use Rattle.checks.specs.declared.layout.Counts.{Counts}
use Rattle.checks.specs.declared.layout.Layout.{Layout}
use Rattle.checks.specs.declared.options.Options.{Options}
use Rattle.checks.specs.Checks.{listed, chosen_by, chosen_units, is_encoded, work_of_program, work_limit, WorkEnough, UnitEnough}
use Rattle.checks.specs.Layout.{Sized, TagsKnown}

-- ---- the work of a unit

pub of-program : (o : Option LineEncoding) (size : ℕ) → work_of_byte o * size ≡ work_of_program (not (is_none o)) size
of-program none size = refl
of-program (some e) size = refl

pub program-work : (encoded : Bool) (size : ℕ) {n : ℕ} → n ≡ work_of_program encoded size → n ≤ work_of_encoded_byte * size
program-work true size e = omega arith
program-work false size e = omega arith

least-work : (encoded : Bool) (size : ℕ) → work_of_program_byte * size ≤ work_of_program encoded size
least-work true size = omega arith
least-work false size = omega arith

-- so many bytes times the lists that count
pub lists-work : (bytes k : ℕ) → k ≤ counted_lists → work_of_list_byte * bytes * k ≤ work_of_list_byte * counted_lists * bytes
lists-work bytes k h = let a = mul-le-mul_left (work_of_list_byte * bytes) h in omega arith

pub lists-most : (lists bytes : ℕ) {n : ℕ} → n ≡ work_of_lists lists bytes → n ≤ work_of_list_byte * counted_lists * bytes
lists-most lists bytes e = omega (arith, lists-work bytes (min lists counted_lists) (omega arith))

module _ (size bytes : ℕ) where
  unit-least : (u : CompilationUnit) → work_of_program_byte * size ≤ work_of_unit size bytes u
  unfolding work_of_unit
  unit-least u = omega (arith, of-program u.encoding size, least-work (is_encoded u) size)

  pub most-least : (us : List CompilationUnit) → work_of_program_byte * size ≤ work_of_units size bytes us
  unfolding work_of_units
  most-least [] = omega arith
  most-least (u ∷ us) = omega (arith, most-least us)

  module _ (small : size ≤ program_limit) (few : bytes ≤ list_limit) where
    unit-small : (u : CompilationUnit) → work_of_unit size bytes u ≤ work_limit
    unfolding work_of_unit
    unit-small u = omega (arith, of-program u.encoding size, program-work (is_encoded u) size refl, lists-most u.lists bytes refl)

    most-limited : (us : List CompilationUnit) → work_of_units size bytes us ≤ work_limit
    unfolding work_of_units
    most-limited [] = omega arith
    most-limited (u ∷ us) = omega (arith, unit-small u, most-limited us)

    pub most-small : (us : List CompilationUnit) {n : ℕ} → n ≡ work_of_units size bytes us → n ≤ work_limit
    most-small us e = omega (arith, most-limited us)

-- ---- work that is long enough for the unit that asks for most is so for each

pub each-enough : {main supplementary : List ℕ} (program lists : List ℕ) {size : ℕ} {us vs : List CompilationUnit} → vs ≡ us
    → WorkEnough main supplementary size (work_of_units (length program) (length lists) us) → All (UnitEnough main supplementary program lists size) vs
unfolding work_of_units
each-enough {main} {supplementary} program lists {size} {us} same W = rw same (go us (λ m n a b. W.long m n a b))
  where
    go : (xs : List CompilationUnit)
        → ((m n : ℕ) → Accepts main m → Accepts supplementary n → work_of_field * (m + n) + work_of_units (length program) (length lists) xs + work_besides ≤ size)
        → All (UnitEnough main supplementary program lists size) xs
    go [] h = tt
    go (x ∷ xs) h = (
      record { long = λ m n a b. let k = h m n a b in omega arith },
      go xs (λ m n a b. let k = h m n a b in omega arith),
    )

-- ---- an input without encodings, or without lists

-- a unit that has neither asks for the program's bytes alone
abbrev Bare : CompilationUnit → Type 0
Bare u = (is_encoded u ≡ false) × (u.lists ≡ 0)

abbrev Plain : List CompilationUnit → Type 0
Plain us = All Bare us

plain-work : (size bytes : ℕ) (us : List CompilationUnit) → Plain us → work_of_units size bytes us ≡ work_of_program_byte * size
unfolding work_of_units work_of_unit
plain-work size bytes [] p = refl
plain-work size bytes (u ∷ us) p =
    let a : work_of_unit size bytes u ≡ work_of_program_byte * size + work_of_list_byte * bytes * 0 = rw (of-program u.encoding size, p.0.0, p.0.1) in
    omega (arith, plain-work size bytes us p.1)

abbrev once : CompilationUnit → ℕ
once u = cond (is_encoded u) 1 0

none-if : (u : CompilationUnit) → once u ≤ 0 → is_encoded u ≡ false
none-if u h = go (is_encoded u) h
  where
    go : (b : Bool) → cond b 1 0 ≤ 0 → b ≡ false
    go true h = absurd (omega arith)
    go false h = refl

once_few : (g : Group) → once (unit_of g) ≤ length (payloads encoding_tag g.rest)
unfolding unit_of payload_of map_option
once_few g = let a = grouped-few encoding_tag 0x17 g.rest in let b = go (payloads encoding_tag (grouped 0x17 g.rest).before) in omega arith
  where
    go : (ps : List (List ℕ)) → cond (not (is_none (map_option encoding_of (head_of ps)))) 1 0 ≤ length ps
    go [] = omega arith
    go (x ∷ ps) = omega arith

listed-few : (g : Group) → (unit_of g).lists ≤ length (payloads list_tag g.rest)
unfolding unit_of
listed-few g = omega arith

module _ (s : List ℕ) (q : ℕ) (any : UnitOf s q) where
  none-encoded : count_of encoding_tag s ≡ 0 → is_encoded (unit_here s q) ≡ false
  none-encoded z = none-if (unit_here s q) (omega (arith, unit-few once encoding_tag once_few s q any))

  pub none-listed : count_of list_tag s ≡ 0 → (unit_here s q).lists ≡ 0
  none-listed z = omega (arith, unit-few (λ u. u.lists) list_tag listed-few s q any)

  pub known-encoded : {l : Layout} → TagsKnown s l → l.with_encodings ≡ false → false ≡ is_encoded (unit_here s q)
  known-encoded T e = sym (none-encoded (T.encodings e))

  pub known-listed : {l : Layout} → TagsKnown s l → l.with_lists ≡ false → 0 ≡ (unit_here s q).lists
  known-listed T e = sym (none-listed (T.lists e))

all-places : {P : ℕ → Type 0} (xs : List ℕ) → ((q : ℕ) → Any (λ p. p ≡ q) xs → P q) → All P xs
all-places [] h = tt
all-places (x ∷ xs) h = (h x (inl refl), all-places xs (λ q k. h q (inr k)))

plain-without : (s : List ℕ) → count_of encoding_tag s ≡ 0 → count_of list_tag s ≡ 0 → Plain (units s)
plain-without s z y =
    rw (units-places s)
    (all-image Bare (unit_here s) (unit_places 0 (fields s))
    (all-places (unit_places 0 (fields s)) λ q k. (none-encoded s q k z, none-listed s q k y)))

plain-chosen : (o : Options) (us : List CompilationUnit) → Plain us → Plain (chosen_units o us)
unfolding chosen_units
plain-chosen o us p = go o.ordinal
  where
    one : (n : ℕ) (x : Option CompilationUnit) → at us n ≡ x → Plain (listed x)
    one n none e = tt
    one n (some u) e = (given-some Bare (at us n) u (all-at Bare us n p) e, tt)

    go : (x : Maybe ℕ) → Plain (chosen_by x us)
    go None = p
    go (Some n) = one n (at us n) refl

pub work-plain : {s : List ℕ} {c : Counts} (o : Options) (size bytes : ℕ) → Sized s c → c.encodings + c.lists ≡ 0
    → work_of_program_byte * size ≡ work_of_units size bytes (chosen_units o (units s))
work-plain {s} {c} o size bytes S z =
    sym (plain-work size bytes (chosen_units o (units s))
    (plain-chosen o (units s) (plain-without s (omega (arith, S.encodings)) (omega (arith, S.lists)))))

-- ---- the unit at a place

pub encoding-told : {s : List ℕ} {p : ℕ} (U : UnitPlaced s p) (r : Maybe FieldSpan) → NextOwn s (p + 21) encoding_tag r → is_some r ≡ is_encoded (unit_here s p)
unfolding payload_of map_option
encoding-told U None own = sym (rw (encoding-here U, ← own.is))
encoding-told U (Some f) own = sym (rw (encoding-here U, ← own.is))

-- the lists of the unit at a place are those behind its field 10
pub lists-here : {s : List ℕ} {p : ℕ} (U : UnitPlaced s p) {n : ℕ} → n ≡ lists_from s (p + 21) → n ≡ (unit_here s p).lists
lists-here {s} {p} U e = e ∙ sym (unit-lists s p (step_at s p) refl 0x10 (p + 3) 18 (p + 21) U.is)

pub unit-work : {s : List ℕ} {p : ℕ} (U : UnitPlaced s p) (size bytes : ℕ) {a b k : ℕ} {c : Bool} → c ≡ is_encoded (unit_here s p) → a ≡ work_of_program c size
    → k ≡ lists_from s (p + 21) → b ≡ work_of_lists k bytes → a + b ≡ work_of_unit size bytes (unit_here s p)
unfolding work_of_unit
unit-work {s} {p} U size bytes ec ea ek eb = rw (of-program (unit_here s p).encoding size, ea, eb, ec, lists-here U ek)

-- ---- the unit that asks for most from a place on

module _ (size bytes : ℕ) where
  abbrev most_from : List ℕ → ℕ → ℕ
  most_from s p = work_of_units size bytes (map (unit_here s) (unit_places p (fields (drop p s))))

  -- at place p: of the units before it `most`, and the program's bytes at the least
  pub record Seeking (s : List ℕ) (p most : ℕ) : Type 0 where
    pub placed : Placed s p
    pub least : work_of_program_byte * size ≤ most
    pub left : work_of_units size bytes (units s) ≡ max most (most_from s p)

  pub seek-start : {s : List ℕ} → Accepted s → Seeking s 0 (work_of_program_byte * size)
  seek-start {s} A = record {
    placed = placed-start s A.number A.is;
    least = omega arith;
    left = let e : work_of_units size bytes (units s) ≡ most_from s 0 = ap (work_of_units size bytes) (units-places s) in
        omega (arith, most-least size bytes (map (unit_here s) (unit_places 0 (fields s))));
  }

  module _ {s : List ℕ} {p most : ℕ} (S : Seeking s p most) where
    pub seek-none : None ≡ field_from s p → most ≡ work_of_units size bytes (units s)
    unfolding unit_places work_of_units
    seek-none at = go (no-field s p at)
      where
        go : (fields (drop p s) ≡ end) ⊎ (fields (drop p s) ≡ cut) → most ≡ work_of_units size bytes (units s)
        go (inl e) = let t = rw e at S.left in omega (arith, S.least)
        go (inr e) = let t = rw e at S.left in omega (arith, S.least)

    module _ (f : FieldSpan) (at : Some f ≡ field_from s p) where
      next-is : p + 3 + length (take f.len (drop f.start s)) ≡ f.next
      next-is = let w = field-within s p f at in omega (arith, payload-length s p f at)

      next-placed : Placed s f.next
      next-placed = placed-next s p (step_at s p) f.tag f.start f.len f.next S.placed refl (is-step s p f at)

      pub seek-other : (f.tag ≡ 0x10 → ⊥) → Seeking s f.next most
      unfolding unit_places
      seek-other h = record { placed = next-placed; least = S.least; left = rw (fields-field s p f at, ne_eqb f.tag 0x10 h, next-is) at S.left }

      module _ (h : f.tag ≡ 0x10) where
        pub unit-here : UnitPlaced s p
        unit-here =
            let w = field-within s p f at in
            let l : f.len ≡ 18 = placed-unit s p (step_at s p) f.tag f.start f.len f.next S.placed refl (is-step s p f at) h in
            let e₁ : f.start ≡ p + 3 = w.0 in
            let e₂ : f.next ≡ p + 21 = omega arith in
            record { placed = S.placed; is = is-step s p f at ∙ (λ i. field_here (h i) (e₁ i) (l i) (e₂ i)) }

        here-first : work_of_units size bytes (units s) ≡ max most (max (work_of_unit size bytes (unit_here s p)) (most_from s f.next))
        unfolding unit_places work_of_units
        here-first = rw (fields-field s p f at, eq-eqb f.tag 0x10 h, next-is) at S.left

        pub seek_unit : {k n : ℕ} → k ≡ work_of_unit size bytes (unit_here s p) → n ≡ max most k → Seeking s f.next n
        seek_unit ek en = record { placed = next-placed; least = omega (arith, S.least); left = omega (arith, here-first) }

-- ---- the units that are asked for

pub work-all : (s : List ℕ) (o : Options) (size bytes : ℕ) {n : ℕ} → o.ordinal ≡ None → n ≡ work_of_units size bytes (units s) → n ≡ work_of_units size bytes (chosen_units o (units s))
unfolding chosen_units
work-all s o size bytes is e = e ∙ sym (rw is)

module _ (s : List ℕ) (o : Options) (size bytes : ℕ) {i : ℕ} (one : o.ordinal ≡ Some i) where
  by_place : (x : Maybe ℕ) → place_of x ≡ at (unit_places 0 (fields s)) i
      → work_of_units size bytes (chosen_units o (units s)) ≡ work_of_units size bytes (listed (map_option (unit_here s) (place_of x)))
  unfolding chosen_units
  by_place x e = rw one (ap (λ (y : Option CompilationUnit). work_of_units size bytes (listed y)) (unit_of-place s i x e))

  pub work-missing : place_of None ≡ at (unit_places 0 (fields s)) i → work_of_program_byte * size ≡ work_of_units size bytes (chosen_units o (units s))
  unfolding map_option work_of_units
  work-missing e = sym (by_place None e)

  module _ {q : ℕ} (e : place_of (Some q) ≡ at (unit_places 0 (fields s)) i) where
    pub asked-placed : Accepted s → UnitPlaced s q
    asked-placed A = unit-stands (placed-start s A.number A.is) (record { number = i; is = sym e })

    pub work-one : {n : ℕ} → n ≡ work_of_unit size bytes (unit_here s q) → n ≡ work_of_units size bytes (chosen_units o (units s))
    unfolding map_option work_of_units
    work-one {n} en =
        let a : work_of_units size bytes (chosen_units o (units s)) ≡ max (work_of_unit size bytes (unit_here s q)) (work_of_program_byte * size) = by_place (Some q) e in
        omega (arith, unit-least size bytes (unit_here s q))
