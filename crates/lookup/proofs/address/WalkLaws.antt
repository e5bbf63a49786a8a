-- A turn of each walk over a records tray.
use mathlib.Core.Path.{◌≡◌, refl, sym, ◌∙◌}
use mathlib.Core.Bool.{Bool, true, false}
use mathlib.Core.List.{List, []}
use mathlib.Core.Option.{Option, none, some}
use Prim.Native.Nat.{ℕ, ◌≤◌, ◌<◌}
use lib.ListN.{take, drop}
use borrow.Author.Tests.{le-leb, lt-leb, eq-eqb, ne_eqb}
use Rattle.std.specs.Prelude.{Some, None}
use Rattle.tlv.specs.declared.fields.FieldSpan.{FieldSpan}
use Rattle.tlv.specs.declared.model.AddressRange.{AddressRange}
use Rattle.tlv.specs.Lists.{exists, take_while, first, last, or_else, map_option}
use Rattle.tlv.specs.Bytes.{le_at}
use Rattle.tlv.specs.Fields.{payloads}
use Rattle.tlv.specs.Cursor.{field_from}
use Rattle.tlv.specs.Checked.{field_in}
use Rattle.tlv.specs.Model.{range_of}
use Rattle.tlv.proofs.ShapeLaws.{number-first}
use Rattle.buffers.specs.Reader.{line_of}
use Rattle.lookup.specs.Tray.{FieldAt, GroupAt, functions_at, function_range}
use Rattle.lookup.specs.Lookup.{holds}
use Rattle.lookup.specs.Walk.{Stands, own_at, FoundHere, is_row_below, row_from, held_from}
use Rattle.lookup.proofs.StepLaws.{functions_from, own-none, functions-none, own-function, own-next, functions-this}
use Rattle.lookup.proofs.StepLaws.{functions-next, stands-next}

-- ---- a turn of function_at: o is what is sought, and from place p on it is the same

abbrev pub holding : ℕ → GroupAt → Bool
holding a f = holds a (function_range f)

module _ (s : List ℕ) (a p : ℕ) (o : Option GroupAt) (inv : o ≡ first (holding a) (functions_from s p)) where
  pub found-none : None ≡ field_from s p → o ≡ none
  unfolding first
  found-none at = inv ∙ rw (functions-none s p at)

  module _ (f : FieldSpan) (at : Some f ≡ field_from s p) where
    pub found-other : (f.tag ≡ 0x41 → ⊥) → o ≡ first (holding a) (functions_from s f.next)
    found-other q = inv ∙ rw (functions-next s p f at q)

    module _ (g : List ℕ) (is : g ≡ take f.len (drop f.start s)) (r : AddressRange) (is-range : r ≡ range_of g) (q : f.tag ≡ 0x41) where
      pub found-not : false ≡ holds a r → o ≡ first (holding a) (functions_from s f.next)
      unfolding first
      found-not k = inv ∙ rw (functions-this s p f at q, ← is, ← is-range, ← k)

      pub found-this : true ≡ holds a r → o ≡ some (record { place = p; head = field_in s f.tag f.start f.len; rest = own_at s f.next })
      unfolding first
      found-this k = inv ∙ rw (functions-this s p f at q, ← is, ← is-range, ← k)

-- the function that answers
pub found_here : (s : List ℕ) (a p : ℕ) (f : FieldSpan) (g : List ℕ) (r : AddressRange) → first (holding a) (functions_at s) ≡ first (holding a) (functions_from s p)
    → Some f ≡ field_from s p → g ≡ take f.len (drop f.start s) → r ≡ range_of g → f.tag ≡ 0x41 → true ≡ holds a r → Stands s p → FoundHere s a p f.next
found_here s a p f g r inv at is is-range q k st = record {
  function = record { place = p; head = field_in s f.tag f.start f.len; rest = own_at s f.next };
  is = found-this s a p _ inv f at g is r is-range q k;
  here = refl;
  rest = refl;
  stands = stands-next s p f at st;
}

-- ---- a turn of row_in_force: o is what is sought; from place p on it is what is found there or, with none, the row so far

pub or-none : {A : Type 0} (o : Option A) → or_else o none ≡ o
unfolding or_else
or-none none = refl
or-none (some x) = refl

or-twice : {A : Type 0} (o : Option A) (x : A) (w : Option A) → or_else (or_else o (some x)) w ≡ or_else o (some x)
unfolding or_else
or-twice none x w = refl
or-twice (some y) x w = refl

or_map : {A B : Type 0} (f : A → B) (o : Option A) (x : A) → map_option f (or_else o (some x)) ≡ or_else (map_option f o) (some (f x))
unfolding or_else map_option
or_map f none x = refl
or_map f (some y) x = refl

module _ (s : List ℕ) (a p : ℕ) (o w : Option ℕ) (inv : o ≡ or_else (row_from s p a) w) where
  row-ends : own_at s p ≡ [] → w ≡ o
  unfolding row_from last map_option or_else
  row-ends e = sym (inv ∙ rw e)

  pub row-none : None ≡ field_from s p → w ≡ o
  row-none at = row-ends (own-none s p at)

  module _ (f : FieldSpan) (at : Some f ≡ field_from s p) where
    pub row-function : f.tag ≡ 0x41 → w ≡ o
    row-function q = row-ends (own-function s p f at q)

    -- the row is not taken
    skipped : (f.tag ≡ 0x41 → ⊥) → is_row_below a (record { place = p; field = field_in s f.tag f.start f.len }) ≡ false → o ≡ or_else (row_from s f.next a) w
    unfolding row_from last
    skipped q k = inv ∙ rw (own-next s p f at q, k, or-none (last (is_row_below a) (own_at s f.next)))

    pub row_other : (f.tag ≡ 0x41 → ⊥) → (f.tag ≡ 0x42 → ⊥) → o ≡ or_else (row_from s f.next a) w
    row_other q k = skipped q (rw (ne_eqb f.tag 0x42 k))

    module _ (x : ℕ) (long : 8 ≤ f.len) (is : x ≡ le_at 8 s f.start) (q : (f.tag ≡ 0x41 → ⊥)) (k : f.tag ≡ 0x42) where
      pub row-above : a < x → o ≡ or_else (row_from s f.next a) w
      unfolding line_of
      row-above l = skipped q (rw (k, number-first s f.start f.len 8 x long is, lt-leb x a l))

      pub row-taken : x ≤ a → o ≡ or_else (row_from s f.next a) (some p)
      unfolding row_from last line_of
      row-taken l =
          inv
          ∙ rw (
            own-next s p f at q,
            k,
            number-first s f.start f.len 8 x long is,
            le-leb x a l,
            or_map (λ (y : FieldAt). y.place)
                (last (is_row_below a) (own_at s f.next)) (record { place = p; field = field_in s 0x42 f.start f.len }),
          )
          (or-twice (map_option (λ (y : FieldAt). y.place) (last (is_row_below a) (own_at s f.next))) p w)

-- ---- a turn of node_holds

module _ (s : List ℕ) (a p : ℕ) (v : Bool) (inv : v ≡ held_from s p a) where
  held-ends : own_at s p ≡ [] → false ≡ v
  unfolding held_from take_while payloads exists
  held-ends e = sym (inv ∙ rw e)

  pub held-none : None ≡ field_from s p → false ≡ v
  held-none at = held-ends (own-none s p at)

  module _ (f : FieldSpan) (at : Some f ≡ field_from s p) where
    pub held-function : f.tag ≡ 0x41 → false ≡ v
    held-function q = held-ends (own-function s p f at q)

    module _ (q : (f.tag ≡ 0x41 → ⊥)) where
      pub held-node : f.tag ≡ 0x43 → false ≡ v
      unfolding held_from take_while payloads exists
      held-node k = sym (inv ∙ rw (own-next s p f at q, k))

      module _ (n : (f.tag ≡ 0x43 → ⊥)) where
        pub held-other : (f.tag ≡ 0x44 → ⊥) → v ≡ held_from s f.next a
        unfolding held_from take_while payloads
        held-other k = inv ∙ rw (own-next s p f at q, ne_eqb f.tag 0x43 n, ne_eqb f.tag 0x44 k)

        module _ (g : List ℕ) (is : g ≡ take f.len (drop f.start s)) (r : AddressRange) (is-range : r ≡ range_of g) (k : f.tag ≡ 0x44) where
          pub held-not : false ≡ holds a r → v ≡ held_from s f.next a
          unfolding held_from take_while payloads exists
          held-not z = inv ∙ rw (own-next s p f at q, ne_eqb f.tag 0x43 n, eq-eqb f.tag 0x44 k, ← is, ← is-range, ← z)

          pub held-this : true ≡ holds a r → true ≡ v
          unfolding held_from take_while payloads exists
          held-this z = sym (inv ∙ rw (own-next s p f at q, ne_eqb f.tag 0x43 n, eq-eqb f.tag 0x44 k, ← is, ← is-range, ← z))
