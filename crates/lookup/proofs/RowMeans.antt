-- The function that answers and the row in force are those of the request's words, and functions are nonempty.
use mathlib.Core.Path.{◌≡◌, refl, sym, subst, ◌∙◌}
use mathlib.Core.Bool.{Bool, true, false, cond, ◌&&◌, not, true≢false}
use mathlib.Core.List.{List, [], ◌∷◌}
use mathlib.Core.Option.{Option, none, some, none-ne-some, some-injective}
use Prim.Native.Nat.{ℕ, zero, suc, ◌<◌}
use native.Mathlib.Omega.{arith}
use lib.Dec.{leb, eqb}
use lib.ListN.{length}
use borrow.Author.Tests.{leb-true, le-leb, ltb-true, lt-ltb, eqb-true, eq-eqb}
use Rattle.tlv.specs.Addresses.{RangeHolds, Nonempty}
use Rattle.tlv.specs.Lists.{All, at, exists, first, last, or_else, map_option, take_while}
use Rattle.tlv.specs.Bytes.{le_at}
use Rattle.tlv.specs.Outcome.{refused, done}
use Rattle.tlv.specs.Model.{range_of}
use Rattle.tlv.specs.Fields.{Field, FieldList, end, cut, more, fields}
use Rattle.tlv.proofs.TestLaws.{and_left, and_right}
use Rattle.tlv.proofs.OutcomeLaws.{done-is, refused-not}
use Rattle.buffers.specs.Reader.{records_after, range_formed, records_formed, depth_after, records_form, line_of}
use Rattle.access.specs.Places.{behind}
use Rattle.lookup.specs.Tray.{FieldAt, GroupAt, fields_at, has_tag, groups_at, function_range, functions_at, functions_of}
use Rattle.lookup.specs.Lookup.{holds, row_in_force}
use Rattle.lookup.specs.Means.{FirstHolding, HoldingIs, RowBelow, RowIs, Filled}
use Rattle.lookup.proofs.DemandLaws.{holds-is}

-- ---- the first function that holds the address

is-holds : (a : ℕ) (f : GroupAt) → RangeHolds (function_range f) a → holds a (function_range f) ≡ true
is-holds a f h = rw (le-leb (function_range f).start a h.0, lt-ltb a (function_range f).end h.1)

module _ (a : ℕ) (f : GroupAt) (fs : List GroupAt) where
  -- the first is taken
  head-holds : holds a (function_range f) ≡ true → FirstHolding a (f ∷ fs) f
  unfolding at
  head-holds h = record { number = 0; numbered = refl; holding = holds-is a (function_range f) h; first = λ k g l. absurd (omega arith) }

  module _ (h : holds a (function_range f) ≡ false) where
    not_head : ¬ RangeHolds (function_range f) a
    not_head x = true≢false (sym (is-holds a f x) ∙ h)

    tail-holds : (o : Option GroupAt) → HoldingIs a fs o → HoldingIs a (f ∷ fs) o
    unfolding at
    tail-holds none x = (not_head, x)
    tail-holds (some g) x = record { number = suc x.number; numbered = x.numbered; holding = x.holding; first = sooner }
      where
        sooner : (k : ℕ) (y : GroupAt) → k < suc x.number → at (f ∷ fs) k ≡ some y → ¬ RangeHolds (function_range y) a
        sooner zero y l e = subst (λ (z : GroupAt). ¬ RangeHolds (function_range z) a) (some-injective f y e) not_head
        sooner (suc k) y l e = x.first k y (omega arith) e

pub function-is : (a : ℕ) (fs : List GroupAt) → HoldingIs a fs (first (λ f. holds a (function_range f)) fs)
unfolding first
function-is a [] = tt
function-is a (f ∷ fs) = go (holds a (function_range f)) refl (function-is a fs)
  where
    go : (b : Bool) → holds a (function_range f) ≡ b → HoldingIs a fs (first (λ f. holds a (function_range f)) fs)
        → HoldingIs a (f ∷ fs) (cond b (some f) (first (λ f. holds a (function_range f)) fs))
    go true h x = head-holds a f fs h
    go false h x = tail-holds a f fs h (first (λ f. holds a (function_range f)) fs) x

-- ---- the last row at or below it

abbrev row_test : ℕ → FieldAt → Bool
row_test a x = has_tag 0x42 x && leb (line_of x.field.payload).address a

row_below : (a : ℕ) (x : FieldAt) → row_test a x ≡ true → RowBelow a x
row_below a x h = (
  eqb-true x.field.tag 0x42 (and_left (has_tag 0x42 x) (leb (line_of x.field.payload).address a) h),
  leb-true (line_of x.field.payload).address a (and_right (has_tag 0x42 x) (leb (line_of x.field.payload).address a) h),
)

not-below : (a : ℕ) (x : FieldAt) → row_test a x ≡ false → ¬ RowBelow a x
not-below a x h r =
    let t : row_test a x ≡ true = rw (eq-eqb x.field.tag 0x42 r.0, le-leb (line_of x.field.payload).address a r.1) in
    true≢false (sym t ∙ h)

abbrev placed : Option FieldAt → Option ℕ
placed o = map_option (λ x. x.place) o

module _ (a : ℕ) (x : FieldAt) (xs : List FieldAt) where
  -- a later one is the last
  row-later : (y : FieldAt) → RowIs a xs (placed (some y)) → RowIs a (x ∷ xs) (placed (some y))
  unfolding map_option at
  row-later y r = record { number = suc r.number; row = r.row; numbered = r.numbered; here = r.here; below = r.below; last = after }
    where
      after : (k : ℕ) (z : FieldAt) → suc r.number < k → at (x ∷ xs) k ≡ some z → ¬ RowBelow a z
      after zero z l e = absurd (omega arith)
      after (suc k) z l e = r.last k z (omega arith) e

  -- the first is the last
  row_first : RowBelow a x → All (λ z. ¬ RowBelow a z) xs → RowIs a (x ∷ xs) (placed (some x))
  unfolding map_option at
  row_first b n = record { number = 0; row = x; numbered = refl; here = refl; below = b; last = after }
    where
      none_in : (ys : List FieldAt) → All (λ z. ¬ RowBelow a z) ys → (k : ℕ) (z : FieldAt) → at ys k ≡ some z → ¬ RowBelow a z
      none_in [] m k z e = absurd (none-ne-some z e)
      none_in (y ∷ ys) m zero z e = subst (λ (w : FieldAt). ¬ RowBelow a w) (some-injective y z e) m.0
      none_in (y ∷ ys) m (suc k) z e = none_in ys m.1 k z e

      after : (k : ℕ) (z : FieldAt) → 0 < k → at (x ∷ xs) k ≡ some z → ¬ RowBelow a z
      after zero z l e = absurd (omega arith)
      after (suc k) z l e = none_in xs n k z e

  row-turn : (o : Option FieldAt) → RowIs a xs (placed o) → (b : Bool) → row_test a x ≡ b → RowIs a (x ∷ xs) (placed (or_else o (cond b (some x) none)))
  unfolding map_option or_else
  row-turn none r true h = row_first (row_below a x h) r
  row-turn none r false h = (not-below a x h, r)
  row-turn (some y) r b h = row-later y r

rows_are : (a : ℕ) (xs : List FieldAt) → RowIs a xs (placed (last (row_test a) xs))
unfolding map_option last
rows_are a [] = tt
rows_are a (x ∷ xs) = row-turn a x xs (last (row_test a) xs) (rows_are a xs) (row_test a x) refl

pub row_is : (a : ℕ) (f : GroupAt) → RowIs a f.rest (row_in_force a f)
unfolding row_in_force
row_is a f = rows_are a f.rest

-- ---- functions are nonempty

range-filled : (d : ℕ) (f : Field) → eqb f.tag 0x41 ≡ true → records_formed d f.tag f.payload ≡ true → Nonempty (range_of f.payload)
unfolding records_formed range_formed range_of
range-filled d f e h =
    let k = subst (λ (t : ℕ). records_formed d t f.payload ≡ true) (eqb-true f.tag 0x41 e) h in
    ltb-true (le_at 8 f.payload 0) (le_at 8 f.payload 8) (and_right (leb 16 (length f.payload)) (range_formed f.payload) k)

each-filled : (previous d p : ℕ) (fs : FieldList) → records_form previous d fs ≡ true → All (λ f. Nonempty (function_range f)) (groups_at 0x41 (fields_at p fs))
unfolding records_form fields_at groups_at
each-filled previous d p end h = tt
each-filled previous d p cut h = tt
each-filled previous d p (more f fs) h =
    let tests = and_left (exists (eqb f.tag) (records_after previous) && records_formed d f.tag f.payload)
    (records_form f.tag (depth_after d f) fs) h in
    let rest = and_right (exists (eqb f.tag) (records_after previous) && records_formed d f.tag f.payload)
    (records_form f.tag (depth_after d f) fs) h in
    let formed = and_right (exists (eqb f.tag) (records_after previous)) (records_formed d f.tag f.payload) tests in
    go (eqb f.tag 0x41) refl formed (each-filled f.tag (depth_after d f) (behind p f) fs rest)
  where
    own : List FieldAt
    own = take_while (λ x. not (has_tag 0x41 x)) (fields_at (behind p f) fs)

    go : (b : Bool) → eqb f.tag 0x41 ≡ b → records_formed d f.tag f.payload ≡ true
        → All (λ x. Nonempty (function_range x)) (groups_at 0x41 (fields_at (behind p f) fs))
        → All (λ x. Nonempty (function_range x))
        (cond b (record { place = p; head = f; rest = own } ∷ groups_at 0x41 (fields_at (behind p f) fs)) (groups_at 0x41 (fields_at (behind p f) fs)))
    go true e k ih = (range-filled d f e k, ih)
    go false e k ih = ih

pub filled : Filled
unfolding functions_of functions_at
filled tray fs e = go (records_form 0 0 (fields tray)) refl e
  where
    go : (b : Bool) → records_form 0 0 (fields tray) ≡ b → cond b (done (groups_at 0x41 (fields_at 0 (fields tray)))) (refused 19) ≡ done fs
        → All (λ f. Nonempty (function_range f)) fs
    go true h q = subst (λ (l : List GroupAt). All (λ f. Nonempty (function_range f)) l) (done-is q) (each-filled 0 0 0 (fields tray) h)
    go false h q = refused-not q
