-- A turn of the walk for the function that ends nearest below an address.
use mathlib.Core.Path.{◌≡◌, refl, sym, ap, ◌∙◌}
use mathlib.Core.Bool.{Bool, true, false, cond, not}
use mathlib.Core.List.{List}
use mathlib.Core.Option as math
use mathlib.Core.Option.{none, some}
use Prim.Native.Nat.{ℕ, ◌≤◌, ◌<◌}
use native.Mathlib.Omega.{arith}
use native.Mathlib.Decide.{dec_le}
use lib.Dec.{leb, ltb}
use lib.ListN.{take, drop}
use borrow.Author.Tests.{ltb-true, ltb-false, lt-ltb, le-ltb, le-leb, lt-leb, not-true, not-false}
use Rattle.std.specs.Prelude.{Option, Some, None, Err}
use Rattle.std.specs.Option.{ok_or}
use Rattle.tlv.specs.declared.fields.FieldSpan.{FieldSpan}
use Rattle.tlv.specs.declared.refusal.Refusal.{Refusal}
use Rattle.tlv.specs.declared.model.AddressRange.{AddressRange}
use Rattle.tlv.specs.Lists.{map_option}
use Rattle.tlv.specs.Outcome.{◌>>=◌}
use Rattle.tlv.specs.Refusals.{as_outcome}
use Rattle.tlv.specs.Cursor.{field_from}
use Rattle.tlv.specs.Checked.{field_in}
use Rattle.tlv.specs.Fields.{fields}
use Rattle.tlv.specs.Model.{range_of}
use Rattle.buffers.specs.Reader.{records_form}
use Rattle.lookup.specs.Tray.{GroupAt, function_range, functions_at, functions_of}
use Rattle.lookup.specs.Lookup.{qualifying, later_end, ending_below, nearest_below}
use Rattle.lookup.specs.Walk.{Stands, own_at, NearestFound}
use Rattle.access.specs.Access.{place_of}
use Rattle.lookup.proofs.StepLaws.{functions_from, functions-none, functions-this, functions-next, function-filled}

abbrev end_of : GroupAt → ℕ
end_of f = (function_range f).end

abbrev placed : math.Option GroupAt → math.Option ℕ
placed o = map_option (λ f. f.place) o

-- the better of what is found so far, which ends at `latest`, and of what is left
abbrev pub best_of : Option ℕ → ℕ → math.Option GroupAt → math.Option ℕ
best_of None latest o = map_option (λ f. f.place) o
best_of (Some p) latest none = some p
best_of (Some p) latest (some g) = cond (ltb latest (function_range g).end) (some g.place) (some p)

-- while none is found, the latest end is 0
abbrev pub Started : Option ℕ → ℕ → Type 0
Started None latest = latest ≡ 0
Started (Some p) latest = Unit {0}

none_left : (n : Option ℕ) (latest : ℕ) → place_of n ≡ best_of n latest none
unfolding map_option
none_left None latest = refl
none_left (Some p) latest = refl

-- a function that ends later than what is found
takes : (n : Option ℕ) (latest : ℕ) (f : GroupAt) (o : math.Option GroupAt) → latest < end_of f
    → best_of n latest (some (later_end f o)) ≡ best_of (Some f.place) (end_of f) o
unfolding map_option
takes n latest f none h = go n
  where
    go : (m : Option ℕ) → best_of m latest (some f) ≡ some f.place
    go None = refl
    go (Some p) = rw (lt-ltb latest (end_of f) h)
takes n latest f (some g) h = go (ltb (end_of f) (end_of g)) refl n
  where
    go : (b : Bool) → ltb (end_of f) (end_of g) ≡ b → (m : Option ℕ) → best_of m latest (some (cond b g f)) ≡ cond b (some g.place) (some f.place)
    go true e None = refl
    go true e (Some p) = let l : end_of f < end_of g = ltb-true _ _ e in rw (lt-ltb latest (end_of g) (omega arith))
    go false e None = refl
    go false e (Some p) = rw (lt-ltb latest (end_of f) h)

-- a function that does not
leaves : (n : Option ℕ) (latest : ℕ) (f : GroupAt) (o : math.Option GroupAt) → Started n latest → 0 < end_of f → end_of f ≤ latest
    → best_of n latest (some (later_end f o)) ≡ best_of n latest o
leaves None latest f o s z h = absurd (omega arith)
leaves (Some p) latest f none s z h = rw (le-ltb latest (end_of f) h)
leaves (Some p) latest f (some g) s z h = go (ltb (end_of f) (end_of g)) refl
  where
    go : (b : Bool) → ltb (end_of f) (end_of g) ≡ b → best_of (Some p) latest (some (cond b g f)) ≡ cond (ltb latest (end_of g)) (some g.place) (some p)
    go true e = refl
    go false e = let l : end_of g ≤ end_of f = ltb-false _ _ e in rw (le-ltb latest (end_of f) h, le-ltb latest (end_of g) (omega arith))

module _ (s : List ℕ) (a p latest : ℕ) (n : Option ℕ) (v : math.Option ℕ) (inv : v ≡ best_of n latest (ending_below a (functions_from s p)))
    (begun : Started n latest) where
  pub nearest-none : None ≡ field_from s p → place_of n ≡ v
  unfolding ending_below
  nearest-none at = none_left n latest ∙ sym (inv ∙ rw (functions-none s p at))

  module _ (f : FieldSpan) (at : Some f ≡ field_from s p) where
    pub nearest-other : (f.tag ≡ 0x41 → ⊥) → v ≡ best_of n latest (ending_below a (functions_from s f.next))
    nearest-other q = inv ∙ rw (functions-next s p f at q)

    module _ (st : Stands s p) (g : List ℕ) (x : AddressRange) (q : f.tag ≡ 0x41) (payload : g ≡ take f.len (drop f.start s)) (is : x ≡ range_of g) where
      abbrev this : GroupAt
      this = record { place = p; head = field_in s f.tag f.start f.len; rest = own_at s f.next }

      end_is : end_of this ≡ x.end
      end_is = rw (is, payload)

      left_is : ending_below a (functions_from s p) ≡ cond (leb (end_of this) a) (some (later_end this (ending_below a (functions_from s f.next))))
          (ending_below a (functions_from s f.next))
      unfolding ending_below
      left_is = rw (functions-this s p f at q)

      pub nearest-above : a < x.end → v ≡ best_of n latest (ending_below a (functions_from s f.next))
      nearest-above h = inv ∙ ap (best_of n latest) (left_is ∙ rw (end_is, lt-leb x.end a h))

      below : x.end ≤ a → v ≡ best_of n latest (some (later_end this (ending_below a (functions_from s f.next))))
      below h = inv ∙ ap (best_of n latest) (left_is ∙ rw (end_is, le-leb x.end a h))

      pub nearest-takes : x.end ≤ a → latest < x.end → v ≡ best_of (Some p) x.end (ending_below a (functions_from s f.next))
      nearest-takes h k =
          let i = end_is in
          below h ∙ takes n latest this (ending_below a (functions_from s f.next)) (omega arith)
          ∙ ap (λ (y : ℕ). best_of (Some p) y (ending_below a (functions_from s f.next))) i

      pub nearest-leaves : x.end ≤ latest → v ≡ best_of n latest (ending_below a (functions_from s f.next))
      nearest-leaves k =
          let i = end_is in
          let z = function-filled s p f at st q in
          elim (dec_le x.end a) [
            | yes h ↦ below h ∙ leaves n latest this (ending_below a (functions_from s f.next)) begun (omega arith) (omega arith)
            | no h ↦ nearest-above (omega arith)
          ]

-- ---- the whole

module _ (s : List ℕ) (a : ℕ) (b : Bool) (form : b ≡ records_form 0 0 (fields s)) where
  pub nearest-misshapen : not b ≡ true → as_outcome {A = ℕ} (Err Refusal.MisshapenRecords) ≡ nearest_below s a
  unfolding nearest_below functions_of ◌>>=◌
  nearest-misshapen h = rw (← form, not-true b h)

  pub nearest-well : (r : Option ℕ) → not b ≡ false → NearestFound s a r → as_outcome (ok_or r Refusal.NoFunction) ≡ nearest_below s a
  unfolding nearest_below functions_of ◌>>=◌ map_option
  nearest-well r h e = rw (← form, not-false b h) (go r (ending_below a (functions_at s)) e)
    where
      go : (r : Option ℕ) (o : math.Option GroupAt) → place_of r ≡ placed o → as_outcome (ok_or r Refusal.NoFunction) ≡ qualifying (λ f. f.place) o
      go (Some p) (some g) k = cc
      go (Some p) none k = cc
      go None (some g) k = cc
      go None none k = refl
