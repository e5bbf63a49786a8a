-- A turn of the walk that joins symbols: what stands in the result so far, and what is left.
use mathlib.Core.Path.{◌≡◌, refl, sym, ap, subst, ◌∙◌}
use mathlib.Core.Bool.{Bool, true, false, cond, ◌||◌}
use mathlib.Core.List.{List, [], ◌∷◌, map}
use mathlib.Core.Option.{none, some, none-ne-some}
use Prim.Native.Nat.{ℕ, ◌+◌, ◌-◌, ◌≤◌}
use native.Mathlib.Omega.{arith}
use lib.Dec.{eqb}
use lib.ListN.{length, take, drop, length-drop}
use borrow.Author.Tests.{eq-eqb, ne_eqb}
use Rattle.std.specs.Prelude.{Option, Some, None}
use Rattle.std.specs.Option.{is_some}
use Rattle.std.proofs.lemmas.List.{take_all}
use Rattle.tlv.specs.declared.model.AddressRange.{AddressRange}
use Rattle.tlv.specs.Lists.{exists, first, is_empty}
use Rattle.tlv.specs.Bytes.{le_at}
use Rattle.tlv.specs.Fields.{encode}
use Rattle.buffers.specs.Buffer.{Put}
use Rattle.buffers.specs.Output.{function_payload}
use Rattle.buffers.proofs.BufferLaws.{put_as}
use Rattle.lookup.specs.declared.address.FunctionPlace.{FunctionPlace}
use Rattle.lookup.specs.Tray.{functions_at, function_range}
use Rattle.lookup.specs.Lookup.{holds}
use Rattle.lookup.specs.Walk.{FunctionFound}
use Rattle.symbols.specs.Symbols.{Symbol, symbol_of, passed_over}
use Rattle.symbols.specs.Walk.{ranges_in, laid_for}

-- ---- is a start held

first-none : {A B : Type 0} (p : B → Bool) (f : A → B) (xs : List A) → first (λ x. p (f x)) xs ≡ none → exists p (map f xs) ≡ false
unfolding first exists
first-none p f [] e = refl
first-none p f (x ∷ xs) e = go (p (f x)) e (first-none p f xs)
  where
    go : (b : Bool) → cond b (some x) (first (λ y. p (f y)) xs) ≡ none → (first (λ y. p (f y)) xs ≡ none → exists p (map f xs) ≡ false)
        → cond b true (exists p (map f xs)) ≡ false
    go true q ih = absurd (none-ne-some x (sym q))
    go false q ih = ih q

first_some : {A B : Type 0} (p : B → Bool) (f : A → B) (xs : List A) (y : A) → first (λ x. p (f x)) xs ≡ some y → exists p (map f xs) ≡ true
unfolding first exists
first_some p f [] y e = absurd (none-ne-some y e)
first_some p f (x ∷ xs) y e = go (p (f x)) e (first_some p f xs y)
  where
    go : (b : Bool) → cond b (some x) (first (λ z. p (f z)) xs) ≡ some y → (first (λ z. p (f z)) xs ≡ some y → exists p (map f xs) ≡ true)
        → cond b true (exists p (map f xs)) ≡ true
    go true q ih = refl
    go false q ih = ih q

pub held-as : (t : List ℕ) (a : ℕ) (o : Option FunctionPlace) → FunctionFound t a o → is_some o ≡ exists (holds a) (ranges_in t)
held-as t a None f = sym (first-none (holds a) function_range (functions_at t) f)
held-as t a (Some p) f = sym (first_some (holds a) function_range (functions_at t) f.function f.is)

-- ---- one symbol

module _ (rs : List AddressRange) (m : Symbol) where
  laid-passed : passed_over m ≡ true → laid_for rs m ≡ []
  unfolding laid_for
  laid-passed e = rw e

  laid-known : exists (holds m.range.start) rs ≡ true → laid_for rs m ≡ []
  unfolding laid_for
  laid-known e = rw e (go (passed_over m))
    where
      go : (c : Bool) → cond (c || true) [] (encode 0x41 (function_payload m.range m.name)) ≡ []
      go true = refl
      go false = refl

  laid-new : passed_over m ≡ false → exists (holds m.range.start) rs ≡ false → laid_for rs m ≡ encode 0x41 (function_payload m.range m.name)
  unfolding laid_for
  laid-new e k = rw (e, k)

pub passed-size : (m : Symbol) → m.range.start ≡ m.range.end → passed_over m ≡ true
unfolding passed_over
passed-size m e = rw (eq-eqb m.range.start m.range.end e)

pub passed-name : (m : Symbol) → m.name ≡ [] → passed_over m ≡ true
unfolding passed_over
passed-name m e = rw e (go (eqb m.range.start m.range.end))
  where
    go : (b : Bool) → (b || true) ≡ true
    go true = refl
    go false = refl

pub not-passed : (m : Symbol) → (m.range.start ≡ m.range.end → ⊥) → (m.name ≡ [] → ⊥) → passed_over m ≡ false
unfolding passed_over
not-passed m h k = rw (ne_eqb m.range.start m.range.end h) (go m.name k)
  where
    go : (l : List ℕ) → (l ≡ [] → ⊥) → is_empty l ≡ false
    go [] q = absurd (q refl)
    go (y ∷ l) q = refl

drop-all : (k : ℕ) (l : List ℕ) → length l ≤ k → drop k l ≡ []
drop-all k l h = empty (drop k l) (length-drop k l ∙ omega arith)
  where
    empty : (x : List ℕ) → length x ≡ 0 → x ≡ []
    empty [] e = refl
    empty (y ∷ x) e = absurd (omega arith)

module _ (g : List ℕ) (rs : List AddressRange) (r : AddressRange) (is : r ≡ (symbol_of g).range) where
  same_start : exists (holds (symbol_of g).range.start) rs ≡ exists (holds r.start) rs
  same_start = rw is

  no-name : length g ≡ 16 → (symbol_of g).name ≡ []
  unfolding symbol_of
  no-name z = drop-all 16 g (omega arith)

  pub laid-empty : r.start ≡ r.end → laid_for rs (symbol_of g) ≡ []
  laid-empty z = laid-passed rs (symbol_of g) (passed-size (symbol_of g) (rw is at z))

  pub laid-nameless : length g ≡ 16 → laid_for rs (symbol_of g) ≡ []
  laid-nameless z = laid-passed rs (symbol_of g) (passed-name (symbol_of g) (no-name z))

  pub laid-held : (b : Bool) → b ≡ exists (holds r.start) rs → b ≡ true → laid_for rs (symbol_of g) ≡ []
  laid-held b e k = laid-known rs (symbol_of g) (same_start ∙ sym e ∙ k)

  -- a symbol that has a size and a name, and whose start is not held
  laid-this : (b : Bool) → 16 ≤ length g → (r.start ≡ r.end → ⊥) → (length g ≡ 16 → ⊥) → b ≡ exists (holds r.start) rs → b ≡ false
      → laid_for rs (symbol_of g) ≡ encode 0x41 (function_payload r (drop 16 g))
  unfolding symbol_of
  laid-this b long z w e k =
      let named : (symbol_of g).name ≡ [] → ⊥ = λ q. w (omega (arith, ap length q, length-drop 16 g)) in
      let sized : (symbol_of g).range.start ≡ (symbol_of g).range.end → ⊥ = λ q. z (rw is q) in
      laid-new rs (symbol_of g) (not-passed (symbol_of g) sized named) (same_start ∙ sym e ∙ k)
      ∙ ap (λ (x : AddressRange). encode 0x41 (function_payload x (drop 16 g))) (sym is)

  -- it is laid
  pub laid-put : {at q : ℕ} {t t' : List ℕ} (b : Bool) → Put at (encode 0x41 (function_payload r (take (length g - 16) (drop 16 g)))) t t' q
      → 16 ≤ length g → (r.start ≡ r.end → ⊥) → (length g ≡ 16 → ⊥) → b ≡ exists (holds r.start) rs → b ≡ false
      → Put at (laid_for rs (symbol_of g)) t t' q
  laid-put {at} {q} {t} {t'} b p long z w e k =
      let whole : take (length g - 16) (drop 16 g) ≡ drop 16 g = take_all (length g - 16) (drop 16 g) (omega (arith, length-drop 16 g)) in
      put_as (laid-this b long z w e k) (subst (λ (l : List ℕ). Put at (encode 0x41 (function_payload r l)) t t' q) whole p)

pub symbol_range-is : (g : List ℕ) (x n : ℕ) → x ≡ le_at 8 g 0 → n ≡ le_at 8 g 8 → record { start = x; end = x + n } ≡ (symbol_of g).range
unfolding symbol_of
symbol_range-is g x n ex en = rw (ex, en)
