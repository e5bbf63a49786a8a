-- By the tray's own index the extent that is taken is that of the function that answers.
use mathlib.Core.Path.{◌≡◌, refl, sym, ap, subst, ◌∙◌}
use mathlib.Core.Bool.{Bool, true, false}
use mathlib.Core.List.{List}
use mathlib.Core.Option.{Option, none, some}
use Prim.Native.Nat.{ℕ, ◌-◌, ◌≤◌, ◌<◌}
use native.Mathlib.Omega.{arith}
use Rattle.tlv.specs.Addresses.{RangeHolds, Nonempty}
use Rattle.tlv.specs.Outcome.{done, ◌>>=◌}
use Rattle.tlv.specs.Lists.{All, at, first}
use Rattle.tlv.proofs.ListLaws.{all-at, given-some}
use Rattle.tlv.proofs.TestLaws.{by_less}
use Rattle.lookup.specs.Tray.{GroupAt, function_range, functions_at, functions_of}
use Rattle.lookup.specs.Lookup.{holds, frames_of, qualifying, look_up}
use Rattle.lookup.specs.Means.{HoldingIs}
use Rattle.lookup.proofs.DemandLaws.{at_less}
use Rattle.lookup.proofs.RowMeans.{function-is, filled}
use Rattle.look_index.specs.declared.index.Extent.{Extent}
use Rattle.std.specs.Prelude.{Option as Maybe, Some, None}
use Rattle.look_index.specs.Index.{extent_at, extent_of, ExtentHolds, Among, IndexOf, function_here}
use Rattle.look_index.specs.LookIn.{Boundary, Searched, Scanned, by_choice, Indexing}
use Rattle.look_index.proofs.HereLaws.{each-here}
use Rattle.look_index.proofs.IndexLaws.{at-within}

module _ (tray w : List ℕ) (n a : ℕ) where
  abbrev fs : List GroupAt
  fs = functions_at tray

  -- the function that answers
  abbrev answering : Option GroupAt
  answering = first (λ f. holds a (function_range f)) (functions_at tray)

  module _ (rising : Bool) (I : IndexOf tray w n rising) where
    looked : look_up tray a ≡ qualifying (frames_of a) answering
    unfolding look_up functions_of ◌>>=◌
    looked = rw I.formed

    found_at : (k : ℕ) (g : GroupAt) → at fs k ≡ some g → function_here tray g.place ≡ done g
    unfolding functions_at
    found_at k g e = given-some (λ f. function_here tray f.place ≡ done f) (at (functions_at tray) k) g
        (all-at (λ f. function_here tray f.place ≡ done f) (functions_at tray) k (each-here tray I.formed)) e

    -- the extent is that of the function that answers
    taken : (k : ℕ) (g : GroupAt) (o : Option GroupAt) → answering ≡ o → o ≡ some g → (m : ℕ) → at fs m ≡ some g → extent_at w k ≡ extent_of g
        → by_choice tray w a (Some k) ≡ look_up tray a
    unfolding ◌>>=◌
    taken k g o ea eo m e is =
        let here : function_here tray (extent_at w k).place ≡ done g = ap (λ (x : Extent). function_here tray x.place) is ∙ found_at m g e in
        rw here (sym (looked ∙ ap (qualifying (frames_of a)) (ea ∙ eo)))

    missing : (o : Option GroupAt) → answering ≡ o → o ≡ none → by_choice tray w a None ≡ look_up tray a
    missing o ea eo = sym (looked ∙ ap (qualifying (frames_of a)) (ea ∙ eo))

    -- a function's extent holds the address where the function does
    as-extent : {x : Extent} (g : GroupAt) → x ≡ extent_of g → RangeHolds (function_range g) a → ExtentHolds x a
    as-extent g e h = subst (λ (y : Extent). ExtentHolds y a) (sym e) h

    as-range : {x : Extent} (g : GroupAt) → x ≡ extent_of g → ExtentHolds x a → RangeHolds (function_range g) a
    as-range g e h = subst (λ (y : Extent). ExtentHolds y a) e h

    -- none holds it, although that one does
    not_none : (k : ℕ) (g : GroupAt) → at fs k ≡ some g → RangeHolds (function_range g) a → All (λ f. ¬ RangeHolds (function_range f) a) fs → ⊥
    not_none k g e h all = given-some (λ f. ¬ RangeHolds (function_range f) a) (at fs k) g (all-at (λ f. ¬ RangeHolds (function_range f) a) fs k all) e h

  -- ---- in the tray's order

  module _ (I : IndexOf tray w n false) where
    plain_at : (k : ℕ) → ExtentHolds (extent_at w k) a → k < n → ((j : ℕ) → j < k → ¬ ExtentHolds (extent_at w j) a) → (o : Option GroupAt) → answering ≡ o
        → HoldingIs a fs o
        → by_choice tray w a (Some k) ≡ look_up tray a
    plain_at k h l no-earlier none eo all =
        let x = at-within fs k (let z = I.all in omega arith) in
        absurd (not_none false I k x.0 x.1 (as-range false I x.0 (I.plain refl k x.0 x.1) h) all)
    plain_at k h l no-earlier (some g) eo f =
        let x = at-within fs k (let z = I.all in omega arith) in
        let holds-k = as-range false I x.0 (I.plain refl k x.0 x.1) h in
        let not-later : ¬ (k < f.number) = λ z. f.first k x.0 z x.1 holds-k in
        let not-sooner : ¬ (f.number < k) = λ z. no-earlier f.number z (as-extent false I g (I.plain refl f.number g f.numbered) f.holding) in
        let same : f.number ≡ k = omega arith in
        taken false I k g (some g) eo refl f.number f.numbered (I.plain refl k g (subst (λ (j : ℕ). at fs j ≡ some g) same f.numbered))

    plain-missing : ((j : ℕ) → j < n → ¬ ExtentHolds (extent_at w j) a) → (o : Option GroupAt) → answering ≡ o → HoldingIs a fs o
        → by_choice tray w a None ≡ look_up tray a
    plain-missing off none eo all = missing false I none eo refl
    plain-missing off (some g) eo f =
        let l = at_less fs f.number g f.numbered in
        let z = I.all in
        absurd (off f.number (omega arith) (as-extent false I g (I.plain refl f.number g f.numbered) f.holding))

    pub by_pass-is : (c : Maybe ℕ) → Scanned w n a c → by_choice tray w a c ≡ look_up tray a
    by_pass-is (Some k) s = plain_at k s.1 s.0 s.2 answering refl (function-is a fs)
    by_pass-is None s = plain-missing s answering refl (function-is a fs)

  -- ---- in the order of addresses

  module _ (I : IndexOf tray w n true) where
    -- a function's extent, and the function of an extent
    extent-of : (m : ℕ) (g : GroupAt) → at fs m ≡ some g → Among w n (extent_of g)
    extent-of m g e = (I.same refl (extent_of g)).1 (m, g, e, refl)

    filled_at : (k : ℕ) → k < n → (extent_at w k).range.start < (extent_at w k).range.end
    unfolding functions_of
    filled_at k l =
        let q = (I.same refl (extent_at w k)).0 (k, l, refl) in
        let all = filled tray fs (rw I.formed) in
        let f : Nonempty (function_range q.1) = given-some (λ f. Nonempty (function_range f)) (at fs q.0) q.1
        (all-at (λ f. Nonempty (function_range f)) fs q.0 all) q.2 in
        subst (λ (x : Extent). x.range.start < x.range.end) q.3 f

    -- no two hold one address
    one : (j k : ℕ) → j < n → k < n → ExtentHolds (extent_at w j) a → ExtentHolds (extent_at w k) a → j ≡ k
    one j k lj lk hj hk =
        let p : ¬ (j < k) = λ l. omega (arith, I.order refl j k l lk, hj.1, hk.0) in
        let q : ¬ (k < j) = λ l. omega (arith, I.order refl k j l lj, hk.1, hj.0) in omega arith

    rising-at : (k : ℕ) → k < n → ExtentHolds (extent_at w k) a → (o : Option GroupAt) → answering ≡ o → HoldingIs a fs o
        → by_choice tray w a (Some k) ≡ look_up tray a
    rising-at k l h none eo all =
        let q = (I.same refl (extent_at w k)).0 (k, l, refl) in
        absurd (not_none true I q.0 q.1 q.2 (as-range true I q.1 (sym q.3) h) all)
    rising-at k l h (some g) eo f =
        let q = extent-of f.number g f.numbered in
        let same : q.0 ≡ k = one q.0 k q.1 l (as-extent true I g q.2 f.holding) h in
        taken true I k g (some g) eo refl f.number f.numbered (ap (extent_at w) (sym same) ∙ q.2)

    -- behind the boundary all start above the address; before the last one passed all end at or below its start
    outside : (m j : ℕ) → Boundary w n a m → (0 < m → ¬ ExtentHolds (extent_at w (m - 1)) a) → j < n → ¬ ExtentHolds (extent_at w j) a
    outside m j B off l h = by_less ⊥ j m before behind
      where
        behind : m ≤ j → ⊥
        behind g =
            let up : a < (extent_at w m).range.start = B.above (omega arith) in
            by_less ⊥ m j
            (λ z. let f = filled_at m (omega arith) in let o = I.order refl m j z l in let s = h.0 in omega arith)
            (λ z. let e : m ≡ j = omega arith in let s = h.0 in omega (arith, ap (λ (k : ℕ). (extent_at w k).range.start) e))

        before : j < m → ⊥
        before g =
            let low : (extent_at w (m - 1)).range.start ≤ a = B.below (omega arith) in
            let wide = B.within in
            by_less ⊥ j (m - 1)
            (λ z. let o = I.order refl j (m - 1) z (omega arith) in let t = h.1 in omega arith)
            (λ z. let e : j ≡ m - 1 = omega arith in off (omega arith) (subst (λ (k : ℕ). ExtentHolds (extent_at w k) a) e h))

    rising-missing : (m : ℕ) → Boundary w n a m → (0 < m → ¬ ExtentHolds (extent_at w (m - 1)) a) → (o : Option GroupAt) → answering ≡ o → HoldingIs a fs o
        → by_choice tray w a None ≡ look_up tray a
    rising-missing m B off none eo all = missing true I none eo refl
    rising-missing m B off (some g) eo f =
        let q = extent-of f.number g f.numbered in
        absurd (outside m q.0 B off q.1 (as-extent true I g q.2 f.holding))

    pub by_search-is : (c : Maybe ℕ) → Searched w n a c → by_choice tray w a c ≡ look_up tray a
    by_search-is (Some k) s = rising-at k s.0 s.1 answering refl (function-is a fs)
    by_search-is None s = rising-missing s.0 s.1 s.2 answering refl (function-is a fs)

pub indexing : Indexing
indexing tray w n a true c I C = by_search-is tray w n a I c (C.searched refl)
indexing tray w n a false c I C = by_pass-is tray w n a I c (C.scanned refl)
