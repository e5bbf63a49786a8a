-- The chain that one pass over the nodes takes is the chain of first children that hold the address.
use mathlib.Core.Path.{◌≡◌, refl, sym, ap, subst, ◌∙◌}
use mathlib.Core.Bool.{Bool, true, false, cond, ◌&&◌, true≢false}
use mathlib.Core.Logic.{inl, inr}
use mathlib.Core.List.{List, [], ◌∷◌, map, cons≢nil}
use mathlib.Core.Option.{some, some-injective}
use Prim.Native.Nat.{ℕ, zero, suc, ◌+◌, ◌-◌, ◌≤◌, ◌<◌}
use native.Mathlib.Omega.{arith}
use native.Mathlib.Decide.{dec_le}
use lib.Dec.{ltb, eqb}
use lib.ListN.{length, drop, length-drop}
use borrow.Author.Tests.{ltb-true, ltb-false, eqb-true, eqb-false, le-leb, lt-ltb, le-ltb, ne_eqb}
use Rattle.tlv.specs.declared.model.AddressRange.{AddressRange}
use Rattle.tlv.specs.Lists.{at, exists}
use Rattle.buffers.specs.Output.{InlineNode}
use Rattle.imports.specs.Ranges.{Holds}
use Rattle.imports.specs.Agree.{ParentOf}
use Rattle.lookup.specs.Tray.{GroupAt, node}
use Rattle.lookup.specs.Lookup.{holds, node_holds, chain_from}
use Rattle.lookup.specs.Means.{depth_of, HoldsAt, FirstChild, ChainFrom, innermost, outer, ChainIs, unheld, from-root, PlacesIn}
use Rattle.lookup.proofs.DemandLaws.{some_holds, at_map, at_less, at-get_or}

-- ---- node depths in preorder: 0, then 1 to the previous plus 1, at most 256

pub record Preorder (depth : ℕ → ℕ) (many : ℕ) : Type 0 where
  pub root : 0 < many → depth 0 ≡ 0
  pub below : (m : ℕ) → 0 < m → m < many → 1 ≤ depth m
  pub step : (m : ℕ) → suc m < many → depth (suc m) ≤ suc (depth m)
  pub shallow : (m : ℕ) → m < many → depth m ≤ 256

-- between a node above depth k and a later one at k or deeper stands one at k - 1
pub between : (depth : ℕ → ℕ) (many : ℕ) → Preorder depth many → (k j g : ℕ) → depth j < k → j + suc g < many → k ≤ depth (j + suc g)
    → (q : ℕ) × (j ≤ q) × (q < j + suc g) × (suc (depth q) ≡ k)
between depth many o k j zero low within high =
    let s = o.step j (omega arith) in
    let e : depth (j + 1) ≡ depth (suc j) = ap depth (omega arith) in
    (j, omega arith, omega arith, omega arith)
between depth many o k j (suc g) low within high = elim (dec_le k (depth (j + suc g))) [
  | yes h ↦ let r = between depth many o k j g low (omega arith) h in (r.0, r.1, omega (arith, r.2), r.3)
  | no h ↦
      let s = o.step (j + suc g) (omega arith) in
      let e : depth (j + suc (suc g)) ≡ depth (suc (j + suc g)) = ap depth (omega arith) in
      (j + suc g, omega arith, omega arith, omega arith)
]

-- ---- suffixes

module _ {A : Type 0} where
  pub suffix_at : (xs : List A) (j : ℕ) (y : A) (ys : List A) → drop j xs ≡ y ∷ ys → at xs j ≡ some y
  unfolding at
  suffix_at [] zero y ys e = absurd (cons≢nil (sym e))
  suffix_at [] (suc j) y ys e = absurd (cons≢nil (sym e))
  suffix_at (x ∷ xs) zero y ys e = cc
  suffix_at (x ∷ xs) (suc j) y ys e = suffix_at xs j y ys e

  pub suffix_next : (xs : List A) (j : ℕ) (y : A) (ys : List A) → drop j xs ≡ y ∷ ys → drop (suc j) xs ≡ ys
  suffix_next [] zero y ys e = absurd (cons≢nil (sym e))
  suffix_next [] (suc j) y ys e = absurd (cons≢nil (sym e))
  suffix_next (x ∷ xs) zero y ys e = cc
  suffix_next (x ∷ xs) (suc j) y ys e = suffix_next xs j y ys e

  pub suffix_end : (xs : List A) (j : ℕ) → drop j xs ≡ [] → length xs ≤ j
  suffix_end xs j e = omega (arith, length-drop j xs, ap length e)

-- ---- the numbers of the chain's nodes

module _ (a : ℕ) (gs : List GroupAt) where
  abbrev pub ns : List InlineNode
  ns = map node gs

  abbrev pub depth : ℕ → ℕ
  depth m = depth_of ns m

  pub numbers_from : ℕ → ℕ → List GroupAt → List ℕ
  numbers_from j k [] = []
  numbers_from j k (n ∷ ms) =
      cond (ltb (node n).depth k) []
      (cond (eqb (node n).depth k && node_holds a n) (j ∷ numbers_from (suc j) (suc k) ms)
      (numbers_from (suc j) k ms))

  -- a node of the suffix, by its number
  depth-at : (j : ℕ) (n : GroupAt) → at gs j ≡ some n → depth j ≡ (node n).depth
  depth-at j n e = at-get_or (map (λ x. x.depth) ns) j (node n).depth 0 (at_map (λ x. x.depth) ns j (node n) (at_map node gs j n e))

  holds_at : (j : ℕ) (n : GroupAt) → at gs j ≡ some n → node_holds a n ≡ true → HoldsAt ns a j
  holds_at j n e h = record { node = node n; numbered = at_map node gs j n e; holds = some_holds a (node n).ranges h }

  length-nodes : (xs : List GroupAt) → length (map node xs) ≡ length xs
  length-nodes [] = refl
  length-nodes (x ∷ xs) = rw (length-nodes xs)

  held-within : (m : ℕ) → HoldsAt ns a m → m < length gs
  held-within m h = rw (length-nodes gs) at (at_less ns m h.node h.numbered)

  holds-exists : (rs : List AddressRange) → Holds rs a → exists (holds a) rs ≡ true
  unfolding exists
  holds-exists [] x' = elim x' [ ]
  holds-exists (r ∷ rs) (inl h) = rw (le-leb r.start a h.0, lt-ltb a r.end h.1)
  holds-exists (r ∷ rs) (inr h) = go (holds a r) (holds-exists rs h)
    where
      go : (b : Bool) → exists (holds a) rs ≡ true → cond b true (exists (holds a) rs) ≡ true
      go true e = refl
      go false e = e

  -- a node that does not hold it
  holds_not : (j : ℕ) (n : GroupAt) → at gs j ≡ some n → node_holds a n ≡ false → ¬ HoldsAt ns a j
  holds_not j n e f h =
      let same : h.node ≡ node n = some-injective _ _ (sym h.numbered ∙ at_map node gs j n e) in
      let t = holds-exists (node n).ranges (subst (λ (x : InlineNode). Holds x.ranges a) same h.holds) in
      true≢false (sym t ∙ f)

  -- p is the last of the chain so far; the nodes behind it, before number j, are below it, and none of its children among them holds the address
  record Under (p j k : ℕ) : Type 0 where
    level : suc (depth p) ≡ k
    before : p < j
    deeper : (m : ℕ) → p < m → m < j → k ≤ depth m
    passed : (m : ℕ) → p < m → m < j → depth m ≡ k → ¬ HoldsAt ns a m

  module _ (o : Preorder depth (length gs)) (p j k : ℕ) (u : Under p j k) where
    -- a child that holds it does not stand before number j
    not-before : (m : ℕ) → ParentOf depth m p → HoldsAt ns a m → j ≤ m
    not-before m par h = elim (dec_le j m) [
      | yes l ↦ l
      | no l ↦ let lv = u.level in let up = par.higher in absurd (u.passed m par.earlier (omega arith) (omega arith) h)
    ]

    ends-here : length gs ≤ j → ChainFrom ns a p (p ∷ [])
    ends-here l = innermost (λ m par h. let x = not-before m par h in let y = held-within m h in omega arith)

    -- the next node is not below p
    leaves-here : depth j < k → ChainFrom ns a p (p ∷ [])
    leaves-here low = innermost no-child
      where
        no-child : (m : ℕ) → ParentOf depth m p → ¬ HoldsAt ns a m
        no-child m par h =
            let x = not-before m par h in
            let y = held-within m h in
            let lv = u.level in
            let up = par.higher in
            let b = u.before in
            elim (dec_le m j) [
              | yes l ↦ let e : depth m ≡ depth j = ap depth (omega arith) in omega arith
              | no l ↦
                  let e : j + suc (m - suc j) ≡ m = omega arith in
                  let q = between depth (length gs) o k j (m - suc j) low (rw e y) (rw e (omega arith)) in
                  let q2 = q.2 in
                  let q3 = q.3 in
                  let q1 = q.1 in
                  par.last q.0 (omega arith) (omega arith) (omega arith)
            ]

    first-child : depth j ≡ k → HoldsAt ns a j → FirstChild ns a p j
    first-child e h = record {
      child = record {
        earlier = u.before;
        higher = u.level ∙ sym e;
        last = λ q l m f. let d = u.deeper q l m in omega arith;
      };
      holding = h;
      first = λ m l par x. let y = not-before m par x in omega arith;
    }

    -- the node is below p, and no child that holds it
    pass : k ≤ depth j → (depth j ≡ k → ¬ HoldsAt ns a j) → Under p (suc j) k
    pass deep off = record {
      level = u.level;
      before = let b = u.before in omega arith;
      deeper = λ m l q. elim (dec_le j m) [ yes h ↦ let e : depth m ≡ depth j = ap depth (omega arith) in omega arith | no h ↦ u.deeper m l (omega arith) ];
      passed = λ m l q e.
          elim (dec_le j m) [
            | yes h ↦ let s : m ≡ j = omega arith in subst (λ (x : ℕ). ¬ HoldsAt ns a x) (sym s) (off (ap depth (sym s) ∙ e))
            | no h ↦ u.passed m l (omega arith) e
          ];
    }

    -- the node is the next of the chain
    take_next : depth j ≡ k → Under j (suc j) (suc k)
    take_next e = record { level = ap suc e; before = omega arith; deeper = λ m l q. absurd (omega arith); passed = λ m l q. absurd (omega arith) }

  -- the places of those numbers are the chain
  pub placed : (ms : List GroupAt) (j k : ℕ) → drop j gs ≡ ms → PlacesIn gs (numbers_from j k ms) (chain_from a k ms)
  unfolding numbers_from chain_from
  placed [] j k e = tt
  placed (n ∷ ms) j k e = go (ltb (node n).depth k) (eqb (node n).depth k && node_holds a n) (placed ms (suc j) (suc k) next) (placed ms (suc j) k next)
    where
      next : drop (suc j) gs ≡ ms
      next = suffix_next gs j n ms e

      go : (b c : Bool) → PlacesIn gs (numbers_from (suc j) (suc k) ms) (chain_from a (suc k) ms) → PlacesIn gs (numbers_from (suc j) k ms) (chain_from a k ms)
          → PlacesIn gs (cond b [] (cond c (j ∷ numbers_from (suc j) (suc k) ms) (numbers_from (suc j) k ms)))
          (cond b [] (cond c (n.place ∷ chain_from a (suc k) ms) (chain_from a k ms)))
      go true c x y = tt
      go false true x y = ((n, suffix_at gs j n ms e, refl), x)
      go false false x y = y

  module _ (o : Preorder depth (length gs)) where
    abbrev Runs : ℕ → ℕ → ℕ → List GroupAt → Type 0
    Runs p j k ms = drop j gs ≡ ms → Under p j k → ChainFrom ns a p (p ∷ numbers_from j k ms)

    run : (ms : List GroupAt) (p j k : ℕ) → Runs p j k ms
    unfolding numbers_from
    run [] p j k e u = ends-here o p j k u (suffix_end gs j e)
    run (n ∷ ms) p j k e u =
        go (ltb (node n).depth k) refl (eqb (node n).depth k) refl (node_holds a n) refl (run ms j (suc j) (suc k) next) (run ms p (suc j) k next)
      where
        here : at gs j ≡ some n
        here = suffix_at gs j n ms e

        next : drop (suc j) gs ≡ ms
        next = suffix_next gs j n ms e

        deep : depth j ≡ (node n).depth
        deep = depth-at j n here

        go : (b : Bool) → ltb (node n).depth k ≡ b → (c : Bool) → eqb (node n).depth k ≡ c → (h : Bool) → node_holds a n ≡ h
            → (Under j (suc j) (suc k) → ChainFrom ns a j (j ∷ numbers_from (suc j) (suc k) ms))
            → (Under p (suc j) k → ChainFrom ns a p (p ∷ numbers_from (suc j) k ms))
            → ChainFrom ns a p (p ∷ cond b [] (cond (c && h) (j ∷ numbers_from (suc j) (suc k) ms) (numbers_from (suc j) k ms)))
        go true x c y h z inner on = let l : (node n).depth < k = ltb-true _ _ x in leaves-here o p j k u (omega (arith, deep))
        go false x true y true z inner on =
            let s : depth j ≡ k = deep ∙ eqb-true _ _ y in
            outer (first-child o p j k u s (holds_at j n here z)) (inner (take_next o p j k u s))
        go false x true y false z inner on =
            let l : k ≤ (node n).depth = ltb-false _ _ x in on (pass o p j k u (omega (arith, deep)) (λ _. holds_not j n here z))
        go false x false y h z inner on =
            let l : k ≤ (node n).depth = ltb-false _ _ x in on (pass o p j k u (omega (arith, deep)) (λ s. absurd (eqb-false _ _ y (sym deep ∙ s))))

    -- below a root that does not hold it none is taken: no node but the first has depth 0
    none-taken : (ms : List GroupAt) (j : ℕ) → drop (suc j) gs ≡ ms → numbers_from (suc j) 0 ms ≡ []
    unfolding numbers_from
    none-taken [] j e = refl
    none-taken (n ∷ ms) j e =
        let here = suffix_at gs (suc j) n ms e in
        let deep = depth-at (suc j) n here in
        let b = o.below (suc j) (omega arith) (at_less gs (suc j) n here) in
        go (node n).depth (omega arith) (none-taken ms (suc j) (suffix_next gs (suc j) n ms e))
      where
        go : (d : ℕ) → 1 ≤ d → numbers_from (suc (suc j)) 0 ms ≡ []
            → cond (ltb d 0) [] (cond (eqb d 0 && node_holds a n) (suc j ∷ numbers_from (suc (suc j)) 1 ms) (numbers_from (suc (suc j)) 0 ms)) ≡ []
        go d h ih = rw (le-ltb d 0 (omega arith), ne_eqb d 0 (λ e. omega arith)) ih

    pub whole : (ms : List GroupAt) → gs ≡ ms → ChainIs ns a (numbers_from 0 0 ms)
    unfolding numbers_from
    whole [] e = unheld (λ h. let l = held-within 0 h in let z = ap length e in omega arith)
    whole (n ∷ ms) e =
        let here = suffix_at gs 0 n ms e in
        let next = suffix_next gs 0 n ms e in
        let deep = depth-at 0 n here in
        let r = o.root (at_less gs 0 n here) in
        let zero-deep : (node n).depth ≡ 0 = omega arith in
        rw zero-deep (go (node_holds a n) refl here next r)
      where
        go : (h : Bool) → node_holds a n ≡ h → at gs 0 ≡ some n → drop 1 gs ≡ ms → depth 0 ≡ 0
            → ChainIs ns a (cond h (0 ∷ numbers_from 1 1 ms) (numbers_from 1 0 ms))
        go true z here next r = from-root (holds_at 0 n here z)
            (run ms 0 1 1 next (record {
              level = ap suc r;
              before = omega arith;
              deeper = λ m l q. absurd (omega arith);
              passed = λ m l q. absurd
                  (omega arith);
            }))
        go false z here next r = subst (λ (l : List ℕ). ChainIs ns a l) (sym (none-taken ms 0 next)) (unheld (holds_not 0 n here z))

    -- at most 257: a node's depth is its place in the chain
    pub few : (ms : List GroupAt) (j k : ℕ) → drop j gs ≡ ms → k ≤ 257 → length (chain_from a k ms) ≤ 257 - k
    unfolding chain_from
    few [] j k e l = omega arith
    few (n ∷ ms) j k e l = go (ltb (node n).depth k) (eqb (node n).depth k) refl (node_holds a n) (few ms (suc j) (suc k) next) (few ms (suc j) k next l)
      where
        here : at gs j ≡ some n
        here = suffix_at gs j n ms e

        next : drop (suc j) gs ≡ ms
        next = suffix_next gs j n ms e

        go : (b c : Bool) → eqb (node n).depth k ≡ c → (h : Bool) → (suc k ≤ 257 → length (chain_from a (suc k) ms) ≤ 257 - suc k)
            → length (chain_from a k ms) ≤ 257 - k
            → length (cond b [] (cond (c && h) (n.place ∷ chain_from a (suc k) ms) (chain_from a k ms))) ≤ 257 - k
        go true c y h inner on = omega arith
        go false true y true inner on =
            let s : (node n).depth ≡ k = eqb-true _ _ y in
            let deep = depth-at j n here in
            let d = o.shallow j (at_less gs j n here) in
            let q = inner (omega arith) in
            omega arith
        go false true y false inner on = on
        go false false y h inner on = on
