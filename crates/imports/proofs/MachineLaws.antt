-- The stack machine gives the nodes of the kept entries.
use mathlib.Core.Path.{◌≡◌, refl, sym, ap, ap₂, subst, ◌∙◌}
use mathlib.Core.Logic.{◌⊎◌, inl, inr}
use mathlib.Core.List.{List, [], ◌∷◌, map, cons≢nil}
use mathlib.Core.Bool.{Bool, true, false, cond}
use Prim.Native.Nat.{ℕ, zero, suc, ◌+◌, ◌≤◌, ◌<◌}
use native.Mathlib.Omega.{arith}
use native.Mathlib.Nat.{eq-or-lt_of_le}
use lib.Dec.{leb, ltb, eqb}
use lib.ListN.{length, drop, length-map, get_or-eq_default}
use borrow.Author.Tests.{eqb-true, eqb-false, ltb-true, ltb-false, leb-true, le-leb, lt-leb}
use Rattle.tlv.specs.declared.model.AddressRange.{AddressRange}
use Rattle.tlv.specs.Lists.{All}
use Rattle.tlv.specs.Outcome.{refused, done}
use Rattle.tlv.proofs.TestLaws.{by_test, by_less}
use Rattle.tlv.proofs.PlaceLaws.{front_is, front_next}
use Rattle.tlv.proofs.OutcomeLaws.{refused-not}
use Rattle.imports.specs.Tree.{InlineFrame, finish_inlines, parent_ranges}
use Rattle.imports.specs.Agree.{TreeEntry, TreeNode, entry, entry_depth, Kept}
use Rattle.imports.proofs.StackMachine.{Walked, keep, and_then, push_node, one_entry, run, tree}
use Rattle.imports.proofs.ListAgree.{Steps}
use Rattle.imports.proofs.Chain.{Held, top_held, add, above_one, above, merged, ChainOf, chain}
use Rattle.imports.proofs.Numbers.{number_if, kept_from}

module _ (es : List TreeEntry) where
  -- the frames of kept entries
  abbrev pub frame : Held → InlineFrame
  frame k = record { die_depth = entry_depth es k.number; ranges = k.ranges }

  abbrev pub frames : List Held → List InlineFrame
  frames ks = map frame ks

  -- popping, on kept entries
  pub pop_held : ℕ → List Held → List Held
  pop_held d [] = []
  pop_held d (k ∷ ks) = cond (leb d (entry_depth es k.number)) (pop_held d ks) (k ∷ ks)

  pop-frames : (d : ℕ) (ks : List Held) → finish_inlines d (frames ks) ≡ frames (pop_held d ks)
  unfolding finish_inlines pop_held
  pop-frames d [] = refl
  pop-frames d (k ∷ ks) = go (leb d (entry_depth es k.number)) (pop-frames d ks)
    where
      go : (b : Bool) → finish_inlines d (frames ks) ≡ frames (pop_held d ks) → cond b (finish_inlines d (frames ks)) (frame k ∷ frames ks) ≡ frames (cond b (pop_held d ks) (k ∷ ks))
      go true ih = ih
      go false ih = refl

  top-frames : (f : AddressRange) (ks : List Held) → parent_ranges f (frames ks) ≡ top_held f ks
  top-frames f [] = refl
  top-frames f (k ∷ ks) = refl

  -- a second finish to no greater depth is all that counts
  pop_pop : (c d : ℕ) (ks : List Held) → c ≤ d → pop_held c (pop_held d ks) ≡ pop_held c ks
  unfolding pop_held
  pop_pop c d [] h = refl
  pop_pop c d (k ∷ ks) h = go (leb d (entry_depth es k.number)) refl (pop_pop c d ks h)
    where
      go : (b : Bool) → leb d (entry_depth es k.number) ≡ b → pop_held c (pop_held d ks) ≡ pop_held c ks → pop_held c (cond b (pop_held d ks) (k ∷ ks)) ≡ pop_held c (k ∷ ks)
      go true e ih = let l = leb-true d (entry_depth es k.number) e in ih ∙ rw (le-leb c (entry_depth es k.number) (omega arith))
      go false e ih = refl

  -- Each entry is at most one deeper than the one before, past the end too
  pub steps_on : Steps es → (i : ℕ) → entry_depth es (suc i) ≤ suc (entry_depth es i)
  steps_on h i = by_less (entry_depth es (suc i) ≤ suc (entry_depth es i)) (suc i) (length es) (h i)
      (λ l. let z : entry_depth es (suc i) ≡ 0 = ap (λ x. x.depth) (get_or-eq_default es (record { depth = 0; tag = 0; name = []; ranges = [] }) l) in omega arith)

module _ (f : AddressRange) (es : List TreeEntry) (steps : (i : ℕ) → entry_depth es (suc i) ≤ suc (entry_depth es i)) where
  -- the open nodes after n entries
  pub stack : ℕ → List Held
  stack zero = []
  stack (suc n) = add n (merged f es n) (above f es (entry_depth es n) n)

  -- the depths that may come next
  abbrev Next : ℕ → ℕ → Type 0
  Next zero d = Unit {0}
  Next (suc n) d = d ≤ suc (entry_depth es n)

  next : (n d : ℕ) → d ≤ entry_depth es n → Next n d
  next zero d h = tt
  next (suc n) d h = omega (arith, steps n)

  -- what is less deep than d is not popped
  pop-stays : (d : ℕ) (ks : List Held) (c n : ℕ) → c ≤ d → ChainOf f es c n ks → pop_held es d ks ≡ ks
  unfolding pop_held
  pop-stays d [] c n h k = refl
  pop-stays d (x ∷ ks) c n h k = rw (lt-leb d (entry_depth es x.number) (omega (arith, k.higher)))

  pop_add : (d n : ℕ) (ms : List AddressRange) (ks : List Held) → d ≤ entry_depth es n → pop_held es d (add n ms ks) ≡ pop_held es d ks
  unfolding pop_held
  pop_add d n [] ks h = refl
  pop_add d n (m ∷ ms) ks h = rw (le-leb d (entry_depth es n) h)

  pop_add-stays : (d n : ℕ) (ms : List AddressRange) → entry_depth es n < d → pop_held es d (add n ms (above f es (entry_depth es n) n)) ≡ add n ms (above f es (entry_depth es n) n)
  unfolding pop_held
  pop_add-stays d n [] h = pop-stays d (above f es (entry_depth es n) n) (entry_depth es n) n (omega arith) (chain f es (entry_depth es n) n)
  pop_add-stays d n (m ∷ ms) h = rw (lt-leb d (entry_depth es n) h)

  -- popping leaves the kept ancestors
  pub popped : (n d : ℕ) → Next n d → pop_held es d (stack n) ≡ above f es d n
  unfolding stack above pop_held merged
  popped zero d h = refl
  popped (suc n) d h = go (eqb (suc (entry_depth es n)) d) refl (λ c k. popped n c k)
    where
      go : (b : Bool) → eqb (suc (entry_depth es n)) d ≡ b → ((c : ℕ) → Next n c → pop_held es c (stack n) ≡ above f es c n) → pop_held es d (stack (suc n)) ≡ above_one f es b d n (λ c. above f es c n)
      go true e ih = let q = eqb-true (suc (entry_depth es n)) d e in pop_add-stays d n (merged f es n) (omega arith)
      go false e ih =
          let q = eqb-false (suc (entry_depth es n)) d e in
          let l : d ≤ entry_depth es n = omega arith in
          pop_add d n (merged f es n) (above f es (entry_depth es n) n) l ∙ ap (pop_held es d) (sym (ih (entry_depth es n) (next n (entry_depth es n) (omega arith)))) ∙ pop_pop es d (entry_depth es n) (stack n) l ∙ ih d (next n d l)

  -- ---- the machine's nodes

  unfoldable pub node_of : ℕ → TreeNode
  node_of i = record { depth = suc (length (above f es (entry_depth es i) i)); name = (entry es i).name; ranges = merged f es i }

  -- the nodes are those of the entries, none too deep
  pub record NodesOf (ns : List TreeNode) (is : List ℕ) : Type 0 where
    pub nodes : ns ≡ map node_of is
    pub shallow : All (λ i. length (above f es (entry_depth es i) i) < 256) is

  -- one entry: the machine asks what the definition of the kept entries asks
  one : (n : ℕ) (rest : List TreeEntry) (o : Walked) → run f (frames es (stack n)) (entry es n ∷ rest) ≡ o →
      one_entry (entry es n) (merged f es n) (frames es (above f es (entry_depth es n) n)) (λ t. run f t rest) ≡ o
  unfolding run merged
  one n rest o h =
      subst (λ (ps : List AddressRange). one_entry (entry es n) (keep ps (entry es n)) (frames es (above f es (entry_depth es n) n)) (λ t. run f t rest) ≡ o) (top-frames es f (above f es (entry_depth es n) n))
      (subst (λ (st : List InlineFrame). one_entry (entry es n) (keep (parent_ranges f st) (entry es n)) st (λ t. run f t rest) ≡ o)
      (pop-frames es (entry_depth es n) (stack n) ∙ ap (frames es) (popped n (entry_depth es n) (next n (entry_depth es n) (omega arith)))) h)

  module _ (n : ℕ) (rest : List TreeEntry) (is : List ℕ) where
    abbrev More : List AddressRange → Type 0
    More ms = (ns : List TreeNode) → run f (frames es (add n ms (above f es (entry_depth es n) n))) rest ≡ done ns → NodesOf ns is

    node-path : (m : AddressRange) (ms : List AddressRange) → merged f es n ≡ m ∷ ms →
        ◌≡◌ {A = TreeNode} (record { depth = suc (length (frames es (above f es (entry_depth es n) n))); name = (entry es n).name; ranges = m ∷ ms }) (node_of n)
    unfolding node_of
    node-path m ms e i = record { depth = suc (length-map (above f es (entry_depth es n) n) (frame es) i); name = (entry es n).name; ranges = sym e i }

    pushed : (m : AddressRange) (ms : List AddressRange) → merged f es n ≡ m ∷ ms → More (m ∷ ms) → (ns : List TreeNode) → length (above f es (entry_depth es n) n) < 256 →
        (o : Walked) → run f (frames es (add n (m ∷ ms) (above f es (entry_depth es n) n))) rest ≡ o →
        and_then (record { depth = suc (length (frames es (above f es (entry_depth es n) n))); name = (entry es n).name; ranges = m ∷ ms }) o ≡ done ns → NodesOf ns (n ∷ is)
    pushed m ms e more ns l (refused k) q h = refused-not h
    pushed m ms e more ns l (done rs) q h =
        let t = more rs q in
        let p : ns ≡ record { depth = suc (length (frames es (above f es (entry_depth es n) n))); name = (entry es n).name; ranges = m ∷ ms } ∷ rs = cc in
        record { nodes = p ∙ ap₂ ◌∷◌ (node-path m ms e) t.nodes; shallow = (l, t.shallow) }

    stepped : (ms : List AddressRange) → merged f es n ≡ ms → More ms → (ns : List TreeNode) → one_entry (entry es n) ms (frames es (above f es (entry_depth es n) n)) (λ t. run f t rest) ≡ done ns → NodesOf ns (number_if n ms is)
    stepped [] e more ns h = more ns h
    stepped (m ∷ ms) e more ns h = go (ltb (length (frames es (above f es (entry_depth es n) n))) 256) refl h
      where
        go : (b : Bool) → ltb (length (frames es (above f es (entry_depth es n) n))) 256 ≡ b → push_node b (entry es n) (m ∷ ms) (frames es (above f es (entry_depth es n) n)) (λ t. run f t rest) ≡ done ns → NodesOf ns (n ∷ is)
        go true q k =
            pushed m ms e more ns (omega (arith, ltb-true (length (frames es (above f es (entry_depth es n) n))) 256 q, length-map (above f es (entry_depth es n) n) (frame es))) (run f (frames es (add n (m ∷ ms) (above f es (entry_depth es n) n))) rest) refl k
        go false q k = refused-not k

  pub ran : (rest : List TreeEntry) (n : ℕ) → drop n es ≡ rest → (ns : List TreeNode) → run f (frames es (stack n)) rest ≡ done ns → NodesOf ns (kept_from (merged f es) n (length rest))
  unfolding run kept_from stack
  ran [] n q ns h = let p : ns ≡ [] = cc in record { nodes = p; shallow = tt }
  ran (e ∷ rest) n q ns h =
      stepped n rest (kept_from (merged f es) (suc n) (length rest)) (merged f es n) refl (λ rs k. ran rest (suc n) (front_next n es e rest q) rs k) ns
      (one n rest (done ns) (subst (λ (x : TreeEntry). run f (frames es (stack n)) (x ∷ rest) ≡ done ns) (sym (front_is n es e rest q _)) h))

  pub tree-nodes : (ns : List TreeNode) → tree f es ≡ done ns → NodesOf ns (kept_from (merged f es) 0 (length es))
  unfolding tree stack
  tree-nodes ns h = ran es 0 refl ns h

  -- ---- a refusal: a kept entry with 256 kept ancestors or more

  pub record DeepAt (i : ℕ) : Type 0 where
    pub kept : Kept (merged f es) i
    pub deep : 256 ≤ length (above f es (entry_depth es i) i)

  module _ (k n : ℕ) (rest : List TreeEntry) where
    abbrev Found : ℕ → ℕ → Type 0
    Found n m = (k ≡ 14) × ((i : ℕ) × (n ≤ i) × (i < n + m) × DeepAt i)

    deep-pushed : (m : AddressRange) (ms : List AddressRange) → (run f (frames es (add n (m ∷ ms) (above f es (entry_depth es n) n))) rest ≡ refused k → Found (suc n) (length rest)) → (nd : TreeNode) →
        (o : Walked) → run f (frames es (add n (m ∷ ms) (above f es (entry_depth es n) n))) rest ≡ o → and_then nd o ≡ refused k → Found (suc n) (length rest)
    deep-pushed m ms more nd (done rs) q h = refused-not (sym h)
    deep-pushed m ms more nd (refused c) q h = more (q ∙ h)

    wider : Found (suc n) (length rest) → Found n (suc (length rest))
    wider t = (t.0, (t.1.0, omega arith, omega arith, t.1.3))

    deep-stepped : (ms : List AddressRange) → merged f es n ≡ ms → (run f (frames es (add n ms (above f es (entry_depth es n) n))) rest ≡ refused k → Found (suc n) (length rest)) →
        one_entry (entry es n) ms (frames es (above f es (entry_depth es n) n)) (λ t. run f t rest) ≡ refused k → Found n (suc (length rest))
    deep-stepped [] e more h = wider (more h)
    deep-stepped (m ∷ ms) e more h = go (ltb (length (frames es (above f es (entry_depth es n) n))) 256) refl h
      where
        go : (b : Bool) → ltb (length (frames es (above f es (entry_depth es n) n))) 256 ≡ b → push_node b (entry es n) (m ∷ ms) (frames es (above f es (entry_depth es n) n)) (λ t. run f t rest) ≡ refused k → Found n (suc (length rest))
        go true q h = wider (deep-pushed m ms more _ (run f (frames es (add n (m ∷ ms) (above f es (entry_depth es n) n))) rest) refl h)
        go false q h =
            (cc, (n, omega arith, omega arith, record { kept = λ z. cons≢nil (sym e ∙ z); deep = omega (arith, ltb-false (length (frames es (above f es (entry_depth es n) n))) 256 q, length-map (above f es (entry_depth es n) n) (frame es)) }))

  refused-at : (k : ℕ) (rest : List TreeEntry) (n : ℕ) → drop n es ≡ rest → run f (frames es (stack n)) rest ≡ refused k → (k ≡ 14) × ((i : ℕ) × (n ≤ i) × (i < n + length rest) × DeepAt i)
  unfolding run stack
  refused-at k [] n q h = refused-not (sym h)
  refused-at k (e ∷ rest) n q h =
      deep-stepped k n rest (merged f es n) refl (λ g. refused-at k rest (suc n) (front_next n es e rest q) g)
      (one n rest (refused k) (subst (λ (x : TreeEntry). run f (frames es (stack n)) (x ∷ rest) ≡ refused k) (sym (front_is n es e rest q _)) h))

  pub tree-refused : (k : ℕ) → tree f es ≡ refused k → (k ≡ 14) × ((i : ℕ) × (0 ≤ i) × (i < 0 + length es) × DeepAt i)
  unfolding tree stack
  tree-refused k h = refused-at k es 0 refl h

  -- ---- a node of less depth does not stand between an open node and what comes next

  -- each kept entry after an open one, up to n, stands below it
  abbrev pub Guard : ℕ → List Held → Type 0
  Guard n [] = Unit {0}
  Guard n (k ∷ ks) = ((q : ℕ) → k.number < q → q < n → Kept (merged f es) q → length ks < length (above f es (entry_depth es q) q)) × Guard n ks

  guard_pop : (n d : ℕ) (ks : List Held) → Guard n ks → Guard n (pop_held es d ks)
  unfolding pop_held
  guard_pop n d [] g = tt
  guard_pop n d (k ∷ ks) g = by_test (Guard n) (leb d (entry_depth es k.number)) (λ e. guard_pop n d ks g.1) (λ e. g)

  guard_more : (n : ℕ) (ks : List Held) → length ks ≤ length (above f es (entry_depth es n) n) → Guard n ks → Guard (suc n) ks
  guard_more n [] l g = tt
  guard_more n (k ∷ ks) l g = (λ q h i. go q h (le-or q i), guard_more n ks (omega arith) g.1)
    where
      le-or : (q : ℕ) → q < suc n → (q ≡ n) ⊎ (q < n)
      le-or q i = eq-or-lt_of_le (omega arith)

      go : (q : ℕ) → k.number < q → (q ≡ n) ⊎ (q < n) → Kept (merged f es) q → length ks < length (above f es (entry_depth es q) q)
      go q h (inl e) p = rw e (omega arith)
      go q h (inr i) p = g.0 q h i p

  pub guard : (n : ℕ) → Guard n (stack n)
  unfolding stack
  guard zero = tt
  guard (suc n) = put (merged f es n) (guard_more n (above f es (entry_depth es n) n) (omega arith) (rw (popped n (entry_depth es n) (next n (entry_depth es n) (omega arith))) at (guard_pop n (entry_depth es n) (stack n) (guard n))))
    where
      put : (ms : List AddressRange) → Guard (suc n) (above f es (entry_depth es n) n) → Guard (suc n) (add n ms (above f es (entry_depth es n) n))
      put [] g = g
      put (m ∷ ms) g = (λ q h i. absurd (omega arith), g)

  pub guard-above : (n : ℕ) → Guard n (above f es (entry_depth es n) n)
  guard-above n = rw (popped n (entry_depth es n) (next n (entry_depth es n) (omega arith))) at (guard_pop n (entry_depth es n) (stack n) (guard n))
