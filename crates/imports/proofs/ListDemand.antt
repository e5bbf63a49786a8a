-- Demand 3: a finished tree agrees with the entries.
use mathlib.Core.Path.{◌≡◌, refl, sym, ap, subst, ◌∙◌}
use mathlib.Core.Logic.{◌⊎◌, inl, inr, ◌≢◌}
use mathlib.Core.Option.{Option, none, some}
use mathlib.Core.List.{List, [], ◌∷◌}
use Prim.Native.Nat.{ℕ, zero, suc, ◌+◌, ◌≤◌, ◌<◌}
use native.Mathlib.Omega.{arith}
use native.Mathlib.Nat.{eq-or-lt_of_le}
use lib.ListN.{length, get_or, length-map}
use Rattle.tlv.specs.declared.model.AddressRange.{AddressRange}
use Rattle.tlv.specs.Outcome.{done, refused}
use Rattle.tlv.proofs.TestLaws.{by_less}
use Rattle.tlv.proofs.PlaceLaws.{all_get_or, get_or_image}
use Rattle.imports.specs.Agree.{TreeEntry, TreeNode, root_of, ParentOf, entry, entry_depth, Kept, against, Rule, node, node_depth, NodeOf, root, below}
use Rattle.imports.proofs.StackMachine.{Walked, tree}
use Rattle.imports.proofs.ListAgree.{Steps, ListNearestOf, ListPair, ListAgree, ListTooDeep, ListAnswer, ListDemand}
use Rattle.imports.proofs.Chain.{Held, above, merged, Head, ChainOf, chain, rule_of, judged, merged-within, height}
use Rattle.imports.proofs.Numbers.{kept_from, kept-among, kept-ascending, kept-onto}
use Rattle.imports.proofs.MachineLaws.{steps_on, node_of, NodesOf, tree-nodes, tree-refused, Guard, guard-above}

module _ (f : AddressRange) (es : List TreeEntry) (ns : List TreeNode) (steps : (i : ℕ) → entry_depth es (suc i) ≤ suc (entry_depth es i)) (done : tree f es ≡ done ns) where
  kept-numbers : List ℕ
  kept-numbers = kept_from (merged f es) 0 (length es)

  made : NodesOf f es steps ns kept-numbers
  unfolding kept-numbers
  made = tree-nodes f es steps ns done

  entry_of : ℕ → ℕ
  entry_of j = get_or kept-numbers j 0

  level : ℕ → ℕ
  level i = length (above f es (entry_depth es i) i)

  long : length ns ≡ length kept-numbers
  long = ap length made.nodes ∙ length-map kept-numbers (node_of f es steps)

  node_at : (j : ℕ) → j < length ns → node f ns (suc j) ≡ node_of f es steps (entry_of j)
  unfolding entry_of
  node_at j l = ap (λ (l : List TreeNode). get_or l j (root_of f [])) made.nodes ∙ get_or_image (node_of f es steps) kept-numbers j 0 (root_of f []) (omega (arith, long))

  depth-at : (j : ℕ) → j < length ns → node_depth f ns (suc j) ≡ suc (level (entry_of j))
  unfolding node_of level
  depth-at j l = ap (λ (n : TreeNode). n.depth) (node_at j l)

  kept_at : (j : ℕ) → j < length ns → (0 ≤ entry_of j) × (entry_of j < 0 + length es) × Kept (merged f es) (entry_of j)
  unfolding entry_of kept-numbers
  kept_at j l = all_get_or (λ i. (0 ≤ i) × (i < 0 + length es) × Kept (merged f es) i) kept-numbers j 0 (kept-among (merged f es) 0 (length es)) (omega (arith, long))

  shallow-at : (j : ℕ) → j < length ns → level (entry_of j) < 256
  unfolding entry_of level
  shallow-at j l = all_get_or (λ i. length (above f es (entry_depth es i) i) < 256) kept-numbers j 0 made.shallow (omega (arith, long))

  ascending : (j k : ℕ) → j < k → k < length ns → entry_of j < entry_of k
  unfolding entry_of kept-numbers
  ascending j k h l = kept-ascending (merged f es) 0 (length es) j k h (omega (arith, long))

  onto : (i : ℕ) → i < length es → Kept (merged f es) i → (j : ℕ) × (j < length ns) × (entry_of j ≡ i)
  unfolding entry_of kept-numbers
  onto i l k = let t = kept-onto (merged f es) 0 (length es) i (omega arith) (omega arith) k in (t.0, omega (arith, long), t.2)

  -- the place of an earlier kept entry is earlier
  sooner : (x j : ℕ) → x < length ns → entry_of x < entry_of j → x < j
  sooner x j l h = by_less (x < j) x j (λ k. k) (λ k. absurd (later (eq-or-lt_of_le k)))
    where
      later : (j ≡ x) ⊎ (j < x) → ⊥
      later (inl e) = omega (arith, ap entry_of e)
      later (inr g) = omega (arith, ascending j x g l)

  module _ (j : ℕ) (l : j < length ns) where
    -- the root is the parent where the level is 0
    parent-root : level (entry_of j) ≡ 0 → ParentOf (node_depth f ns) (suc j) 0
    parent-root h = record { earlier = omega arith; higher = omega (arith, depth-at j l); last = last }
      where
        last : (k : ℕ) → 0 < k → k < suc j → suc (node_depth f ns k) ≢ node_depth f ns (suc j)
        last zero a b = absurd (omega arith)
        last (suc k) a b = omega (arith, depth-at j l, depth-at k (omega arith))

    -- the node of the nearest kept ancestor is the parent
    parent-node : (x : ℕ) (k : Held) (ks : List Held) → x < length ns → entry_of x ≡ k.number → above f es (entry_depth es (entry_of j)) (entry_of j) ≡ k ∷ ks → Head f es (entry_depth es (entry_of j)) (entry_of j) k ks →
        ParentOf (node_depth f ns) (suc j) (suc x)
    unfolding level
    parent-node x k ks m e a c = record { earlier = omega (arith, before); higher = omega (arith, depth-at j l, depth-at x m, mine, its); last = last }
      where
        before : x < j
        before = sooner x j m (omega (arith, c.earlier))

        mine : level (entry_of j) ≡ suc (length ks)
        mine = ap length a

        its : level (entry_of x) ≡ length ks
        its = ap (λ (i : ℕ). length (above f es (entry_depth es i) i)) e ∙ ap length (sym c.tail)

        last : (y : ℕ) → suc x < y → y < suc j → suc (node_depth f ns y) ≢ node_depth f ns (suc j)
        last zero g h = absurd (omega arith)
        last (suc y) g h =
            let u : y < length ns = omega arith in
            let lower : length ks < level (entry_of y) = (subst (Guard f es steps (entry_of j)) a (guard-above f es steps (entry_of j))).0 (entry_of y) (omega (arith, ascending x y (omega arith) u)) (ascending y j (omega arith) l) (kept_at y u).2 in
            omega (arith, depth-at j l, depth-at y u, mine)

    paired : (up : Option ℕ) → ListNearestOf es (merged f es) (entry_of j) up → Rule (against f (merged f es) up) (merged f es (entry_of j)) (entry es (entry_of j)) →
        (u : ℕ) → NodeOf entry_of (length ns) up u → ParentOf (node_depth f ns) (suc j) u → ListPair f es ns (merged f es) entry_of j
    unfolding node_of
    paired up near rule u stands parent = record {
      among = omega (arith, (kept_at j l).1);
      kept = (kept_at j l).2;
      name = ap (λ (n : TreeNode). n.name) (node_at j l);
      up = up;
      nearest = near;
      up_node = u;
      stands = stands;
      parent = parent;
      addresses = rw (node_at j l) (rule.addresses (kept_at j l).2);
      filled = rw (node_at j l) (kept_at j l).2;
      apart = rw (node_at j l) rule.apart;
      within = rw (node_at j l) (merged-within f es (entry_of j));
      deep = omega (arith, depth-at j l);
      shallow = omega (arith, depth-at j l, shallow-at j l);
    }

    pair : ListPair f es ns (merged f es) entry_of j
    unfolding level
    pair = go (above f es (entry_depth es (entry_of j)) (entry_of j)) refl (chain f es (entry_depth es (entry_of j)) (entry_of j))
      where
        go : (ks : List Held) → above f es (entry_depth es (entry_of j)) (entry_of j) ≡ ks → ChainOf f es (entry_depth es (entry_of j)) (entry_of j) ks → ListPair f es ns (merged f es) entry_of j
        go [] e c = paired none c (rule_of f es (entry_of j) [] e c) 0 root (parent-root (ap length e))
        go (k ∷ ks) e c =
            let t = onto k.number (omega (arith, c.earlier, (kept_at j l).1)) c.kept in
            paired (some k.number) c.near (rule_of f es (entry_of j) (k ∷ ks) e c) (suc t.0) (subst (λ (i : ℕ). NodeOf entry_of (length ns) (some i) (suc t.0)) t.2 (below t.1)) (parent-node t.0 k ks t.1 t.2 e c)

pub agree : (f : AddressRange) (es : List TreeEntry) (ns : List TreeNode) → Steps es → tree f es ≡ done ns → ListAgree f es ns
agree f es ns steps is = record {
  merged = merged f es;
  judged = judged f es;
  entry_of = entry_of f es ns (steps_on es steps) is;
  ascending = ascending f es ns (steps_on es steps) is;
  onto = onto f es ns (steps_on es steps) is;
  pairs = pair f es ns (steps_on es steps) is;
}

deep : (f : AddressRange) (es : List TreeEntry) (k : ℕ) → Steps es → tree f es ≡ refused k → (k ≡ 14) × ListTooDeep f es
deep f es k steps h =
    let t = tree-refused f es (steps_on es steps) k h in
    let i = t.1.0 in
    (t.0, record { merged = merged f es; judged = judged f es; number = i; among = omega (arith, t.1.2); kept = t.1.3.kept; height = length (above f es (entry_depth es i) i); counted = height f es (entry_depth es i) i; over = t.1.3.deep })

pub demand-list : ListDemand
demand-list f es steps = go (tree f es) refl
  where
    go : (o : Walked) → tree f es ≡ o → ListAnswer f es o
    go (done ns) e = agree f es ns steps e
    go (refused k) e = deep f es k steps e
