-- The chain of first children among a record's nodes is that of the kept entries that hold the address.
use mathlib.Core.Path.{◌≡◌, refl, sym, ap, subst, ◌∙◌}
use mathlib.Core.Logic.{◌⊎◌, inl, inr}
use mathlib.Core.List.{List, [], ◌∷◌, map}
use mathlib.Core.Option.{Option, none, some, none-ne-some, some-injective}
use Prim.Native.Nat.{ℕ, zero, suc, ◌≤◌, ◌<◌}
use native.Mathlib.Omega.{arith}
use lib.ListN.{length, get_or}
use Rattle.tlv.specs.declared.model.AddressRange.{AddressRange}
use Rattle.tlv.specs.Lists.{at}
use Rattle.tlv.proofs.TestLaws.{by_less}
use Rattle.buffers.specs.Output.{InlineNode}
use Rattle.imports.specs.Ranges.{Holds}
use Rattle.imports.specs.Import.{rooted}
use Rattle.imports.specs.Agree.{ParentOf, TreeEntry, entry_depth, TreeNode, tree_node, root_of, node_depth, NodeOf, root, below, TreeAgrees}
use Rattle.imports.proofs.Unique.{parent-unique}
use Rattle.imports.proofs.NearestUnique.{nearest-same}
use Rattle.imports.proofs.TreeUnique.{node-merged}
use Rattle.lookup.specs.Means.{depth_of, HoldsAt, FirstChild, ChainFrom, innermost, outer}
use Rattle.lookup.specs.Sheet.{HoldsUnder, EntriesUnder, no_more, one_more}
use Rattle.lookup.proofs.DemandLaws.{at_map, at_less, at-get_or}

-- a parent by depths that are the same
parent-as : (d e : ℕ → ℕ) {i p : ℕ} → ((m : ℕ) → d m ≡ e m) → ParentOf d i p → ParentOf e i p
parent-as d e {i} {p} same q = record {
  earlier = q.earlier;
  higher = ap suc (sym (same p)) ∙ q.higher ∙ same i;
  last = λ k l m f. q.last k l m (ap suc (same k) ∙ f ∙ sym (same i));
}

pub length-tree : (ns : List InlineNode) → length (map tree_node ns) ≡ length ns
length-tree [] = refl
length-tree (n ∷ ns) = rw (length-tree ns)

module _ (r : AddressRange) (us : List TreeEntry) (s : ℕ) (name : List ℕ) (n : InlineNode) (ns : List InlineNode)
    (T : TreeAgrees r us s (map tree_node (n ∷ ns))) (a : ℕ) where
  abbrev below_root : List InlineNode
  below_root = n ∷ ns

  abbrev pub all : List InlineNode
  all = rooted name r (n ∷ ns)

  abbrev trees : List TreeNode
  trees = map tree_node (n ∷ ns)

  abbrev many : ℕ
  many = length (n ∷ ns)

  many_is : length trees ≡ many
  many_is = length-tree (n ∷ ns)

  -- ---- depths and addresses of the nodes, here and in demand 3

  depths-below : (ms : List InlineNode) (k : ℕ) → get_or (map (λ x. x.depth) ms) k 0 ≡ (get_or (map tree_node ms) k (root_of r [])).depth
  depths-below [] k = refl
  depths-below (m ∷ ms) zero = refl
  depths-below (m ∷ ms) (suc k) = depths-below ms k

  depths-same : (m : ℕ) → depth_of all m ≡ node_depth r trees m
  depths-same zero = refl
  depths-same (suc m) = depths-below (n ∷ ns) m

  -- the ranges of node number suc j are its entry's
  ranges-are : (j : ℕ) (x : InlineNode) → at below_root j ≡ some x → x.ranges ≡ T.merged (T.entry_of j)
  ranges-are j x e =
      let l = at_less below_root j x e in
      let is : get_or trees j (root_of r []) ≡ tree_node x = at-get_or trees j (tree_node x) (root_of r []) (at_map tree_node below_root j x e) in
      ap (λ (y : TreeNode). y.ranges) (sym is) ∙ node-merged r us s trees T j (rw many_is l)

  node-holds : (j : ℕ) → HoldsAt all a (suc j) → (j < many) × Holds (T.merged (T.entry_of j)) a
  unfolding at
  node-holds j h = (
    at_less below_root j h.node h.numbered,
    subst (λ (l : List AddressRange). Holds l a) (ranges-are j h.node h.numbered)
        h.holds,
  )

  at-within : (ms : List InlineNode) (j : ℕ) → j < length ms → (x : InlineNode) × (at ms j ≡ some x)
  unfolding at
  at-within [] j l = absurd (omega arith)
  at-within (m ∷ ms) zero l = (m, refl)
  at-within (m ∷ ms) (suc j) l = at-within ms j (omega arith)

  entry-holds : (j : ℕ) → j < many → Holds (T.merged (T.entry_of j)) a → HoldsAt all a (suc j)
  unfolding at
  entry-holds j l h =
      let x = at-within below_root j l in
      record { node = x.0; numbered = x.1; holds = subst (λ (q : List AddressRange). Holds q a) (sym (ranges-are j x.0 x.1)) h }

  -- ---- a node for an ancestor

  abbrev Up : Option ℕ → ℕ → Type 0
  Up up p = NodeOf T.entry_of (length trees) up p

  abbrev UpIs : Option ℕ → ℕ → Type 0
  UpIs up p = ((up ≡ none) × (p ≡ 0)) ⊎ ((k : ℕ) × (k < many) × (up ≡ some (T.entry_of k)) × (p ≡ suc k))

  up_is : {up : Option ℕ} {p : ℕ} → Up up p → UpIs up p
  up_is root = inl (refl, refl)
  up_is (below {k} l) = inr (k, rw many_is at l, refl, refl)

  same_entry : (j k : ℕ) → j < many → k < many → T.entry_of j ≡ T.entry_of k → j ≡ k
  same_entry j k h l e =
      let p : ¬ (j < k) = λ g. omega (arith, T.ascending j k g (rw many_is l)) in
      let q : ¬ (k < j) = λ g. omega (arith, T.ascending k j g (rw many_is h)) in omega arith

  one_up : {u v : Option ℕ} {p : ℕ} → UpIs u p → UpIs v p → u ≡ v
  one_up (inl x) (inl y) = x.0 ∙ sym y.0
  one_up {p = p} (inl x) (inr y) = let e : p ≡ 0 = x.1 in let f : p ≡ suc y.0 = y.3 in absurd (omega arith)
  one_up {p = p} (inr x) (inl y) = let e : p ≡ 0 = y.1 in let f : p ≡ suc x.0 = x.3 in absurd (omega arith)
  one_up {p = p} (inr x) (inr y) =
      let e : p ≡ suc x.0 = x.3 in
      let f : p ≡ suc y.0 = y.3 in
      let k : x.0 ≡ y.0 = omega arith in
      x.2 ∙ ap (λ (q : ℕ). some (T.entry_of q)) k ∙ sym y.2

  one-node : {u : Option ℕ} {p q : ℕ} → UpIs u p → UpIs u q → p ≡ q
  one-node (inl x) (inl y) = x.1 ∙ sym y.1
  one-node (inl x) (inr y) = absurd (none-ne-some _ (sym x.0 ∙ y.2))
  one-node (inr x) (inl y) = absurd (none-ne-some _ (sym y.0 ∙ x.2))
  one-node (inr x) (inr y) =
      let e = same_entry x.0 y.0 x.1 y.1 (some-injective _ _ (sym x.2 ∙ y.2)) in
      x.3 ∙ ap suc e ∙ sym y.3

  -- ---- a child that holds the address, and its entry

  abbrev Under : Option ℕ → ℕ → Type 0
  Under up i = HoldsUnder us s T.merged a up i

  to-entry : (up : Option ℕ) (p j : ℕ) → Up up p → ParentOf (depth_of all) (suc j) p → HoldsAt all a (suc j) → Under up (T.entry_of j)
  to-entry up p j o par h =
      let x = node-holds j h in
      let P = T.pairs j (rw many_is x.0) in
      let same : P.up_node ≡ p = parent-unique (node_depth r trees) P.parent (parent-as (depth_of all) (node_depth r trees) depths-same par) in
      let up_same : P.up ≡ up = one_up (subst (λ (q : ℕ). UpIs P.up q) same (up_is P.stands)) (up_is o) in
      record { under = P.under; kept = P.kept; nearest = rw up_same at P.nearest; holding = x.1 }

  record Child (p i : ℕ) : Type 0 where
    number : ℕ
    among : number < many
    paired : T.entry_of number ≡ i
    par : ParentOf (depth_of all) (suc number) p
    holding : HoldsAt all a (suc number)

  to_node : (up : Option ℕ) (p i : ℕ) → Up up p → Under up i → Child p i
  to_node up p i o h =
      let q = T.onto i h.under h.kept in
      let j = q.0 in
      let l : j < many = rw many_is at q.1 in
      let P = T.pairs j q.1 in
      let up_same : P.up ≡ up = nearest-same (entry_depth us) s T.merged T.merged (λ k m c. refl) h.under.1 (rw q.2 at P.nearest)
      h.nearest in
      let same : P.up_node ≡ p = one-node (subst (λ (u : Option ℕ). UpIs u P.up_node) up_same (up_is P.stands)) (up_is o) in
      record {
        number = j;
        among = l;
        paired = q.2;
        par = parent-as (node_depth r trees) (depth_of all) (λ m. sym (depths-same m)) (rw same at P.parent);
        holding = entry-holds j l (subst (λ (k : ℕ). Holds (T.merged k) a) (sym q.2) h.holding);
      }

  -- ---- the chain

  -- entries and the numbers of their nodes
  abbrev pub Paired : List ℕ → List ℕ → Type 0
  Paired [] [] = Unit {0}
  Paired [] (m ∷ ms) = ⊥
  Paired (i ∷ is) [] = ⊥
  Paired (i ∷ is) (m ∷ ms) = ((j : ℕ) × (j < many) × (T.entry_of j ≡ i) × (m ≡ suc j)) × Paired is ms

  pub record Inwards (up : Option ℕ) (p : ℕ) (cs : List ℕ) : Type 0 where
    pub entries : List ℕ
    pub are : EntriesUnder us s T.merged a up entries
    pub rest : List ℕ
    pub whole : cs ≡ p ∷ rest
    pub paired : Paired entries rest

  ends : (up : Option ℕ) (p : ℕ) → Up up p → ((m : ℕ) → ParentOf (depth_of all) m p → ¬ HoldsAt all a m) → Inwards up p (p ∷ [])
  ends up p o off = record {
    entries = [];
    are = no_more (λ i h. let c = to_node up p i o h in off (suc c.number) c.par c.holding);
    rest = [];
    whole = refl;
    paired = tt;
  }

  goes_on : (up : Option ℕ) (p j : ℕ) (cs : List ℕ) → Up up p → FirstChild all a p (suc j) → Inwards (some (T.entry_of j)) (suc j) cs → Inwards up p (p ∷ cs)
  goes_on up p j cs o c x =
      let l = (node-holds j c.holding).0 in
      record {
        entries = T.entry_of j ∷ x.entries;
        are = one_more (record { is = to-entry up p j o c.child c.holding; first = sooner l }) x.are;
        rest = cs;
        whole = refl;
        paired = subst (Paired (T.entry_of j ∷ x.entries)) (sym x.whole) ((j, l, refl, refl), x.paired);
      }
    where
      sooner : j < many → (k : ℕ) → k < T.entry_of j → ¬ Under up k
      sooner l k lt h =
          let d = to_node up p k o h in
          let e = d.paired in
          let same : ¬ (j ≤ d.number) = λ g. by_less ⊥ j d.number (λ m. omega (arith, T.ascending j d.number m (rw many_is d.among)))
          (λ m. let q : j ≡ d.number = omega arith in omega (arith, ap T.entry_of q)) in
          c.first (suc d.number) (omega arith) d.par d.holding

  -- the number of a child is not 0
  numbered : (p m : ℕ) → p < m → (j : ℕ) × (m ≡ suc j)
  numbered p zero l = absurd (omega arith)
  numbered p (suc j) l = (j, refl)

  pub inwards : (up : Option ℕ) (p : ℕ) (cs : List ℕ) → Up up p → ChainFrom all a p cs → Inwards up p cs
  inwards up p _ o (innermost off) = ends up p o off
  inwards up p _ o (outer {m = m} {cs = cs} c next) =
      let q = numbered p m c.child.earlier in
      let c₁ = subst (λ (x : ℕ). FirstChild all a p x) q.1 c in
      let l = (node-holds q.0 c₁.holding).0 in
      let o₁ : Up (some (T.entry_of q.0)) m = subst (λ (x : ℕ). Up (some (T.entry_of q.0)) x) (sym q.1) (below (rw many_is l)) in
      goes_on up p q.0 cs o c₁ (subst (λ (x : ℕ). Inwards (some (T.entry_of q.0)) x cs) q.1 (inwards (some (T.entry_of q.0)) m cs o₁ next))
