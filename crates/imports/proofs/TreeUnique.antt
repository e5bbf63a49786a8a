-- Demand 3 leaves no choice: two lists of nodes that agree with the entries below a subprogram, for one range, are the same list.
--
use mathlib.Core.Path.{◌≡◌, refl, sym, ap, subst, ◌∙◌}
use mathlib.Core.Logic.{◌⊎◌, inl, inr}
use mathlib.Core.Option.{Option}
use mathlib.Core.List.{List, []}
use Prim.Native.Nat.{ℕ, zero, suc, ◌≤◌, ◌<◌}
use native.Mathlib.Omega.{arith}
use native.Mathlib.Nat.{eq-or-lt_of_le}
use lib.ListN.{length}
use lib.Seq.{ext_get_or}
use Rattle.tlv.specs.declared.model.AddressRange.{AddressRange}
use Rattle.imports.specs.Agree.{TreeEntry, TreeNode, entry, entry_depth, against, Rule, root_of, node, node_depth, NodeOf, root, below, Below, Nearest, TreeAgrees}
use Rattle.imports.specs.Demand.{OneTree}
use Rattle.imports.proofs.RangeLaws.{apart-unique}
use Rattle.imports.proofs.NearestUnique.{nearest-same}

-- ---- two ascending lists of the same numbers are one: number j of the one is number j of the other

abbrev Ascending : (ℕ → ℕ) → ℕ → Type 0
Ascending a m = (j k : ℕ) → j < k → k < m → a j < a k

-- each of the m numbers of a is one of the n numbers of b
abbrev Among : (ℕ → ℕ) → ℕ → (ℕ → ℕ) → ℕ → Type 0
Among a m b n = (j : ℕ) → j < m → (k : ℕ) × (k < n) × (b k ≡ a j)

not_less : (a : ℕ → ℕ) (m : ℕ) → Ascending a m → (j k : ℕ) → j ≤ k → k < m → a j ≤ a k
not_less a m up j k l h = go (eq-or-lt_of_le l)
  where
    go : (j ≡ k) ⊎ (j < k) → a j ≤ a k
    go (inl e) = omega (arith, ap a e)
    go (inr g) = omega (arith, up j k g h)

one_place : (a : ℕ → ℕ) (m : ℕ) → Ascending a m → (j k : ℕ) → j < m → k < m → a j ≡ a k → j ≡ k
one_place a m up j k h l e =
    let p : ¬ (j < k) = λ g. omega (arith, up j k g l) in
    let q : ¬ (k < j) = λ g. omega (arith, up k j g h) in omega arith

module _ (a b : ℕ → ℕ) (m n : ℕ) (up : Ascending a m) (rise : Ascending b n) (into : Among a m b n) (back : Among b n a m) where
  number_step : (j : ℕ) → j < m → ((i : ℕ) → i < j → a i ≡ b i) → (j < n) × (a j ≡ b j)
  number_step j h ih = (within, go (back j within))
    where
      t : (k : ℕ) × (k < n) × (b k ≡ a j)
      t = into j h

      late : j ≤ t.0
      late = let p : ¬ (t.0 < j) = λ l. omega (arith, ih t.0 l, up t.0 j l h, t.2) in omega arith

      within : j < n
      within = omega (arith, late, t.1)

      go : (i : ℕ) × (i < m) × (a i ≡ b j) → a j ≡ b j
      go r =
          let p : ¬ (r.0 < j) = λ l. omega (arith, ih r.0 l, rise r.0 j l within, r.2) in
          let q : ¬ (j < r.0) = λ l. omega (arith, up j r.0 l r.1, not_less b n rise j t.0 late t.1, r.2, t.2) in
          let e : j ≡ r.0 = omega arith in ap a e ∙ r.2

  number-below : (c j : ℕ) → j < c → j < m → (j < n) × (a j ≡ b j)
  number-below zero j l h = absurd (omega arith)
  number-below (suc c) j l h = number_step j h (λ i g. (number-below c i (omega arith) (omega arith)).1)

  same_number : (j : ℕ) → j < m → (j < n) × (a j ≡ b j)
  same_number j = number-below (suc j) j (omega arith)

-- as many, where each number of one list has the other's at its place
not_more : (m n : ℕ) → ((j : ℕ) → j < m → j < n) → m ≤ n
not_more zero n h = omega arith
not_more (suc m) n h = h m (omega arith)

-- ---- one list of nodes

module _ (f : AddressRange) (us : List TreeEntry) (s : ℕ) (ns : List TreeNode) (A : TreeAgrees f us s ns) where
  -- a node's ranges are the merged ranges of its entry
  pub node-merged : (j : ℕ) → j < length ns → (node f ns (suc j)).ranges ≡ A.merged (A.entry_of j)
  node-merged j h =
      let P = A.pairs j h in
      let t = A.judged (A.entry_of j) P.under in
      let e : t.0 ≡ P.up = nearest-same (entry_depth us) s A.merged A.merged (λ p l c. refl) P.under.1 t.1 P.nearest in
      let R : Rule (against f A.merged P.up) (A.merged (A.entry_of j)) (entry us (A.entry_of j)) = rw e at t.2 in
      apart-unique (node f ns (suc j)).ranges (A.merged (A.entry_of j)) P.apart R.apart (λ a. (λ p. (R.addresses P.kept a).1 ((P.addresses a).0 p), λ p. (P.addresses a).1 ((R.addresses P.kept a).0 p)))

-- ---- two lists of nodes

module _ (f : AddressRange) (us : List TreeEntry) (s : ℕ) (ns ms : List TreeNode) (A : TreeAgrees f us s ns) (B : TreeAgrees f us s ms) where
  same-merged : (i : ℕ) → Below us s i → A.merged i ≡ B.merged i
  same-merged = A.only A.merged B.merged A.judged B.judged

  -- the entry of each node of the one list has a node in the other
  entry-among : Among A.entry_of (length ns) B.entry_of (length ms)
  entry-among j h = let P = A.pairs j h in B.onto (A.entry_of j) P.under (λ e. P.kept (same-merged (A.entry_of j) P.under ∙ e))

module _ (f : AddressRange) (us : List TreeEntry) (s : ℕ) (ns ms : List TreeNode) (A : TreeAgrees f us s ns) (B : TreeAgrees f us s ms) where
  -- the nodes at one place are those of one entry
  pub same-entry : (j : ℕ) → j < length ns → (j < length ms) × (A.entry_of j ≡ B.entry_of j)
  same-entry = same_number A.entry_of B.entry_of (length ns) (length ms) A.ascending B.ascending (entry-among f us s ns ms A B) (entry-among f us s ms ns B A)

  same_up : (j : ℕ) (h : j < length ns) (k : j < length ms) → (A.pairs j h).up ≡ (B.pairs j k).up
  same_up j h k =
      let P = A.pairs j h in
      let Q = B.pairs j k in
      nearest-same (entry_depth us) s A.merged B.merged (λ p l c. same-merged f us s ns ms A B p (omega (arith, P.under.0), c)) P.under.1 P.nearest
      (subst (λ (x : ℕ). Nearest B.merged (entry_depth us) s x Q.up) (sym (same-entry j h).1) Q.nearest)

  -- one ancestor has one node
  same-node : {u v : Option ℕ} {x y : ℕ} → u ≡ v → NodeOf A.entry_of (length ns) u x → NodeOf B.entry_of (length ms) v y → x ≡ y
  same-node e root root = refl
  same-node e root (below l) = let z : ◌≡◌ {A = ℕ} 0 1 = cc in absurd (omega arith)
  same-node e (below h) root = let z : ◌≡◌ {A = ℕ} 0 1 = cc in absurd (omega arith)
  same-node e (below {k = k} h) (below {k = o} l) =
      let t = same-entry k h in
      let z : A.entry_of k ≡ B.entry_of o = cc in ap suc (one_place B.entry_of (length ms) B.ascending k o t.0 l (sym t.1 ∙ z))

  depth_below : (c x : ℕ) → x < c → x ≤ length ns → node_depth f ns x ≡ node_depth f ms x
  depth_below zero x l h = absurd (omega arith)
  depth_below (suc c) zero l h = refl
  depth_below (suc c) (suc j) l h =
      let k = (same-entry j h).0 in
      let P = A.pairs j h in
      let Q = B.pairs j k in
      let e : P.up_node ≡ Q.up_node = same-node (same_up j h k) P.stands Q.stands in
      omega (arith, P.parent.higher, Q.parent.higher, ap (node_depth f ms) e, depth_below c P.up_node (omega (arith, P.parent.earlier)) (omega (arith, P.parent.earlier)))

  same_at : (j : ℕ) → j < length ns → node f ns (suc j) ≡ node f ms (suc j)
  same_at j h =
      let t = same-entry j h in
      let P = A.pairs j h in
      let Q = B.pairs j t.0 in
      node-path (depth_below (suc (suc j)) (suc j) (omega arith) h) (P.name ∙ ap (λ (i : ℕ). (entry us i).name) t.1 ∙ sym Q.name)
      (node-merged f us s ns A j h ∙ same-merged f us s ns ms A B (A.entry_of j) P.under ∙ ap B.merged t.1 ∙ sym (node-merged f us s ms B j t.0))
    where
      node-path : {x y : TreeNode} → x.depth ≡ y.depth → x.name ≡ y.name → x.ranges ≡ y.ranges → x ≡ y
      node-path p q r i = record { depth = p i; name = q i; ranges = r i }

-- what demand 3 says of a record's nodes holds of one list only
pub tree-unique : OneTree
tree-unique f us s ns ms A B = ext_get_or (root_of f []) ns ms (omega (arith, most, least)) (same_at f us s ns ms A B)
  where
    most : length ns ≤ length ms
    most = not_more (length ns) (length ms) (λ j h. (same-entry f us s ns ms A B j h).0)

    least : length ms ≤ length ns
    least = not_more (length ms) (length ns) (λ j h. (same-entry f us s ms ns B A j h).0)
