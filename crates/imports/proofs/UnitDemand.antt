-- Demand 3 over a whole unit, from demand 3 over the entries below the subprogram.
use mathlib.Core.Path.{◌≡◌, refl, sym, ap, subst, ◌∙◌}
use mathlib.Core.Logic.{◌⊎◌, inl, inr}
use mathlib.Core.Option.{Option, none, some}
use mathlib.Core.List.{List}
use Prim.Native.Nat.{ℕ, suc, ◌+◌, ◌-◌, ◌≤◌, ◌<◌}
use native.Mathlib.Omega.{arith}
use native.Mathlib.Nat.{eq-or-lt_of_le}
use lib.ListN.{length}
use Rattle.tlv.specs.declared.model.AddressRange.{AddressRange}
use Rattle.tlv.specs.Outcome.{done, refused}
use Rattle.imports.specs.Agree.{TreeEntry, TreeNode, Parent, ParentOf, entry, entry_depth, Kept, against, Rule, NodeOf, root, below, Below, Nearest, subprogram, kept-one, past_one, Judged, Pair, TreeAgrees, Height, none_kept, count-one, skip-one, TooDeep}
use Rattle.imports.proofs.StackMachine.{Walked, tree}
use Rattle.imports.proofs.ListAgree.{Steps, ListNearest, no-parent, kept-parent, higher-up, ListJudged, ListAgree, ListHeight, top, one_more, passed, ListTooDeep, ListAnswer, below_of, TreeAnswer, TreeDemand}
use Rattle.imports.proofs.MachineLaws.{steps_on}
use Rattle.imports.proofs.ListDemand.{demand-list}
use Rattle.imports.proofs.OneJudgement.{one-judgement}
use Rattle.imports.proofs.Shift.{below_at, below-deeper, below-is, is_below, parent-shift, parent-unshift, parent-after}

-- the numbers below the subprogram, in the unit
abbrev shift : ℕ → Option ℕ → Option ℕ
shift s none = none
shift s (some a) = some (suc s + a)

-- the steps of the part are steps of the unit
steps-below : (us : List TreeEntry) (s : ℕ) → Steps us → s < length us → Steps (below_of us s)
steps-below us s h l i m =
    omega (arith, ap (λ (e : TreeEntry). e.depth) (below_at us s i (omega arith)), ap (λ (e : TreeEntry). e.depth) (below_at us s (suc i) m), ap (entry_depth us) (w s i), steps_on us h (suc s + i))
  where
    w : (s i : ℕ) → suc s + suc i ≡ suc (suc s + i)
    w s i = omega arith

module _ (f : AddressRange) (us : List TreeEntry) (s : ℕ) (steps : (i : ℕ) → entry_depth us (suc i) ≤ suc (entry_depth us i)) (l : s < length us) (merged : ℕ → List AddressRange) where
  merged_u : ℕ → List AddressRange
  merged_u n = merged (n - suc s)

  merged-at : (i : ℕ) → merged_u (suc s + i) ≡ merged i
  unfolding merged_u
  merged-at i = ap merged (w s i)
    where
      w : (s i : ℕ) → suc s + i - suc s ≡ i
      w s i = omega arith

  against-at : (up : Option ℕ) → against f merged_u (shift s up) ≡ against f merged up
  against-at none = refl
  against-at (some a) = merged-at a

  kept-up : (i : ℕ) → Kept merged i → Kept merged_u (suc s + i)
  kept-up i k e = k (sym (merged-at i) ∙ e)

  kept-down : (i : ℕ) → Kept merged_u (suc s + i) → Kept merged i
  kept-down i k e = k (merged-at i ∙ e)

  depths : (i : ℕ) → i < length (below_of us s) → (k : ℕ) → k ≤ i → entry_depth us (suc s + k) ≡ entry_depth (below_of us s) k
  depths i h k m = ap (λ (e : TreeEntry). e.depth) (sym (below_at us s k (omega arith)))

  -- no parent below the subprogram: the parent is the subprogram
  sub-parent : (n : ℕ) → n < length (below_of us s) → ((p : ℕ) → ParentOf (entry_depth (below_of us s)) n p → ⊥) → ParentOf (entry_depth us) (suc s + n) s
  sub-parent n m h = go (parent-after (entry_depth us) steps s (suc s + n) (omega arith) (below-deeper us s n m))
    where
      go : (p : ℕ) × (s ≤ p) × ParentOf (entry_depth us) (suc s + n) p → ParentOf (entry_depth us) (suc s + n) s
      go t = at (eq-or-lt_of_le t.1)
        where
          at : (s ≡ t.0) ⊎ (s < t.0) → ParentOf (entry_depth us) (suc s + n) s
          at (inl e) = subst (λ (p : ℕ). ParentOf (entry_depth us) (suc s + n) p) (sym e) t.2
          at (inr g) =
              let w : t.0 ≡ suc s + (t.0 - suc s) = omega arith in
              absurd (h (t.0 - suc s) (parent-unshift (entry_depth (below_of us s)) (entry_depth us) (suc s) n (t.0 - suc s) (depths n m) (subst (λ (p : ℕ). ParentOf (entry_depth us) (suc s + n) p) w t.2)))

  up-parent : (d n p : ℕ) → d ≡ entry_depth (below_of us s) n → n < length (below_of us s) → Parent (entry_depth (below_of us s)) d n p → ParentOf (entry_depth us) (suc s + n) (suc s + p)
  up-parent d n p e m q = parent-shift (entry_depth (below_of us s)) (entry_depth us) (suc s) n p (depths n m) (subst (λ (c : ℕ). Parent (entry_depth (below_of us s)) c n p) e q)

  lift : {d n : ℕ} {up : Option ℕ} → ListNearest merged (entry_depth (below_of us s)) d n up → d ≡ entry_depth (below_of us s) n → n < length (below_of us s) → Nearest merged_u (entry_depth us) s (suc s + n) (shift s up)
  lift {d} {n} (no-parent h) e m = subprogram (sub-parent n m (λ p q. h p (subst (λ (c : ℕ). Parent (entry_depth (below_of us s)) c n p) (sym e) q)))
  lift {d} {n} (kept-parent {p = p} q k) e m = kept-one (up-parent d n p e m q) (omega arith) (kept-up p k)
  lift {d} {n} (higher-up {p = p} q k t) e m = past_one (up-parent d n p e m q) (omega arith) (λ g. k (kept-down p g)) (lift t refl (omega (arith, q.earlier)))

  lift-height : {d n h : ℕ} → ListHeight merged (entry_depth (below_of us s)) d n h → d ≡ entry_depth (below_of us s) n → n < length (below_of us s) → Height merged_u (entry_depth us) s (suc s + n) h
  lift-height {d} {n} (top h) e m = none_kept (sub-parent n m (λ p q. h p (subst (λ (c : ℕ). Parent (entry_depth (below_of us s)) c n p) (sym e) q)))
  lift-height {d} {n} (one_more {p = p} q k t) e m = count-one (up-parent d n p e m q) (omega arith) (kept-up p k) (lift-height t refl (omega (arith, q.earlier)))
  lift-height {d} {n} (passed {p = p} q k t) e m = skip-one (up-parent d n p e m q) (omega arith) (λ g. k (kept-down p g)) (lift-height t refl (omega (arith, q.earlier)))

  judged-at : ListJudged f (below_of us s) merged → (n : ℕ) → n < length (below_of us s) → (up : Option ℕ) × Nearest merged_u (entry_depth us) s (suc s + n) up × Rule (against f merged_u up) (merged_u (suc s + n)) (entry us (suc s + n))
  judged-at J n m =
      let t = J n in
      (shift s t.0, lift t.1 refl m, rw (against-at t.0, merged-at n, ← (below_at us s n m)) t.2)

  judged-below : ListJudged f (below_of us s) merged → Judged f us s merged_u
  judged-below J i b =
      let g = is_below us s steps l i b in
      let w : suc s + (i - suc s) ≡ i = omega arith in
      subst (λ (x : ℕ). (up : Option ℕ) × Nearest merged_u (entry_depth us) s x up × Rule (against f merged_u up) (merged_u x) (entry us x)) w (judged-at J (i - suc s) (omega arith))

module _ (f : AddressRange) (us : List TreeEntry) (s : ℕ) (ns : List TreeNode) (steps : (i : ℕ) → entry_depth us (suc i) ≤ suc (entry_depth us i)) (l : s < length us) (A : ListAgree f (below_of us s) ns) where
  entry_u : ℕ → ℕ
  entry_u j = suc s + A.entry_of j

  merged_a : ℕ → List AddressRange
  merged_a = merged_u f us s steps l A.merged

  onto-below : (i : ℕ) → Below us s i → Kept merged_a i → (j : ℕ) × (j < length ns) × (entry_u j ≡ i)
  unfolding merged_a merged_u entry_u
  onto-below i b k =
      let g = is_below us s steps l i b in
      let t = A.onto (i - suc s) (omega arith) k in
      (t.0, t.1, omega (arith, t.2))

  stands-below : (many : ℕ) (up : Option ℕ) (u : ℕ) → NodeOf A.entry_of many up u → NodeOf entry_u many (shift s up) u
  unfolding entry_u
  stands-below many up u root = root
  stands-below many up u (below h) = below h

  pair-below : (j : ℕ) → j < length ns → Pair f us s ns merged_a entry_u j
  unfolding entry_u merged_a
  pair-below j m =
      let P = A.pairs j m in
      let same = below_at us s (A.entry_of j) P.among in
      record {
        under = below-is us s steps l (A.entry_of j) P.among;
        kept = kept-up f us s steps l A.merged (A.entry_of j) P.kept;
        name = P.name ∙ ap (λ (e : TreeEntry). e.name) same;
        up = shift s P.up;
        nearest = lift f us s steps l A.merged P.nearest refl P.among;
        up_node = P.up_node;
        stands = stands-below (length ns) P.up P.up_node P.stands;
        parent = P.parent;
        addresses = rw (against-at f us s steps l A.merged P.up, ← same) P.addresses;
        filled = P.filled;
        apart = P.apart;
        within = P.within;
        deep = P.deep;
        shallow = P.shallow;
      }

  agree-below : TreeAgrees f us s ns
  unfolding entry_u merged_a
  agree-below = record {
    merged = merged_a;
    judged = judged-below f us s steps l A.merged A.judged;
    only = one-judgement f us s;
    entry_of = entry_u;
    ascending = λ j k h m. omega (arith, A.ascending j k h m);
    onto = onto-below;
    pairs = pair-below;
  }

deep-below : (f : AddressRange) (us : List TreeEntry) (s : ℕ) → ((i : ℕ) → entry_depth us (suc i) ≤ suc (entry_depth us i)) → s < length us → ListTooDeep f (below_of us s) → TooDeep f us s
deep-below f us s steps l D = record {
  merged = merged_u f us s steps l D.merged;
  judged = judged-below f us s steps l D.merged D.judged;
  number = suc s + D.number;
  under = below-is us s steps l D.number D.among;
  kept = kept-up f us s steps l D.merged D.number D.kept;
  height = D.height;
  counted = lift-height f us s steps l D.merged D.counted refl D.among;
  over = D.over;
}

pub demand-below : TreeDemand
demand-below f us s steps l = go (tree f (below_of us s)) (demand-list f (below_of us s) (steps-below us s steps l))
  where
    go : (o : Walked) → ListAnswer f (below_of us s) o → TreeAnswer f us s o
    go (done ns) A = agree-below f us s ns (steps_on us steps) l A
    go (refused k) A = (A.0, deep-below f us s (steps_on us steps) l A.1)
