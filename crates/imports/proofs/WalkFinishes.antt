-- The walk below a subprogram finishes exactly where nothing is wrong with the entries there and no node would stand too deep.
use mathlib.Core.Path.{◌≡◌, refl, sym, ap, subst, ◌∙◌}
use mathlib.Core.Bool.{true}
use mathlib.Core.List.{List, [], map}
use mathlib.Core.Option.{Option, none, some, none-ne-some, some-ne-none}
use Prim.Native.Nat.{ℕ, suc, ◌+◌, ◌-◌, ◌≤◌, ◌<◌}
use native.Mathlib.Omega.{arith}
use lib.ListN.{length}
use Rattle.tlv.specs.declared.model.AddressRange.{AddressRange}
use Rattle.tlv.specs.Outcome.{Outcome, refused, done}
use Rattle.tlv.specs.Accepted.{UnitAccepted}
use Rattle.tlv.proofs.OutcomeLaws.{refused-not}
use Rattle.imports.specs.Tree.{DetailContext, Descendants, extract_subprogram_details}
use Rattle.imports.specs.Agree.{TreeEntry, TreeNode, entry_depth, Below, Kept, Nearest, subprogram, kept-one, past_one, tree_entries, tree_node, node_depth, NodeOf, root, below, TreeAgrees, Height, none_kept, count-one, skip-one, TooDeep}
use Rattle.imports.specs.Demand.{entries_below, WalkFinishes, Blamed, by_name, by-ranges, by-depth, by_site, Walks}
use Rattle.imports.proofs.Unique.{parent-unique}
use Rattle.imports.proofs.MachineLaws.{steps_on}
use Rattle.imports.proofs.Shift.{below-is, is_below}
use Rattle.imports.proofs.WalkPlaces.{tree-length, tree-steps, below_all}
use Rattle.imports.proofs.WalkSteps.{Clean}
use Rattle.imports.proofs.WalkMachine.{Simulated, Walk, walk-below, walk-tree}
use Rattle.imports.proofs.WalkRefusals.{walk-refuses}

-- ---- a node's depth is the number of kept ancestors of its entry, and itself

-- the node of a kept ancestor
node_of : {entry_of : ℕ → ℕ} {many : ℕ} {up : Option ℕ} {u : ℕ} (p : ℕ) → NodeOf entry_of many up u → up ≡ some p → (j : ℕ) × (j < many) × (entry_of j ≡ p) × (u ≡ suc j)
node_of p root e = absurd (none-ne-some p e)
node_of {entry_of = entry_of} p (below {k = k} h) e = let z : entry_of k ≡ p = cc in (k, h, z, refl)

node-root : {entry_of : ℕ → ℕ} {many : ℕ} {up : Option ℕ} {u : ℕ} → NodeOf entry_of many up u → up ≡ none → u ≡ 0
node-root root e = refl
node-root {entry_of = entry_of} (below {k = k} h) e = absurd (some-ne-none (entry_of k) e)

module _ (f : AddressRange) (us : List TreeEntry) (s : ℕ) (ns : List TreeNode) (A : TreeAgrees f us s ns) where
  -- entry i has h kept ancestors: the node of the nearest, or the root, has the depth h
  ancestor-depth : {i h : ℕ} {up : Option ℕ} {u : ℕ} → Height A.merged (entry_depth us) s i h → Nearest A.merged (entry_depth us) s i up → NodeOf A.entry_of (length ns) up u → node_depth f ns u ≡ h
  ancestor-depth (none_kept q) (subprogram r) n = ap (node_depth f ns) (node-root n refl)
  ancestor-depth (none_kept q) (kept-one {p = p} r g k) n = let z : s ≡ p = parent-unique (entry_depth us) q r in absurd (omega arith)
  ancestor-depth (none_kept q) (past_one {p = p} r g k t) n = let z : s ≡ p = parent-unique (entry_depth us) q r in absurd (omega arith)
  ancestor-depth (count-one {p = p} q g k t) (subprogram r) n = let z : s ≡ p = parent-unique (entry_depth us) r q in absurd (omega arith)
  ancestor-depth (count-one {p = o} {h = h} q g k t) (kept-one {p = p} r e m) n =
      let j = node_of p n refl in
      let P = A.pairs j.0 j.1 in
      let z : A.entry_of j.0 ≡ o = j.2 ∙ parent-unique (entry_depth us) r q in
      let d : node_depth f ns P.up_node ≡ h = ancestor-depth t (subst (λ (x : ℕ). Nearest A.merged (entry_depth us) s x P.up) z P.nearest) P.stands in
      omega (arith, ap (node_depth f ns) j.3, P.parent.higher)
  ancestor-depth (count-one {p = o} q g k t) (past_one {p = p} r e m w) n = absurd (m (subst (Kept A.merged) (parent-unique (entry_depth us) q r) k))
  ancestor-depth (skip-one {p = p} q g k t) (subprogram r) n = let z : s ≡ p = parent-unique (entry_depth us) r q in absurd (omega arith)
  ancestor-depth (skip-one {p = o} q g k t) (kept-one {p = p} r e m) n = absurd (k (subst (Kept A.merged) (parent-unique (entry_depth us) r q) m))
  ancestor-depth (skip-one {p = o} q g k t) (past_one {p = p} {up = up} r e m w) n = ancestor-depth t (subst (λ (x : ℕ). Nearest A.merged (entry_depth us) s x up) (parent-unique (entry_depth us) r q) w) n

  module _ (steps : (i : ℕ) → entry_depth us (suc i) ≤ suc (entry_depth us i)) (l : s < length us) where
    -- what stands between the subprogram and an entry below it is below it too
    below-between : (i p : ℕ) → Below us s i → s < p → p ≤ i → Below us s p
    below-between i p b g h =
        let t = is_below us s steps l i b in
        let w : suc s + (p - suc s) ≡ p = omega arith in
        subst (Below us s) w (below-is us s steps l (p - suc s) (omega arith))

    -- another judgement that is the same below the subprogram counts the same
    same-height : (M N : ℕ → List AddressRange) → ((i : ℕ) → Below us s i → M i ≡ N i) → {i h : ℕ} → Below us s i → Height M (entry_depth us) s i h → Height N (entry_depth us) s i h
    same-height M N e b (none_kept q) = none_kept q
    same-height M N e {i} b (count-one {p = p} q g k t) = let c = below-between i p b g (omega (arith, q.earlier)) in count-one q g (λ z. k (e p c ∙ z)) (same-height M N e c t)
    same-height M N e {i} b (skip-one {p = p} q g k t) = let c = below-between i p b g (omega (arith, q.earlier)) in skip-one q g (λ m. k (λ z. m (sym (e p c) ∙ z))) (same-height M N e c t)

    -- where nodes agree with entries, no kept entry has 256 kept ancestors
    pub not_deep : ¬ TooDeep f us s
    not_deep D =
        let e = A.only D.merged A.merged D.judged A.judged in
        let t = A.onto D.number D.under (λ z. D.kept (e D.number D.under ∙ z)) in
        let P = A.pairs t.0 t.1 in
        let h = subst (λ (x : ℕ). Height A.merged (entry_depth us) s x D.height) (sym t.2) (same-height D.merged A.merged e D.under D.counted) in
        omega (arith, ancestor-depth h P.nearest P.stands, P.parent.higher, P.shallow, D.over)

-- ---- the walk

-- a finished walk and a reason for a refusal cannot both be
blameless : (c : DetailContext) (s : ℕ) {n : ℕ} → WalkFinishes c s → Blamed c s n → ⊥
blameless c s w (by_name {i = i} b h) = refused-not (sym h ∙ (w.names i b).1)
blameless c s w (by-ranges {i = i} b h k) = k (w.ranges i b h)
blameless c s w (by-depth d) = w.shallow d
blameless c s w (by_site {i = i} b h) = refused-not (sym h ∙ (w.sites i b).1)

module _ (c : DetailContext) (s : ℕ) (on : c.include_inlines ≡ true) (a : UnitAccepted c.unit) (l : s < length c.unit.entries) where
  nothing-wrong : (x : Descendants) → extract_subprogram_details c (entries_below c.unit s) ≡ done x → WalkFinishes c s
  nothing-wrong x h =
      let t : Simulated c (entries_below c.unit s) [] [] x = subst (Walk c (entries_below c.unit s) [] []) h (walk-below c s a l on) in
      let clean = below_all c.dwarf c.unit s l a (Clean c) t.clean in
      record {
        names = λ i b. (clean i b.under).name b.inlined;
        ranges = λ i b. (clean i b.under).ranges b.inlined;
        shallow = not_deep c.function_range (tree_entries c.dwarf c.unit) s (map tree_node x.inlines) (walk-tree c s x on a l h) (steps_on (tree_entries c.dwarf c.unit) (tree-steps c.dwarf c.unit a)) (omega (arith, tree-length c.dwarf c.unit));
        sites = λ i b. (clean i b.under).site b.asked b.site;
      }

  finished : WalkFinishes c s → (o : Outcome Descendants) → extract_subprogram_details c (entries_below c.unit s) ≡ o → (x : Descendants) × (extract_subprogram_details c (entries_below c.unit s) ≡ done x)
  finished w (done x) h = (x, h)
  finished w (refused n) h = absurd (blameless c s w (walk-refuses c s on a l n h))

pub walks : Walks
walks c s on a l = record {
  finishes = (λ t. nothing-wrong c s on a l t.0 t.1, λ w. finished c s on a l w (extract_subprogram_details c (entries_below c.unit s)) refl);
  refuses = walk-refuses c s on a l;
}
