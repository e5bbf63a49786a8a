-- Demand 3 in a look-up: each node of the chain below the root is that of a kept entry with a range that holds the address.
use mathlib.Core.Path.{◌≡◌, refl, sym, ap, subst, ◌∙◌}
use mathlib.Core.Bool.{Bool, true, false, cond, ◌&&◌, false≢true}
use mathlib.Core.Logic.{◌⊎◌, inl, inr}
use mathlib.Core.List.{List, [], ◌∷◌, map}
use mathlib.Core.Option.{Option, none, some, none-ne-some, some-injective}
use Prim.Native.Nat.{ℕ, zero, suc, ◌<◌}
use native.Mathlib.Omega.{arith}
use lib.Dec.{leb, ltb, eqb}
use lib.ListN.{length, get_or, drop}
use borrow.Author.Tests.{leb-true, ltb-true}
use Rattle.tlv.specs.declared.model.AddressRange.{AddressRange}
use Rattle.tlv.specs.Addresses.{RangeHolds}
use Rattle.tlv.specs.Outcome.{refused, done}
use Rattle.tlv.specs.Lists.{Any, All, at, first, exists, map_option}
use Rattle.tlv.specs.Model.{CompilationUnit, units}
use Rattle.tlv.specs.Fields.{fields}
use Rattle.tlv.proofs.TestLaws.{and_left, and_right}
use Rattle.tlv.proofs.ListLaws.{all_map, any_map}
use Rattle.tlv.proofs.OutcomeLaws.{done-is, refused-not, with_done}
use Rattle.buffers.specs.Output.{InlineNode, Function}
use Rattle.buffers.specs.Reader.{records_form, read_records, function_of}
use Rattle.imports.specs.Ranges.{Holds}
use Rattle.imports.specs.Import.{rooted}
use Rattle.imports.specs.Answer.{Inputs, dwarf_of, after}
use Rattle.imports.specs.Agree.{tree_entries, tree_node, root_of, Fits, against, entry, TreeAgrees}
use Rattle.imports.specs.Demand.{subjects, RecordAgrees, Pointwise, ChosenAgrees, UnitFinished}
use Rattle.imports.proofs.Demand.{demand}
use Rattle.lookup.specs.Tray.{GroupAt, group, functions_at, nodes_at, function_range, node, functions_of}
use Rattle.lookup.specs.Lookup.{holds, node_holds, chain_from, chain, Frames, frames_of, qualifying, look_up}
use Rattle.lookup.specs.Demand.{KeptHere, Explained, WrittenBy, Explaining}
use Rattle.lookup.proofs.ReadLaws.{reads-functions, reads-nodes}

-- ---- lists by number

module _ {A : Type 0} where
  -- the first that passes stands somewhere
  pub first-at : (p : A → Bool) (xs : List A) (y : A) → first p xs ≡ some y → (k : ℕ) × (at xs k ≡ some y)
  unfolding first at
  first-at p [] y e = absurd (none-ne-some y e)
  first-at p (x ∷ xs) y e = go (p x) (first-at p xs y) e
    where
      go : (b : Bool) → (first p xs ≡ some y → (k : ℕ) × (at xs k ≡ some y)) → cond b (some x) (first p xs) ≡ some y → (k : ℕ) × (at (x ∷ xs) k ≡ some y)
      go true ih q = (0, q)
      go false ih q = let r = ih q in (suc r.0, r.1)

  pub at_less : (xs : List A) (k : ℕ) (y : A) → at xs k ≡ some y → k < length xs
  unfolding at
  at_less [] k y e = absurd (none-ne-some y e)
  at_less (x ∷ xs) zero y e = omega arith
  at_less (x ∷ xs) (suc k) y e = let h = at_less xs k y e in omega arith

  pub at-get_or : (xs : List A) (k : ℕ) (y z : A) → at xs k ≡ some y → get_or xs k z ≡ y
  unfolding at
  at-get_or [] k y z e = absurd (none-ne-some y e)
  at-get_or (x ∷ xs) zero y z e = some-injective x y e
  at-get_or (x ∷ xs) (suc k) y z e = at-get_or xs k y z e

pub at_map : {A B : Type 0} (f : A → B) (xs : List A) (k : ℕ) (y : A) → at xs k ≡ some y → at (map f xs) k ≡ some (f y)
unfolding at
at_map f [] k y e = absurd (none-ne-some y e)
at_map f (x ∷ xs) zero y e = ap (λ (z : _). some (f z)) (some-injective x y e)
at_map f (x ∷ xs) (suc k) y e = at_map f xs k y e

module _ {A B : Type 0} (R : A → B → Type 0) where
  pub pointwise_at : (xs : List A) (ys : List B) (k : ℕ) (y : B) → Pointwise R xs ys → at ys k ≡ some y → (x : A) × (at xs k ≡ some x) × R x y
  unfolding at
  pointwise_at [] (z ∷ ys) k y h e = elim h [ ]
  pointwise_at (x ∷ xs) [] k y h e = elim h [ ]
  pointwise_at [] [] k y h e = absurd (none-ne-some y e)
  pointwise_at (x ∷ xs) (z ∷ ys) zero y h e = (x, refl, subst (R x) (some-injective z y e) h.0)
  pointwise_at (x ∷ xs) (z ∷ ys) (suc k) y h e = pointwise_at xs ys k y h.1 e

-- ---- tests of ranges

pub holds-is : (a : ℕ) (r : AddressRange) → holds a r ≡ true → RangeHolds r a
holds-is a r e = (leb-true r.start a (and_left (leb r.start a) (ltb a r.end) e), ltb-true a r.end (and_right (leb r.start a) (ltb a r.end) e))

pub some_holds : (a : ℕ) (rs : List AddressRange) → exists (holds a) rs ≡ true → Holds rs a
unfolding exists
some_holds a [] e = absurd (false≢true e)
some_holds a (r ∷ rs) e = go (holds a r) refl (some_holds a rs) e
  where
    go : (b : Bool) → holds a r ≡ b → (exists (holds a) rs ≡ true → Holds rs a) → cond b true (exists (holds a) rs) ≡ true → Holds (r ∷ rs) a
    go true h ih q = inl (holds-is a r h)
    go false h ih q = inr (ih q)

-- of what holds the address and more, that it holds the address
loosen : (a : ℕ) (P : AddressRange → Type 0) (rs : List AddressRange) → Any (λ r. RangeHolds r a × P r) rs → Any (λ r. RangeHolds r a) rs
loosen a P rs h = any_map {P = λ r. RangeHolds r a × P r} rs (λ r x. x.0) h

-- ---- the chain's nodes

-- p is the place of node number m from `from` on, and it holds the address
pub record Held (a : ℕ) (ns : List GroupAt) (from p : ℕ) : Type 0 where
  pub number : ℕ
  pub one : GroupAt
  pub numbered : at (drop from ns) number ≡ some one
  pub here : one.place ≡ p
  pub holding : node_holds a one ≡ true

module _ (a : ℕ) where
  all_held : (depth : ℕ) (ns : List GroupAt) → All (Held a ns 0) (chain_from a depth ns)
  unfolding chain_from at
  all_held depth [] = tt
  all_held depth (n ∷ ns) = go (ltb (node n).depth depth) (eqb (node n).depth depth && node_holds a n) refl (all_held (suc depth) ns) (all_held depth ns)
    where
      later : (p : ℕ) → Held a ns 0 p → Held a (n ∷ ns) 0 p
      later p h = record { number = suc h.number; one = h.one; numbered = h.numbered; here = h.here; holding = h.holding }

      go : (b c : Bool) → (eqb (node n).depth depth && node_holds a n) ≡ c → All (Held a ns 0) (chain_from a (suc depth) ns)
          → All (Held a ns 0) (chain_from a depth ns)
          → All (Held a (n ∷ ns) 0) (cond b [] (cond c (n.place ∷ chain_from a (suc depth) ns) (chain_from a depth ns)))
      go true c e x y = tt
      go false true e x y = (
        record { number = 0; one = n; numbered = refl; here = refl; holding = and_right (eqb (node n).depth depth) (node_holds a n) e },
        all_map (chain_from a (suc depth) ns) later x,
      )
      go false false e x y = all_map (chain_from a depth ns) later y

  -- but for the first, they stand behind the first node
  pub rest-held : (depth : ℕ) (ns : List GroupAt) → All (Held a ns 1) (drop 1 (chain_from a depth ns))
  unfolding chain_from at
  rest-held depth [] = tt
  rest-held depth (n ∷ ns) = go (ltb (node n).depth depth) (eqb (node n).depth depth && node_holds a n) (rest-held depth ns)
    where
      behind : (p : ℕ) → Held a ns 0 p → Held a (n ∷ ns) 1 p
      behind p h = record { number = h.number; one = h.one; numbered = h.numbered; here = h.here; holding = h.holding }

      further : (ms : List GroupAt) (p : ℕ) → Held a ms 1 p → Held a ms 0 p
      further [] p h = absurd (none-ne-some h.one h.numbered)
      further (m ∷ ms) p h = record { number = suc h.number; one = h.one; numbered = h.numbered; here = h.here; holding = h.holding }

      go : (b c : Bool) → All (Held a ns 1) (drop 1 (chain_from a depth ns))
          → All (Held a (n ∷ ns) 1) (drop 1 (cond b [] (cond c (n.place ∷ chain_from a (suc depth) ns) (chain_from a depth ns))))
      go true c y = tt
      go false true y = all_map (chain_from a (suc depth) ns) behind (all_held (suc depth) ns)
      go false false y = all_map (drop 1 (chain_from a depth ns)) (λ p h. behind p (further ns p h)) y

-- ---- one node of the chain

module _ (i : Inputs) (u : CompilationUnit) (s : ℕ) (f : GroupAt) (a : ℕ) (ns : List InlineNode)
    (inline : (function_of (group f)).inline ≡ rooted (function_of (group f)).name (function_of (group f)).range ns)
    (tree : TreeAgrees (function_of (group f)).range (tree_entries (dwarf_of i) u) s (map tree_node ns)) where
  abbrev pub Kept-here : ℕ → Type 0
  Kept-here p = KeptHere (tree_entries (dwarf_of i) u) s f tree.merged tree.entry_of (length ns) a p

  -- the nodes below the root, by number
  below_root : (ms : List InlineNode) (k : ℕ) (y : InlineNode) (name : List ℕ) (r : AddressRange) → at (rooted name r ms) (suc k) ≡ some y → at ms k ≡ some y
  unfolding at
  below_root [] k y name r e = absurd (none-ne-some y e)
  below_root (m ∷ ms) k y name r e = e

  at_tail : (ms : List GroupAt) (k : ℕ) (y : GroupAt) → at (drop 1 ms) k ≡ some y → at ms (suc k) ≡ some y
  unfolding at
  at_tail [] k y e = e
  at_tail (m ∷ ms) k y e = e

  pub kept_here : (p : ℕ) → Held a (nodes_at f) 1 p → Kept-here p
  unfolding map_option
  kept_here p h =
      let stands = at_tail (nodes_at f) h.number h.one h.numbered in
      let mapped = at_map node (nodes_at f) (suc h.number) h.one stands in
      let inlined : at (rooted (function_of (group f)).name (function_of (group f)).range ns) (suc h.number) ≡ some (node h.one) =
      subst (λ (l : List InlineNode). at l (suc h.number) ≡ some (node h.one)) (sym (reads-nodes f) ∙ inline) mapped in
      let numbered = below_root ns h.number (node h.one) _ _ inlined in
      let less = at_less ns h.number (node h.one) numbered in
      let pair = tree.pairs h.number (rw length-tree_nodes less) in
      let is = at-get_or (map tree_node ns) h.number (tree_node (node h.one)) (root_of (function_of (group f)).range [])
      (at_map tree_node ns h.number (node h.one) numbered) in
      let held = some_holds a (node h.one).ranges h.holding in
      record {
        number = h.number;
        among = less;
        stands = rw stands (ap some h.here);
        under = pair.under;
        kept = pair.kept;
        range = loosen a (Fits (against (function_of (group f)).range tree.merged pair.up))
            (entry (tree_entries (dwarf_of i) u) (tree.entry_of h.number)).ranges ((pair.addresses a).0 (rw is held));
      }
    where
      length-tree_nodes : length (map tree_node ns) ≡ length ns
      length-tree_nodes = go ns
        where
          go : (ms : List InlineNode) → length (map tree_node ms) ≡ length ms
          go [] = refl
          go (m ∷ ms) = rw (go ms)

-- ---- the whole

module _ (i : Inputs) (tray : List ℕ) (w : WrittenBy i tray) where
  -- the import's records are what the tray's functions say
  pub records-are : (f : UnitFinished i (after i)) → f.state.records ≡ map (λ g. function_of (group g)) (functions_at tray)
  records-are f = go (records_form 0 0 (fields tray)) (sym (reads-functions tray) ∙ ap read_records w.tray_is ∙ f.records)
    where
      go : (b : Bool) → cond b (some (map (λ g. function_of (group g)) (functions_at tray))) none ≡ some f.state.records
          → f.state.records ≡ map (λ g. function_of (group g)) (functions_at tray)
      go true e = sym (some-injective _ _ e)
      go false e = absurd (none-ne-some _ e)

  -- the unit that was asked for, whose subjects the records answer for
  pub record Asked (f : UnitFinished i (after i)) : Type 0 where
    pub unit : CompilationUnit
    pub chosen : at (units i.main) i.ordinal ≡ some unit
    pub agree : Pointwise (RecordAgrees (dwarf_of i) unit true) (subjects (dwarf_of i) unit) f.state.records

  -- there is one, or the package has no debug data and there is no record
  pub asked : (f : UnitFinished i (after i)) → Asked f ⊎ ((at (units i.main) i.ordinal ≡ none) × (f.state.records ≡ []))
  asked f = go (at (units i.main) i.ordinal) refl f.agree
    where
      go : (o : Option CompilationUnit) → at (units i.main) i.ordinal ≡ o → ChosenAgrees i o f.state.records
          → Asked f ⊎ ((at (units i.main) i.ordinal ≡ none) × (f.state.records ≡ []))
      go none e c = inr (e, c.2)
      go (some u) e c = inl (record {
        unit = u;
        chosen = e;
        agree = subst (λ (b : Bool). Pointwise (RecordAgrees (dwarf_of i) u b) (subjects (dwarf_of i) u) f.state.records) w.inlines c;
      })

-- the functions that a look-up goes through
pub found_in : (tray : List ℕ) (fs : List GroupAt) → functions_of tray ≡ done fs → fs ≡ functions_at tray
unfolding functions_of
found_in tray fs = go (records_form 0 0 (fields tray))
  where
    go : (b : Bool) → cond b (done (functions_at tray)) (refused 19) ≡ done fs → fs ≡ functions_at tray
    go true e = sym (done-is e)
    go false e = refused-not e

module _ (i : Inputs) (tray : List ℕ) (a : ℕ) (x : Frames) (w : WrittenBy i tray) where
  -- record k of the import is what the function at number k says
  told : (f : UnitFinished i (after i)) (g : GroupAt) (k : ℕ) → at (functions_at tray) k ≡ some g → at f.state.records k ≡ some (function_of (group g))
  told f g k e =
      subst (λ (l : List Function). at l k ≡ some (function_of (group g))) (sym (records-are i tray w f))
      (at_map (λ h. function_of (group h)) (functions_at tray) k g e)

  by_unit : (f : UnitFinished i (after i)) (u : Asked i tray w f) (g : GroupAt) (k : ℕ) → at (functions_at tray) k ≡ some g → frames_of a g ≡ x
      → Explained i tray a x
  unfolding frames_of chain
  by_unit f u g k e q =
      let s = pointwise_at (RecordAgrees (dwarf_of i) u.unit true) (subjects (dwarf_of i) u.unit) f.state.records k (function_of (group g)) u.agree
      (told f g k e) in
      let t = s.2.tree refl in
      record {
        unit = u.unit;
        chosen = u.chosen;
        number = k;
        subject = s.0;
        asked = s.1;
        found = g;
        numbered = e;
        here = ap (λ (y : Frames). y.function) q;
        agrees = s.2;
        nodes = t.0;
        tree = t.2;
        inline = t.1;
        below = subst (λ (l : List ℕ). All (Kept-here i u.unit s.0.number g a t.0 t.1 t.2) (drop 1 l)) (ap (λ (y : Frames). y.chain) q)
            (all_map (drop 1 (chain_from a 0 (nodes_at g))) (kept_here i u.unit s.0.number g a t.0 t.1 t.2) (rest-held a 0 (nodes_at g)));
      }

  explained : (g : GroupAt) (k : ℕ) → at (functions_at tray) k ≡ some g → frames_of a g ≡ x → Explained i tray a x
  unfolding at
  explained g k e q = let f = demand i w.lent w.finished in go f (asked i tray w f)
    where
      go : (f : UnitFinished i (after i)) → Asked i tray w f ⊎ ((at (units i.main) i.ordinal ≡ none) × (f.state.records ≡ [])) → Explained i tray a x
      go f (inl u) = by_unit f u g k e q
      go f (inr h) = absurd (none-ne-some _ (subst (λ (l : List Function). at l k ≡ some (function_of (group g))) h.1 (told f g k e)))

  by_first : (o : Option GroupAt) → first (λ f. holds a (function_range f)) (functions_at tray) ≡ o → qualifying (frames_of a) o ≡ done x → Explained i tray a x
  by_first none e q = refused-not q
  by_first (some g) e q = let k = first-at (λ f. holds a (function_range f)) (functions_at tray) g e in explained g k.0 k.1 (done-is q)

pub explaining : Explaining
unfolding look_up
explaining i tray a x w e =
    with_done (functions_of tray) _ e λ fs q r.
    by_first i tray a x w _ refl
    (subst (λ (l : List GroupAt). qualifying (frames_of a) (first (λ f. holds a (function_range f)) l) ≡ done x) (found_in tray fs q) r)
