-- What is running at an address, from the sheet's side.
use mathlib.Core.Path.{◌≡◌, refl, sym, ap, subst, ◌∙◌}
use mathlib.Core.Bool.{Bool, true, false, cond}
use mathlib.Core.Logic.{◌⊎◌, inl, inr}
use mathlib.Core.List.{List, [], ◌∷◌, map, cons≢nil}
use mathlib.Core.Option.{Option, none, some, none-ne-some, some-injective}
use Prim.Native.Nat.{ℕ, zero, suc}
use native.Mathlib.Omega.{arith}
use lib.ListN.{length}
use Rattle.tlv.specs.declared.model.AddressRange.{AddressRange}
use Rattle.tlv.specs.Addresses.{RangeHolds}
use Rattle.tlv.specs.Outcome.{done, ◌>>=◌}
use Rattle.tlv.specs.Lists.{All, at, first, map_option}
use Rattle.tlv.specs.Model.{CompilationUnit, units}
use Rattle.tlv.specs.Fields.{fields}
use Rattle.tlv.proofs.ListLaws.{all-at, given-some, at-image, mapped}
use Rattle.buffers.specs.Output.{InlineNode, Function}
use Rattle.buffers.specs.Reader.{records_form, read_records, function_of}
use Rattle.imports.specs.Import.{rooted}
use Rattle.imports.specs.Answer.{Inputs, dwarf_of, after}
use Rattle.imports.specs.Agree.{TreeEntry, tree_entries, tree_node, root, TreeAgrees}
use Rattle.imports.specs.Demand.{Subject, subjects, RecordAgrees, Pointwise, UnitFinished}
use Rattle.imports.proofs.Demand.{demand}
use Rattle.lookup.specs.Tray.{GroupAt, group, functions_at, nodes_at, function_range, node, functions_of}
use Rattle.lookup.specs.Lookup.{holds, chain_from, chain, Frames, frames_of, qualifying, look_up}
use Rattle.lookup.specs.Means.{FirstHolding, HoldingIs, RowIs, ChainIs, unheld, from-root, PlacesIn, Chained}
use Rattle.lookup.specs.Demand.{WrittenBy}
use Rattle.lookup.specs.Sheet.{HoldsUnder, EntriesUnder, no_more, NodesAt, ChainPlaces, bare, rooted-at, Framed, Unheld, Answered, FromSheet}
use Rattle.lookup.proofs.ReadLaws.{reads-functions, reads-nodes}
use Rattle.lookup.proofs.DemandLaws.{at_map, pointwise_at, records-are, Asked, asked}
use Rattle.lookup.proofs.FormLaws.{chaining}
use Rattle.lookup.proofs.RowMeans.{function-is, row_is}
use Rattle.lookup.proofs.SheetChain.{Paired, Inwards, inwards}

module _ {A B : Type 0} (R : A → B → Type 0) where
  pointwise_left : (xs : List A) (ys : List B) (k : ℕ) (x : A) → Pointwise R xs ys → at xs k ≡ some x → (y : B) × (at ys k ≡ some y) × R x y
  unfolding at
  pointwise_left [] (y ∷ ys) k x h e = elim h [ ]
  pointwise_left (z ∷ xs) [] k x h e = elim h [ ]
  pointwise_left [] [] k x h e = absurd (none-ne-some x e)
  pointwise_left (z ∷ xs) (y ∷ ys) zero x h e = (y, refl, subst (λ (w : A). R w y) (some-injective z x e) h.0)
  pointwise_left (z ∷ xs) (y ∷ ys) (suc k) x h e = pointwise_left xs ys k x h.1 e

-- ---- the chain of one record

module _ (g : GroupAt) (r : AddressRange) (name : List ℕ) (us : List TreeEntry) (s a : ℕ) (in-range : RangeHolds r a) where
  pub record ChainOf (nodes : List InlineNode) (T : TreeAgrees r us s (map tree_node nodes)) (ps : List ℕ) : Type 0 where
    pub entries : List ℕ
    pub are : EntriesUnder us s T.merged a none entries
    pub places : ChainPlaces g T.entry_of (length nodes) entries ps

  no-nodes : (gs : List GroupAt) → map node gs ≡ [] → gs ≡ []
  no-nodes [] e = refl
  no-nodes (x ∷ gs) e = absurd (cons≢nil e)

  none_kept : (T : TreeAgrees r us s (map tree_node [])) → (function_of (group g)).inline ≡ [] → ChainOf [] T (chain a g)
  unfolding chain chain_from
  none_kept T e =
      let z = no-nodes (nodes_at g) (sym (reads-nodes g) ∙ e) in
      record {
        entries = [];
        are = no_more unpaired;
        places = rw z (bare z);
      }
    where
      unpaired : (i : ℕ) → ¬ HoldsUnder us s T.merged a none i
      unpaired i h = let q = T.onto i h.under h.kept in let l = q.1 in omega arith

  module _ (n : InlineNode) (ns : List InlineNode) (T : TreeAgrees r us s (map tree_node (n ∷ ns))) where
    -- entries, the numbers of their nodes, the places of these
    joined : (is ms ps : List ℕ) → Paired r us s name n ns T a is ms → PlacesIn (nodes_at g) ms ps → NodesAt g T.entry_of (length (n ∷ ns)) is ps
    unfolding map_option
    joined [] [] [] x y = tt
    joined [] [] (p ∷ ps) x y = y
    joined [] (m ∷ ms) ps x y = absurd x
    joined (i ∷ is) [] ps x y = absurd x
    joined (i ∷ is) (m ∷ ms) [] x y = absurd y
    joined (i ∷ is) (m ∷ ms) (p ∷ ps) x y =
        let q = x.0 in
        let e = q.3 in (
          record { number = q.0; among = q.1; paired = q.2; stands = rw (← e, y.0.1) (ap some y.0.2) },
          joined is ms ps x.1 y.1,
        )

    with_root : (numbers ps : List ℕ) → Inwards r us s name n ns T a none 0 numbers → PlacesIn (nodes_at g) numbers ps → ChainOf (n ∷ ns) T ps
    unfolding map_option
    with_root numbers ps x y = go ps (subst (λ (l : List ℕ). PlacesIn (nodes_at g) l ps) x.whole y)
      where
        go : (qs : List ℕ) → PlacesIn (nodes_at g) (0 ∷ x.rest) qs → ChainOf (n ∷ ns) T qs
        go [] z = absurd z
        go (q ∷ qs) z = record {
          entries = x.entries;
          are = x.are;
          places = rooted-at {r = q} (rw z.0.1 (ap some z.0.2))
              (joined x.entries x.rest qs x.paired z.1);
        }

    kept-some : (numbers ps : List ℕ) → ChainIs (rooted name r (n ∷ ns)) a numbers → PlacesIn (nodes_at g) numbers ps → ChainOf (n ∷ ns) T ps
    unfolding at
    kept-some numbers ps (unheld off) y = absurd (off (record { node = _; numbered = refl; holds = inl in-range }))
    kept-some numbers ps (from-root h c) y = with_root numbers ps (inwards r us s name n ns T a none 0 numbers root c) y

  chain-of : (nodes : List InlineNode) (T : TreeAgrees r us s (map tree_node nodes)) → (function_of (group g)).inline ≡ rooted name r nodes → Chained g a
      → ChainOf nodes T (chain a g)
  chain-of [] T e c = none_kept T e
  chain-of (n ∷ ns) T e c =
      kept-some n ns T c.numbers (chain a g) (subst (λ (l : List InlineNode). ChainIs l a c.numbers) (sym (reads-nodes g) ∙ e) c.is) c.places

-- ---- the whole

module _ (i : Inputs) (tray : List ℕ) (a : ℕ) (w : WrittenBy i tray) (f : UnitFinished i (after i)) (asks : Asked i tray w f) where
  abbrev told : List Subject
  told = subjects (dwarf_of i) asks.unit

  -- subject m and function m have one range
  record Facing (m : ℕ) (k : Subject) : Type 0 where
    one : GroupAt
    numbered : at (functions_at tray) m ≡ some one
    range : function_range one ≡ k.range

  facing : (m : ℕ) (k : Subject) → at told m ≡ some k → Facing m k
  unfolding function_of
  facing m k e =
      let p = pointwise_left (RecordAgrees (dwarf_of i) asks.unit true) told f.state.records m k asks.agree e in
      let at-map-is = subst (λ (l : List Function). at l m ≡ some p.0) (records-are i tray w f) p.1 in
      let q = mapped (λ h. function_of (group h)) (at (functions_at tray) m) p.0
      (sym (at-image (λ h. function_of (group h)) (functions_at tray) m) ∙ at-map-is) in
      record { one = q.0; numbered = q.1; range = ap (λ (y : Function). y.range) q.2 ∙ p.2.range }

  -- a subject that holds the address has a function that does
  holds-too : (m : ℕ) (k : Subject) (x : Facing m k) → RangeHolds k.range a → RangeHolds (function_range x.one) a
  holds-too m k x h = subst (λ (r : AddressRange). RangeHolds r a) (sym x.range) h

  framed : (g : GroupAt) (x : Frames) → FirstHolding a (functions_at tray) g → Chained g a → frames_of a g ≡ x → Framed i tray a x
  unfolding frames_of function_of
  framed g x h c q =
      let k = h.number in
      let is = subst (λ (l : List Function). at l k ≡ some (function_of (group g))) (sym (records-are i tray w f))
      (at_map (λ h. function_of (group h)) (functions_at tray) k g h.numbered) in
      let s = pointwise_at (RecordAgrees (dwarf_of i) asks.unit true) told f.state.records k (function_of (group g)) asks.agree is in
      let t = s.2.tree refl in
      let all = chain-of g (function_range g) (function_of (group g)).name (tree_entries (dwarf_of i) asks.unit) s.0.number a h.holding t.0 t.2
      t.1 c in
      record {
        unit = asks.unit;
        chosen = asks.chosen;
        number = k;
        subject = s.0;
        asked = record {
          numbered = s.1;
          holding = subst (λ (r : AddressRange). RangeHolds r a) s.2.range h.holding;
          first = λ m j l e y. let z = facing m j e in h.first m z.one l z.numbered (holds-too m j z y);
        };
        found = g;
        numbered = h.numbered;
        here = ap (λ (y : Frames). y.function) q;
        agrees = s.2;
        row = subst (RowIs a g.rest) (ap (λ (y : Frames). y.row) q) (row_is a g);
        nodes = t.0;
        inline = t.1;
        tree = t.2;
        entries = all.entries;
        chain = all.are;
        places = subst (ChainPlaces g t.2.entry_of (length t.0) all.entries) (ap (λ (y : Frames). y.chain) q) all.places;
      }

  -- where no function holds the address, no subject does
  none-holds : All (λ g. ¬ RangeHolds (function_range g) a) (functions_at tray) → (ks : List Subject)
      → ((m : ℕ) (k : Subject) → at ks m ≡ some k → ¬ RangeHolds k.range a)
      → All (λ k. ¬ RangeHolds k.range a) ks
  unfolding at
  none-holds h [] off = tt
  none-holds h (k ∷ ks) off = (off 0 k refl, none-holds h ks (λ m j e. off (suc m) j e))

  unheld-all : All (λ g. ¬ RangeHolds (function_range g) a) (functions_at tray) → Unheld i a
  unheld-all h = record {
    none = λ u e. subst (λ (x : CompilationUnit). All (λ k. ¬ RangeHolds k.range a) (subjects (dwarf_of i) x)) (some-injective _ _ (sym asks.chosen ∙ e))
        (none-holds h told (λ m k e y. let z = facing m k e in given-some (λ g. ¬ RangeHolds (function_range g) a) (at (functions_at tray) m) z.one
        (all-at (λ g. ¬ RangeHolds (function_range g) a) (functions_at tray) m h) z.numbered (holds-too m k z y)));
  }

  by_first : (o : Option GroupAt) → HoldingIs a (functions_at tray) o → All (λ g. Chained g a) (functions_at tray) → Answered i tray a (qualifying (frames_of a) o)
  by_first none h c = (refl, unheld-all h)
  by_first (some g) h c = framed g (frames_of a g) h (given-some (λ x. Chained x a) (at (functions_at tray) h.number) g
      (all-at (λ x. Chained x a) (functions_at tray) h.number c) h.numbered) refl

map-empty : (xs : List GroupAt) → map (λ g. function_of (group g)) xs ≡ [] → xs ≡ []
map-empty [] e = refl
map-empty (x ∷ xs) e = absurd (cons≢nil e)

module _ (i : Inputs) (tray : List ℕ) (a : ℕ) (w : WrittenBy i tray) (f : UnitFinished i (after i)) where
  -- the tray is in document 01's form
  formed : records_form 0 0 (fields tray) ≡ true
  formed = go (records_form 0 0 (fields tray)) (sym (reads-functions tray) ∙ ap read_records w.tray_is ∙ f.records)
    where
      go : (b : Bool) → cond b (some (map (λ g. function_of (group g)) (functions_at tray))) none ≡ some f.state.records → b ≡ true
      go true e = refl
      go false e = absurd (none-ne-some _ e)

  -- a package without debug data has no function, and no unit
  by_unit : Asked i tray w f ⊎ ((at (units i.main) i.ordinal ≡ none) × (f.state.records ≡ [])) → functions_of tray ≡ done (functions_at tray)
      → Answered i tray a (qualifying (frames_of a) (first (λ g. holds a (function_range g)) (functions_at tray)))
  unfolding first
  by_unit (inl u) e =
      by_first i tray a w f u (first (λ g. holds a (function_range g)) (functions_at tray)) (function-is a (functions_at tray)) (chaining tray (functions_at tray) a e)
  by_unit (inr h) e =
      subst (λ (l : List GroupAt). Answered i tray a (qualifying (frames_of a) (first (λ g. holds a (function_range g)) l)))
      (sym (map-empty (functions_at tray) (sym (records-are i tray w f) ∙ h.1)))
      (refl, record { none = λ u q. absurd (none-ne-some u (sym h.0 ∙ q)) })

  pub answered : Answered i tray a (look_up tray a)
  unfolding look_up functions_of ◌>>=◌
  answered =
      let e : functions_of tray ≡ done (functions_at tray) = rw formed in
      rw formed (by_unit (asked i tray w f) e)

pub from-sheet : FromSheet
from-sheet i tray a w = answered i tray a w (demand i w.lent w.finished)
