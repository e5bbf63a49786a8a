-- The kept ancestors of an entry, computed from the entries before it; they are the nearest kept ancestors that `specs/Agree.antt` speaks of.
use mathlib.Core.Path.{◌≡◌, refl, sym, ◌∙◌}
use mathlib.Core.Logic.{◌≢◌}
use mathlib.Core.Option.{Option, none, some}
use mathlib.Core.List.{List, [], ◌∷◌, cons≢nil}
use mathlib.Core.Bool.{Bool, true, false}
use Prim.Native.Nat.{ℕ, zero, suc, ◌<◌}
use native.Mathlib.Omega.{arith}
use lib.Dec.{eqb}
use lib.ListN.{length}
use borrow.Author.Tests.{eqb-true, eqb-false}
use Rattle.tlv.specs.declared.model.AddressRange.{AddressRange}
use Rattle.tlv.specs.Lists.{All}
use Rattle.tlv.specs.Addresses.{Inside}
use Rattle.tlv.proofs.TestLaws.{by_less}
use Rattle.imports.specs.Agree.{TreeEntry, Parent, entry, entry_depth, Kept, against, Rule}
use Rattle.imports.proofs.StackMachine.{keep}
use Rattle.imports.proofs.ListAgree.{ListNearest, no-parent, kept-parent, higher-up, ListJudged, ListHeight, top, one_more, passed}
use Rattle.imports.proofs.KeepLaws.{keep_rule, keep-within}

-- a kept entry: its number, its merged ranges
pub record Held : Type 0 where
  pub number : ℕ
  pub ranges : List AddressRange

abbrev pub top_held : AddressRange → List Held → List AddressRange
top_held f [] = f ∷ []
top_held f (k ∷ ks) = k.ranges

-- the nearest of them
abbrev pub up_of : List Held → Option ℕ
up_of [] = none
up_of (k ∷ ks) = some k.number

-- entry n on top of the kept ones, where it has merged ranges
abbrev pub add : ℕ → List AddressRange → List Held → List Held
add n [] ks = ks
add n (m ∷ ms) ks = record { number = n; ranges = m ∷ ms } ∷ ks

module _ (f : AddressRange) (es : List TreeEntry) where
  -- entry n, seen from below: it is the parent, and the way goes on from its own depth; or it is passed over
  abbrev pub above_one : Bool → ℕ → ℕ → (ℕ → List Held) → List Held
  above_one true d n rest = add n (keep (top_held f (rest (entry_depth es n))) (entry es n)) (rest (entry_depth es n))
  above_one false d n rest = rest d

  -- the kept ancestors of a place of depth d after n entries, nearest first
  unfoldable pub above : ℕ → ℕ → List Held
  above d zero = []
  above d (suc n) = above_one (eqb (suc (entry_depth es n)) d) d n (λ c. above c n)

  -- the merged ranges of entry n
  unfoldable pub merged : ℕ → List AddressRange
  merged n = keep (top_held f (above (entry_depth es n) n)) (entry es n)

  -- ---- the first of them is the nearest, and the others are its own
  pub record Head (d n : ℕ) (k : Held) (ks : List Held) : Type 0 where
    pub near : ListNearest merged (entry_depth es) d n (some k.number)
    pub kept : Kept merged k.number
    pub ranges : k.ranges ≡ merged k.number
    pub earlier : k.number < n
    pub higher : entry_depth es k.number < d
    pub tail : ks ≡ above (entry_depth es k.number) k.number

  abbrev pub ChainOf : ℕ → ℕ → List Held → Type 0
  ChainOf d n [] = ListNearest merged (entry_depth es) d n none
  ChainOf d n (k ∷ ks) = Head d n k ks

  -- a place after one more entry that is not its parent
  parent-later : (d n p : ℕ) → (suc (entry_depth es n) ≡ d → ⊥) → Parent (entry_depth es) d n p → Parent (entry_depth es) d (suc n) p
  parent-later d n p h q = record { earlier = omega arith; higher = q.higher; last = last }
    where
      last : (k : ℕ) → p < k → k < suc n → suc (entry_depth es k) ≢ d
      last k l m = by_less (suc (entry_depth es k) ≢ d) k n (λ b. q.last k l b) (λ g. let s : k ≡ n = omega arith in rw s h)

  parent-sooner : (d n p : ℕ) → (suc (entry_depth es n) ≡ d → ⊥) → Parent (entry_depth es) d (suc n) p → Parent (entry_depth es) d n p
  parent-sooner d n p h q = record { earlier = earlier; higher = q.higher; last = λ k l m. q.last k l (omega arith) }
    where
      earlier : p < n
      earlier = by_less (p < n) p n (λ l. l) (λ g. let s : p ≡ n = omega (arith, q.earlier) in absurd (h (rw s at q.higher)))

  nearest-later : (d n : ℕ) (up : Option ℕ) → (suc (entry_depth es n) ≡ d → ⊥) → ListNearest merged (entry_depth es) d n up → ListNearest merged (entry_depth es) d (suc n) up
  nearest-later d n up h (no-parent k) = no-parent (λ p q. k p (parent-sooner d n p h q))
  nearest-later d n up h (kept-parent {p = p} q k) = kept-parent (parent-later d n p h q) k
  nearest-later d n up h (higher-up {p = p} q k t) = higher-up (parent-later d n p h q) k t

  chain-later : (d n : ℕ) (ks : List Held) → (suc (entry_depth es n) ≡ d → ⊥) → ChainOf d n ks → ChainOf d (suc n) ks
  chain-later d n [] h c = nearest-later d n none h c
  chain-later d n (k ∷ ks) h c = record { near = nearest-later d n (some k.number) h c.near; kept = c.kept; ranges = c.ranges; earlier = omega arith; higher = c.higher; tail = c.tail }

  parent-here : (d n : ℕ) → suc (entry_depth es n) ≡ d → Parent (entry_depth es) d (suc n) n
  parent-here d n h = record { earlier = omega arith; higher = h; last = λ k l m. absurd (omega arith) }

  chain-up : (d n : ℕ) (ks : List Held) → suc (entry_depth es n) ≡ d → ¬ Kept merged n → ChainOf (entry_depth es n) n ks → ChainOf d (suc n) ks
  chain-up d n [] h k c = higher-up (parent-here d n h) k c
  chain-up d n (x ∷ ks) h k c = record { near = higher-up (parent-here d n h) k c.near; kept = c.kept; ranges = c.ranges; earlier = omega arith; higher = omega arith; tail = c.tail }

  chain-add : (d n : ℕ) → suc (entry_depth es n) ≡ d → (ms : List AddressRange) → merged n ≡ ms → ChainOf (entry_depth es n) n (above (entry_depth es n) n) → ChainOf d (suc n) (add n ms (above (entry_depth es n) n))
  chain-add d n h [] e c = chain-up d n (above (entry_depth es n) n) h (λ k. k e) c
  chain-add d n h (m ∷ ms) e c = record { near = kept-parent (parent-here d n h) kept; kept = kept; ranges = sym e; earlier = omega arith; higher = omega arith; tail = refl }
    where
      kept : Kept merged n
      kept z = cons≢nil (sym e ∙ z)

  none_first : (d p : ℕ) → Parent (entry_depth es) d 0 p → ⊥
  none_first d p q = omega arith

  pub chain : (d n : ℕ) → ChainOf d n (above d n)
  unfolding above merged
  chain d zero = no-parent (none_first d)
  chain d (suc n) = go (eqb (suc (entry_depth es n)) d) refl (λ c. chain c n)
    where
      go : (b : Bool) → eqb (suc (entry_depth es n)) d ≡ b → ((c : ℕ) → ChainOf c n (above c n)) → ChainOf d (suc n) (above_one b d n (λ c. above c n))
      go true e rec = chain-add d n (eqb-true (suc (entry_depth es n)) d e) (merged n) refl (rec (entry_depth es n))
      go false e rec = chain-later d n (above d n) (eqb-false (suc (entry_depth es n)) d e) (rec d)

  -- ---- as many as there are kept ancestors

  height-later : (d n h : ℕ) → (suc (entry_depth es n) ≡ d → ⊥) → ListHeight merged (entry_depth es) d n h → ListHeight merged (entry_depth es) d (suc n) h
  height-later d n h g (top k) = top (λ p q. k p (parent-sooner d n p g q))
  height-later d n h g (one_more {p = p} q k t) = one_more (parent-later d n p g q) k t
  height-later d n h g (passed {p = p} q k t) = passed (parent-later d n p g q) k t

  height-add : (d n : ℕ) → suc (entry_depth es n) ≡ d → (ms : List AddressRange) → merged n ≡ ms → (ks : List Held) → ListHeight merged (entry_depth es) (entry_depth es n) n (length ks) →
      ListHeight merged (entry_depth es) d (suc n) (length (add n ms ks))
  height-add d n h [] e ks t = passed (parent-here d n h) (λ k. k e) t
  height-add d n h (m ∷ ms) e ks t = one_more (parent-here d n h) (λ z. cons≢nil (sym e ∙ z)) t

  pub height : (d n : ℕ) → ListHeight merged (entry_depth es) d n (length (above d n))
  unfolding above merged
  height d zero = top (none_first d)
  height d (suc n) = go (eqb (suc (entry_depth es n)) d) refl (λ c. height c n)
    where
      go : (b : Bool) → eqb (suc (entry_depth es n)) d ≡ b → ((c : ℕ) → ListHeight merged (entry_depth es) c n (length (above c n))) → ListHeight merged (entry_depth es) d (suc n) (length (above_one b d n (λ c. above c n)))
      go true e rec = height-add d n (eqb-true (suc (entry_depth es n)) d e) (merged n) refl (above (entry_depth es n) n) (rec (entry_depth es n))
      go false e rec = height-later d n (length (above d n)) (eqb-false (suc (entry_depth es n)) d e) (rec d)

  -- ---- the rule at every entry

  pub nearest-of : (d n : ℕ) (ks : List Held) → ChainOf d n ks → ListNearest merged (entry_depth es) d n (up_of ks)
  nearest-of d n [] c = c
  nearest-of d n (k ∷ ks) c = c.near

  pub rule_of : (i : ℕ) (ks : List Held) → above (entry_depth es i) i ≡ ks → ChainOf (entry_depth es i) i ks → Rule (against f merged (up_of ks)) (merged i) (entry es i)
  unfolding merged
  rule_of i [] e c = rw e (keep_rule (f ∷ []) (entry es i))
  rule_of i (k ∷ ks) e c = rw (e, ← c.ranges) (keep_rule k.ranges (entry es i))

  pub judged : ListJudged f es merged
  judged i =
      let ks = above (entry_depth es i) i in
      let c = chain (entry_depth es i) i in
      (up_of ks, nearest-of (entry_depth es i) i ks c, rule_of i ks refl c)

  -- ---- all lies inside the function's range

  pub top_within : (d n : ℕ) → All (λ r. Inside r f) (top_held f (above d n))
  unfolding above
  top_within d zero = (omega arith, tt)
  top_within d (suc n) = go (eqb (suc (entry_depth es n)) d) (λ c. top_within c n)
    where
      put : (ms : List AddressRange) → All (λ r. Inside r f) ms → (ks : List Held) → All (λ r. Inside r f) (top_held f ks) → All (λ r. Inside r f) (top_held f (add n ms ks))
      put [] h ks k = k
      put (m ∷ ms) h ks k = h

      go : (b : Bool) → ((c : ℕ) → All (λ r. Inside r f) (top_held f (above c n))) → All (λ r. Inside r f) (top_held f (above_one b d n (λ c. above c n)))
      go true rec = put (keep (top_held f (above (entry_depth es n) n)) (entry es n)) (keep-within (top_held f (above (entry_depth es n) n)) (entry es n) f (rec (entry_depth es n))) (above (entry_depth es n) n) (rec (entry_depth es n))
      go false rec = rec d

  pub merged-within : (n : ℕ) → All (λ r. Inside r f) (merged n)
  unfolding merged
  merged-within n = keep-within (top_held f (above (entry_depth es n) n)) (entry es n) f (top_within (entry_depth es n) n)
