-- The chains of the targets that a search has followed: the newest of a chain, a walk along one, and a target that joins its own.
use mathlib.Core.Path.{◌≡◌, refl, sym, ap, ◌∙◌}
use mathlib.Core.Bool.{Bool, true, false, cond, not, true≢false}
use mathlib.Core.Logic.{inl, inr, ⊎_elim}
use mathlib.Core.List.{List}
use Prim.Native.Nat.{ℕ, zero, suc, ◌+◌, ◌-◌, ◌*◌, ◌/◌, ◌%◌, ◌≤◌, ◌<◌}
use native.Mathlib.Nat.{mod-lt}
use native.Mathlib.Numerals.{add-one}
use native.Mathlib.Omega.{arith}
use lib.Dec.{eqb, ltb}
use lib.ListN.{length}
use borrow.Author.Tests.{eq-eqb, eqb-true, eqb-false, ltb-true}
use Rattle.tlv.specs.declared.model.DebugSource.{DebugSource}
use Rattle.tlv.specs.Lists.{exists}
use Rattle.tlv.specs.Bytes.{le_at}
use Rattle.buffers.specs.Table.{chunk, Kept, Clear, KeptBut, Wrote, Zeroed}
use Rattle.buffers.proofs.TableLaws.{le-or_lt, kept_refl, kept_trans, kept-wide, le_at-kept, but_one, le_at-but}
use Rattle.buffers.proofs.ChunkLaws.{le_at-chunk}
use Rattle.buffers.proofs.ZeroLaws.{zeroed-chunk, le_at-zeros}
use Rattle.access.proofs.IndexModel.{either}
use Rattle.files.proofs.GrownLaws.{clear-part}
use Rattle.references.specs.declared.tables.Tables.{Tables}
use Rattle.references.specs.Search.{same_key}
use Rattle.references.specs.Keys.{key_of, keys_at, key_in, chain_count, keys_from, chain_of, head_of, offset_at, many, Chained, TrailIn, Chains}
use Rattle.references.proofs.VisitedLaws.{keys_step, offset-in, offsets-differ}

-- ---- what stays

pub keys_length : (w : List ℕ) (base n : ℕ) → length (keys_at w base n) ≡ n
unfolding keys_at
keys_length w base zero = refl
keys_length w base (suc n) = ap suc (keys_length w base n)

pub keys-clear : {w w' : List ℕ} {rs : List (ℕ × ℕ)} (base n : ℕ) → KeptBut w w' rs → Clear base (n * 13) rs → keys_at w' base n ≡ keys_at w base n
unfolding keys_at
keys-clear base zero K c = refl
keys-clear {w} {w'} {rs} base (suc n) K c =
    let one = K.same (base + n * 13) 9 (clear-part base (suc n * 13) (base + n * 13) 9 rs c (omega arith) (omega arith)) in
    rw (one, keys-clear base n K (clear-part base (suc n * 13) base (n * 13) rs c (omega arith) (omega arith)))

-- the offset of a record
offset-is : (w : List ℕ) (p : ℕ) → (key_of (chunk w p 9)).offset ≡ le_at 8 w (p + 1)
unfolding key_of
offset-is w p = le_at-chunk 8 w p 9 1 (omega arith)

-- the link that record i has to have
same-link : (w w' : List ℕ) (x : Tables) (i : ℕ) → chunk w' (keys_from x + i * 13) 9 ≡ chunk w (keys_from x + i * 13) 9 → keys_at w' (keys_from x) i ≡ keys_at w (keys_from x) i
    → head_of (chain_count x) (chain_of (chain_count x) (offset_at w x i)) (keys_at w (keys_from x) i) ≡ head_of (chain_count x) (chain_of (chain_count x) (offset_at w' x i)) (keys_at w' (keys_from x) i)
same-link w w' x i e k = sym (λ t. head_of (chain_count x) (chain_of (chain_count x) (key_of (e t)).offset) (k t))

-- the heads and the records lie clear of what is written
pub chained-clear : {w w' : List ℕ} {x : Tables} {n : ℕ} {rs : List (ℕ × ℕ)} → Chained w x n → KeptBut w w' rs → Clear x.keys (chain_count x * 4 + n * 13) rs → Chained w' x n
chained-clear {w} {w'} {x} {n} {rs} C K clear =
    let part : (q k : ℕ) → x.keys ≤ q → q + k ≤ keys_from x + n * 13 → Clear q k rs = λ q k a b. clear-part x.keys (chain_count x * 4 + n * 13) q k rs clear a (omega arith) in
    let keys : (i : ℕ) → i ≤ n → keys_at w' (keys_from x) i ≡ keys_at w (keys_from x) i = λ i h. keys-clear (keys_from x) i K (part (keys_from x) (i * 13) (omega arith) (omega arith)) in
    record {
      heads = λ c h. le_at-but 4 (x.keys + c * 4) K (part (x.keys + c * 4) 4 (omega arith) (omega arith)) ∙ rw (keys n (omega arith)) (C.heads c h);
      links = λ i h. le_at-but 4 (keys_from x + i * 13 + 9) K (part (keys_from x + i * 13 + 9) 4 (omega arith) (omega arith))
          ∙ C.links i h ∙ same-link w w' x i (K.same (keys_from x + i * 13) 9 (part (keys_from x + i * 13) 9 (omega arith) (omega arith))) (keys i (omega arith));
    }

-- ---- the newest of a chain

pub chain-below : (m offset : ℕ) → 0 < m → chain_of m offset < m
unfolding chain_of
chain-below m offset h = mod-lt (offset % 4294967296 * 2654435761 / 65536) h

pub chain-small : {c m : ℕ} (x : Tables) (offset : ℕ) → c ≡ chain_of m offset → m ≡ chain_count x → c < chain_count x
chain-small x offset ec em = rw (ec, em) (chain-below (chain_count x) offset (omega arith))

-- a target is among the first n exactly if it is among the first k, and k - 1 is of its chain
pub record Front (w : List ℕ) (x : Tables) (source : DebugSource) (offset n k : ℕ) : Type 0 where
  pub left : k ≤ n
  pub same : exists (same_key (key_in source offset)) (keys_at w (keys_from x) n) ≡ exists (same_key (key_in source offset)) (keys_at w (keys_from x) k)
  pub own : (j : ℕ) → k ≡ suc j → chain_of (chain_count x) (offset_at w x j) ≡ chain_of (chain_count x) offset

module _ (w : List ℕ) (x : Tables) (source : DebugSource) (offset : ℕ) where
  -- another chain, another target
  other : (n : ℕ) → (chain_of (chain_count x) (offset_at w x n) ≡ chain_of (chain_count x) offset → ⊥) → false ≡ same_key (key_in source offset) (key_of (chunk w (keys_from x + n * 13) 9))
  other n ne = offsets-differ (key_in source offset) (key_of (chunk w (keys_from x + n * 13) 9)) (λ e. ne (ap (chain_of (chain_count x)) (sym e ∙ offset-in source offset)))

  front_is : (n : ℕ) → Front w x source offset n (head_of (chain_count x) (chain_of (chain_count x) offset) (keys_at w (keys_from x) n))
  unfolding keys_at head_of exists
  front_is zero = record { left = omega arith; same = refl; own = λ j e. absurd (omega arith) }
  front_is (suc n) = go (eqb (chain_of (chain_count x) (offset_at w x n)) (chain_of (chain_count x) offset)) refl (front_is n)
    where
      go : (b : Bool) → eqb (chain_of (chain_count x) (offset_at w x n)) (chain_of (chain_count x) offset) ≡ b → Front w x source offset n (head_of (chain_count x) (chain_of (chain_count x) offset) (keys_at w (keys_from x) n))
          → Front w x source offset (suc n) (cond b (suc (length (keys_at w (keys_from x) n))) (head_of (chain_count x) (chain_of (chain_count x) offset) (keys_at w (keys_from x) n)))
      go true e F = rw (keys_length w (keys_from x) n) (record {
        left = omega arith;
        same = refl;
        own = λ j q. let z : n ≡ j = omega arith in rw z at (eqb-true (chain_of (chain_count x) (offset_at w x n)) (chain_of (chain_count x) offset) e);
      })
      go false e F =
          record { left = omega (arith, F.left); same = rw (sym (other n (eqb-false (chain_of (chain_count x) (offset_at w x n)) (chain_of (chain_count x) offset) e))) F.same; own = F.own }

  front_from : {n m k : ℕ} → m ≤ n → exists (same_key (key_in source offset)) (keys_at w (keys_from x) n) ≡ exists (same_key (key_in source offset)) (keys_at w (keys_from x) m)
      → k ≡ head_of (chain_count x) (chain_of (chain_count x) offset) (keys_at w (keys_from x) m) → Front w x source offset n k
  front_from {n} {m} {k} h e q =
      let F : Front w x source offset m k = rw q (front_is m) in
      record { left = omega (arith, F.left); same = e ∙ F.same; own = F.own }

-- ---- a walk along a chain

pub many-chained : {w : List ℕ} {x : Tables} {n m : ℕ} {v : Bool} → TrailIn w x n m → v ≡ many n → v ≡ true → Chained w x n
many-chained T e y = T.chained (sym e ∙ y)

pub not_no : (v : Bool) → not v ≡ false → v ≡ true
not_no true e = refl
not_no false e = sym e

pub not_yes : (v : Bool) → not v ≡ true → v ≡ false
not_yes true e = sym e
not_yes false e = refl

pub many-small : {v : Bool} (n : ℕ) → v ≡ many n → v ≡ true → n < 4294967296
unfolding many
many-small n e y =
    either (ltb 64 n) (λ a. ltb-true n 4294967296 (rw a at (sym e ∙ y))) (λ a. absurd (true≢false (sym (rw a at (sym e ∙ y)))))

pub walk_start : {w : List ℕ} {x : Tables} {n : ℕ} {source : DebugSource} {offset chains c k : ℕ} → Chained w x n → chains ≡ chain_count x → c ≡ chain_of chains offset → k ≡ le_at 4 w (x.keys + c * 4) → Front w x source offset n k
walk_start {w} {x} {n} {source} {offset} {chains} {c} {k} C em ec ek =
    let is : c ≡ chain_of (chain_count x) offset = rw em at ec in
    front_from w x source offset {m = n} (omega arith) refl (rw is at (ek ∙ C.heads c (rw is (chain-below (chain_count x) offset (omega arith)))))

module _ {w : List ℕ} {x : Tables} {n : ℕ} {source : DebugSource} {offset base : ℕ} (C : Chained w x n) (eb : base ≡ keys_from x) where
  module _ {k : ℕ} (F : Front w x source offset n k) (ne : k ≡ 0 → ⊥) where
    link_is : {k' : ℕ} → k' ≡ le_at 4 w (base + (k - 1) * 13 + 9) → k' ≡ head_of (chain_count x) (chain_of (chain_count x) offset) (keys_at w (keys_from x) (k - 1))
    link_is {k'} e =
        let own = F.own (k - 1) (omega arith) in
        rw own at (rw eb at e ∙ C.links (k - 1) (omega (arith, F.left)))

    pub walk-less : {k' : ℕ} → k' ≡ le_at 4 w (base + (k - 1) * 13 + 9) → k' < k
    walk-less {k'} e = let G = front_from w x source offset {n = k - 1} (omega arith) refl (link_is e) in omega (arith, G.left)

    module _ {r : Bool} (e : r ≡ same_key (key_in source offset) (key_of (chunk w (base + (k - 1) * 13) 9))) where
      walk_turn : exists (same_key (key_in source offset)) (keys_at w (keys_from x) n) ≡ cond r true (exists (same_key (key_in source offset)) (keys_at w (keys_from x) (k - 1)))
      unfolding exists
      walk_turn = F.same ∙ rw (keys_step w (keys_from x) k (omega arith), rw eb at e)

      pub walk-found : r ≡ true → true ≡ exists (same_key (key_in source offset)) (keys_at w (keys_from x) n)
      walk-found is = sym (rw is at walk_turn)

      pub walk_step : {k' : ℕ} → r ≡ false → k' ≡ le_at 4 w (base + (k - 1) * 13 + 9) → Front w x source offset n k'
      walk_step {k'} is l = front_from w x source offset {m = k - 1} (omega (arith, F.left)) (rw is at walk_turn) (link_is l)

pub walk_none : {w : List ℕ} {x : Tables} {n k : ℕ} {source : DebugSource} {offset : ℕ} → Front w x source offset n k → k ≡ 0
    → false ≡ exists (same_key (key_in source offset)) (keys_at w (keys_from x) n)
unfolding keys_at exists
walk_none F z = sym (F.same ∙ rw z)

-- ---- a target joins its chain

module _ (w : List ℕ) (x : Tables) (i : ℕ) where
  head_step : (d : ℕ) → head_of (chain_count x) d (keys_at w (keys_from x) (i + 1)) ≡ cond (eqb (chain_of (chain_count x) (offset_at w x i)) d) (suc i) (head_of (chain_count x) d (keys_at w (keys_from x) i))
  unfolding keys_at head_of
  head_step d = rw (add-one i, keys_length w (keys_from x) i)

module _ {w w₁ w₂ : List ℕ} {x : Tables} {i c o chains base link : ℕ} (C : Chained w x i) (em : chains ≡ chain_count x) (eb : base ≡ keys_from x) (ec : c ≡ chain_of chains o) (eo : o ≡ le_at 8 w (base + i * 13 + 1))
    (el : link ≡ le_at 4 w (x.keys + c * 4)) (A : Wrote w w₁ (base + i * 13 + 9) 4 link) (H : Wrote w₁ w₂ (x.keys + c * 4) 4 (i + 1)) where
  chain-is : chain_of (chain_count x) (offset_at w x i) ≡ c
  chain-is = ap (chain_of (chain_count x)) (offset-is w (keys_from x + i * 13)) ∙ sym (rw (em, rw eb at eo) at ec)

  small : c < chain_count x
  small = rw (← chain-is) (chain-below (chain_count x) (offset_at w x i) (omega arith))

  linked : Wrote w w₁ (keys_from x + i * 13 + 9) 4 link
  linked = rw eb at A

  beside : (j : ℕ) → chunk w₂ (keys_from x + j * 13) 9 ≡ chunk w (keys_from x + j * 13) 9
  beside j =
      H.rest.same (keys_from x + j * 13) 9 (inr (omega (arith, small)))
      ∙ linked.rest.same (keys_from x + j * 13) 9 (⊎_elim (λ l. inl (omega arith)) (λ l. inr (omega arith)) (le-or_lt j i))

  same_keys : (n : ℕ) → keys_at w₂ (keys_from x) n ≡ keys_at w (keys_from x) n
  unfolding keys_at
  same_keys zero = refl
  same_keys (suc n) = rw (beside n, same_keys n)

  heads-now : (d : ℕ) → d < chain_count x → le_at 4 w₂ (x.keys + d * 4) ≡ head_of (chain_count x) d (keys_at w (keys_from x) (i + 1))
  heads-now d h =
      either (eqb c d)
      (λ y. let z : c ≡ d = eqb-true c d y in rw (← z) (H.value ∙ add-one i ∙ sym (head_step w x i c ∙ rw (chain-is, eq-eqb c c refl))))
      (λ n. let ne = eqb-false c d n in
      le_at-kept 4 (x.keys + d * 4) H.rest (⊎_elim (λ l. inr (omega arith)) (λ l. inl (omega arith)) (le-or_lt c d))
      ∙ le_at-kept 4 (x.keys + d * 4) linked.rest (inl (omega arith))
      ∙ C.heads d h
      ∙ sym (head_step w x i d ∙ rw (chain-is, n)))

  links-now : (j : ℕ) → j < i + 1 → le_at 4 w₂ (keys_from x + j * 13 + 9) ≡ head_of (chain_count x) (chain_of (chain_count x) (offset_at w x j)) (keys_at w (keys_from x) j)
  links-now j h =
      le_at-kept 4 (keys_from x + j * 13 + 9) H.rest (inr (omega (arith, small)))
      ∙ ⊎_elim (λ l. let z : i ≡ j = omega arith in rw (← z) (linked.value ∙ el ∙ C.heads c small ∙ rw (← chain-is)))
      (λ l. le_at-kept 4 (keys_from x + j * 13 + 9) linked.rest (inl (omega arith)) ∙ C.links j l) (le-or_lt i j)

  pub joined-chain : Chains w w₂ x (i + 1)
  joined-chain = record {
    chained = record {
      heads = λ d h. rw (same_keys (i + 1)) (heads-now d h);
      links = λ j h. links-now j h ∙ same-link w w₂ x j (beside j) (same_keys j);
    };
    keys = same_keys;
    rest = kept_trans (kept-wide x.keys (chain_count x * 4 + (i + 1) * 13) linked.rest (omega arith) (omega arith))
        (kept-wide x.keys (chain_count x * 4 + (i + 1) * 13) H.rest (omega arith) (omega (arith, small)));
  }

-- ---- the first n targets join theirs, the oldest first

-- the first i are in chains
pub record Chaining (w₀ w : List ℕ) (x : Tables) (n i : ℕ) : Type 0 where
  pub left : i ≤ n
  pub chained : Chained w x i
  pub keys : (j : ℕ) → keys_at w (keys_from x) j ≡ keys_at w₀ (keys_from x) j
  pub rest : Kept w₀ w x.keys (chain_count x * 4 + n * 13)
  pub size : length w ≡ length w₀

module _ {w w₀ : List ℕ} {x : Tables} {base : ℕ} (n : ℕ) (eb : base ≡ keys_from x) (Z : Zeroed w w₀ x.keys base) where
  pub chaining-start : Chaining w₀ w₀ x n 0
  unfolding keys_at head_of
  chaining-start =
      record {
        left = omega arith;
        chained = record {
          heads = λ c h. le_at-zeros 4 w₀ (x.keys + c * 4) (zeroed-chunk (x.keys + c * 4) 4 Z (omega arith) (omega arith));
          links = λ i h. absurd (omega arith);
        };
        keys = λ j. refl;
        rest = kept_refl w₀ x.keys (chain_count x * 4 + n * 13);
        size = refl;
      }

  pub chaining-done : {w' : List ℕ} {i : ℕ} → Chaining w₀ w' x n i → n ≤ i → Chains w w' x n
  chaining-done {w'} {i} S h =
      let z : i ≡ n = omega (arith, S.left) in
      record {
        chained = rw z at S.chained;
        keys = λ j. S.keys j ∙ keys-clear (keys_from x) j (but_one Z.rest) (inr (omega arith), tt);
        rest = kept_trans (kept-wide x.keys (chain_count x * 4 + n * 13) Z.rest (omega arith) (omega arith)) S.rest;
      }
