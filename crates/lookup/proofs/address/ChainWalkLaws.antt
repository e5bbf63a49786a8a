-- A turn of the walk that gathers the chain into an array.
use mathlib.Core.Path.{◌≡◌, sym, ◌∙◌}
use mathlib.Core.Bool.{Bool, true, false, cond, ◌&&◌}
use mathlib.Core.List.{List, [], ◌∷◌, ◌++◌, append-nil, append_assoc}
use Prim.Native.Nat.{ℕ, suc, ◌+◌, ◌-◌, ◌≤◌, ◌<◌}
use native.Mathlib.Omega.{arith}
use lib.Dec.{ltb, eqb}
use lib.ListN.{length, take, drop, set, replicate, length-set}
use lib.Seq.{take-suc-set, drop-set-lt, drop-drop}
use borrow.Author.Tests.{lt-ltb, le-ltb, eq-eqb, ne_eqb}
use Rattle.std.specs.Prelude.{Some, None}
use Rattle.tlv.specs.declared.fields.FieldSpan.{FieldSpan}
use Rattle.tlv.specs.Bytes.{le_at}
use Rattle.tlv.specs.Cursor.{field_from}
use Rattle.buffers.specs.Reader.{node_of}
use Rattle.lookup.specs.Tray.{groups_at}
use Rattle.lookup.specs.Lookup.{chain_from}
use Rattle.lookup.specs.Walk.{StandsOwn, own_at, held_from, ChainAt}
use Rattle.lookup.proofs.StepLaws.{own-none, own-function, own-next}
use Rattle.lookup.proofs.OwnLaws.{node-deep}

-- the chain that is left from place p on, where its next node has depth n
abbrev pub left_at : List ℕ → ℕ → ℕ → ℕ → List ℕ
left_at s p a n = chain_from a n (groups_at 0x43 (own_at s p))

-- n places are gathered, and those that are left make the whole
pub record Gathering (all places left : List ℕ) (n : ℕ) : Type 0 where
  pub whole : take n places ++ left ≡ all
  pub few : n ≤ 257
  pub zeros : drop n places ≡ replicate (257 - n) 0
  pub size : length places ≡ 257

module _ {all places left : List ℕ} {n : ℕ} (g : Gathering all places left n) where
  pub gather-same : (other : List ℕ) → left ≡ other → Gathering all places other n
  gather-same other e = record { whole = rw (← e) g.whole; few = g.few; zeros = g.zeros; size = g.size }

  pub gather-room : n < 257 → n < length places
  gather-room h = let z = g.size in omega arith

  -- one more place
  pub gather-push : (p : ℕ) (rest : List ℕ) → n < 257 → left ≡ p ∷ rest → Gathering all (set places n p) rest (n + 1)
  gather-push p rest h e =
      let one : n + 1 ≡ suc n = omega arith in
      record {
        whole = rw (one, take-suc-set places n p (gather-room h), append_assoc (take n places) (p ∷ []) rest, ← e) g.whole;
        few = omega arith;
        zeros = rw (drop-set-lt (n + 1) places n p (omega arith), ← drop-drop 1 n places, g.zeros) (one_less (257 - n) (257 - (n + 1)) (omega arith));
        size = rw (length-set places n p) g.size;
      }
    where
      one_less : (k m : ℕ) → k ≡ suc m → drop {A = ℕ} 1 (replicate k 0) ≡ replicate m 0
      one_less k m q = rw q

  pub gather_done : left ≡ [] → (take n places ≡ all) × (n ≤ 257) × (drop n places ≡ replicate (257 - n) 0)
  gather_done e = (sym (append-nil (take n places)) ∙ rw (← e) g.whole, g.few, g.zeros)

module _ (s : List ℕ) (own a p n : ℕ) (places : List ℕ) (g : Gathering (left_at s own a 0) places (left_at s p a n) n) where
  finished : left_at s p a n ≡ [] → ChainAt s own a (record { places = places; nodes = n })
  finished e = let d = gather_done g e in record { is = d.0; few = d.1; rest = d.2 }

  none_left : own_at s p ≡ [] → left_at s p a n ≡ []
  unfolding groups_at chain_from
  none_left e = rw e

  pub chain-none : None ≡ field_from s p → ChainAt s own a (record { places = places; nodes = n })
  chain-none at = finished (none_left (own-none s p at))

  module _ (f : FieldSpan) (at : Some f ≡ field_from s p) where
    pub chain-function : f.tag ≡ 0x41 → ChainAt s own a (record { places = places; nodes = n })
    chain-function q = finished (none_left (own-function s p f at q))

    pub chain-other : (f.tag ≡ 0x41 → ⊥) → (f.tag ≡ 0x43 → ⊥) → Gathering (left_at s own a 0) places (left_at s f.next a n) n
    unfolding groups_at
    chain-other q k = gather-same g _ (rw (own-next s p f at q, ne_eqb f.tag 0x43 k))

    module _ (st : StandsOwn s p) (d : ℕ) (q : (f.tag ≡ 0x41 → ⊥)) (k : f.tag ≡ 0x43) (is : d ≡ le_at 2 s f.start) where
      -- the node, by its depth and whether it holds the address
      left_is : left_at s p a n ≡ cond (ltb d n) [] (cond (eqb d n && held_from s f.next a) (p ∷ left_at s f.next a (suc n)) (left_at s f.next a n))
      unfolding groups_at chain_from node_of held_from
      left_is = let deep = node-deep s p f at st d k is in rw (own-next s p f at q, eq-eqb f.tag 0x43 k, deep.1)

      pub chain-leaves : d < n → ChainAt s own a (record { places = places; nodes = n })
      chain-leaves h = finished (left_is ∙ rw (lt-ltb d n h))

      pub chain-deeper : n ≤ d → (d ≡ n → ⊥) → Gathering (left_at s own a 0) places (left_at s f.next a n) n
      chain-deeper h z = gather-same g _ (left_is ∙ rw (le-ltb d n h, ne_eqb d n z))

      pub chain-room : d ≡ n → n < 257
      chain-room z = let deep = node-deep s p f at st d k is in let l = deep.0 in omega arith

      module _ (b : Bool) (same : d ≡ n) (h : b ≡ held_from s f.next a) where
        pub chain-passes : b ≡ false → Gathering (left_at s own a 0) places (left_at s f.next a n) n
        chain-passes z = gather-same g _ (left_is ∙ rw (le-ltb d n (omega arith), eq-eqb d n same, ← h, z))

        pub chain-takes : b ≡ true → Gathering (left_at s own a 0) (set places n p) (left_at s f.next a (n + 1)) (n + 1)
        chain-takes z =
            let one : n + 1 ≡ suc n = omega arith in
            gather-push g p (left_at s f.next a (n + 1)) (chain-room same) (left_is ∙ rw (le-ltb d n (omega arith), eq-eqb d n same, ← h, z, one))
