-- A pass over an input that counts the fields of each tag below 32 in a table by tag.
use mathlib.Core.Path.{◌≡◌, refl, sym, ◌∙◌}
use mathlib.Core.Bool.{Bool, true, false}
use mathlib.Core.List.{List}
use Prim.Native.Nat.{ℕ, ◌+◌, ◌≤◌, ◌<◌}
use native.Mathlib.Omega.{arith}
use lib.Dec.{eqb}
use lib.ListN.{length, drop, get_or, set, replicate, length-set, get_or-replicate}
use lib.Seq.{get_or-set_same, get_or-set_other}
use borrow.Author.Tests.{eqb-true, eqb-false}
use Rattle.std.specs.Prelude.{Some, None}
use Rattle.tlv.specs.declared.fields.FieldSpan.{FieldSpan}
use Rattle.tlv.specs.Cursor.{field_from}
use Rattle.tlv.proofs.FieldLaws.{next-within, next-counts, next-keeps, count-none, count-one, count-other}
use Rattle.tlv.specs.Fields.{count_of}
use Rattle.checks.specs.Layout.{TagsCounted, Sized}

-- at place p: of each tag what is counted and what is left to count make the whole, and no more than p are counted
pub record Tallying (s : List ℕ) (p : ℕ) (counts : List ℕ) : Type 0 where
  pub within : p ≤ length s
  pub size : length counts ≡ 32
  pub few : (tag : ℕ) → tag < 32 → get_or counts tag 0 ≤ p
  pub whole : (tag : ℕ) → tag < 32 → count_of tag s ≡ get_or counts tag 0 + count_of tag (drop p s)

pub tally-start : (s : List ℕ) → Tallying s 0 (replicate 32 0)
tally-start s = record {
  within = omega arith;
  size = refl;
  few = λ tag h. omega (arith, get_or-replicate {A = ℕ} 32 tag 0 0 h);
  whole = λ tag h. omega (arith, get_or-replicate {A = ℕ} 32 tag 0 0 h);
}

module _ (s : List ℕ) (p : ℕ) (counts : List ℕ) (T : Tallying s p counts) where
  pub tally-none : None ≡ field_from s p → TagsCounted s counts
  tally-none at = record { is = λ tag h. count-none s tag p (get_or counts tag 0) (count_of tag s) (T.whole tag h) at }

  module _ (f : FieldSpan) (at : Some f ≡ field_from s p) where
    pub tally-other : 32 ≤ f.tag → Tallying s f.next counts
    tally-other g = record {
      within = next-within s p f at;
      size = T.size;
      few = λ tag h. next-keeps s p f at (get_or counts tag 0) (T.few tag h);
      whole = λ tag h. count-other s tag p (get_or counts tag 0) (count_of tag s) (T.whole tag h) f at (λ z. omega arith);
    }

    module _ (small : f.tag < 32) where
      -- the count of a tag after the field's is one more
      counted : (tag : ℕ) → tag < 32 → (P : ℕ → Type 0) → (tag ≡ f.tag → P (get_or counts tag 0 + 1)) → ((tag ≡ f.tag → ⊥) → P (get_or counts tag 0))
          → P (get_or (set counts f.tag (get_or counts f.tag 0 + 1)) tag 0)
      counted tag h P same other = go (eqb tag f.tag) refl
        where
          go : (b : Bool) → eqb tag f.tag ≡ b → P (get_or (set counts f.tag (get_or counts f.tag 0 + 1)) tag 0)
          go true k =
              let z = eqb-true tag f.tag k in
              rw (z, get_or-set_same counts f.tag (get_or counts f.tag 0 + 1) 0 (omega (arith, T.size))) (rw z at (same z))
          go false k = let g = eqb-false tag f.tag k in rw (get_or-set_other counts f.tag tag (get_or counts f.tag 0 + 1) 0 g) (other g)

      pub tally-one : Tallying s f.next (set counts f.tag (get_or counts f.tag 0 + 1))
      tally-one = record {
        within = next-within s p f at;
        size = length-set counts f.tag (get_or counts f.tag 0 + 1) ∙ T.size;
        few = λ tag h. counted tag h (λ n. n ≤ f.next)
            (λ z. next-counts s p f at (get_or counts tag 0) (T.few tag h))
            (λ g. next-keeps s p f at (get_or counts tag 0) (T.few tag h));
        whole = λ tag h. counted tag h (λ n. count_of tag s ≡ n + count_of tag (drop f.next s))
            (λ z. count-one s tag p (get_or counts tag 0) (count_of tag s) (T.whole tag h) f at (sym z))
            (λ g. count-other s tag p (get_or counts tag 0) (count_of tag s) (T.whole tag h) f at (λ z. g (sym z)));
      }

-- the counts that are read off such a table
pub sized : (s counts : List ℕ) → TagsCounted s counts → Sized s (record {
  units = get_or counts 0x10 0;
  text = get_or counts 0x12 0;
  directories = get_or counts 0x14 0;
  files = get_or counts 0x15 0;
  zeros = get_or counts 0x1c 0;
  encodings = get_or counts 0x1d 0;
  rows = get_or counts 0x16 0;
  entries = get_or counts 0x17 0;
  attributes = get_or counts 0x18 0;
  ranges = get_or counts 0x19 0;
  lists = get_or counts 0x1f 0;
})
sized s counts T = record {
  units = T.is 0x10 (omega arith);
  text = T.is 0x12 (omega arith);
  directories = T.is 0x14 (omega arith);
  files = T.is 0x15 (omega arith);
  zeros = T.is 0x1c (omega arith);
  encodings = T.is 0x1d (omega arith);
  rows = T.is 0x16 (omega arith);
  entries = T.is 0x17 (omega arith);
  attributes = T.is 0x18 (omega arith);
  ranges = T.is 0x19 (omega arith);
  lists = T.is 0x1f (omega arith);
}
