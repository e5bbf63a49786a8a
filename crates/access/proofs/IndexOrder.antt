-- The offsets in the index of an accepted sheet strictly ascend.
use mathlib.Core.Path.{◌≡◌, refl}
use mathlib.Core.Bool.{true}
use mathlib.Core.List.{List}
use Prim.Native.Nat.{ℕ, suc, ◌+◌, ◌≤◌, ◌<◌}
use native.Mathlib.Omega.{arith}
use lib.Dec.{eqb}
use borrow.Author.Tests.{leb-true, ne_eqb, eqb-true, eqb-false}
use Rattle.tlv.specs.declared.grammar.Context.{Context}
use Rattle.tlv.specs.Outcome.{done}
use Rattle.tlv.specs.Bytes.{le_at}
use Rattle.tlv.specs.Fields.{Field, FieldList, end, cut, more, fields}
use Rattle.tlv.specs.Grammar.{start, may_follow, unit_shaped, payload_shaped, shaped, limited, next, check_from, check_input}
use Rattle.tlv.specs.Checked.{Accepts}
use Rattle.tlv.proofs.TestLaws.{by_test, and_right}
use Rattle.tlv.proofs.AcceptedFields.{entry-from, entry-within}
use Rattle.tlv.proofs.AcceptedGroups.{passed-both}
use Rattle.access.specs.Places.{behind, entry_index}
use Rattle.access.specs.Index.{RisingFrom, Rising}

-- ---- a field that passes after c

module _ (c : Context) (f : Field) (passes : shaped c f ≡ true) where
  payload-passes : (t : ℕ) → f.tag ≡ t → payload_shaped c t f.payload ≡ true
  unfolding shaped
  payload-passes t is = rw is at (and_right (may_follow c.previous f.tag) (payload_shaped c f.tag f.payload) passes)

  -- a unit begins where the one before it ends, or later
  pub unit-behind : f.tag ≡ 0x10 → c.end ≤ le_at 8 f.payload 0
  unfolding payload_shaped unit_shaped
  unit-behind is = let all = payload-passes 0x10 is in leb-true _ _ (search and_right)

  -- an entry is at the least offset left or later, and in its unit
  pub entry-low : f.tag ≡ 0x17 → c.offset ≤ le_at 8 f.payload 0
  entry-low is = entry-from c f.payload (payload-passes 0x17 is)

  pub entry-high : f.tag ≡ 0x17 → le_at 8 f.payload 0 < c.length
  entry-high is = entry-within c f.payload (payload-passes 0x17 is)

-- what it leaves of the unit
module _ (c : Context) (f : Field) where
  pub after-unit : f.tag ≡ 0x10 → ((next c f).end ≡ le_at 8 f.payload 0 + le_at 8 f.payload 8) × ((next c f).length ≡ le_at 8 f.payload 8) × ((next c f).offset ≡ 0)
  unfolding next
  after-unit is = rw is (refl, refl, refl)

  pub after-entry : f.tag ≡ 0x17 → ((next c f).end ≡ c.end) × ((next c f).length ≡ c.length) × ((next c f).offset ≡ le_at 8 f.payload 0 + 1)
  unfolding next
  after-entry is = rw is (refl, refl, refl)

  pub after-other : (f.tag ≡ 0x10 → ⊥) → (f.tag ≡ 0x17 → ⊥) → ((next c f).end ≡ c.end) × ((next c f).length ≡ c.length) × ((next c f).offset ≡ c.offset)
  unfolding next
  after-other h k = rw (ne_eqb f.tag 0x10 h, ne_eqb f.tag 0x17 k) (refl, refl, refl)

-- ---- all fields

-- in a unit at offset o that ends where c says: offsets from k on, if k is at most the least that an entry or a unit may have
rising-from : (c : Context) (fs : FieldList) (n p q o k : ℕ) → check_from c fs ≡ done n → o + c.length ≡ c.end → k ≤ o + c.offset → k ≤ c.end
    → RisingFrom k (entry_index p q o fs)
unfolding check_from entry_index RisingFrom
rising-from c end n p q o k e unit low high = tt
rising-from c cut n p q o k e unit low high = tt
rising-from c (more f fs) n p q o k e unit low high =
    let both = passed-both (shaped c f) (limited c f) (check_from (next c f) fs) n e in
    let own : ℕ = le_at 8 f.payload 0 in
    by_test (RisingFrom k) (eqb f.tag 0x10)
    (λ is.
    let tag = eqb-true f.tag 0x10 is in
    let a = after-unit c f tag in
    let l = unit-behind c f both.0 tag in
    rising-from (next c f) fs n (behind p f) p own k both.2 (omega arith) (omega arith) (omega arith))
    (λ not-unit. by_test (RisingFrom k) (eqb f.tag 0x17)
    (λ is.
    let tag = eqb-true f.tag 0x17 is in
    let a = after-entry c f tag in
    let l = entry-low c f both.0 tag in
    let m = entry-high c f both.0 tag in
    (omega arith, rising-from (next c f) fs n (behind p f) q o (suc (o + own)) both.2 (omega arith) (omega arith) (omega arith)))
    (λ not_entry.
    let a = after-other c f (eqb-false f.tag 0x10 not-unit) (eqb-false f.tag 0x17 not_entry) in
    rising-from (next c f) fs n (behind p f) q o k both.2 (omega arith) (omega arith) (omega arith)))

-- units ascend without overlap, and entries in them
pub index-rising : (s : List ℕ) (n : ℕ) → Accepts s n → Rising (entry_index 0 0 0 (fields s))
unfolding check_input
index-rising s n e = rising-from (start e.program) (fields s) n 0 0 0 0 e.passes refl (omega arith) (omega arith)
