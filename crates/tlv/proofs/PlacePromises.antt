-- What the grammar promises of the field at a place of an accepted sheet: its length by its tag, what of it can be read, its limits and its numbers.
use mathlib.Core.Path.{◌≡◌}
use mathlib.Core.Bool.{true, cond}
use mathlib.Core.List.{List}
use Prim.Native.Nat.{ℕ, ◌+◌, ◌-◌, ◌^◌, ◌≤◌, ◌<◌}
use native.Mathlib.Omega.{arith}
use lib.Dec.{leb, ltb, eqb}
use lib.ListN.{length, take, drop}
use borrow.Author.Tests.{leb-true, eqb-true}
use Rattle.tlv.specs.Bytes.{le_at}
use Rattle.tlv.specs.Limits.{field_limit, string_limit, reason_limit}
use Rattle.tlv.specs.Cursor.{Step, field_here, step_at}
use Rattle.tlv.specs.Grammar.{may_follow, payload_shaped, payload_limited, shaped, limited, encoding_field_size, part_field_size, row_field_size}
use Rattle.tlv.specs.Tags.{encoding_tag, part_tag}
use Rattle.tlv.specs.Checked.{Placed}
use Rattle.tlv.proofs.TestLaws.{by_test, and_right}
use Rattle.tlv.proofs.CursorLaws.{payload-within, payload-length}
use Rattle.tlv.proofs.ShapeLaws.{number_at}
use Rattle.tlv.proofs.CheckLaws.{unit-fits}
use Rattle.tlv.proofs.PayloadFacts.{unit-long, text-long, header-long, encoding-long, part-long, directory-long, file-long, file_zero-long, row-long, entry-long, attribute-long, range-long, failure-long, list-long}
use Rattle.tlv.proofs.PlaceFacts.{placed-shaped, placed-limited}

-- the least length of the payload of a field of a tag
abbrev pub least_of : ℕ → ℕ
least_of t =
    cond (eqb t 0x10) 18
    (cond (eqb t 0x12) 16
    (cond (eqb t 0x13) 19
    (cond (eqb t encoding_tag) encoding_field_size
    (cond (eqb t 0x14) 1
    (cond (eqb t 0x15) 9
    (cond (eqb t 0x1c) 9
    (cond (eqb t 0x16) row_field_size
    (cond (eqb t 0x17) 12
    (cond (eqb t 0x18) 3
    (cond (eqb t 0x19) 17
    (cond (eqb t 0x1a) 1
    (cond (eqb t 0x1f) 25
    0))))))))))))

module _ (s : List ℕ) (p : ℕ) (r : Step) (t start len past : ℕ) (h : Placed s p) (at : r ≡ step_at s p) (e : r ≡ field_here t start len past) where
  shape : payload_shaped h.context t (take len (drop start s)) ≡ true
  unfolding shaped
  shape = and_right (may_follow h.context.previous t) (payload_shaped h.context t (take len (drop start s))) (placed-shaped s p r t start len past h at e)

  limit : payload_limited h.context t (take len (drop start s)) ≡ true
  unfolding limited
  limit = and_right (ltb h.context.count field_limit) (payload_limited h.context t (take len (drop start s))) (placed-limited s p r t start len past h at e)

  -- what is so of the payload's length is so of len
  by_length : (P : ℕ → Type 0) → P (length (take len (drop start s))) → P len
  by_length P x = rw (payload-length s p r t start len past at e) at x

  -- ---- its length

  pub placed-unit : t ≡ 0x10 → len ≡ 18
  placed-unit is = by_length (λ n. n ≡ 18) (unit-long _ _ (rw is at shape))

  pub placed-text : t ≡ 0x12 → len ≡ 16
  placed-text is = by_length (λ n. n ≡ 16) (text-long _ _ (rw is at shape))

  pub placed-header : t ≡ 0x13 → 19 ≤ len
  placed-header is = by_length (λ n. 19 ≤ n) (header-long _ _ (rw is at shape))

  pub placed-encoding : t ≡ encoding_tag → len ≡ encoding_field_size
  placed-encoding is = by_length (λ n. n ≡ encoding_field_size) (encoding-long _ _ (rw is at shape))

  pub placed-part : t ≡ part_tag → len ≡ part_field_size
  placed-part is = by_length (λ n. n ≡ part_field_size) (part-long _ _ (rw is at shape))

  pub placed-directory : t ≡ 0x14 → 1 ≤ len
  placed-directory is = by_length (λ n. 1 ≤ n) (directory-long _ _ (rw is at shape))

  pub placed-file : t ≡ 0x15 → 9 ≤ len
  placed-file is = by_length (λ n. 9 ≤ n) (file-long _ _ (rw is at shape))

  pub placed-file_zero : t ≡ 0x1c → 9 ≤ len
  placed-file_zero is = by_length (λ n. 9 ≤ n) (file_zero-long _ _ (rw is at shape))

  pub placed_row : t ≡ 0x16 → len ≡ row_field_size
  placed_row is = by_length (λ n. n ≡ row_field_size) (row-long _ _ (rw is at shape))

  pub placed-entry : t ≡ 0x17 → len ≡ 12
  placed-entry is = by_length (λ n. n ≡ 12) (entry-long _ _ (rw is at shape))

  pub placed-attribute : t ≡ 0x18 → 3 ≤ len
  placed-attribute is = by_length (λ n. 3 ≤ n) (attribute-long _ _ (rw is at shape))

  pub placed-range : t ≡ 0x19 → len ≡ 17
  placed-range is = by_length (λ n. n ≡ 17) (range-long _ _ (rw is at shape))

  pub placed-failure : t ≡ 0x1a → 1 ≤ len
  placed-failure is = by_length (λ n. 1 ≤ n) (failure-long _ _ (rw is at shape))

  pub placed-list : t ≡ 0x1f → len ≡ 25
  placed-list is = by_length (λ n. n ≡ 25) (list-long _ _ (rw is at shape))

  least : least_of t ≤ len
  least =
      let Q : ℕ → Type 0 = λ n. n ≤ len in
      by_test Q (eqb t 0x10) (λ is. let l = placed-unit (eqb-true t 0x10 is) in omega arith) (λ _.
      by_test Q (eqb t 0x12) (λ is. let l = placed-text (eqb-true t 0x12 is) in omega arith) (λ _.
      by_test Q (eqb t 0x13) (λ is. placed-header (eqb-true t 0x13 is)) (λ _.
      by_test Q (eqb t encoding_tag) (λ is. let l = placed-encoding (eqb-true t encoding_tag is) in omega arith) (λ _.
      by_test Q (eqb t 0x14) (λ is. placed-directory (eqb-true t 0x14 is)) (λ _.
      by_test Q (eqb t 0x15) (λ is. placed-file (eqb-true t 0x15 is)) (λ _.
      by_test Q (eqb t 0x1c) (λ is. placed-file_zero (eqb-true t 0x1c is)) (λ _.
      by_test Q (eqb t 0x16) (λ is. let l = placed_row (eqb-true t 0x16 is) in omega arith) (λ _.
      by_test Q (eqb t 0x17) (λ is. let l = placed-entry (eqb-true t 0x17 is) in omega arith) (λ _.
      by_test Q (eqb t 0x18) (λ is. placed-attribute (eqb-true t 0x18 is)) (λ _.
      by_test Q (eqb t 0x19) (λ is. let l = placed-range (eqb-true t 0x19 is) in omega arith) (λ _.
      by_test Q (eqb t 0x1a) (λ is. placed-failure (eqb-true t 0x1a is)) (λ _.
      by_test Q (eqb t 0x1f) (λ is. let l = placed-list (eqb-true t 0x1f is) in omega arith) (λ _. omega arith)))))))))))))

  -- what of it can be read, at a literal place and width: the test computes
  module _ (m : ℕ) (is : t ≡ m) where
    reach : (n : ℕ) → leb n (least_of m) ≡ true → start + n ≤ length s
    reach n k =
        let w = payload-within s p r t start len past at e in
        let l : least_of m ≤ len = rw is at least in
        omega (arith, leb-true n (least_of m) k)

    pub read_fits : (j : ℕ) → length s < 2 ^ 64 → leb j (least_of m) ≡ true → start + j < 2 ^ 64
    read_fits j small k = omega (arith, reach j k)

  -- ---- the limits of its strings

  pub placed-string : t ≡ 0x11 → len ≤ string_limit
  unfolding payload_limited
  placed-string is = by_length (λ n. n ≤ string_limit) (leb-true _ _ (rw is at limit))

  pub placed-directory-string : t ≡ 0x14 → len - 1 ≤ string_limit
  unfolding payload_limited
  placed-directory-string is = by_length (λ n. n - 1 ≤ string_limit) (leb-true _ _ (rw is at limit))

  pub placed-file-string : t ≡ 0x15 → len - 9 ≤ string_limit
  unfolding payload_limited
  placed-file-string is = by_length (λ n. n - 9 ≤ string_limit) (leb-true _ _ (rw is at limit))

  pub placed-file_zero-string : t ≡ 0x1c → len - 9 ≤ string_limit
  unfolding payload_limited
  placed-file_zero-string is = by_length (λ n. n - 9 ≤ string_limit) (leb-true _ _ (rw is at limit))

  pub placed-reason : t ≡ 0x1a → len - 1 ≤ reason_limit
  unfolding payload_limited
  placed-reason is = by_length (λ n. n - 1 ≤ reason_limit) (leb-true _ _ (rw is at limit))

  -- ---- the numbers in it

  -- a unit ends below 2 ^ 64
  pub placed-unit_fits : (o n : ℕ) → t ≡ 0x10 → o ≡ le_at 8 s start → n ≡ le_at 8 s (start + 8) → o + n < 2 ^ 64
  placed-unit_fits = unit-fits s start len (payload-within s p r t start len past at e) h.context t (placed-shaped s p r t start len past h at e)

  -- an attribute of kind k: 3 is a string, 10 has no value, any other is a number
  module _ (k : ℕ) (is : t ≡ 0x18) (ek : k ≡ le_at 1 s (start + 2)) where
    kind-is : le_at 1 (take len (drop start s)) 2 ≡ k
    kind-is = let l = placed-attribute is in number_at s start len 1 2 k (omega arith) ek
