-- Whether what is laid passes the largest place: nothing does not, and of two lays one after the other the first or the second does.
use mathlib.Core.Path.{◌≡◌, refl, sym, ap, ◌∙◌}
use mathlib.Core.Bool.{Bool, true, false, cond, ◌||◌}
use mathlib.Core.List.{List, [], ◌∷◌, ◌++◌}
use Prim.Native.Nat.{ℕ, zero, suc, ◌+◌, ◌*◌, ◌≤◌}
use native.Mathlib.Omega.{arith}
use lib.ListN.{length, length-append}
use borrow.Author.Tests.{lt-ltb, le-ltb, eq-eqb, ne_eqb}
use Rattle.tlv.specs.declared.model.AddressRange.{AddressRange}
use Rattle.tlv.specs.Bytes.{bytes_of}
use Rattle.tlv.specs.Lists.{is_empty}
use Rattle.tlv.specs.Fields.{encode}
use Rattle.tlv.proofs.TestLaws.{by_less}
use Rattle.tlv.proofs.ByteLaws.{length-bytes_of}
use Rattle.buffers.specs.Buffer.{Put, top, moved}
use Rattle.buffers.specs.Output.{InlineNode, CallSite, node_payload, range_payload, site_payload, range_bytes, node_bytes, each_of}
use Rattle.lines.specs.Files.{file_index}
use Rattle.dies.specs.Past.{is_past, node_size}
use Rattle.dies.specs.DetailState.{new_bytes}

or_false : (b : Bool) → b ≡ (b || false)
or_false true = refl
or_false false = refl

or_assoc : (a b c : Bool) → ((a || b) || c) ≡ (a || (b || c))
or_assoc true b c = refl
or_assoc false b c = refl

pub past-none : (at : ℕ) → at ≤ top → is_past at 0 ≡ false
past-none at h = le-ltb top (at + 0) (omega arith)

-- nothing more is laid
pub past_same : (b : Bool) (at : ℕ) → at ≤ top → b ≡ (b || is_past at 0)
past_same b at h = or_false b ∙ ap (λ (x : Bool). b || x) (sym (past-none at h))

-- of two lays, one after the other: the first passes it, or the second does from where the first ends
past-then : (at m n : ℕ) → at ≤ top → is_past at (m + n) ≡ (is_past at m || is_past (moved at m) n)
past-then at m n h =
    by_less (is_past at (m + n) ≡ (is_past at m || is_past (moved at m) n)) top (at + m)
    (λ l. rw (lt-ltb top (at + m) l, lt-ltb top (at + (m + n)) (omega arith)))
    (λ l. let e : moved at m ≡ at + m = omega arith in let f : at + m + n ≡ at + (m + n) = omega arith in rw (le-ltb top (at + m) l, e, f))

module _ {at q : ℕ} {xs t t₁ : List ℕ} (h : at ≤ top) (P : Put at xs t t₁ q) where
  -- the place behind a lay, and another
  pub past_next : (ys : List ℕ) → is_past at (length (xs ++ ys)) ≡ (is_past at (length xs) || is_past q (length ys))
  past_next ys = ap (is_past at) (length-append xs ys) ∙ past-then at (length xs) (length ys) h ∙ ap (λ (x : ℕ). is_past at (length xs) || is_past x (length ys)) (sym P.place)

  pub past-append : (b : Bool) (ys : List ℕ) {c d : Bool} → c ≡ (b || is_past at (length xs)) → d ≡ (c || is_past q (length ys)) → d ≡ (b || is_past at (length (xs ++ ys)))
  past-append b ys e f = f ∙ ap (λ (x : Bool). x || is_past q (length ys)) e ∙ or_assoc b (is_past at (length xs)) (is_past q (length ys)) ∙ ap (λ (x : Bool). b || x) (sym (past_next ys))

  -- a turn of a loop
  pub past-turn : (b : Bool) (ys : List ℕ) {o : Bool} → o ≡ is_past at (length xs) → (b || is_past at (length (xs ++ ys))) ≡ ((b || o) || is_past q (length ys))
  past-turn b ys {o} e =
      ap (λ (x : Bool). b || x) (past_next ys ∙ ap (λ (x : Bool). x || is_past q (length ys)) (sym e)) ∙ sym (or_assoc b o (is_past q (length ys)))

-- ---- the bytes of a node

pub encode-length : (tag : ℕ) (p : List ℕ) → length (encode tag p) ≡ 3 + length p
unfolding encode
encode-length tag p = omega (arith, length-append (bytes_of 2 (length p)) p, length-bytes_of 2 (length p))

range_length : (r : AddressRange) → length (range_bytes r) ≡ 19
unfolding range_payload
range_length r = omega (arith, encode-length 0x44 (range_payload r), length-append (bytes_of 8 r.start) (bytes_of 8 r.end), length-bytes_of 8 r.start, length-bytes_of 8 r.end)

ranges-bytes : (rs : List AddressRange) → length (each_of range_bytes rs) ≡ 19 * length rs
unfolding each_of
ranges-bytes [] = refl
ranges-bytes (r ∷ rs) = omega (arith, length-append (range_bytes r) (each_of range_bytes rs), range_length r, ranges-bytes rs)

payload-length : (n : InlineNode) → length (node_payload n) ≡ 10 + length n.name
unfolding node_payload bytes_of
payload-length n = omega (
  arith,
  (let e : length (node_payload n) ≡ length (bytes_of 2 n.depth ++ (bytes_of 4 n.call_file.0 ++ (bytes_of 4 n.call_line ++ n.name))) = refl in e),
  length-append (bytes_of 2 n.depth) (bytes_of 4 n.call_file.0 ++ (bytes_of 4 n.call_line ++ n.name)),
  length-append (bytes_of 4 n.call_file.0) (bytes_of 4 n.call_line ++ n.name),
  length-append (bytes_of 4 n.call_line) n.name,
  length-bytes_of 2 n.depth,
  length-bytes_of 4 n.call_file.0,
  length-bytes_of 4 n.call_line,
)

node-length : (n : InlineNode) → length (node_bytes n) ≡ 13 + length n.name + 19 * length n.ranges
unfolding node_bytes
node-length n =
    omega (arith, length-append (encode 0x43 (node_payload n)) (each_of range_bytes n.ranges), encode-length 0x43 (node_payload n), payload-length n, ranges-bytes n.ranges)

pub site-length : (x : CallSite) → length (encode 0x45 (site_payload x)) ≡ 12 + length x.pattern
unfolding site_payload
site-length x = omega (arith, encode-length 0x45 (site_payload x), length-append (bytes_of 8 x.return_offset) (cond (is_empty x.pattern) 0 1 ∷ x.pattern), length-bytes_of 8 x.return_offset)

-- a node behind others, and the root before the first
pub size_is : (name : List ℕ) (r : AddressRange) (nodes : ℕ) (n : InlineNode) → length (new_bytes name r nodes (n ∷ [])) ≡ node_size nodes (length name) (length n.name) (length n.ranges)
unfolding node_size each_of
size_is name r zero n =
    let root = node_bytes (record { depth = 0; call_file = file_index 0; call_line = 0; name = name; ranges = r ∷ [] }) in
    omega (arith, length-append root (node_bytes n ++ []), length-append (node_bytes n) [], node-length (record { depth = 0; call_file = file_index 0; call_line = 0; name = name; ranges = r ∷ [] }), node-length n)
size_is name r (suc k) n =
    let e : length (new_bytes name r (suc k) (n ∷ [])) ≡ length (node_bytes n ++ []) = refl in
    rw (ne_eqb (suc k) 0 (λ z. omega arith)) (omega (arith, e, length-append (node_bytes n) [], node-length n))

-- ---- the function that tests it for a node

module _ (at nodes name inlined k : ℕ) {b : Bool} where
  pub past-rooted : nodes ≡ 0 → b ≡ is_past at (32 + name + (13 + inlined + 19 * k)) → b ≡ is_past at (node_size nodes name inlined k)
  unfolding node_size
  past-rooted z e = rw (eq-eqb nodes 0 z) e

  pub past-alone : (nodes ≡ 0 → ⊥) → b ≡ is_past at (13 + inlined + 19 * k) → b ≡ is_past at (node_size nodes name inlined k)
  unfolding node_size
  past-alone z e = rw (ne_eqb nodes 0 z) e
