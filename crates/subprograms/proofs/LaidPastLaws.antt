-- Whether a record's bytes pass the largest place: its head and its rows have so many bytes, and of two lays the first or the second does.
use mathlib.Core.Path.{◌≡◌, refl, sym, ap, ◌∙◌}
use mathlib.Core.Bool.{Bool, true, false, ◌||◌}
use mathlib.Core.List.{List, [], ◌∷◌, ◌++◌}
use Prim.Native.Nat.{ℕ, ◌+◌, ◌*◌, ◌<◌}
use native.Mathlib.Omega.{arith}
use lib.ListN.{length, length-append}
use borrow.Author.Tests.{lt-ltb}
use Rattle.tlv.specs.declared.model.AddressRange.{AddressRange}
use Rattle.tlv.specs.declared.model.LineEntry.{LineEntry}
use Rattle.tlv.specs.Bytes.{bytes_of}
use Rattle.tlv.specs.Fields.{encode}
use Rattle.tlv.proofs.TestLaws.{by_less}
use Rattle.tlv.proofs.ByteLaws.{length-bytes_of}
use Rattle.buffers.specs.Buffer.{Put, top}
use Rattle.buffers.specs.Output.{function_payload, row_payload, each_of}
use Rattle.dies.specs.Past.{is_past}
use Rattle.dies.proofs.PastLaws.{past-append, encode-length}
use Rattle.subprograms.specs.Steps.{lines_bytes}

-- ---- the bytes of a head and of rows

pub head-length : (r : AddressRange) (name : List ℕ) → length (encode 0x41 (function_payload r name)) ≡ 19 + length name
unfolding function_payload
head-length r name = omega (
  arith,
  encode-length 0x41 (function_payload r name),
  length-append (bytes_of 8 r.start ++ bytes_of 8 r.end) name,
  length-append (bytes_of 8 r.start) (bytes_of 8 r.end),
  length-bytes_of 8 r.start,
  length-bytes_of 8 r.end,
)

row-length : (l : LineEntry) → length (encode 0x42 (row_payload l)) ≡ 21
unfolding row_payload
row-length l = omega (
  arith,
  encode-length 0x42 (row_payload l),
  length-append (bytes_of 8 l.address ++ bytes_of 4 l.file.0 ++ bytes_of 4 l.line) (bytes_of 2 l.column),
  length-append (bytes_of 8 l.address ++ bytes_of 4 l.file.0) (bytes_of 4 l.line),
  length-append (bytes_of 8 l.address) (bytes_of 4 l.file.0),
  length-bytes_of 8 l.address,
  length-bytes_of 4 l.file.0,
  length-bytes_of 4 l.line,
  length-bytes_of 2 l.column,
)

pub lines-length : (ls : List LineEntry) → length (lines_bytes ls) ≡ 21 * length ls
unfolding each_of
lines-length [] = refl
lines-length (l ∷ ls) = omega (arith, length-append (encode 0x42 (row_payload l)) (lines_bytes ls), row-length l, lines-length ls)

-- ---- one after the other

or_true : (b : Bool) → (b || true) ≡ true
or_true true = refl
or_true false = refl

-- of two lays, wherever the first begins
pub past-both : {at q : ℕ} {xs t t₁ : List ℕ} → Put at xs t t₁ q → (b : Bool) (ys : List ℕ) {c d : Bool} → c ≡ (b || is_past at (length xs))
    → d ≡ (c || is_past q (length ys))
    → d ≡ (b || is_past at (length (xs ++ ys)))
past-both {at} {q} {xs} P b ys {c} {d} e f = by_less (d ≡ (b || is_past at (length (xs ++ ys)))) top at over (λ h. past-append h P b ys e f)
  where
    passes : top < at → (n : ℕ) → (b || is_past at n) ≡ true
    passes l n = ap (λ (x : Bool). b || x) (lt-ltb top (at + n) (omega arith)) ∙ or_true b

    over : top < at → d ≡ (b || is_past at (length (xs ++ ys)))
    over l = f ∙ ap (λ (x : Bool). x || is_past q (length ys)) (e ∙ passes l (length xs)) ∙ sym (passes l (length (xs ++ ys)))
