-- Writing the spans of a unit's directories: a span, and a turn of the loop over the unit's own fields.
use mathlib.Core.Path.{◌≡◌, refl, sym, ap, ◌∙◌}
use mathlib.Core.Logic.{inl}
use mathlib.Core.List.{List, ◌++◌, append-nil, append_assoc}
use Prim.Native.Nat.{ℕ, ◌+◌, ◌-◌, ◌*◌, ◌≤◌, ◌<◌}
use native.Mathlib.Omega.{arith}
use lib.ListN.{length, take, drop, length-append}
use borrow.Author.Count.{below_none, below_more}
use Rattle.tlv.specs.Bytes.{le_at}
use Rattle.tlv.specs.Limits.{string_limit}
use Rattle.tlv.specs.Fields.{fields, payloads}
use Rattle.tlv.specs.Checked.{Placed}
use Rattle.tlv.proofs.PlacePromises.{placed-directory, placed-directory-string}
use Rattle.buffers.specs.Table.{chunk, Kept, Wrote}
use Rattle.buffers.proofs.ChunkLaws.{chunk-length, le_at-chunk, le_at-front}
use Rattle.buffers.proofs.TableLaws.{kept_refl, kept_trans, kept-wide, le_at-kept}
use Rattle.buffers.proofs.RecordLaws.{records-length, records-nil, records-push}
use Rattle.std.specs.Prelude.{Option, Some, None}
use Rattle.tlv.specs.Cursor.{step_at}
use Rattle.tlv.specs.declared.fields.FieldSpan.{FieldSpan}
use Rattle.access.specs.Places.{own_fields}
use Rattle.access.specs.Access.{own_payloads, NextOwn}
use Rattle.access.proofs.OwnLaws.{own-within, own-field, own-placed}
use Rattle.files.specs.declared.spans.Span.{Span}
use Rattle.files.specs.Pieces.{span_in, SpanIn, span_of, spanned_of, PutSpan, DirectoryIn, DirectoriesIn}

-- ---- a span

-- the default one is empty
pub empty-span : {a : Span} → (a.start ≡ 0) × (a.len ≡ 0) → a ≡ record { start = 0; len = 0 }
empty-span e = λ i. record { start = e.0 i; len = e.1 i }

-- what is cut out of a sheet is a span of it
pub cut-span : (s : List ℕ) (a n : ℕ) → take (a + n - a) (drop a s) ≡ chunk s a n
unfolding chunk
cut-span s a n = let e : a + n - a ≡ n = omega arith in rw e

pub span-short : (s : List ℕ) (a : Span) → SpanIn s a → length (span_in s a) ≤ string_limit
span-short s a S = omega (arith, chunk-length s a.start a.len S.within, S.short)

-- the numbers of a span in the table
pub span-is : (w : List ℕ) (p : ℕ) (a : Span) → le_at 4 w p ≡ a.start → le_at 4 w (p + 4) ≡ a.len → span_of (chunk w p 8) ≡ a
unfolding span_of
span-is w p a es el = λ i. record {
  start = (le_at-front 4 w p 8 (omega arith) ∙ es) i;
  len = (le_at-chunk 4 w p 8 4 (omega arith) ∙ el) i;
}

-- its two numbers, written one after the other
pub put-span : {w w₁ w₂ : List ℕ} {p : ℕ} {a : Span} → Wrote w w₁ p 4 a.start → Wrote w₁ w₂ (p + 4) 4 a.len → PutSpan w w₂ p a
put-span {w} {w₁} {w₂} {p} {a} A B = record {
  span = span-is w₂ p a (le_at-kept 4 p B.rest (inl (omega arith)) ∙ A.value) B.value;
  rest = kept_trans (kept-wide p 8 A.rest (omega arith) (omega arith)) (kept-wide p 8 B.rest (omega arith) (omega arith));
}

pub spanned-length : (s w : List ℕ) (base n : ℕ) → length (spanned_of s w base n) ≡ n
unfolding spanned_of
spanned-length s w base n = records-length (λ b. span_in s (span_of b)) 8 w base n

-- ---- the loop: n spans are written, and the directories from `at` on are left

pub record Listing (s w₀ w : List ℕ) (p base at n : ℕ) : Type 0 where
  pub placed : Placed s at
  pub left : spanned_of s w base n ++ payloads 0x14 (own_fields (fields (drop at s))) ≡ payloads 0x14 (own_fields (fields (drop p s)))
  pub spans : (i : ℕ) → i < n → DirectoryIn s (span_of (chunk w (base + i * 8) 8))
  pub rest : Kept w₀ w base (n * 8)
  pub size : length w ≡ length w₀

pub listing_start : (s w : List ℕ) (p base : ℕ) → Placed s p → Listing s w w p base p 0
unfolding spanned_of
listing_start s w p base h = record {
  placed = h;
  left = rw (records-nil (λ b. span_in s (span_of b)) 8 w base);
  spans = below_none (λ i. DirectoryIn s (span_of (chunk w (base + i * 8) 8)));
  rest = kept_refl w base (0 * 8);
  size = refl;
}

module _ {s w₀ w : List ℕ} {p base at n : ℕ} (I : Listing s w₀ w p base at n)
    (room : base + 8 * length (payloads 0x14 (own_fields (fields (drop p s)))) ≤ length w₀) where
  module _ (r : Option FieldSpan) (own : NextOwn s at 0x14 r) where
    turn : spanned_of s w base n ++ own_payloads s 0x14 r ≡ payloads 0x14 (own_fields (fields (drop p s)))
    turn = rw own.is I.left

    counted : n + length (own_payloads s 0x14 r) ≡ length (payloads 0x14 (own_fields (fields (drop p s))))
    counted = rw (length-append, spanned-length) at (ap length turn)

  pub listing-done : NextOwn s at 0x14 None → DirectoriesIn s w₀ w p base n
  listing-done own =
      let size = I.size in
      let count = counted None own in
      record {
        is = sym (append-nil (spanned_of s w base n)) ∙ turn None own;
        spans = I.spans;
        within = omega arith;
        rest = I.rest;
      }

  module _ (f : FieldSpan) (own : NextOwn s at 0x14 (Some f)) where
    pub listing-room : base + n * 8 + 8 ≤ length w
    listing-room =
        let size = I.size in
        let count = counted (Some f) own in
        omega arith

    pub listing-small : length s < 4294967296 → f.start + f.len < 4294967296
    listing-small small = let w = own-within s at 0x14 f own in omega arith

    directory-in : DirectoryIn s (record { start = f.start; len = f.len })
    directory-in =
        let x = own-field s at 0x14 f own I.placed in
        let flag = placed-directory s x.place (step_at s x.place) 0x14 f.start f.len f.next x.here refl x.is refl in
        let string = placed-directory-string s x.place (step_at s x.place) 0x14 f.start f.len f.next x.here refl x.is refl in
        record { within = (own-within s at 0x14 f own).0; flagged = flag; short = omega arith }

    pub listing_step : {w' : List ℕ} → PutSpan w w' (base + n * 8) (record { start = f.start; len = f.len }) → length w' ≡ length w
        → Listing s w₀ w' p base f.next (n + 1)
    unfolding spanned_of chunk
    listing_step {w'} P same =
        let a : Span = record { start = f.start; len = f.len } in
        record {
          placed = own-placed s at 0x14 f own I.placed;
          left = rw (records-push (λ b. span_in s (span_of b)) 8 base n (span_in s a) P.rest (ap (span_in s) P.span), append_assoc) (turn (Some f) own);
          spans = below_more (λ i. DirectoryIn s (span_of (chunk w' (base + i * 8) 8))) n
              (λ i h. rw (P.rest.same (base + i * 8) 8 (inl (omega arith))) (I.spans i h))
              (rw P.span directory-in);
          rest = kept_trans (kept-wide base ((n + 1) * 8) I.rest (omega arith) (omega arith)) (kept-wide base ((n + 1) * 8) P.rest (omega arith) (omega arith));
          size = same ∙ I.size;
        }
