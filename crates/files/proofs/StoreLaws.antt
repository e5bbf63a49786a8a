-- The records of the file table: what is read at a place is the record there, and what is written one after the other is one.
use mathlib.Core.Path.{◌≡◌, refl, sym, ap, ◌∙◌}
use mathlib.Core.Logic.{inl, inr}
use mathlib.Core.List.{List}
use Prim.Native.Nat.{ℕ, ◌+◌, ◌*◌, ◌%◌, ◌≤◌, ◌<◌}
use native.Mathlib.Nat.{add-zero, mod-lt, mul-le-mul_right}
use native.Mathlib.Omega.{arith}
use Rattle.tlv.specs.Sources.{source_of_byte}
use Rattle.tlv.specs.Bytes.{le_at}
use denote.Enum.Declared.{tag_of}
use Rattle.tlv.specs.contracts.model.DebugSource.{the_type}
use Rattle.tlv.specs.declared.model.DebugSource.{DebugSource}
use Rattle.buffers.specs.Table.{chunk, Wrote}
use Rattle.buffers.proofs.ChunkLaws.{chunk_part, le_at-chunk}
use Rattle.buffers.proofs.TableLaws.{kept_trans, kept-wide, le_at-kept, here, there, but_of, but_trans}
use Rattle.files.specs.declared.spans.Span.{Span}
use Rattle.files.specs.declared.pieces.FilePieces.{FilePieces}
use Rattle.files.specs.declared.store.StoredFiles.{StoredFiles}
use Rattle.files.specs.Pieces.{span_of, PutSpan}
use Rattle.files.specs.Store.{pieces_of, source_of, stored_hash, stored_link, byte_of, head_from, PutPieces, PutFile, Linked}
use Rattle.files.proofs.DirectoryLaws.{span-is}

-- ---- reads

pub got_span : (w : List ℕ) (p : ℕ) {a b : ℕ} → a ≡ le_at 4 w p → b ≡ le_at 4 w (p + 4) → ◌≡◌ {A = Span} (record { start = a; len = b }) (span_of (chunk w p 8))
got_span w p {a} {b} e f = sym (span-is w p (record { start = a; len = b }) (sym e) (sym f))

-- the spans of a record of m bytes
module _ (w : List ℕ) (at m : ℕ) (h : 32 ≤ m) where
  pub pieces_are : {c d o b : Span} → c ≡ span_of (chunk w at 8) → d ≡ span_of (chunk w (at + 8) 8) → o ≡ span_of (chunk w (at + 16) 8) → b ≡ span_of (chunk w (at + 24) 8)
      → ◌≡◌ {A = FilePieces} (record { compilation = c; directory = d; own = o; base = b }) (pieces_of (chunk w at m))
  unfolding pieces_of
  pieces_are ec ed eo eb = λ i. record {
    compilation = (ec ∙ ap span_of (sym (rw add-zero at (chunk_part w at m 0 8 (omega arith))))) i;
    directory = (ed ∙ ap span_of (sym (chunk_part w at m 8 8 (omega arith)))) i;
    own = (eo ∙ ap span_of (sym (chunk_part w at m 16 8 (omega arith)))) i;
    base = (eb ∙ ap span_of (sym (chunk_part w at m 24 8 (omega arith)))) i;
  }

pub got-pieces : (w : List ℕ) (at : ℕ) {c d o b : Span} → c ≡ span_of (chunk w at 8) → d ≡ span_of (chunk w (at + 8) 8) → o ≡ span_of (chunk w (at + 16) 8) → b ≡ span_of (chunk w (at + 24) 8)
    → ◌≡◌ {A = FilePieces} (record { compilation = c; directory = d; own = o; base = b }) (pieces_of (chunk w at 41))
got-pieces w at = pieces_are w at 41 (omega arith)

-- the pieces stand in the first 32 bytes
pieces-front : (w : List ℕ) (at : ℕ) → pieces_of (chunk w at 41) ≡ pieces_of (chunk w at 32)
pieces-front w at = sym (pieces_are w at 41 (omega arith) refl refl refl refl) ∙ pieces_are w at 32 (omega arith) refl refl refl refl

pub got-source : (w : List ℕ) (p : ℕ) {b : ℕ} → b ≡ le_at 1 w (p + 32) → source_of_byte b ≡ source_of (chunk w p 41)
unfolding source_of
got-source w p e = ap source_of_byte (e ∙ sym (le_at-chunk 1 w p 41 32 (omega arith)))

pub hash_at : (w : List ℕ) (p : ℕ) → stored_hash (chunk w p 41) ≡ le_at 4 w (p + 33)
unfolding stored_hash
hash_at w p = le_at-chunk 4 w p 41 33 (omega arith)

pub link_at : (w : List ℕ) (p : ℕ) → stored_link (chunk w p 41) ≡ le_at 4 w (p + 37)
unfolding stored_link
link_at w p = le_at-chunk 4 w p 41 37 (omega arith)

-- ---- writes

pub put-pieces : {w w₁ w₂ w₃ w₄ : List ℕ} {at : ℕ} {p : FilePieces} → PutSpan w w₁ at p.compilation → PutSpan w₁ w₂ (at + 8) p.directory → PutSpan w₂ w₃ (at + 16) p.own
    → PutSpan w₃ w₄ (at + 24) p.base → PutPieces w w₄ at p
put-pieces {w} {w₁} {w₂} {w₃} {w₄} {at} {p} A B C D = record {
  pieces = sym (pieces_are w₄ at 32 (omega arith)
      (sym (ap span_of (D.rest.same at 8 (inl (omega arith)) ∙ C.rest.same at 8 (inl (omega arith)) ∙ B.rest.same at 8 (inl (omega arith))) ∙ A.span))
      (sym (ap span_of (D.rest.same (at + 8) 8 (inl (omega arith)) ∙ C.rest.same (at + 8) 8 (inl (omega arith))) ∙ B.span))
      (sym (ap span_of (D.rest.same (at + 16) 8 (inl (omega arith))) ∙ C.span))
      (sym D.span));
  rest = kept_trans (kept-wide at 32 A.rest (omega arith) (omega arith))
      (kept_trans (kept-wide at 32 B.rest (omega arith) (omega arith))
      (kept_trans (kept-wide at 32 C.rest (omega arith) (omega arith)) (kept-wide at 32 D.rest (omega arith) (omega arith))));
}

source-back : (w : List ℕ) (p : ℕ) (s : DebugSource) → le_at 1 w (p + 32) ≡ byte_of s → source_of (chunk w p 41) ≡ s
source-back w p DebugSource.Main e = sym (got-source w p (sym e))
source-back w p DebugSource.Supplementary e = sym (got-source w p (sym e))

-- the number of a case is its byte
pub byte-is : (source : DebugSource) → tag_of the_type source ≡ byte_of source
byte-is DebugSource.Main = refl
byte-is DebugSource.Supplementary = refl

pub put_record : {w w₁ w₂ w₃ w₄ : List ℕ} {at b hash link : ℕ} {source : DebugSource} {p : FilePieces} → PutPieces w w₁ at p → b ≡ byte_of source → Wrote w₁ w₂ (at + 32) 1 b
    → Wrote w₂ w₃ (at + 33) 4 hash → Wrote w₃ w₄ (at + 37) 4 link → PutFile w w₄ at source p hash link
put_record {w} {w₁} {w₂} {w₃} {w₄} {at} {b} {hash} {link} {source} {p} A e B C D = record {
  pieces = pieces-front w₄ at ∙ ap pieces_of (D.rest.same at 32 (inl (omega arith)) ∙ C.rest.same at 32 (inl (omega arith)) ∙ B.rest.same at 32 (inl (omega arith))) ∙ A.pieces;
  source_is = source-back w₄ at source (le_at-kept 1 (at + 32) D.rest (inl (omega arith)) ∙ le_at-kept 1 (at + 32) C.rest (inl (omega arith)) ∙ B.value ∙ e);
  hashed = hash_at w₄ at ∙ le_at-kept 4 (at + 33) D.rest (inl (omega arith)) ∙ C.value;
  linked = link_at w₄ at ∙ D.value;
  rest = kept_trans (kept-wide at 41 A.rest (omega arith) (omega arith))
      (kept_trans (kept-wide at 41 B.rest (omega arith) (omega arith))
      (kept_trans (kept-wide at 41 C.rest (omega arith) (omega arith)) (kept-wide at 41 D.rest (omega arith) (omega arith))));
}

-- ---- a record behind the others, and the head that leads to it

-- a head lies before the records
pub head-before : (room hash : ℕ) → 0 < room → hash % room * 4 + 4 ≤ room * 4
head-before room hash h = omega (arith, mul-le-mul_right 4 (mod-lt hash h))

pub linked-file : {w w₁ w₂ : List ℕ} {t : StoredFiles} {source : DebugSource} {p : FilePieces} {hash link : ℕ} → 0 < t.room → link ≡ le_at 4 w (head_from t hash)
    → PutFile w w₁ (t.base + t.room * 4 + t.count * 41) source p hash link → Wrote w₁ w₂ (head_from t hash) 4 (t.count + 1) → Linked w w₂ t source p hash
linked-file {w} {w₁} {w₂} {t} {source} {p} {hash} {link} h e P H =
    let b = head-before t.room hash h in
    let at : ℕ = t.base + t.room * 4 + t.count * 41 in
    let same : chunk w₂ at 41 ≡ chunk w₁ at 41 = H.rest.same at 41 (inr (omega arith)) in
    record {
      pieces = ap pieces_of same ∙ P.pieces;
      source_is = ap source_of same ∙ P.source_is;
      hashed = ap stored_hash same ∙ P.hashed;
      linked = ap stored_link same ∙ P.linked ∙ e;
      head = H.value;
      rest = but_trans (but_of P.rest (here (omega arith) (omega arith))) (but_of H.rest (there (here (omega arith) (omega arith))));
    }
