-- A file of a unit's header joins the table: its pieces, the table with it, and its number in the unit's map.
use Prim.Native.Nat.{ℕ, ◌+◌, ◌≤◌, ◌<◌}
use native.Mathlib.Omega.{arith}
use mathlib.Core.Path.{◌≡◌, refl, sym, ap}
use mathlib.Core.Logic.{inl}
use mathlib.Core.List.{List}
use lib.ListN.{length}
use Rattle.tlv.specs.declared.model.FileIndex.{FileIndex}
use Rattle.std.specs.Prelude.{MatchOption, IsSomeAnd, Option, Some, None, Ok, Err}
use Rattle.tlv.specs.declared.refusal.Refusal.{Refusal}
use Rattle.tlv.specs.Outcome.{◌>>=◌}
use Rattle.tlv.specs.Model.{file_of}
use Rattle.buffers.specs.Buffer.{top}
use Rattle.buffers.proofs.TableLaws.{kept_refl, here, there, but_of, but_one, but_trans}
use Rattle.access.specs.Places.{unit_here}
use Rattle.lines.specs.Files.{intern_file}
use Rattle.files.specs.declared.spans.Span.{Span}
use Rattle.files.specs.declared.pieces.FilePieces.{FilePieces}
use Rattle.files.specs.declared.spans.FileUnit.{FileUnit}
use Rattle.files.specs.declared.store.StoredFiles.{StoredFiles}
use Rattle.files.specs.declared.store.AddedFile.{AddedFile}
use Rattle.files.specs.Pieces.{span_in, file_in, header_here, Pieced}
use Rattle.files.specs.Possible.{Possible}
use Rattle.files.specs.Store.{extent, FilesIn, Grown, Adds}
use Rattle.files.specs.Indices.{number_of, PutIndex}
use Rattle.files.specs.Interns.{Listed, OfUnit, Interns, InternsAt}
use Rattle.files.proofs.GrownLaws.{table_kept, grown-none, grown-kept}

-- ---- intern_file

module _ {s : List ℕ} {u : FileUnit} {file : Span} where
  pub pieces-possible : {main supplementary : List ℕ} {p : FilePieces} → Pieced s u file (Ok (Some p)) → Listed main supplementary (unit_here s u.place) (header_here s u.place)
      → OfUnit s u.place file → Possible main supplementary (file_in s p)
  pieces-possible {p = p} P L O = L.possible (file_of (span_in s file)) (file_in s p) O.listed (sym P.is)

  module _ {main supplementary w files : List ℕ} {t : StoredFiles} where
    pub interns-failed : {e : Refusal} → Pieced s u file (Err e) → Interns main supplementary w w files files t s u file (Err e)
    unfolding intern_file ◌>>=◌
    interns-failed P = record { is = rw (← P.is); after = refl; rest = kept_refl w t.base (extent t) }

    pub interns-unnamed : Pieced s u file (Ok None) → FilesIn main supplementary w t → length files < top → Interns main supplementary w w files files t s u file (Ok None)
    unfolding intern_file ◌>>=◌
    interns-unnamed P F k = record { is = rw (← P.is); after = grown-none F k; rest = kept_refl w t.base (extent t) }

  module _ {main supplementary w w' files files' : List ℕ} {t : StoredFiles} {p : FilePieces} (P : Pieced s u file (Ok (Some p))) where
    pub interns_full : {e : Refusal} → Adds main supplementary w w' files files' t (file_in s p) (Err e) → Interns main supplementary w w' files files' t s u file (Err e)
    unfolding intern_file ◌>>=◌
    interns_full A = record { is = rw (← P.is, ← A.is); after = A.after; rest = A.rest }

    pub interns-number : {a : AddedFile} → Adds main supplementary w w' files files' t (file_in s p) (Ok a) → Interns main supplementary w w' files files' t s u file (Ok (Some a))
    unfolding intern_file ◌>>=◌
    interns-number A = record { is = rw (← P.is, ← A.is); after = A.after; rest = A.rest }

-- ---- intern_at

-- a file's number
abbrev pub numbered : Option AddedFile → Option FileIndex
numbered None = None
numbered (Some a) = Some a.number

pub numbered-is : (P : AddedFile → FileIndex → Type 0) → ((a : AddedFile) (n : FileIndex) → P a n → n ≡ a.number) → (o : Option AddedFile) (r : Option FileIndex)
    → MatchOption o (r ≡ None) (λ a. IsSomeAnd r (P a)) → r ≡ numbered o
numbered-is P same None r e = e
numbered-is P same (Some a) None e = absurd e
numbered-is P same (Some a) (Some n) e = ap (λ (k : FileIndex). Some k) (same a n e)

module _ {main supplementary w w₁ files files' : List ℕ} {t : StoredFiles} {s : List ℕ} {u : FileUnit} {file : Span} where
  pub at-written : {w₂ : List ℕ} {p : ℕ} {r : Option AddedFile} → t.base + extent t ≤ p → length w₂ ≡ length w₁ → Interns main supplementary w w₁ files files' t s u file (Ok r)
      → PutIndex w₁ w₂ p (number_of (numbered r)) → InternsAt main supplementary w w₂ files files' t s u file p (Ok r)
  at-written {w₂ = w₂} {p = p} {r = None} h size I P =
      let G : Grown main supplementary w w₁ files files' t t = I.after in
      record {
        is = rw (table_kept G.holds (but_one P.rest) (inl h, tt)) I.is;
        after = grown-kept G (but_one P.rest) (inl h, tt) size;
        number = P.index;
        rest = but_trans (but_of I.rest (here (omega arith) (omega arith))) (but_of P.rest (there (here (omega arith) (omega arith))));
      }
  at-written {w₂ = w₂} {p = p} {r = Some a} h size I P =
      let G : Grown main supplementary w w₁ files files' t a.table = I.after in
      let clear : a.table.base + extent a.table ≤ p = rw (G.base, G.room) h in
      record {
        is = rw (table_kept G.holds (but_one P.rest) (inl clear, tt)) I.is;
        after = grown-kept G (but_one P.rest) (inl clear, tt) size;
        number = P.index;
        rest = but_trans (but_of I.rest (here (omega arith) (omega arith))) (but_of P.rest (there (here (omega arith) (omega arith))));
      }
