-- The file table and a unit's directories in a list of bytes: they stay where other bytes are written, and a table grows by steps.
use Prim.Native.Nat.{ℕ, ◌+◌, ◌*◌, ◌<◌}
use native.Mathlib.Omega.{arith}
use mathlib.Core.Path.{◌≡◌, refl, sym, ◌∙◌}
use mathlib.Core.List.{List, [], ◌∷◌, ◌++◌, append-nil, append_assoc}
use lib.ListN.{length}
use Rattle.tlv.specs.Fields.{encode}
use Rattle.buffers.specs.Buffer.{top}
use Rattle.buffers.specs.Table.{chunk, Clear, KeptBut}
use Rattle.buffers.specs.Output.{FileEntry, file_payload, each_of, files_bytes}
use Rattle.buffers.proofs.BufferLaws.{◌then◌, put-none, put_as}
use Rattle.buffers.proofs.RecordLaws.{records-but}
use Rattle.files.specs.declared.spans.FileUnit.{FileUnit}
use Rattle.files.specs.declared.store.StoredFiles.{StoredFiles}
use Rattle.files.specs.Pieces.{span_in, span_of, spanned_of, FileUnitIn}
use Rattle.files.specs.Store.{extent, entries_of, table_of, FilesIn, Grown}
use Rattle.files.proofs.KeptLaws.{entries-but, files-but}
pub use Rattle.files.proofs.KeptLaws.{clear-part}

-- ---- what lies apart stays

-- a unit's directories
pub unit_kept : {s w w' : List ℕ} {rs : List (ℕ × ℕ)} {u : FileUnit} → FileUnitIn s w u → KeptBut w w' rs → Clear u.directories.base (u.directories.count * 8) rs → length w' ≡ length w
    → FileUnitIn s w' u
unfolding spanned_of
unit_kept {s} {w} {w'} {rs} {u} U K c size =
    let base = u.directories.base in
    let n = u.directories.count in
    let each : (i : ℕ) → i < n → chunk w' (base + i * 8) 8 ≡ chunk w (base + i * 8) 8 = λ i h. K.same (base + i * 8) 8 (clear-part base (n * 8) (base + i * 8) 8 rs c (omega arith) (omega arith)) in
    record {
      version = U.version;
      compilation = U.compilation;
      directories = rw (records-but (λ b. span_in s (span_of b)) 8 base n K c) U.directories;
      string = U.string;
      spans = λ i h. rw (each i h) (U.spans i h);
      within = rw size U.within;
    }

-- the file table
module _ {main supplementary w w' : List ℕ} {rs : List (ℕ × ℕ)} {t : StoredFiles} (F : FilesIn main supplementary w t) (K : KeptBut w w' rs) (c : Clear t.base (extent t) rs) where
  table-clear : Clear t.base (t.room * 45) rs
  table-clear = clear-part t.base (extent t) t.base (t.room * 45) rs c (omega arith) (omega arith)

  pub entries-kept : entries_of main supplementary w' t ≡ entries_of main supplementary w t
  entries-kept = entries-but F K table-clear

  pub table_kept : table_of main supplementary w' t ≡ table_of main supplementary w t
  unfolding table_of
  table_kept = rw entries-kept

  pub files-kept : length w' ≡ length w → FilesIn main supplementary w' t
  files-kept size = files-but F K table-clear (omega arith)

-- ---- a table grows

files-append : (a b : List FileEntry) → files_bytes (a ++ b) ≡ files_bytes a ++ files_bytes b
unfolding files_bytes each_of
files-append [] b = refl
files-append (x ∷ a) b = rw (files-append a b) (sym (append_assoc (encode 0x40 (file_payload x)) (files_bytes a) (files_bytes b)))

-- not at all
pub grown-none : {main supplementary w files : List ℕ} {t : StoredFiles} → FilesIn main supplementary w t → length files < top → Grown main supplementary w w files files t t
unfolding files_bytes each_of
grown-none {main} {supplementary} {w} {files} {t} F k = record {
  new = [];
  entries = sym (append-nil (entries_of main supplementary w t));
  holds = F;
  put = put-none F.written k;
  base = refl;
  room = refl;
  first = refl;
}

-- twice
pub grown-trans : {main supplementary w w₁ w₂ files files₁ files₂ : List ℕ} {t t₁ t₂ : StoredFiles}
    → Grown main supplementary w w₁ files files₁ t t₁ → Grown main supplementary w₁ w₂ files₁ files₂ t₁ t₂ → Grown main supplementary w w₂ files files₂ t t₂
grown-trans {main} {supplementary} {w} {t = t} A B = record {
  new = A.new ++ B.new;
  entries = B.entries ∙ rw A.entries (append_assoc (entries_of main supplementary w t) A.new B.new);
  holds = B.holds;
  put = put_as (files-append A.new B.new) (A.put then B.put);
  base = B.base ∙ A.base;
  room = B.room ∙ A.room;
  first = B.first ∙ A.first;
}

-- then other bytes are written
pub grown-kept : {main supplementary w w₁ w₂ files files₁ : List ℕ} {rs : List (ℕ × ℕ)} {t t₁ : StoredFiles}
    → Grown main supplementary w w₁ files files₁ t t₁ → KeptBut w₁ w₂ rs → Clear t₁.base (extent t₁) rs → length w₂ ≡ length w₁ → Grown main supplementary w w₂ files files₁ t t₁
grown-kept A K c size = record {
  new = A.new;
  entries = entries-kept A.holds K c ∙ A.entries;
  holds = files-kept A.holds K c size;
  put = A.put;
  base = A.base;
  room = A.room;
  first = A.first;
}

-- after other bytes were written
pub grown-after : {main supplementary w w₁ w₂ files files₂ : List ℕ} {rs : List (ℕ × ℕ)} {t t₂ : StoredFiles}
    → FilesIn main supplementary w t → KeptBut w w₁ rs → Clear t.base (extent t) rs → Grown main supplementary w₁ w₂ files files₂ t t₂ → Grown main supplementary w w₂ files files₂ t t₂
grown-after F K c B = record {
  new = B.new;
  entries = B.entries ∙ rw (entries-kept F K c);
  holds = B.holds;
  put = B.put;
  base = B.base;
  room = B.room;
  first = B.first;
}
