-- What adding a file to the file table gives: a file laid to be looked up, one that is found, one that is new, and one past the last number.
use mathlib.Core.Path.{◌≡◌, refl, sym, ap, ◌∙◌}
use mathlib.Core.Logic.{inl, inr, ⊎_elim}
use mathlib.Core.List.{List, [], ◌∷◌, ◌++◌, append-nil}
use mathlib.Core.Option.{Option, none, some, none-ne-some, some-ne-none, some-injective}
use Prim.Native.Nat.{ℕ, ◌+◌, ◌-◌, ◌*◌, ◌%◌, ◌^◌, ◌≤◌, ◌<◌}
use native.Mathlib.Omega.{arith}
use lib.ListN.{length, take, drop, length-take}
use borrow.Author.Tests.{lt-ltb, le-ltb}
use Rattle.tlv.specs.Outcome.{done}
use Rattle.tlv.specs.Fields.{encode}
use Rattle.tlv.specs.Limits.{string_limit, joined_limit}
use Rattle.tlv.specs.Lists.{map_option}
use Rattle.tlv.specs.declared.model.DebugSource.{DebugSource}
use Rattle.tlv.specs.declared.model.FileIndex.{FileIndex}
use Rattle.buffers.specs.Buffer.{top, Put}
use Rattle.buffers.specs.Table.{chunk}
use Rattle.buffers.specs.Output.{FileEntry, file_payload, files_bytes, each_of}
use Rattle.buffers.proofs.BufferLaws.{put-none, put_as}
use Rattle.buffers.proofs.ChunkLaws.{chunk-length}
use Rattle.buffers.proofs.TableLaws.{kept_refl, kept_trans, kept-wide}
use Rattle.paths.specs.Paths.{append_path}
use Rattle.paths.specs.Join.{Laid}
use Rattle.paths.proofs.PathBounds.{append_path-length}
use Rattle.lines.specs.Files.{file_index, place_of, append_file, add_file_at, add_file}
use Rattle.files.specs.declared.pieces.FilePieces.{FilePieces}
use Rattle.files.specs.declared.store.StoredFiles.{StoredFiles}
use Rattle.std.specs.Prelude.{Some, None, SomeIff, ok_or, Result, Ok, Err}
use Rattle.std.specs.Result.{result_ok}
use Rattle.std.proofs.lemmas.Option.{none-some}
use Rattle.std.specs.declared.option.Option.{Option as Given}
use Rattle.tlv.specs.declared.refusal.Refusal.{Refusal}
use Rattle.files.specs.declared.store.AddedFile.{AddedFile}
use Rattle.files.specs.declared.store.LaidHash.{LaidHash}
use Rattle.files.specs.Pieces.{source_in, span_in, file_in, PiecesIn}
use Rattle.files.specs.Hash.{hash_from, hash_of}
use Rattle.files.specs.Possible.{Possible}
use Rattle.files.specs.Indices.{number_of}
use Rattle.files.specs.Reached.{number_in}
use Rattle.files.specs.Store.{scratch_from, extent, entries_of, table_of, FilesIn, Linked, LaidFile, LaidAt, found_of, AddedAfter, Adds}
use Rattle.files.proofs.DirectoryLaws.{cut-span}
use Rattle.files.proofs.StoreLaws.{head-before}
use Rattle.files.proofs.SameLaws.{place-within}
use Rattle.files.proofs.RoomLaws.{room-left}
use Rattle.files.proofs.KeptLaws.{files-apart, entries-apart}
use Rattle.files.proofs.AddLaws.{entries-length, grown_by, entries-grown, files-grown}

-- ---- a file is laid, to be looked up

pub laid-room : {s w w' : List ℕ} {p : FilePieces} {at n : ℕ} → PiecesIn s p → Laid w w' at n (file_in s p).directory → n ≤ joined_limit
unfolding file_in
laid-room {s} {p = p} P L =
    omega (
      arith,
      L.size,
      append_path-length (append_path (span_in s p.compilation) (span_in s p.directory)) (span_in s p.own),
      append_path-length (span_in s p.compilation) (span_in s p.directory),
      chunk-length s p.compilation.start p.compilation.len P.compilation.within,
      chunk-length s p.directory.start p.directory.len P.directory.within,
      chunk-length s p.own.start p.own.len P.own.within,
      P.compilation.short,
      P.directory.short,
      P.own.short,
    )

pub laid-at : {s w w' : List ℕ} {p : FilePieces} {at n h r : ℕ} → PiecesIn s p → Laid w w' at n (file_in s p).directory → h ≡ hash_from 0 (take (at + n - at) (drop at w'))
    → r ≡ hash_from h (span_in s p.base) → LaidAt w w' at (file_in s p) (record { len = n; hash = r })
unfolding hash_of file_in
laid-at {s} {w} {w'} {p} {at} {n} {h} {r} P L a b = record {
  directory = L.path;
  short = laid-room P L;
  hashed = b ∙ ap (λ (h : ℕ). hash_from h (span_in s p.base)) start;
  rest = kept-wide at joined_limit L.rest (omega arith) (omega (arith, laid-room P L));
}
  where
    start : h ≡ hash_from 0 (append_path (append_path (span_in s p.compilation) (span_in s p.directory)) (span_in s p.own))
    start = a ∙ ap (hash_from 0) (cut-span w' at n ∙ L.path)

module _ {main supplementary w w₁ : List ℕ} {t : StoredFiles} {e : FileEntry} {l : LaidHash} {at : ℕ} (F : FilesIn main supplementary w t)
    (ea : at ≡ scratch_from t) (L : LaidAt w w₁ at e l) where
  pub laid-files : length w₁ ≡ length w → FilesIn main supplementary w₁ t
  laid-files same = files-apart F L.rest (inl (omega arith)) (omega arith)

  pub laid-file : LaidFile w₁ t l.len l.hash e
  laid-file = record { directory = ap (λ (a : ℕ). chunk w₁ a l.len) (sym ea) ∙ L.directory; short = L.short; hashed = L.hashed }

-- the file as it is looked up
pub laid-entry : (s : List ℕ) {w : List ℕ} {t : StoredFiles} {at : ℕ} (p : FilePieces) {l : LaidHash} {b : List ℕ} → at ≡ scratch_from t → b ≡ span_in s p.base
    → LaidFile w t l.len l.hash (file_in s p) → ◌≡◌ {A = FileEntry} (record { directory = take (at + l.len - at) (drop at w); basename = b }) (file_in s p)
unfolding file_in
laid-entry s {w} {at = at} p {l} ea eb D =
    λ i. record { directory = (cut-span w at l.len ∙ ap (λ (k : ℕ). chunk w k l.len) ea ∙ D.directory) i; basename = eb i }

-- ---- a file that is found

-- e is looked up as e₁
module _ {main supplementary w : List ℕ} {t : StoredFiles} {e e₁ : FileEntry} (F : FilesIn main supplementary w t) (q : e₁ ≡ e) where
  pub found_number : {i : ℕ} → found_of (Some i) ≡ place_of e₁ (entries_of main supplementary w t) → t.first + i < 2 ^ 32
  found_number {i} f =
      let place : place_of e (entries_of main supplementary w t) ≡ some i = sym (f ∙ λ j. place_of (q j) (entries_of main supplementary w t)) in
      omega (arith, place-within e (entries_of main supplementary w t) i place, entries-length main supplementary w t, F.numbered)

-- the number that was found for e, laid in w₁
module _ {main supplementary w w₁ : List ℕ} {t : StoredFiles} {e : FileEntry} {l : LaidHash} {at : ℕ} (F : FilesIn main supplementary w t)
    (ea : at ≡ scratch_from t) (L : LaidAt w w₁ at e l) where
  entries-laid : entries_of main supplementary w₁ t ≡ entries_of main supplementary w t
  entries-laid = entries-apart F L.rest (inl (omega arith))

  pub table-laid : table_of main supplementary w₁ t ≡ table_of main supplementary w t
  unfolding table_of
  table-laid = λ j. record { first = t.first; entries = entries-laid j }

  pub found-adds : {files : List ℕ} {n : FileIndex} → number_of (Some n) ≡ number_in (table_of main supplementary w₁ t) (done (some e)) → length w₁ ≡ length w → t.written ≤ top → length files < top
      → Adds main supplementary w w₁ files files t e (Ok (record { table = t; number = n }))
  unfolding add_file table_of files_bytes each_of map_option
  found-adds {files} {n} f same small fits = record {
    is = go (place_of e (entries_of main supplementary w t)) (f ∙ λ j. number_in (table-laid j) (done (some e)));
    after = record {
      new = [];
      entries = entries-laid ∙ sym (append-nil (entries_of main supplementary w t));
      holds = laid-files F ea L same;
      put = put-none small fits;
      base = refl;
      room = refl;
      first = refl;
    };
    rest = kept-wide t.base (extent t) L.rest (omega arith) (omega arith);
  }
    where
      go : (o : Option ℕ) → some n ≡ map_option (λ k. file_index (t.first + k)) o
          → done (record { table = table_of main supplementary w₁ t; number = n }) ≡ add_file_at (table_of main supplementary w t) e o
      go none x = absurd (some-ne-none n x)
      go (some k) x = λ j. done (record { table = table-laid j; number = some-injective _ _ x j })

  pub missing-place : number_of None ≡ number_in (table_of main supplementary w₁ t) (done (some e)) → place_of e (entries_of main supplementary w₁ t) ≡ none
  unfolding table_of map_option
  missing-place = go (place_of e (entries_of main supplementary w₁ t))
    where
      go : (o : Option ℕ) → none ≡ map_option (λ k. file_index (t.first + k)) o → o ≡ none
      go none x = refl
      go (some k) x = absurd (none-ne-some (file_index (t.first + k)) x)

-- ---- a new file

-- what it gives does not depend on what was laid before
pub adds-laid : {main supplementary w w₁ w₂ files files' : List ℕ} {t : StoredFiles} {e : FileEntry} {l : LaidHash} {at : ℕ} {r : Result AddedFile Refusal} → FilesIn main supplementary w t
    → at ≡ scratch_from t → LaidAt w w₁ at e l → Adds main supplementary w₁ w₂ files files' t e r → Adds main supplementary w w₂ files files' t e r
unfolding table_of
adds-laid {main} {supplementary} {w} {w₁} {w₂} {files} {files'} {t} {e} {l} {at} {r} F ea L A = record {
  is = A.is ∙ ap (λ (es : List FileEntry). add_file (record { first = t.first; entries = es }) e) old;
  after = go r A.after;
  rest = kept_trans (kept-wide t.base (extent t) L.rest (omega arith) (omega arith)) A.rest;
}
  where
    old : entries_of main supplementary w₁ t ≡ entries_of main supplementary w t
    old = entries-apart F L.rest (inl (omega arith))

    go : (r : Result AddedFile Refusal) → AddedAfter main supplementary w₁ w₂ files files' t r → AddedAfter main supplementary w w₂ files files' t r
    go (Ok a) G = record {
      new = G.new;
      entries = G.entries ∙ ap (λ (es : List FileEntry). es ++ G.new) old;
      holds = G.holds;
      put = G.put;
      base = G.base;
      room = G.room;
      first = G.first;
    }
    go (Err x) G = G

-- the numbers are used up
pub past-numbers : {n : ℕ} (r : Given ℕ) (e : Refusal) → SomeIff r (n < 2 ^ 32) n → Err e ≡ ok_or r Refusal.FilesFull → (e ≡ Refusal.FilesFull) × (4294967295 < n)
past-numbers None e h x = (search x, omega (arith, h))
past-numbers (Some n) e h x = absurd (none-some n (ap result_ok x))

pub full-adds : {main supplementary w files : List ℕ} {t : StoredFiles} {e : FileEntry} → place_of e (entries_of main supplementary w t) ≡ none → 4294967295 < t.first + t.count
    → Adds main supplementary w w files files t e (Err Refusal.FilesFull)
unfolding add_file append_file table_of
full-adds {main} {supplementary} {w} {files} {t} {e} new h = record {
  is = rw (new, entries-length main supplementary w t, le-ltb (t.first + t.count) (2 ^ 32) (omega arith));
  after = refl;
  rest = kept_refl w t.base (extent t);
}

-- a path is short enough for a field of the tray
pub path-short : (w b : List ℕ) (a n : ℕ) → n ≤ joined_limit → length b ≤ string_limit → 2 + length (take (a + n - a) (drop a w)) + length b < 65536
path-short w b a n h k = simp length-take (omega arith)

-- it is written behind the others, cut out of the sheet s
module _ {main supplementary w w' files files' : List ℕ} {t : StoredFiles} {source : DebugSource} {p : FilePieces} {l : LaidHash} where
  pub new-adds : (s : List ℕ) {r a : ℕ} {b : List ℕ} → a ≡ scratch_from t → b ≡ span_in s p.base → s ≡ source_in main supplementary source → FilesIn main supplementary w t → PiecesIn (source_in main supplementary source) p
      → Possible main supplementary (file_in (source_in main supplementary source) p) → LaidFile w t l.len l.hash (file_in (source_in main supplementary source) p)
      → place_of (file_in (source_in main supplementary source) p) (entries_of main supplementary w t) ≡ none → t.first + t.count ≤ 4294967295
      → Put t.written (encode 0x40 (file_payload (record {
        directory = take (a + l.len - a) (drop a w);
        basename = b;
      }))) files files' r
      → Linked w w' t source p l.hash → length w' ≡ length w
      → Adds main supplementary w w' files files' t (file_in (source_in main supplementary source) p) (Ok (record { table = grown_by t r; number = file_index (t.first + t.count) }))
  unfolding add_file append_file table_of files_bytes each_of file_in
  new-adds s {r} {a} {b} ea eb es F P M D new h W L same = record {
    is = sym (rw (new, entries-length main supplementary w t, lt-ltb (t.first + t.count) (2 ^ 32) (omega arith), ← grown));
    after = record {
      new = file_in (source_in main supplementary source) p ∷ [];
      entries = grown;
      holds = files-grown F refl P M new D.hashed L r (omega arith) (omega (arith, W.place)) same;
      put = put_as (append-nil (encode 0x40 (file_payload (file_in (source_in main supplementary source) p))) ∙ ap (λ (e : FileEntry). encode 0x40 (file_payload e)) (sym laid)) W;
      base = refl;
      room = refl;
      first = refl;
    };
    rest = record { same = λ q k. ⊎_elim (λ a. L.rest.same q k (inl (omega arith), (inl (omega arith), tt))) (λ a. L.rest.same q k (inr (omega (arith, left)), (inr (omega (arith, head)), tt))) };
  }
    where
      left : t.count + 1 < t.room
      left = room-left F (file_in (source_in main supplementary source) p) M new

      head : l.hash % t.room * 4 + 4 ≤ t.room * 4
      head = head-before t.room l.hash (omega (arith, left))

      grown : entries_of main supplementary w' (grown_by t r) ≡ entries_of main supplementary w t ++ (file_in (source_in main supplementary source) p ∷ [])
      grown = entries-grown F refl P M new D.hashed L r

      laid : ◌≡◌ {A = FileEntry} (record {
        directory = take (a + l.len - a) (drop a w);
        basename = b;
      }) (file_in (source_in main supplementary source) p)
      laid = (λ i. record { directory = (cut-span w a l.len ∙ ap (λ (k : ℕ). chunk w k l.len) ea ∙ D.directory) i; basename = eb i })
          ∙ (λ i. record { directory = (file_in (source_in main supplementary source) p).directory; basename = span_in (es i) p.base })
