-- The file table with one file more, and what adding a file gives.
use mathlib.Core.Path.{◌≡◌, refl, sym, ap, subst, ◌∙◌}
use mathlib.Core.Bool.{Bool, true, false, cond}
use mathlib.Core.Logic.{inl, inr, ⊎_elim}
use mathlib.Core.List.{List, [], ◌∷◌, ◌++◌}
use mathlib.Core.Option.{none, some}
use Prim.Native.Nat.{ℕ, ◌+◌, ◌*◌, ◌%◌, ◌^◌, ◌≤◌, ◌<◌}
use native.Mathlib.Nat.{mod-lt}
use native.Mathlib.Numerals.{add-one}
use native.Mathlib.Omega.{arith}
use lib.Dec.{eqb}
use lib.ListN.{length, get_or}
use borrow.Author.Tests.{eqb-true, eqb-false}
use Rattle.tlv.specs.Bytes.{le_at}
use Rattle.tlv.specs.declared.model.DebugSource.{DebugSource}
use Rattle.buffers.specs.Buffer.{top}
use Rattle.buffers.proofs.TableLaws.{le-or_lt, apart_of, inside, le_at-but}
use Rattle.buffers.proofs.RecordLaws.{records-at, records-length, records-suc, records-but}
use Rattle.lines.specs.Files.{place_of}
use Rattle.files.specs.declared.pieces.FilePieces.{FilePieces}
use Rattle.files.specs.declared.store.StoredFiles.{StoredFiles}
use Rattle.files.specs.Pieces.{source_in, file_in, PiecesIn}
use Rattle.files.specs.Hash.{hash_of}
use Rattle.files.specs.Possible.{Possible}
use Rattle.files.specs.Store.{pieces_of, source_of, stored_file, stored_hash, stored_link, records_from, record_in, entries_of, hashes_of, last_in, FilesIn, Linked}
use Rattle.files.proofs.StoreLaws.{head-before}
use Rattle.files.proofs.SameLaws.{place-more, place-last}
use Rattle.files.proofs.ChainLaws.{last-same}
use Rattle.files.proofs.RoomLaws.{room-left}

-- what holds of the first n and of the next
one_further : (P : ℕ → Type 0) (n : ℕ) → ((i : ℕ) → i < n → P i) → P n → (i : ℕ) → i < n + 1 → P i
one_further P n f p i h = ⊎_elim (λ l. let z : n ≡ i = omega arith in subst P z p) (λ l. f i l) (le-or_lt n i)

last-next : (m b : ℕ) (hs : List ℕ) (n : ℕ) → last_in m b hs (n + 1) ≡ cond (eqb (get_or hs n 0 % m) b) (n + 1) (last_in m b hs n)
unfolding last_in
last-next m b hs n = rw (add-one n)

abbrev pub grown_by : StoredFiles → ℕ → StoredFiles
grown_by t n = record { first = t.first; base = t.base; room = t.room; count = t.count + 1; written = n }

pub entries-length : (main supplementary w : List ℕ) (t : StoredFiles) → length (entries_of main supplementary w t) ≡ t.count
unfolding entries_of
entries-length main supplementary w t = records-length (stored_file main supplementary) 41 w (records_from t) t.count

-- ---- one file more

module _ {main supplementary w w' s : List ℕ} {t : StoredFiles} {source : DebugSource} {p : FilePieces} {hash : ℕ}
    (F : FilesIn main supplementary w t) (es : s ≡ source_in main supplementary source) (P : PiecesIn s p) (M : Possible main supplementary (file_in s p))
    (new : place_of (file_in s p) (entries_of main supplementary w t) ≡ none) (hashed : hash ≡ hash_of (file_in s p)) (L : Linked w w' t source p hash)
    (written : ℕ) where
  abbrev t' : StoredFiles
  t' = grown_by t written

  left : t.count + 1 < t.room
  left = room-left F (file_in s p) M new

  head-below : t.base + hash % t.room * 4 + 4 ≤ records_from t
  head-below = omega (arith, head-before t.room hash (omega (arith, left)))

  old : (i : ℕ) → i < t.count → record_in w' t i ≡ record_in w t i
  old i h = L.rest.same (records_from t + i * 41) 41 (inl (omega arith), (inr (omega (arith, head-below)), tt))

  file-is : stored_file main supplementary (record_in w' t t.count) ≡ file_in s p
  unfolding stored_file
  file-is = rw (L.pieces, L.source_is, ← es)

  pub entries-grown : entries_of main supplementary w' t' ≡ entries_of main supplementary w t ++ (file_in s p ∷ [])
  unfolding entries_of
  entries-grown =
      records-suc (stored_file main supplementary) 41 w' (records_from t) t.count
      ∙ (λ i. records-but (stored_file main supplementary) 41 (records_from t) t.count L.rest (inl (omega arith), (inr (omega (arith, head-below)), tt)) i ++ (file-is i ∷ []))

  hash_old : (i : ℕ) → i < t.count → get_or (hashes_of w' t') i 0 ≡ get_or (hashes_of w t) i 0
  unfolding hashes_of
  hash_old i h =
      records-at stored_hash 41 w' (records_from t) (t.count + 1) i 0 (omega arith) ∙ ap stored_hash (old i h)
      ∙ sym (records-at stored_hash 41 w (records_from t) t.count i 0 h)

  hash_new : get_or (hashes_of w' t') t.count 0 ≡ hash
  unfolding hashes_of
  hash_new = records-at stored_hash 41 w' (records_from t) (t.count + 1) t.count 0 (omega arith) ∙ L.hashed

  last-old : (b n : ℕ) → n ≤ t.count → last_in t.room b (hashes_of w' t') n ≡ last_in t.room b (hashes_of w t) n
  last-old b n h = last-same t.room b (hashes_of w' t') (hashes_of w t) n (λ i g. hash_old i (omega arith))

  heads-grown : (b : ℕ) → b < t.room → le_at 4 w' (t.base + b * 4) ≡ last_in t.room b (hashes_of w' t') (t.count + 1)
  heads-grown b h =
      go (eqb (hash % t.room) b) refl
      ∙ sym (last-next t.room b (hashes_of w' t') t.count
      ∙ (λ i. cond (eqb (hash_new i % t.room) b) (t.count + 1) (last-old b t.count (omega arith) i)))
    where
      go : (x : Bool) → eqb (hash % t.room) b ≡ x → le_at 4 w' (t.base + b * 4) ≡ cond x (t.count + 1) (last_in t.room b (hashes_of w t) t.count)
      go true e = rw (← eqb-true (hash % t.room) b e) L.head
      go false e =
          le_at-but 4 (t.base + b * 4) L.rest
          (inl (omega (arith, inside b t.room 4 h)), (apart_of t.base b (hash % t.room) 4 (λ q. eqb-false (hash % t.room) b e (sym q)), tt))
          ∙ F.heads b h

  pub files-grown : t.first + t.count < 2 ^ 32 → written ≤ top → length w' ≡ length w → FilesIn main supplementary w' t'
  files-grown numbered fits l = record {
    pieces = one_further (λ i. PiecesIn (source_in main supplementary (source_of (record_in w' t i))) (pieces_of (record_in w' t i))) t.count
        (λ i h. rw (old i h) (F.pieces i h)) (rw (L.pieces, L.source_is, ← es) P);
    hashed = one_further (λ i. stored_hash (record_in w' t i) ≡ hash_of (stored_file main supplementary (record_in w' t i))) t.count
        (λ i h. rw (old i h) (F.hashed i h)) (L.hashed ∙ hashed ∙ ap hash_of (sym file-is));
    linked = one_further (λ i. stored_link (record_in w' t i) ≡ last_in t.room (stored_hash (record_in w' t i) % t.room) (hashes_of w' t') i) t.count
        (λ i h. rw (old i h, last-old (stored_hash (record_in w t i) % t.room) i (omega arith)) (F.linked i h))
        (rw (L.hashed, last-old (hash % t.room) t.count (omega arith)) (L.linked ∙ F.heads (hash % t.room) (mod-lt hash (omega (arith, left)))));
    heads = heads-grown;
    distinct = one_further (λ i. place_of (stored_file main supplementary (record_in w' t i)) (entries_of main supplementary w' t') ≡ some i) t.count
        (λ i h. rw (old i h, entries-grown) (place-more (stored_file main supplementary (record_in w t i)) (entries_of main supplementary w t) (file_in s p ∷ []) i (F.distinct i h)))
        (rw (file-is, entries-grown) (place-last (file_in s p) (entries_of main supplementary w t) new ∙ ap some (entries-length main supplementary w t)));
    possible = one_further (λ i. Possible main supplementary (stored_file main supplementary (record_in w' t i))) t.count
        (λ i h. rw (old i h) (F.possible i h)) (rw file-is M);
    few = F.few;
    small = F.small;
    within = omega (arith, F.within);
    numbered = omega arith;
    main-small = F.main-small;
    supplementary-small = F.supplementary-small;
    written = fits;
  }
