-- The file table stays where other bytes are written, and is empty where its heads are 0.
use mathlib.Core.Path.{◌≡◌, refl, ◌∙◌}
use mathlib.Core.Logic.{inl, inr, ⊎_elim}
use mathlib.Core.List.{List, [], ◌∷◌}
use Prim.Native.Nat.{ℕ, ◌+◌, ◌*◌, ◌^◌, ◌≤◌, ◌<◌}
use native.Mathlib.Omega.{arith}
use lib.ListN.{length}
use Rattle.tlv.specs.Bytes.{le_at}
use Rattle.tlv.specs.Limits.{joined_limit}
use Rattle.buffers.specs.Buffer.{top}
use Rattle.buffers.specs.Table.{Apart, Kept, Clear, KeptBut, Zeroed}
use Rattle.buffers.proofs.TableLaws.{inside, but_one, le_at-but, kept-wide}
use Rattle.buffers.proofs.RecordLaws.{records-but, records-nil}
use Rattle.buffers.proofs.ZeroLaws.{zeroed-chunk, le_at-zeros}
use Rattle.files.specs.declared.store.StoredFiles.{StoredFiles}
use Rattle.files.specs.Possible.{possible_files}
use Rattle.files.specs.Store.{stored_file, stored_hash, records_from, record_in, entries_of, hashes_of, last_in, FilesIn, Empty}
use Rattle.files.proofs.RoomLaws.{count_room}

-- a part of what is clear of some stretches is
pub clear-part : (b n q k : ℕ) (rs : List (ℕ × ℕ)) → Clear b n rs → b ≤ q → q + k ≤ b + n → Clear q k rs
clear-part b n q k [] c h g = tt
clear-part b n q k (r ∷ rs) c h g = (⊎_elim (λ a. inl (omega arith)) (λ a. inr (omega arith)) c.0, clear-part b n q k rs c.1 h g)

-- ---- other bytes are written

module _ {main supplementary w w' : List ℕ} {t : StoredFiles} {rs : List (ℕ × ℕ)} (F : FilesIn main supplementary w t) (K : KeptBut w w' rs) (c : Clear t.base (t.room * 45) rs) where
  record_same : (i : ℕ) → i < t.count → record_in w' t i ≡ record_in w t i
  record_same i h = K.same (records_from t + i * 41) 41 (clear-part t.base (t.room * 45) (records_from t + i * 41) 41 rs c (omega arith) (omega (arith, count_room F)))

  hashes_same : hashes_of w' t ≡ hashes_of w t
  unfolding hashes_of
  hashes_same = records-but stored_hash 41 (records_from t) t.count K (clear-part t.base (t.room * 45) (records_from t) (t.count * 41) rs c (omega arith) (omega (arith, count_room F)))

  pub entries-but : entries_of main supplementary w' t ≡ entries_of main supplementary w t
  unfolding entries_of
  entries-but = records-but (stored_file main supplementary) 41 (records_from t) t.count K (clear-part t.base (t.room * 45) (records_from t) (t.count * 41) rs c (omega arith) (omega (arith, count_room F)))

  pub files-but : length w ≤ length w' → FilesIn main supplementary w' t
  files-but l = record {
    pieces = λ i h. rw (record_same i h) (F.pieces i h);
    hashed = λ i h. rw (record_same i h) (F.hashed i h);
    linked = λ i h. rw (record_same i h, hashes_same) (F.linked i h);
    heads = λ b h. le_at-but 4 (t.base + b * 4) K (clear-part t.base (t.room * 45) (t.base + b * 4) 4 rs c (omega arith) (omega arith)) ∙ rw hashes_same (F.heads b h);
    distinct = λ i h. rw (record_same i h, entries-but) (F.distinct i h);
    possible = λ i h. rw (record_same i h) (F.possible i h);
    few = F.few;
    small = F.small;
    within = omega (arith, F.within);
    numbered = F.numbered;
    main-small = F.main-small;
    supplementary-small = F.supplementary-small;
    written = F.written;
  }

module _ {main supplementary w w' : List ℕ} {t : StoredFiles} {p m : ℕ} (F : FilesIn main supplementary w t) (K : Kept w w' p m) (a : Apart t.base (t.room * 45) p m) where
  pub entries-apart : entries_of main supplementary w' t ≡ entries_of main supplementary w t
  entries-apart = entries-but F (but_one K) (a, tt)

  pub files-apart : length w ≤ length w' → FilesIn main supplementary w' t
  files-apart = files-but F (but_one K) (a, tt)

-- ---- an empty table

abbrev empty_at : ℕ → ℕ → ℕ → ℕ → StoredFiles
empty_at base room first written = record { first = first; base = base; room = room; count = 0; written = written }

no-head : {w w' : List ℕ} {base room : ℕ} (first written : ℕ) → Zeroed w w' base (base + room * 4) → (b : ℕ) → b < room → le_at 4 w' (base + b * 4) ≡ last_in room b (hashes_of w' (empty_at base room first written)) 0
unfolding last_in
no-head {w} {w'} {base} {room} first written Z b h = le_at-zeros 4 w' (base + b * 4) (zeroed-chunk (base + b * 4) 4 Z (omega arith) (omega (arith, inside b room 4 h)))

no-entries : (main supplementary w : List ℕ) (base room first written : ℕ) → entries_of main supplementary w (empty_at base room first written) ≡ []
unfolding entries_of
no-entries main supplementary w base room first written = records-nil (stored_file main supplementary) 41 w (base + room * 4)

pub empty-files : (main supplementary : List ℕ) {w w' : List ℕ} {base room : ℕ} (first written : ℕ) → Zeroed w w' base (base + room * 4)
    → length (possible_files main supplementary) < room → room < 2 ^ 32 → base + (room * 45 + joined_limit) ≤ length w → length main < 2 ^ 32 → length supplementary < 2 ^ 32
    → first < 2 ^ 32 → written ≤ top → length w' ≡ length w → Empty main supplementary w w' base room first written (record { first = first; base = base; room = room; count = 0; written = written })
empty-files main supplementary {w} {w'} {base} {room} first written Z few small within main-small supplementary-small numbered fits l = record {
  holds = record {
    pieces = λ i h. absurd (omega arith);
    hashed = λ i h. absurd (omega arith);
    linked = λ i h. absurd (omega arith);
    heads = no-head first written Z;
    distinct = λ i h. absurd (omega arith);
    possible = λ i h. absurd (omega arith);
    few = few;
    small = small;
    within = omega arith;
    numbered = omega arith;
    main-small = main-small;
    supplementary-small = supplementary-small;
    written = fits;
  };
  entries = no-entries main supplementary w' base room first written;
  base-is = refl;
  room-is = refl;
  first-is = refl;
  written_is = refl;
  rest = kept-wide base (room * 45 + joined_limit) Z.rest (omega arith) (omega arith);
}
