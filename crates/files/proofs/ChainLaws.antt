-- The chains of the file table: the last place of a bucket, and a search along a chain.
use mathlib.Core.Path.{◌≡◌, refl, sym, ap, ◌∙◌}
use mathlib.Core.Bool.{Bool, true, false, cond}
use mathlib.Core.Logic.{⊎_elim}
use mathlib.Core.List.{List}
use Prim.Native.Nat.{ℕ, zero, suc, ◌+◌, ◌-◌, ◌*◌, ◌%◌, ◌≤◌, ◌<◌}
use native.Mathlib.Nat.{mod-lt}
use native.Mathlib.Omega.{arith}
use lib.Dec.{eqb}
use lib.ListN.{get_or}
use borrow.Author.Tests.{eqb-true, eqb-false}
use Rattle.tlv.specs.Bytes.{le_at}
use Rattle.buffers.specs.Table.{records}
use Rattle.buffers.specs.Output.{FileEntry}
use Rattle.buffers.proofs.TableLaws.{le-or_lt}
use Rattle.buffers.proofs.RecordLaws.{records-at, records-length}
use Rattle.lines.specs.Files.{same_file, place_of}
use Rattle.files.specs.declared.store.StoredFiles.{StoredFiles}
use Rattle.std.specs.Prelude.{Some, None}
use Rattle.files.specs.Hash.{hash_of}
use Rattle.files.specs.Store.{stored_file, stored_hash, records_from, record_in, StoredAt, entries_of, hashes_of, last_in, head_from, FilesIn, found_of}
use Rattle.files.proofs.StoreLaws.{link_at}
use Rattle.files.proofs.RoomLaws.{count_room}
use Rattle.files.proofs.SameLaws.{same-file, no_file, place_none}

-- ---- the last place of a bucket

-- k is one more than it
pub record Last (m b : ℕ) (hs : List ℕ) (n k : ℕ) : Type 0 where
  pub within : k ≤ n
  pub above : (i : ℕ) → k ≤ i → i < n → get_or hs i 0 % m ≡ b → ⊥
  pub here : (j : ℕ) → k ≡ suc j → get_or hs j 0 % m ≡ b

pub last-is : (m b : ℕ) (hs : List ℕ) (n : ℕ) → Last m b hs n (last_in m b hs n)
unfolding last_in
last-is m b hs zero = record { within = omega arith; above = λ i h g q. omega arith; here = λ j q. absurd (omega arith) }
last-is m b hs (suc n) = go (eqb (get_or hs n 0 % m) b) refl (last-is m b hs n)
  where
    go : (t : Bool) → eqb (get_or hs n 0 % m) b ≡ t → Last m b hs n (last_in m b hs n) → Last m b hs (suc n) (cond t (suc n) (last_in m b hs n))
    go true e L = record {
      within = omega arith;
      above = λ i h g q. omega arith;
      here = λ j q. let z : n ≡ j = omega arith in rw z at (eqb-true (get_or hs n 0 % m) b e);
    }
    go false e L = record {
      within = omega (arith, L.within);
      above = λ i h g q. ⊎_elim (λ l. eqb-false (get_or hs n 0 % m) b e (let z : n ≡ i = omega arith in rw z q)) (λ l. L.above i h l q) (le-or_lt n i);
      here = L.here;
    }

-- it depends on the first n hashes alone
pub last-same : (m b : ℕ) (hs hs' : List ℕ) (n : ℕ) → ((i : ℕ) → i < n → get_or hs i 0 ≡ get_or hs' i 0) → last_in m b hs n ≡ last_in m b hs' n
unfolding last_in
last-same m b hs hs' zero e = refl
last-same m b hs hs' (suc n) e = rw (e n (omega arith), last-same m b hs hs' n (λ i h. e i (omega arith)))

-- ---- a search

-- the file stands at no place from k on, and place k - 1 is of its bucket
pub record Searching (main supplementary w : List ℕ) (t : StoredFiles) (e : FileEntry) (k : ℕ) : Type 0 where
  pub within : k ≤ t.count
  pub missed : (i : ℕ) → k ≤ i → i < t.count → same_file e (stored_file main supplementary (record_in w t i)) ≡ false
  pub bucket : (j : ℕ) → k ≡ suc j → stored_hash (record_in w t j) % t.room ≡ hash_of e % t.room

module _ {main supplementary w : List ℕ} {t : StoredFiles} (F : FilesIn main supplementary w t) (e : FileEntry) where
  hash_of-is : (i : ℕ) → i < t.count → get_or (hashes_of w t) i 0 ≡ stored_hash (record_in w t i)
  unfolding hashes_of
  hash_of-is i h = records-at stored_hash 41 w (records_from t) t.count i 0 h

  -- another bucket, another file
  other-bucket : (i : ℕ) → i < t.count → (stored_hash (record_in w t i) % t.room ≡ hash_of e % t.room → ⊥) → same_file e (stored_file main supplementary (record_in w t i)) ≡ false
  other-bucket i h ne = go (same_file e (stored_file main supplementary (record_in w t i))) refl
    where
      go : (b : Bool) → same_file e (stored_file main supplementary (record_in w t i)) ≡ b → b ≡ false
      go true q = absurd (ne (ap (λ (x : ℕ). x % t.room) (F.hashed i h ∙ ap hash_of (sym (same-file e _ q)))))
      go false q = refl

  from_last : {n k : ℕ} → n ≤ t.count → k ≡ last_in t.room (hash_of e % t.room) (hashes_of w t) n
      → ((i : ℕ) → n ≤ i → i < t.count → same_file e (stored_file main supplementary (record_in w t i)) ≡ false) → Searching main supplementary w t e k
  from_last {n} {k} h q missed =
      let L : Last t.room (hash_of e % t.room) (hashes_of w t) n k = rw q (last-is t.room (hash_of e % t.room) (hashes_of w t) n) in
      record {
        within = omega (arith, L.within);
        missed = λ i g l. ⊎_elim (λ a. missed i a l) (λ a. other-bucket i l (λ z. L.above i g a (ap (λ (x : ℕ). x % t.room) (hash_of-is i l) ∙ z))) (le-or_lt n i);
        bucket = λ j z. ap (λ (x : ℕ). x % t.room) (sym (hash_of-is j (omega (arith, L.within)))) ∙ L.here j z;
      }

  pub searching-start : {hash k : ℕ} → hash ≡ hash_of e → k ≡ le_at 4 w (head_from t hash) → Searching main supplementary w t e k
  searching-start {hash} {k} q r =
      from_last {n = t.count} (omega arith) (r ∙ F.heads (hash % t.room) (mod-lt hash (omega (arith, F.few))) ∙ ap (λ (x : ℕ). last_in t.room (x % t.room) (hashes_of w t) t.count) q) (λ i h g. absurd (omega arith))

  module _ {k : ℕ} (S : Searching main supplementary w t e k) (ne : k ≡ 0 → ⊥) where
    pub record_at : StoredAt main supplementary w (t.base + t.room * 4 + (k - 1) * 41)
    record_at =
        let l : k - 1 < t.count = omega (arith, S.within) in
        record { within = omega (arith, count_room F, F.within); pieces = F.pieces (k - 1) l; hashed = F.hashed (k - 1) l }

    pub searching_step : {b : Bool} {k' : ℕ} → b ≡ same_file e (stored_file main supplementary (record_in w t (k - 1))) → b ≡ false → k' ≡ le_at 4 w (t.base + t.room * 4 + (k - 1) * 41 + 37)
        → Searching main supplementary w t e k'
    searching_step {b} {k'} q z r =
        let j : k ≡ suc (k - 1) = omega arith in
        let l : k - 1 < t.count = omega (arith, S.within) in
        from_last {n = k - 1} (omega (arith, S.within))
        (r ∙ sym (link_at w (records_from t + (k - 1) * 41)) ∙ F.linked (k - 1) l ∙ ap (λ (x : ℕ). last_in t.room x (hashes_of w t) (k - 1)) (S.bucket (k - 1) j))
        (λ i h g. ⊎_elim (λ a. S.missed i a g) (λ a. let i-is : k - 1 ≡ i = omega arith in rw i-is at (sym q ∙ z)) (le-or_lt k i))

    -- the link leads to a lower place
    pub searching_less : {k' : ℕ} → k' ≡ le_at 4 w (t.base + t.room * 4 + (k - 1) * 41 + 37) → k' < k
    searching_less {k'} r =
        let l : k - 1 < t.count = omega (arith, S.within) in
        let L = last-is t.room (stored_hash (record_in w t (k - 1)) % t.room) (hashes_of w t) (k - 1) in
        omega (arith, L.within, r ∙ sym (link_at w (records_from t + (k - 1) * 41)) ∙ F.linked (k - 1) l)

    pub searching-found : {b : Bool} → b ≡ same_file e (stored_file main supplementary (record_in w t (k - 1))) → b ≡ true
        → found_of (Some (k - 1)) ≡ place_of e (entries_of main supplementary w t)
    searching-found q z =
        let same = same-file e (stored_file main supplementary (record_in w t (k - 1))) (sym q ∙ z) in
        sym (ap (λ (x : FileEntry). place_of x (entries_of main supplementary w t)) same ∙ F.distinct (k - 1) (omega (arith, S.within)))

  pub searching_none : {k : ℕ} → Searching main supplementary w t e k → k ≡ 0 → found_of None ≡ place_of e (entries_of main supplementary w t)
  unfolding entries_of
  searching_none S z =
      sym (place_none e (records (stored_file main supplementary) 41 w (records_from t) t.count)
      (λ i h. let l : i < t.count = omega (arith, h, records-length (stored_file main supplementary) 41 w (records_from t) t.count) in
      ap (same_file e) (records-at (stored_file main supplementary) 41 w (records_from t) t.count i no_file l) ∙ S.missed i (omega arith) l))
