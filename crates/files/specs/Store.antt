-- Contract. The file table in a list of bytes (document 01: the work slice): its records, and the chains of a hash table.
use Rattle.std.specs.Prelude.{Option, Some, None, Result, Ok, Err}
use Rattle.std.specs.Prelude.{ℕ, zero, suc, ◌+◌, ◌*◌, ◌%◌, ◌≤◌, ◌<◌, ◌^◌, ◌≡◌, cond, List, [], ◌∷◌, ◌++◌, eqb, length, get_or}
use Rattle.std.proofs.Math.Option.{none, some}
use Rattle.std.proofs.Math.Option as math
use Rattle.tlv.specs.declared.refusal.Refusal.{Refusal}
use Rattle.tlv.specs.Refusals as refusals
use Rattle.tlv.specs.Outcome.{Outcome, refused, done}
use Rattle.tlv.specs.Bytes.{le_at}
use Rattle.tlv.specs.Limits.{joined_limit}
use Rattle.tlv.specs.Sources.{source_of_byte}
use Rattle.tlv.specs.declared.model.DebugSource.{DebugSource}
use Rattle.buffers.specs.Buffer.{top, Put}
use Rattle.buffers.specs.Table.{chunk, records, Kept, KeptBut}
use Rattle.buffers.specs.Output.{FileEntry, files_bytes}
use Rattle.lines.specs.Files.{FileTable, place_of, Added, add_file}
use Rattle.files.specs.declared.pieces.FilePieces.{FilePieces}
use Rattle.files.specs.declared.store.StoredFiles.{StoredFiles}
use Rattle.files.specs.declared.store.AddedFile.{AddedFile}
use Rattle.files.specs.declared.store.LaidHash.{LaidHash}
use Rattle.files.specs.Pieces.{source_in, span_of, file_in, PiecesIn}
use Rattle.files.specs.Hash.{hash_of}
use Rattle.files.specs.Possible.{possible_files, Possible}

-- ---- a record: four spans of 8, the source 1, the hash 4, the link 4

unfoldable pub pieces_of : List ℕ → FilePieces
pieces_of b = record {
  compilation = span_of (chunk b 0 8);
  directory = span_of (chunk b 8 8);
  own = span_of (chunk b 16 8);
  base = span_of (chunk b 24 8);
}

unfoldable pub source_of : List ℕ → DebugSource
source_of b = source_of_byte (le_at 1 b 32)

unfoldable pub stored_file : List ℕ → List ℕ → List ℕ → FileEntry
stored_file main supplementary b = file_in (source_in main supplementary (source_of b)) (pieces_of b)

unfoldable pub stored_hash : List ℕ → ℕ
stored_hash b = le_at 4 b 33

-- one more than the place of the file before it in its chain; 0: it is the last
unfoldable pub stored_link : List ℕ → ℕ
stored_link b = le_at 4 b 37

abbrev pub byte_of : DebugSource → ℕ
byte_of DebugSource.Main = 0
byte_of DebugSource.Supplementary = 1

-- bytes of a bucket's head, of a file's record, and of both
abbrev pub file_head : ℕ
file_head = 4

abbrev pub file_body : ℕ
file_body = 41

abbrev pub file_record : ℕ
file_record = file_head + file_body

-- a record stands at p: its pieces are strings of its sheet, and its hash is its file's
pub record StoredAt (main supplementary w : List ℕ) (p : ℕ) : Type 0 where
  pub within : p + file_body ≤ length w
  pub pieces : PiecesIn (source_in main supplementary (source_of (chunk w p file_body))) (pieces_of (chunk w p file_body))
  pub hashed : stored_hash (chunk w p file_body) ≡ hash_of (stored_file main supplementary (chunk w p file_body))

-- ---- the table: a head for each bucket, as many records, and room to join a path

abbrev pub records_from : StoredFiles → ℕ
records_from t = t.base + t.room * file_head

abbrev pub scratch_from : StoredFiles → ℕ
scratch_from t = t.base + t.room * file_record

-- how many bytes the table takes from its base on
abbrev pub extent : StoredFiles → ℕ
extent t = t.room * file_record + joined_limit

abbrev pub record_in : List ℕ → StoredFiles → ℕ → List ℕ
record_in w t i = chunk w (records_from t + i * file_body) file_body

unfoldable pub entries_of : List ℕ → List ℕ → List ℕ → StoredFiles → List FileEntry
entries_of main supplementary w t = records (stored_file main supplementary) file_body w (records_from t) t.count

unfoldable pub hashes_of : List ℕ → StoredFiles → List ℕ
hashes_of w t = records stored_hash file_body w (records_from t) t.count

-- one more than the last of the first n places whose hash falls into bucket b of m; 0 for none
unfoldable pub last_in : ℕ → ℕ → List ℕ → ℕ → ℕ
last_in m b hs zero = 0
last_in m b hs (suc n) = cond (eqb (get_or hs n 0 % m) b) (suc n) (last_in m b hs n)

-- the table that stands in w
unfoldable pub table_of : List ℕ → List ℕ → List ℕ → StoredFiles → FileTable
table_of main supplementary w t = record { first = t.first; entries = entries_of main supplementary w t }

-- the files are different and possible ones, their hashes are theirs, and each chain has all files of its bucket, the newest first
-- Stays a clause: it speaks of the work slice, which each write changes.
pub record FilesIn (main supplementary w : List ℕ) (t : StoredFiles) : Type 0 where
  pub pieces : (i : ℕ) → i < t.count → PiecesIn (source_in main supplementary (source_of (record_in w t i))) (pieces_of (record_in w t i))
  pub hashed : (i : ℕ) → i < t.count → stored_hash (record_in w t i) ≡ hash_of (stored_file main supplementary (record_in w t i))
  pub linked : (i : ℕ) → i < t.count → stored_link (record_in w t i) ≡ last_in t.room (stored_hash (record_in w t i) % t.room) (hashes_of w t) i
  pub heads : (b : ℕ) → b < t.room → le_at 4 w (t.base + b * 4) ≡ last_in t.room b (hashes_of w t) t.count
  pub distinct : (i : ℕ) → i < t.count → place_of (stored_file main supplementary (record_in w t i)) (entries_of main supplementary w t) ≡ some i
  pub possible : (i : ℕ) → i < t.count → Possible main supplementary (stored_file main supplementary (record_in w t i))
  pub few : length (possible_files main supplementary) < t.room
  pub small : t.room < 2 ^ 32
  pub within : t.base + extent t ≤ length w
  pub numbered : t.first + t.count ≤ 2 ^ 32
  pub main-small : length main < 2 ^ 32
  pub supplementary-small : length supplementary < 2 ^ 32
  pub written : t.written ≤ top

-- the directory of a file stands in the room to join one, and its hash is this
pub record LaidFile (w : List ℕ) (t : StoredFiles) (n hash : ℕ) (e : FileEntry) : Type 0 where
  pub directory : chunk w (scratch_from t) n ≡ e.directory
  pub short : n ≤ joined_limit
  pub hashed : hash ≡ hash_of e

-- ---- what is promised

-- the pieces of a record were written
pub record PutPieces (w w' : List ℕ) (at : ℕ) (p : FilePieces) : Type 0 where
  pub pieces : pieces_of (chunk w' at 32) ≡ p
  pub rest : Kept w w' at 32

-- a record was written
pub record PutFile (w w' : List ℕ) (at : ℕ) (source : DebugSource) (p : FilePieces) (hash link : ℕ) : Type 0 where
  pub pieces : pieces_of (chunk w' at file_body) ≡ p
  pub source_is : source_of (chunk w' at file_body) ≡ source
  pub hashed : stored_hash (chunk w' at file_body) ≡ hash
  pub linked : stored_link (chunk w' at file_body) ≡ link
  pub rest : Kept w w' at file_body

-- where the head of a hash's chain stands
abbrev pub head_from : StoredFiles → ℕ → ℕ
head_from t hash = t.base + hash % t.room * 4

-- a record was written behind the others, and its bucket's head leads to it
pub record Linked (w w' : List ℕ) (t : StoredFiles) (source : DebugSource) (p : FilePieces) (hash : ℕ) : Type 0 where
  pub pieces : pieces_of (record_in w' t t.count) ≡ p
  pub source_is : source_of (record_in w' t t.count) ≡ source
  pub hashed : stored_hash (record_in w' t t.count) ≡ hash
  pub linked : stored_link (record_in w' t t.count) ≡ le_at 4 w (head_from t hash)
  pub head : le_at 4 w' (head_from t hash) ≡ t.count + 1
  pub rest : KeptBut w w' ((records_from t + t.count * file_body, file_body) ∷ (head_from t hash, file_head) ∷ [])

-- a file's directory was laid, and its hash is this
pub record LaidAt (w w' : List ℕ) (at : ℕ) (e : FileEntry) (r : LaidHash) : Type 0 where
  pub directory : chunk w' at r.len ≡ e.directory
  pub short : r.len ≤ joined_limit
  pub hashed : r.hash ≡ hash_of e
  pub rest : Kept w w' at joined_limit

-- the table t of w has become the table t' of w': with `new` files at its end, which were written to the files tray
pub record Grown (main supplementary w w' files files' : List ℕ) (t t' : StoredFiles) : Type 0 where
  pub new : List FileEntry
  pub entries : entries_of main supplementary w' t' ≡ entries_of main supplementary w t ++ new
  pub holds : FilesIn main supplementary w' t'
  pub put : Put t.written (files_bytes new) files files' t'.written
  pub base : t'.base ≡ t.base
  pub room : t'.room ≡ t.room
  pub first : t'.first ≡ t.first

abbrev pub found_of : Option ℕ → math.Option ℕ
found_of (Some n) = some n
found_of None = none

abbrev pub added_of : List ℕ → List ℕ → List ℕ → Result AddedFile Refusal → Outcome Added
added_of main supplementary w (Ok a) = done (record { table = table_of main supplementary w a.table; number = a.number })
added_of main supplementary w (Err e) = refused (refusals.number_of e)

-- the table has grown; where the numbers are used up, nothing was written to the files tray
abbrev pub AddedAfter : List ℕ → List ℕ → List ℕ → List ℕ → List ℕ → List ℕ → StoredFiles → Result AddedFile Refusal → Type 0
AddedAfter main supplementary w w' files files' t (Ok a) = Grown main supplementary w w' files files' t a.table
AddedAfter main supplementary w w' files files' t (Err e) = files' ≡ files

pub record Adds (main supplementary w w' files files' : List ℕ) (t : StoredFiles) (e : FileEntry) (r : Result AddedFile Refusal) : Type 0 where
  pub is : added_of main supplementary w' r ≡ add_file (table_of main supplementary w t) e
  pub after : AddedAfter main supplementary w w' files files' t r
  pub rest : Kept w w' t.base (extent t)

-- an empty table
pub record Empty (main supplementary w w' : List ℕ) (base room first written : ℕ) (r : StoredFiles) : Type 0 where
  pub holds : FilesIn main supplementary w' r
  pub entries : entries_of main supplementary w' r ≡ []
  pub base-is : r.base ≡ base
  pub room-is : r.room ≡ room
  pub first-is : r.first ≡ first
  pub written_is : r.written ≡ written
  pub rest : Kept w w' base (extent r)
