-- Contract. The targets that a search has followed, in the work slice, and those that it can follow at all.
use Rattle.std.specs.Prelude.{ℕ, zero, suc, ◌+◌, ◌*◌, ◌/◌, ◌%◌, ◌≤◌, ◌<◌, ◌≡◌, Bool, cond, true, false, List, [], ◌∷◌, ◌++◌, eqb, ltb, length}
use Rattle.tlv.specs.declared.model.DebugSource.{DebugSource}
use Rattle.tlv.specs.Lists.{Any, All, exists}
use Rattle.tlv.specs.Bytes.{le_at}
use Rattle.tlv.specs.Model.{CompilationUnit, Entry, Attribute, units}
use Rattle.buffers.specs.Table.{chunk, Kept}
use Rattle.references.specs.declared.tables.Tables.{Tables}
use Rattle.references.specs.Search.{DieKey, same_key, main_source, supplementary_source}

-- the first 9 bytes of a record: the source 1, the offset 8
unfoldable pub key_of : List ℕ → DieKey
key_of b = record { source = cond (eqb (le_at 1 b 0) 0) main_source supplementary_source; offset = le_at 8 b 1 }

-- bytes of a record, the key 9, a link 4; and of the head of a chain
abbrev pub key_record : ℕ
key_record = 13

abbrev pub chain_head : ℕ
chain_head = 4

-- the n keys at base, the newest first
unfoldable pub keys_at : List ℕ → ℕ → ℕ → List DieKey
keys_at w base zero = []
keys_at w base (suc n) = key_of (chunk w (base + n * key_record) 9) ∷ keys_at w base n

abbrev pub key_in : DebugSource → ℕ → DieKey
key_in DebugSource.Main o = record { source = main_source; offset = o }
key_in DebugSource.Supplementary o = record { source = supplementary_source; offset = o }

-- ---- the chains of a hash table over the keys: the heads stand first, 4 bytes each, and the records behind them

abbrev pub chain_count : Tables → ℕ
chain_count x = x.main.entries.count + x.supplementary.entries.count + 1

-- where the records stand
abbrev pub keys_from : Tables → ℕ
keys_from x = x.keys + chain_count x * chain_head

-- the chain of an offset, of m
unfoldable pub chain_of : ℕ → ℕ → ℕ
chain_of m offset = offset % 4294967296 * 2654435761 / 65536 % m

-- n keys are in chains: they are too many to look at each, and not more than a link can number
unfoldable pub many : ℕ → Bool
many n = cond (ltb 64 n) (ltb n 4294967296) false

-- one more than the number of the newest key of a chain; 0 for none
unfoldable pub head_of : ℕ → ℕ → List DieKey → ℕ
head_of m c [] = 0
head_of m c (k ∷ ks) = cond (eqb (chain_of m k.offset) c) (suc (length ks)) (head_of m c ks)

-- the offset of key i
abbrev pub offset_at : List ℕ → Tables → ℕ → ℕ
offset_at w x i = (key_of (chunk w (keys_from x + i * key_record) 9)).offset

-- each chain has all keys of its own among the n, the newest first
pub record Chained (w : List ℕ) (x : Tables) (n : ℕ) : Type 0 where
  pub heads : (c : ℕ) → c < chain_count x → le_at 4 w (x.keys + c * chain_head) ≡ head_of (chain_count x) c (keys_at w (keys_from x) n)
  pub links : (i : ℕ) → i < n → le_at 4 w (keys_from x + i * key_record + 9)
      ≡ head_of (chain_count x) (chain_of (chain_count x) (offset_at w x i)) (keys_at w (keys_from x) i)

-- n keys stand in w, with room for m more
pub record TrailIn (w : List ℕ) (x : Tables) (n m : ℕ) : Type 0 where
  pub room : keys_from x + n * key_record + m * key_record ≤ length w
  pub chained : many n ≡ true → Chained w x n

-- the first n keys are in chains now
pub record Chains (w w' : List ℕ) (x : Tables) (n : ℕ) : Type 0 where
  pub chained : Chained w' x n
  pub keys : (i : ℕ) → keys_at w' (keys_from x) i ≡ keys_at w (keys_from x) i
  pub rest : Kept w w' x.keys (chain_count x * chain_head + n * key_record)

-- a key was written behind n others
pub record Pushed (w w' : List ℕ) (x : Tables) (n : ℕ) (k : DieKey) : Type 0 where
  pub keys : keys_at w' (keys_from x) (n + 1) ≡ k ∷ keys_at w (keys_from x) n
  pub chained : many (n + 1) ≡ true → Chained w' x (n + 1)
  pub rest : Kept w w' x.keys (chain_count x * chain_head + (n + 1) * key_record)

-- ---- how many can there be: each comes from a reference attribute of an entry

-- the keys that an attribute of an entry of the main sheet can be remembered under
unfoldable pub main_keys : CompilationUnit → List Attribute → List DieKey
main_keys u [] = []
main_keys u (a ∷ later) =
    cond (eqb a.kind 4) (key_in DebugSource.Main (u.offset + a.value) ∷ main_keys u later)
    (cond (eqb a.kind 5) (key_in DebugSource.Main a.value ∷ main_keys u later)
    (cond (eqb a.kind 6) (key_in DebugSource.Supplementary a.value ∷ main_keys u later)
    (main_keys u later)))

-- of the supplementary sheet, where a unit's entries may be remembered under either source
unfoldable pub supplementary_keys : CompilationUnit → List Attribute → List DieKey
supplementary_keys u [] = []
supplementary_keys u (a ∷ later) =
    cond (eqb a.kind 4) (key_in DebugSource.Main (u.offset + a.value) ∷ key_in DebugSource.Supplementary (u.offset + a.value) ∷
    supplementary_keys u later)
    (cond (eqb a.kind 5) (key_in DebugSource.Main a.value ∷ supplementary_keys u later)
    (supplementary_keys u later))

unfoldable pub entry_keys : (CompilationUnit → List Attribute → List DieKey) → CompilationUnit → List Entry → List DieKey
entry_keys f u [] = []
entry_keys f u (e ∷ es) = f u e.attributes ++ entry_keys f u es

unfoldable pub unit_keys : (CompilationUnit → List Attribute → List DieKey) → List CompilationUnit → List DieKey
unit_keys f [] = []
unit_keys f (u ∷ us) = entry_keys f u u.entries ++ unit_keys f us

unfoldable pub possible_keys : List ℕ → List ℕ → List DieKey
possible_keys main supplementary = unit_keys main_keys (units main) ++ unit_keys supplementary_keys (units supplementary)

-- a key that a search can come by
pub record PossibleKey (main supplementary : List ℕ) (k : DieKey) : Type 0 where
  pub listed : Any (λ x. k ≡ x) (possible_keys main supplementary)

-- no key stands twice
abbrev pub Distinct : List DieKey → Type 0
Distinct [] = Unit {0}
Distinct (k ∷ ks) = (exists (same_key k) ks ≡ false) × Distinct ks

-- how many bytes the heads and all keys that can come take
abbrev pub keys_extent : List ℕ → List ℕ → Tables → ℕ
keys_extent main supplementary x = chain_count x * chain_head + key_record * length (possible_keys main supplementary)

-- the n keys are different and possible ones, and there is room for all that can come
pub record KeysIn (main supplementary w : List ℕ) (x : Tables) (n : ℕ) : Type 0 where
  pub distinct : Distinct (keys_at w (keys_from x) n)
  pub possible : All (PossibleKey main supplementary) (keys_at w (keys_from x) n)
  pub chained : many n ≡ true → Chained w x n
  pub room : x.keys + keys_extent main supplementary x ≤ length w
