-- The map of a unit's file numbers in a list of bytes: a record written, read, and changed.
use Prim.Native.Nat.{ℕ, zero, suc, ◌+◌, ◌*◌, ◌≤◌, ◌<◌}
use native.Mathlib.Omega.{arith}
use mathlib.Core.Path.{◌≡◌, refl, sym, ap, ◌∙◌}
use mathlib.Core.Bool.{Bool, true, false, cond}
use mathlib.Core.List.{List, [], ◌∷◌}
use mathlib.Core.Option.{none, some}
use lib.ListN.{length, get_or}
use lib.Seq.{set_out}
use lib.Dec.{eqb}
use Rattle.tlv.specs.declared.model.FileIndex.{FileIndex}
use Rattle.tlv.specs.Bytes.{le_at}
use Rattle.tlv.specs.Lists.{map_option}
use Rattle.buffers.specs.Table.{chunk, records}
use Rattle.buffers.specs.Options.{numbers_of, option_at, PutOption}
use Rattle.buffers.proofs.ChunkLaws.{le_at-chunk, le_at-front}
use Rattle.buffers.proofs.TableLaws.{inside, kept_refl, kept-wide}
use Rattle.buffers.proofs.RecordLaws.{records-length, records-at, records-set}
use Rattle.lines.specs.Files.{FileIndices, file_index, get}
use Rattle.buffers.specs.declared.table.Stored.{Stored}
use Rattle.files.specs.declared.index.FileNumber.{FileNumber}
use Rattle.std.specs.Prelude.{MatchOption, IsSomeAnd, Option, Some, None}
use Rattle.files.specs.Indices.{index_of, indices_of, indices_in, number_of, PutIndex, Inserted}

-- ---- a record

-- what stands there, as a number that may be missing
index-is : (w : List ℕ) (p : ℕ) → index_of (chunk w p 5) ≡ map_option (λ n. file_index n) (option_at 4 w p)
unfolding index_of option_at map_option
index-is w p = rw (le_at-front 1 w p 5 (omega arith), le_at-chunk 4 w p 5 1 (omega arith)) (go (eqb (le_at 1 w p) 1))
  where
    go : (b : Bool) → cond b (some (file_index (le_at 4 w (p + 1)))) none ≡ map_option (λ n. file_index n) (cond b (some (le_at 4 w (p + 1))) none)
    go true = refl
    go false = refl

-- the number of an index is written
number-is : (P : FileIndex → ℕ → Type 0) → ((a : FileIndex) (n : ℕ) → P a n → n ≡ a.0) → (x : Option FileIndex) (y : Option ℕ)
    → MatchOption x (y ≡ None) (λ a. IsSomeAnd y (P a)) → map_option (λ n. file_index n) (numbers_of (λ n. n) y) ≡ number_of x
unfolding map_option
number-is P same None y e = rw e refl
number-is P same (Some a) None e = absurd e
number-is P same (Some a) (Some n) e = ap (λ (k : ℕ). some (file_index k)) (same a n e)

pub put-index : {w w' : List ℕ} {p : ℕ} (P : FileIndex → ℕ → Type 0) → ((a : FileIndex) (n : ℕ) → P a n → n ≡ a.0) → (x : Option FileIndex) (y : Option ℕ)
    → MatchOption x (y ≡ None) (λ a. IsSomeAnd y (P a)) → PutOption w w' p 4 (numbers_of (λ n. n) y) → PutIndex w w' p (number_of x)
put-index {w' = w'} {p} P same x y e A = record {
  index = index-is w' p ∙ ap (map_option (λ n. file_index n)) A.value ∙ number-is P same x y e;
  rest = A.rest;
}

-- ---- get

get_at : (is : FileIndices) (n : ℕ) → get is n ≡ get_or is n none
unfolding get
get_at [] n = refl
get_at (x ∷ xs) zero = refl
get_at (x ∷ xs) (suc n) = get_at xs n

get-past : (is : FileIndices) (n : ℕ) → length is ≤ n → get is n ≡ none
unfolding get
get-past [] n h = refl
get-past (x ∷ xs) zero h = absurd (omega arith)
get-past (x ∷ xs) (suc n) h = get-past xs n (omega arith)

module _ (w : List ℕ) (is : Stored FileIndex) (n : FileNumber) where
  pub get-out : is.count ≤ n.0 → none ≡ get (indices_in w is) n.0
  unfolding indices_of
  get-out h = sym (get-past (records index_of 5 w is.base is.count) n.0 (omega (arith, records-length index_of 5 w is.base is.count)))

  get_in : n.0 < is.count → get (indices_in w is) n.0 ≡ index_of (chunk w (is.base + n.0 * 5) 5)
  unfolding indices_of
  get_in h = get_at (records index_of 5 w is.base is.count) n.0 ∙ records-at index_of 5 w is.base is.count n.0 none h

  pub get-read : (y : Option ℕ) → n.0 < is.count → numbers_of (λ v. v) y ≡ option_at 4 w (is.base + n.0 * 5)
      → map_option (λ v. file_index v) (numbers_of (λ v. v) y) ≡ get (indices_in w is) n.0
  get-read y h e = ap (map_option (λ v. file_index v)) e ∙ sym (index-is w (is.base + n.0 * 5)) ∙ sym (get_in h)

-- ---- insert

pub inserted : {w w' : List ℕ} {is : Stored FileIndex} {n : FileNumber} {i : FileIndex} → n.0 < is.count → PutIndex w w' (is.base + n.0 * 5) (some i) → Inserted w w' is n i
unfolding indices_of
inserted {is = is} {n = n} {i = i} h P = record {
  indices = records-set index_of 5 is.base is.count n.0 (some i) P.rest P.index h;
  rest = kept-wide is.base (is.count * 5) P.rest (omega arith) (omega (arith, inside n.0 is.count 5 h));
}

pub not-inserted : (w : List ℕ) (is : Stored FileIndex) (n : FileNumber) (i : FileIndex) → is.count ≤ n.0 → Inserted w w is n i
unfolding indices_of
not-inserted w is n i h = record {
  indices = sym (set_out (records index_of 5 w is.base is.count) n.0 (some i) (omega (arith, records-length index_of 5 w is.base is.count)));
  rest = kept_refl w is.base (is.count * 5);
}
