-- The rows of the code's table hold the words: one equation of two tables, which antt computes.
use mathlib.Core.Path.{◌≡◌, refl, sym, ap, ◌∙◌}
use mathlib.Core.Bool.{Bool, true}
use mathlib.Core.List.{List, [], ◌∷◌, ◌++◌}
use Prim.Native.Nat.{ℕ, zero, suc, ◌+◌, ◌-◌, ◌*◌, ◌<◌, ◌≤◌}
use native.Mathlib.Nat.{le_of_suc-le-suc, not-suc-le-zero}
use native.Mathlib.Omega.{arith}
use borrow.Author.Tests.{leb-true}
use lib.Dec.{leb}
use lib.ListN.{get_or, take, drop, length, replicate, get_or-eq_default}
use Rattle.buffers.specs.Buffer.{Put}
use Rattle.buffers.specs.Table.{tab}
use Rattle.buffers.proofs.BufferLaws.{put_as}
use Rattle.buffers.proofs.RecordLaws.{tab-at}
use Rattle.words.specs.Words.{words, refusal_word}

-- two functions that make the same table agree at each of its places
agree : {A : Type 0} (f g : ℕ → A) (n : ℕ) → tab n f ≡ tab n g → (i : ℕ) → i < n → f i ≡ g i
agree f g n e i h = sym (tab-at n f i (f i) h) ∙ ap (λ l. get_or l i (f i)) e ∙ tab-at n g i (f i) h

-- the row of a word: its bytes, dots up to 17, and its length
abbrev row_of : List ℕ → List ℕ
row_of w = w ++ (replicate (17 - length w) 46 ++ (length w ∷ []))

-- the code's table: the row of no word, and those of all words
abbrev rows_of : List (List ℕ) → List ℕ
rows_of [] = []
rows_of (w ∷ ws) = row_of w ++ rows_of ws

unfoldable pub rows : List ℕ
rows = rows_of ([] ∷ words)

-- the length in the row of a number, and the bytes that it counts
abbrev size_in : ℕ → ℕ
size_in n = get_or rows (18 * n + 17) 0

abbrev word_in : ℕ → List ℕ
word_in n = take (18 * n + size_in n - 18 * n) (drop (18 * n) rows)

-- each row has a length that ends within it, and its number's word
abbrev held : ℕ → Bool × List ℕ
held n = (leb (size_in n) 17, word_in n)

abbrev right : ℕ → Bool × List ℕ
right n = (true, refusal_word n)

holds-words : tab 28 held ≡ tab 28 right
unfolding rows tab words refusal_word
holds-words = refl

module _ (n : ℕ) (h : n < 28) where
  row : held n ≡ right n
  row = agree held right 28 holds-words n h

  size : size_in n ≤ 17
  size = leb-true (size_in n) 17 (ap (λ (p : Bool × List ℕ). p.0) row)

  pub end-within : 18 * n + size_in n ≤ 504
  end-within = omega (arith, size)

  pub put-row : {t t' : List ℕ} {r : ℕ} → Put 0 (word_in n) t t' r → Put 0 (refusal_word n) t t' r
  put-row p = put_as (sym (ap (λ (q : Bool × List ℕ). q.1) row)) p

-- past the table
pub no_word : (n : ℕ) → 27 < n → refusal_word n ≡ []
unfolding words refusal_word
no_word zero h = absurd (not-suc-le-zero h)
no_word (suc n) h = get_or-eq_default words [] {n = n} (le_of_suc-le-suc h)
