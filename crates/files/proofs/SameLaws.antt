-- Files that test the same are the same: by their names and directories, by their records, by their hashes, and by their places.
use mathlib.Core.Path.{◌≡◌, refl, sym, ap, ◌∙◌}
use mathlib.Core.Bool.{Bool, true, false, cond, not, ◌&&◌}
use mathlib.Core.List.{List, [], ◌∷◌, ◌++◌}
use mathlib.Core.Option.{Option, none, some, none-ne-some}
use Prim.Native.Nat.{ℕ, suc, ◌+◌, ◌<◌}
use native.Mathlib.Omega.{arith}
use lib.Dec.{eqb}
use lib.ListN.{length, get_or}
use lib.Pointwise.{pointwise}
use borrow.Author.Tests.{eqb-true, eq-eqb, ne_eqb, not-true, not-false}
use Rattle.tlv.specs.Lists.{same, map_option}
use Rattle.tlv.specs.Bytes.{le_at}
use Rattle.tlv.proofs.TestLaws.{and_left, and_right, same_true}
use Rattle.tlv.specs.declared.model.DebugSource.{DebugSource}
use Rattle.buffers.specs.Table.{chunk}
use Rattle.buffers.specs.Output.{FileEntry}
use Rattle.paths.specs.Paths.{append_path}
use Rattle.lines.specs.Files.{same_file, place_of}
use Rattle.files.specs.declared.pieces.FilePieces.{FilePieces}
use Rattle.files.specs.Pieces.{source_in, span_in, file_in, PiecesIn}
use Rattle.files.specs.Hash.{hash_of}
use Rattle.files.specs.Store.{pieces_of, source_of, stored_file, StoredAt}
use Rattle.files.proofs.StoreLaws.{hash_at}
use Rattle.files.proofs.JoinedLaws.{same-pointwise}

-- ---- byte strings

eqb_sym : (a b : ℕ) → eqb a b ≡ eqb b a
eqb_sym a b = go (eqb b a) refl
  where
    go : (t : Bool) → eqb b a ≡ t → eqb a b ≡ t
    go true e = eq-eqb a b (sym (eqb-true b a e))
    go false e = ne_eqb a b (λ q. let z : ◌≡◌ {A = Bool} true false = sym (eq-eqb b a (sym q)) ∙ e in absurd (true_false z))
      where
        true_false : ◌≡◌ {A = Bool} true false → ⊥
        true_false z = let y : ◌≡◌ {A = ℕ} 0 1 = cc in omega arith

same-sym : (x y : List ℕ) → same x y ≡ same y x
unfolding same
same-sym [] [] = refl
same-sym [] (b ∷ y) = refl
same-sym (a ∷ x) [] = refl
same-sym (a ∷ x) (b ∷ y) = rw (eqb_sym a b, same-sym x y)

pub same_refl : (x : List ℕ) → same x x ≡ true
unfolding same
same_refl [] = refl
same_refl (a ∷ x) = rw (eq-eqb a a refl, same_refl x)

-- ---- files

pub same-file : (e f : FileEntry) → same_file e f ≡ true → e ≡ f
same-file e f q = λ i. record {
  directory = same_true e.directory f.directory (and_left _ (same e.basename f.basename) q) i;
  basename = same_true e.basename f.basename (and_right (same e.directory f.directory) _ q) i;
}

and_false : (a : Bool) → (a && false) ≡ false
and_false true = refl
and_false false = refl

and_true : (a : Bool) → (a && true) ≡ a
and_true true = refl
and_true false = refl

-- ---- a file, and the pieces of a sheet

module _ {s : List ℕ} {p : FilePieces} (P : PiecesIn s p) (dir base : List ℕ) where
  -- the test of the directories
  abbrev directories : Bool
  directories = same dir (append_path (append_path (span_in s p.compilation) (span_in s p.directory)) (span_in s p.own))

  pub other_name : {b : Bool} → b ≡ not (pointwise eqb (span_in s p.base) base) → b ≡ true → false ≡ same_file (record { directory = dir; basename = base }) (file_in s p)
  unfolding file_in
  other_name q z =
      sym (ap (λ (b : Bool). directories && b) (same-sym base (span_in s p.base) ∙ sym (same-pointwise (span_in s p.base) base) ∙ not-true _ (sym q ∙ z)) ∙ and_false directories)

  pub by-directory : {b r : Bool} → b ≡ not (pointwise eqb (span_in s p.base) base) → b ≡ false
      → r ≡ same dir (append_path (append_path (span_in s p.compilation) (span_in s p.directory)) (span_in s p.own))
      → r ≡ same_file (record { directory = dir; basename = base }) (file_in s p)
  unfolding file_in
  by-directory q z d =
      d ∙ sym (ap (λ (b : Bool). directories && b) (same-sym base (span_in s p.base) ∙ sym (same-pointwise (span_in s p.base) base) ∙ not-false _ (sym q ∙ z)) ∙ and_true directories)

-- ---- a file, and the record at a place

module _ {main supplementary w : List ℕ} {p : ℕ} (I : StoredAt main supplementary w p) where
  -- a record of another hash is of another file
  pub other-hash : (e : FileEntry) {hash h : ℕ} → hash ≡ hash_of e → h ≡ le_at 4 w (p + 33) → (h ≡ hash → ⊥) → false ≡ same_file e (stored_file main supplementary (chunk w p 41))
  other-hash e {hash} {h} q r ne = go (same_file e (stored_file main supplementary (chunk w p 41))) refl
    where
      go : (t : Bool) → same_file e (stored_file main supplementary (chunk w p 41)) ≡ t → false ≡ t
      go true z = absurd (ne (r ∙ sym (hash_at w p) ∙ I.hashed ∙ ap hash_of (sym (same-file e _ z)) ∙ sym q))
      go false z = refl

  -- its pieces are cut out of the sheet of its source
  module _ {ps : FilePieces} {source : DebugSource} {s : List ℕ} (ep : ps ≡ pieces_of (chunk w p 41)) (es : source ≡ source_of (chunk w p 41))
      (sheet : s ≡ source_in main supplementary source) where
    pub source-pieces : PiecesIn s ps
    source-pieces = rw (ep, sheet, es) I.pieces

    pub source-file : (e : FileEntry) {r : Bool} → r ≡ same_file e (file_in s ps) → r ≡ same_file e (stored_file main supplementary (chunk w p 41))
    unfolding stored_file
    source-file e q = q ∙ rw (ep, sheet, es)

-- ---- the place of a file

abbrev pub no_file : FileEntry
no_file = record { directory = []; basename = [] }

pub place_none : (e : FileEntry) (xs : List FileEntry) → ((i : ℕ) → i < length xs → same_file e (get_or xs i no_file) ≡ false) → place_of e xs ≡ none
unfolding place_of map_option
place_none e [] f = refl
place_none e (x ∷ xs) f = rw (f 0 (omega arith), place_none e xs (λ i h. f (suc i) (omega arith)))

pub place-within : (e : FileEntry) (xs : List FileEntry) (n : ℕ) → place_of e xs ≡ some n → n < length xs
unfolding place_of map_option
place-within e [] n q = absurd (none-ne-some n q)
place-within e (x ∷ xs) n q = go (same_file e x) (place_of e xs) (place-within e xs) q
  where
    go : (b : Bool) (o : Option ℕ) → ((m : ℕ) → o ≡ some m → m < length xs) → cond b (some 0) (map_option suc o) ≡ some n → n < suc (length xs)
    go true o ih p = let z : 0 ≡ n = cc in omega arith
    go false none ih p = absurd (none-ne-some n p)
    go false (some m) ih p = let z : suc m ≡ n = cc in omega (arith, ih m refl)

-- among more files
pub place-more : (e : FileEntry) (xs ys : List FileEntry) (n : ℕ) → place_of e xs ≡ some n → place_of e (xs ++ ys) ≡ some n
unfolding place_of map_option
place-more e [] ys n q = absurd (none-ne-some n q)
place-more e (x ∷ xs) ys n q = go (same_file e x) (place_of e xs) (place_of e (xs ++ ys)) (place-more e xs ys) q
  where
    go : (b : Bool) (o o' : Option ℕ) → ((m : ℕ) → o ≡ some m → o' ≡ some m) → cond b (some 0) (map_option suc o) ≡ some n → cond b (some 0) (map_option suc o') ≡ some n
    go true o o' ih p = p
    go false none o' ih p = absurd (none-ne-some n p)
    go false (some m) o' ih p = rw (ih m refl) p

-- a new file stands last
pub place-last : (e : FileEntry) (xs : List FileEntry) → place_of e xs ≡ none → place_of e (xs ++ (e ∷ [])) ≡ some (length xs)
unfolding place_of map_option
place-last e [] q = rw (same_refl e.directory, same_refl e.basename)
place-last e (x ∷ xs) q = go (same_file e x) (place_of e xs) (place_of e (xs ++ (e ∷ []))) (place-last e xs) q
  where
    go : (b : Bool) (o o' : Option ℕ) → (o ≡ none → o' ≡ some (length xs)) → cond b (some 0) (map_option suc o) ≡ none → cond b (some 0) (map_option suc o') ≡ some (suc (length xs))
    go true o o' ih p = absurd (none-ne-some 0 (sym p))
    go false none o' ih p = rw (ih refl)
    go false (some m) o' ih p = absurd (none-ne-some (suc m) (sym p))
