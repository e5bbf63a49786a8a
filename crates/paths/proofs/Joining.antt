-- Joining paths: which are absolute, what stands below a directory, and the path that a directory and a basename stand for.
use mathlib.Core.Logic.{◌≢◌}
use mathlib.Core.Path.{◌≡◌, refl, sym, ap, ◌∙◌}
use mathlib.Core.Bool.{Bool, true, false, cond, ◌||◌, not, true≢false, or-false, and-false}
use mathlib.Core.List.{List, [], ◌∷◌, ◌++◌, append_assoc}
use Prim.Native.Nat.{ℕ}
use native.Mathlib.Omega.{arith}
use borrow.Author.Tests.{eqb-true}
use lib.Dec.{eqb}
use lib.ListN.{length, length-append}
use Rattle.tlv.specs.Lists.{same}
use Rattle.tlv.proofs.TestLaws.{by_test, same_true}
use Rattle.buffers.specs.Output.{FileEntry}
use Rattle.line_program.specs.Standard.{slash, is_full, relative_to}
use Rattle.paths.specs.Paths.{starts_with, ends_with, is_drive, starts_with_letter, starts_doubled, is_windows, is_absolute, append_path, basename_of}
use Rattle.paths.specs.Paths.{directory_name}
use Rattle.paths.specs.PathConforms.{path_in, path_of, Unix, Relative, Open, Holds}
use Rattle.paths.proofs.LastSlash.{Split, nowhere, first, later, split}

-- ---- paths that Windows did not write

-- a full path is none
pub full-windows : (p : List ℕ) → is_full p ≡ true → is_windows p ≡ false
unfolding is_windows is_drive starts_with_letter starts_doubled
full-windows [] e = absurd (true≢false (sym e))
full-windows (b ∷ []) e = refl
full-windows (b ∷ c ∷ s) e = rw (eqb-true b slash e) (go s)
  where
    go : (s : List ℕ) → is_windows (slash ∷ c ∷ s) ≡ false
    go [] = refl
    go (d ∷ s) = ap (λ (t : Bool). t || false) (and-false (is_drive (slash ∷ c ∷ d ∷ s)))

-- nor is a relative one of the theorem on paths
pub relative-windows : (p : List ℕ) → Relative p → is_windows p ≡ false
unfolding is_windows
relative-windows p r = rw (r.unix.drive, r.undoubled)

-- ---- absolute paths

starts_full : (p : List ℕ) → starts_with slash p ≡ is_full p
unfolding starts_with
starts_full [] = refl
starts_full (b ∷ s) = refl

-- a path that begins with a slash is absolute
pub full-absolute : (p : List ℕ) → is_full p ≡ true → is_absolute p ≡ true
unfolding is_absolute
full-absolute p e = rw (starts_full p, e)

-- and no other that is no Windows path
pub unix-absolute : (p : List ℕ) → Unix p → is_absolute p ≡ is_full p
unfolding is_absolute
unix-absolute p x = rw (x.drive, x.share, starts_full p) (or-false (is_full p || false) ∙ or-false (is_full p))

-- ---- a directory that something can stand below

-- the end of two lists is that of the second
pub ends-append : (x : List ℕ) (b : ℕ) (s : List ℕ) → ends_with slash (x ++ (b ∷ s)) ≡ ends_with slash (b ∷ s)
unfolding ends_with
ends-append [] b s = refl
ends-append (a ∷ []) b s = refl
ends-append (a ∷ a' ∷ x) b s = ends-append (a' ∷ x) b s

pub append-first : (c : List ℕ) → append_path [] c ≡ c
unfolding append_path
append-first [] = refl
append-first (b ∷ s) = refl

pub append_none : (d : List ℕ) → append_path d [] ≡ d
unfolding append_path
append_none d = refl

-- below an open directory a slash goes between
pub append-below : (d : List ℕ) (b : ℕ) (s : List ℕ) → Open d → is_full (b ∷ s) ≡ false → append_path d (b ∷ s) ≡ d ++ (slash ∷ b ∷ s)
unfolding append_path starts_with
append-below [] b s o e = absurd (o.filled refl)
append-below (a ∷ d) b s o e = rw (o.unclosed, e)

-- a directory that holds something is not the root
pub holds-root : {d p : List ℕ} → Holds d p → d ≡ slash ∷ [] → ⊥
unfolding ends_with
holds-root {d} o e = (o.closed (ap (ends_with slash) e)).1 e

-- and one that holds more than a bare name is open
pub holds-open : {d p : List ℕ} → Holds d p → directory_name p ≢ [] → Open d
holds-open {d} o n = record { filled = o.filled; unclosed = go (ends_with slash d) refl }
  where
    go : (t : Bool) → ends_with slash d ≡ t → t ≡ false
    go true e = absurd (n (o.closed e).0)
    go false e = refl

-- below another it holds what it held
holds-append : (c : List ℕ) (b : ℕ) (s p : List ℕ) → Holds (b ∷ s) p → Holds (c ++ (slash ∷ b ∷ s)) p
unfolding ends_with
holds-append c b s p o = record {
  filled = λ e. omega (arith, ap length e, length-append c (slash ∷ b ∷ s));
  closed = λ e. ((o.closed (sym (ends-append c slash (b ∷ s)) ∙ e)).0, λ q. omega (arith, ap length q, length-append c (slash ∷ b ∷ s)));
}

-- ---- a directory of the table below the compilation directory

pub relative-is : (c d : List ℕ) → Open c → d ≢ [] → append_path (cond (not (is_full d)) c []) d ≡ relative_to c d
unfolding relative_to
relative-is c [] o n = absurd (n refl)
relative-is c (b ∷ s) o n = go (eqb b slash) refl
  where
    go : (t : Bool) → is_full (b ∷ s) ≡ t → append_path (cond (not t) c []) (b ∷ s) ≡ cond t (b ∷ s) (c ++ (slash ∷ b ∷ s))
    go true e = append-first (b ∷ s)
    go false e = append-below c b s o e

pub relative-holds : (c d p : List ℕ) → Holds d p → Holds (relative_to c d) p
unfolding relative_to
relative-holds c [] p n = absurd (n.filled refl)
relative-holds c (b ∷ s) p n = by_test (λ d. Holds d p) (eqb b slash) (λ e. n) (λ e. holds-append c b s p n)

-- ---- the path that a file of the table stands for

root-same : (d : List ℕ) → same d (slash ∷ []) ≡ false → d ≢ slash ∷ []
unfolding same
root-same d q e = true≢false (sym (ap (λ (x : List ℕ). same x (slash ∷ [])) e) ∙ q)

path-in : (b : ℕ) (d base : List ℕ) → b ∷ d ≢ slash ∷ [] → path_in (b ∷ d) base ≡ (b ∷ d) ++ (slash ∷ base)
path-in b d base n = go (same (b ∷ d) (slash ∷ [])) refl
  where
    go : (t : Bool) → same (b ∷ d) (slash ∷ []) ≡ t → cond t (slash ∷ base) ((b ∷ d) ++ (slash ∷ base)) ≡ (b ∷ d) ++ (slash ∷ base)
    go true q = absurd (n (same_true (b ∷ d) (slash ∷ []) q))
    go false q = refl

module _ (e : FileEntry) where
  path-root : e.directory ≡ slash ∷ [] → path_of e ≡ slash ∷ e.basename
  unfolding same
  path-root q = rw q

  path-other : (b : ℕ) (d : List ℕ) → e.directory ≡ b ∷ d → e.directory ≢ slash ∷ [] → path_of e ≡ e.directory ++ (slash ∷ e.basename)
  path-other b d q n = rw q (path-in b d e.basename (λ r. n (q ∙ r)))

-- the parts of a full path stand for it
pub path-full : (p : List ℕ) → is_full p ≡ true → (directory_name p ≡ slash ∷ [] → p ≡ slash ∷ basename_of p)
    → p ≡ path_of (record { directory = directory_name p; basename = basename_of p })
path-full p f single = go (split p (full-windows p f))
  where
    e : FileEntry
    e = record { directory = directory_name p; basename = basename_of p }

    either : (a : ℕ) (l : List ℕ) → directory_name p ≡ a ∷ l → p ≡ directory_name p ++ (slash ∷ basename_of p) → (t : Bool) → same (directory_name p) (slash ∷ []) ≡ t → p ≡ path_of e
    either a l d h true q = let r = same_true (directory_name p) (slash ∷ []) q in single r ∙ sym (path-root e r)
    either a l d h false q = h ∙ sym (path-other e a l d (root-same (directory_name p) q))

    go : Split p → p ≡ path_of e
    go (nowhere g d b) = absurd (true≢false (sym f ∙ g))
    go (first d b) = b ∙ sym (path-root e d)
    go (later a l d b) = either a l d (b ∙ ap (λ (x : List ℕ). x ++ (slash ∷ basename_of p)) (sym d)) (same (directory_name p) (slash ∷ [])) refl

-- the parts of another path, below a directory, stand for the path relative to it
pub path-below : (d p : List ℕ) → Holds d p → is_full p ≡ false → is_windows p ≡ false
    → relative_to d p ≡ path_of (record { directory = append_path d (directory_name p); basename = basename_of p })
unfolding relative_to
path-below d p o f w = rw f (go (split p w))
  where
    e : FileEntry
    e = record { directory = append_path d (directory_name p); basename = basename_of p }

    filled-other : (x : List ℕ) → e.directory ≡ x → e.directory ≢ slash ∷ [] → x ≢ [] → path_of e ≡ e.directory ++ (slash ∷ e.basename)
    filled-other [] q n z = absurd (z refl)
    filled-other (b ∷ l) q n z = path-other e b l q n

    append-other : (x y : List ℕ) → e.directory ≡ x ++ (slash ∷ y) → e.directory ≢ slash ∷ [] → path_of e ≡ e.directory ++ (slash ∷ e.basename)
    append-other [] y q n = path-other e slash y q n
    append-other (b ∷ l) y q n = path-other e b (l ++ (slash ∷ y)) q n

    go : Split p → d ++ (slash ∷ p) ≡ path_of e
    go (nowhere g n b) =
        let q : append_path d (directory_name p) ≡ d = ap (append_path d) n ∙ append_none d in
        sym (filled-other d q (λ r. holds-root o (sym q ∙ r)) o.filled ∙ (λ i. q i ++ (slash ∷ b i)))
    go (first n b) = absurd (true≢false (sym (ap is_full b) ∙ f))
    go (later a l n b) =
        let o' = holds-open o (λ e. let z : a ∷ l ≡ [] = sym n ∙ e in omega (arith, ap length z)) in
        let q : append_path d (directory_name p) ≡ d ++ (slash ∷ a ∷ l) = ap (append_path d) n ∙ append-below d a l o' (sym (ap is_full b) ∙ f) in
        let z : d ++ (slash ∷ a ∷ l) ≡ slash ∷ [] → ⊥ = λ r. omega (arith, ap length r, length-append d (slash ∷ a ∷ l)) in
        ap (λ (x : List ℕ). d ++ (slash ∷ x)) b
        ∙ sym (append-other d (a ∷ l) q (λ r. z (sym q ∙ r)) ∙ ap (λ (x : List ℕ). x ++ (slash ∷ basename_of p)) q ∙ append_assoc d (slash ∷ a ∷ l) (slash ∷ basename_of p))
