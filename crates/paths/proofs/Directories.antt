-- The directory that a file's number names, joined to the compilation directory where it has to be, is the Standard's.
use mathlib.Core.Path.{◌≡◌, refl, ap, ◌∙◌}
use mathlib.Core.Bool.{Bool, true, false, cond, not}
use mathlib.Core.Logic.{◌≢◌}
use mathlib.Core.List.{List, [], map}
use mathlib.Core.Option.{some}
use Prim.Native.Nat.{ℕ, ◌-◌, ◌≤◌, ◌<◌}
use borrow.Author.Tests.{leb-true, leb-false, eqb-true, eqb-false, lt-ltb, le-ltb, le-leb, lt-leb, eq-eqb, ne_eqb}
use lib.Dec.{leb, eqb}
use Rattle.tlv.specs.Outcome.{done}
use Rattle.tlv.specs.Lists.{map_option, at}
use Rattle.tlv.specs.Model.{CompilationUnit, LineHeader, Directory, HeaderFile}
use Rattle.tlv.proofs.ListLaws.{at-image}
use Rattle.line_program.specs.Standard.{and_then, is_full, relative_to, directory_path}
use Rattle.paths.specs.Paths.{starts_with, is_drive, is_share, is_absolute, append_path, or_empty, named_directory, needs_compilation}
use Rattle.paths.specs.PathConforms.{Unix, Open, Holds, read_as, PlainDirectory, FirstDirectory, FullDirectory}
use Rattle.paths.proofs.Joining.{full-absolute, unix-absolute, append-first, append_none, relative-is, relative-holds}

abbrev pub table_of : CompilationUnit → List (List ℕ)
table_of u = map (λ d. d.path) u.directories

-- the directory of a file, read and joined, is the Standard's, and the file's path can stand below it
pub record Directed (u : CompilationUnit) (version n : ℕ) (compilation path : List ℕ) : Type 0 where
  pub named : List ℕ
  pub whole : List ℕ
  pub read : named_directory u version n ≡ done named
  pub joined : append_path (cond (needs_compilation version n named) (or_empty u.directory) []) named ≡ whole
  pub is : directory_path version compilation (table_of u) n ≡ some whole
  pub below : Holds whole path

table_at : (u : CompilationUnit) {d : Directory} (i : ℕ) → at u.directories i ≡ some d → at (table_of u) i ≡ some d.path
unfolding map_option
table_at u i e = at-image (λ d. d.path) u.directories i ∙ ap (map_option (λ d. d.path)) e

-- ---- below the unit's compilation directory c, which the Standard is given too

module _ (u : CompilationUnit) (version n : ℕ) (c p : List ℕ) (k : u.directory ≡ some c) where
  needs_old : (d : List ℕ) → Unix d → version < 5 → needs_compilation version n d ≡ not (is_full d)
  unfolding needs_compilation
  needs_old d x h = rw (lt-ltb version 5 h, unix-absolute d x)

  needs-other : (d : List ℕ) → Unix d → n ≢ 0 → 5 ≤ version → needs_compilation version n d ≡ not (is_full d)
  unfolding needs_compilation
  needs-other d x z h = rw (le-ltb version 5 h, ne_eqb n 0 z, unix-absolute d x)

  -- a directory below the compilation directory, unless it is a full path
  joined-below : (d : List ℕ) → Open c → Holds d p → needs_compilation version n d ≡ not (is_full d)
      → append_path (cond (needs_compilation version n d) (or_empty u.directory) []) d ≡ relative_to c d
  joined-below d o q e = rw (e, k) (relative-is c d o q.filled)

  -- before version 5, number 0: the compilation directory
  old_zero : version < 5 → n ≡ 0 → Holds c p → Directed u version n c p
  unfolding named_directory needs_compilation directory_path is_absolute starts_with is_drive is_share
  old_zero h z o = record {
    named = [];
    whole = c;
    read = rw (lt-ltb version 5 h, eq-eqb n 0 z);
    joined = rw (lt-ltb version 5 h, k) (append_none c);
    is = rw (lt-leb 5 version h, eq-eqb n 0 z);
    below = o;
  }

  -- before version 5, another number
  old-other : version < 5 → n ≢ 0 → Open c → (d : List ℕ) → Unix d → Holds d p
      → at u.directories (n - 1) ≡ read_as d → Directed u version n c p
  unfolding named_directory directory_path map_option
  old-other h z o d x q e = record {
    named = d;
    whole = relative_to c d;
    read = rw (lt-ltb version 5 h, ne_eqb n 0 z, e);
    joined = joined-below d o q (needs_old d x h);
    is = rw (lt-leb 5 version h, ne_eqb n 0 z, table_at u (n - 1) e);
    below = relative-holds c d p q;
  }

  -- from version 5 on, another number
  new-other : 5 ≤ version → n ≢ 0 → at u.directories 0 ≡ read_as c
      → Open c → (d : List ℕ) → Unix d → Holds d p → at u.directories n ≡ read_as d → Directed u version n c p
  unfolding named_directory directory_path map_option and_then
  new-other h z f o d x q e = record {
    named = d;
    whole = relative_to c d;
    read = rw (le-ltb version 5 h, e);
    joined = joined-below d o q (needs-other d x z h);
    is = rw (le-leb 5 version h, ne_eqb n 0 z, table_at u 0 f, table_at u n e);
    below = relative-holds c d p q;
  }

-- ---- a directory of the table that stands by itself, whatever c is

relative-full : (c d : List ℕ) → is_full d ≡ true → relative_to c d ≡ d
unfolding relative_to
relative-full c d l = rw l

module _ (u : CompilationUnit) (version n : ℕ) (c p d : List ℕ) (o : Holds d p) where
  -- from version 5 on, number 0: the table's first
  new-zero : 5 ≤ version → n ≡ 0 → at u.directories 0 ≡ read_as d → Directed u version n c p
  unfolding named_directory needs_compilation directory_path
  new-zero h z e =
      let f : at u.directories n ≡ read_as d = rw z e in
      record {
        named = d;
        whole = d;
        read = rw (le-ltb version 5 h, f);
        joined = rw (le-ltb version 5 h, eq-eqb n 0 z) (append-first d);
        is = rw (le-leb 5 version h, eq-eqb n 0 z) (table_at u 0 e);
        below = o;
      }

  -- a full path, before version 5
  old_full : version < 5 → n ≢ 0 → is_full d ≡ true → at u.directories (n - 1) ≡ read_as d → Directed u version n c p
  unfolding named_directory needs_compilation directory_path map_option
  old_full h z l e = record {
    named = d;
    whole = d;
    read = rw (lt-ltb version 5 h, ne_eqb n 0 z, e);
    joined = rw (lt-ltb version 5 h, full-absolute d l) (append-first d);
    is = rw (lt-leb 5 version h, ne_eqb n 0 z, table_at u (n - 1) e, relative-full c d l);
    below = o;
  }

  -- and from version 5 on, where the table has a directory 0
  new-full : 5 ≤ version → n ≢ 0 → is_full d ≡ true → (f : Directory) → at u.directories 0 ≡ some f → at u.directories n ≡ read_as d
      → Directed u version n c p
  unfolding named_directory needs_compilation directory_path map_option and_then
  new-full h z l f g e = record {
    named = d;
    whole = d;
    read = rw (le-ltb version 5 h, e);
    joined = rw (le-ltb version 5 h, ne_eqb n 0 z, full-absolute d l) (append-first d);
    is = rw (le-leb 5 version h, ne_eqb n 0 z, table_at u 0 g, table_at u n e, relative-full f.path d l);
    below = o;
  }

-- ---- each way in which a directory is given

module _ (u : CompilationUnit) (h : LineHeader) (f : HeaderFile) (c : List ℕ) where
  pub plain-directed : PlainDirectory u h f c → Directed u h.version f.directory c f.path
  plain-directed p = go (leb 5 h.version) refl (eqb f.directory 0) refl p.numbered
    where
      go : (t : Bool) → leb 5 h.version ≡ t → (z : Bool) → eqb f.directory 0 ≡ z
          → (f.directory ≢ 0
          → Open c × ((d : List ℕ) × Unix d × Holds d f.path × (at u.directories (cond t f.directory (f.directory - 1)) ≡ read_as d)))
          → Directed u h.version f.directory c f.path
      go true l true z s =
          let v = leb-true 5 h.version l in
          let n = eqb-true f.directory 0 z in
          new-zero u h.version f.directory c f.path c (p.zeroth n) v n (p.first v)
      go true l false z s =
          let v = leb-true 5 h.version l in
          let n = eqb-false f.directory 0 z in
          let (o, (d, x, q, e)) = s n in
          new-other u h.version f.directory c f.path p.compilation_is v n (p.first v) o d x q e
      go false l true z s =
          let n = eqb-true f.directory 0 z in
          old_zero u h.version f.directory c f.path p.compilation_is (leb-false 5 h.version l) n (p.zeroth n)
      go false l false z s =
          let n = eqb-false f.directory 0 z in
          let (o, (d, x, q, e)) = s n in
          old-other u h.version f.directory c f.path p.compilation_is (leb-false 5 h.version l) n o d x q e

  pub first-directed : FirstDirectory u h f → Directed u h.version f.directory c f.path
  first-directed p = new-zero u h.version f.directory c f.path p.path p.shape p.version p.number p.read

  pub full-directed : FullDirectory u h f → Directed u h.version f.directory c f.path
  full-directed p = go (leb 5 h.version) refl p.read
    where
      go : (t : Bool) → leb 5 h.version ≡ t → at u.directories (cond t f.directory (f.directory - 1)) ≡ read_as p.path
          → Directed u h.version f.directory c f.path
      go true l e =
          let v = leb-true 5 h.version l in
          let (d, g) = p.first v in
          new-full u h.version f.directory c f.path p.path p.shape v p.number p.full d g e
      go false l e = old_full u h.version f.directory c f.path p.path p.shape (leb-false 5 h.version l) p.number p.full e
