-- The pieces of a file: the parts of its path, its directory by its number, and the file that they make.
use mathlib.Core.Path.{◌≡◌, refl, sym, ap, ◌∙◌}
use mathlib.Core.Bool.{Bool, true, false, cond}
use mathlib.Core.List.{List, [], ◌∷◌}
use mathlib.Core.Option.{none, some}
use Prim.Native.Nat.{ℕ, zero, suc, ◌+◌, ◌-◌, ◌*◌, ◌≤◌, ◌<◌}
use native.Mathlib.Nat.{not-suc-le-zero, le_of_suc-le-suc}
use native.Mathlib.Omega.{arith}
use borrow.Author.Tests.{lt-ltb, le-ltb, leb-true, leb-false, eq-eqb, ne_eqb}
use lib.Dec.{eqb, leb}
use lib.ListN.{length, take, drop, get_or, length-take, length-drop}
use lib.Seq.{take-take}
use Rattle.std.specs.Prelude.{Option, Some, None, SomeIff, Result, Ok, Err}
use Rattle.tlv.specs.declared.refusal.Refusal.{Refusal}
use Rattle.tlv.specs.Outcome.{Outcome, refused, done, ◌>>=◌}
use Rattle.tlv.specs.Lists.{at, map_option, is_empty}
use Rattle.tlv.specs.Bytes.{le_at}
use Rattle.tlv.specs.Model.{HeaderFile, directory_of, file_of}
use Rattle.tlv.proofs.TestLaws.{by_test, by_less}
use Rattle.tlv.proofs.ListLaws.{at-image}
use Rattle.tlv.proofs.WidthLaws.{drop_part}
use Rattle.tlv.proofs.ShapeLaws.{number_at, number-first}
use Rattle.buffers.specs.Table.{chunk, records}
use Rattle.buffers.proofs.ChunkLaws.{chunk-length}
use Rattle.buffers.proofs.RecordLaws.{records-length, records-at}
use Rattle.access.specs.Places.{unit_here}
use Rattle.paths.specs.Paths.{base_start, basename_of, root_length, directory_name, is_absolute, append_path, read_directory, named_directory, needs_compilation}
use Rattle.paths.specs.Paths.{joined_directory, file_entry}
use Rattle.paths.proofs.PathBounds.{base_start-within}
use Rattle.files.specs.declared.spans.Span.{Span}
use Rattle.files.specs.declared.spans.FileUnit.{FileUnit}
use Rattle.files.specs.declared.pieces.FilePieces.{FilePieces}
use Rattle.files.specs.declared.pieces.PathParts.{PathParts}
use Rattle.files.specs.Pieces.{span_in, file_in, SpanIn, span_of, spanned_of, header_here, counted_from, DirectoryIn, FileUnitIn, PartsIn, Reads, Before, relative_entry}
use Rattle.files.specs.Pieces.{Relative, Pieced}
use Rattle.files.proofs.DirectoryLaws.{spanned-length}

-- the span of no bytes
abbrev no_span : Span
no_span = record { start = 0; len = 0 }

no_span-in : (s : List ℕ) → SpanIn s no_span
no_span-in s = record { within = omega arith; short = omega arith }

-- ---- the parts of a path

take_own : (k : ℕ) (l : List ℕ) → take (length (take k l)) l ≡ take k l
take_own zero l = refl
take_own (suc k) [] = refl
take_own (suc k) (x ∷ l) = ap (λ (r : List ℕ). x ∷ r) (take_own k l)

-- the directory is the first bytes of a path
directory-front : (l : List ℕ) → take (length (directory_name l)) l ≡ directory_name l
unfolding directory_name
directory-front l =
    by_test (λ d. take (length d) l ≡ d) (leb (base_start l) (root_length l)) {x = take (base_start l) l} {y = take (base_start l - 1) l}
    (λ _. take_own (base_start l) l) (λ _. take_own (base_start l - 1) l)

directory-length : (l : List ℕ) → length (directory_name l) ≤ length l
directory-length l = omega (arith, rw (length-take) at (ap length (directory-front l)))

-- the basename is the last bytes of a path
basename-length : (l : List ℕ) → length (basename_of l) + base_start l ≡ length l
unfolding basename_of
basename-length l = omega (arith, length-drop (base_start l) l, base_start-within l)

module _ (s : List ℕ) (path : Span) (P : SpanIn s path) where
  path-length : length (span_in s path) ≡ path.len
  path-length = chunk-length s path.start path.len P.within

  pub basename-fits : {b : List ℕ} → b ≡ basename_of (span_in s path) → length b ≤ path.start + path.len
  basename-fits eb = omega (arith, ap length eb, basename-length (span_in s path), path-length)

  own-part : span_in s (record { start = path.start; len = length (directory_name (span_in s path)) }) ≡ directory_name (span_in s path)
  unfolding chunk
  own-part =
      let l = rw path-length at (directory-length (span_in s path)) in
      sym (take-take (length (directory_name (span_in s path))) path.len (drop path.start s) l) ∙ directory-front (span_in s path)

  base-part : span_in s (record { start = path.start + path.len - length (basename_of (span_in s path)); len = length (basename_of (span_in s path)) }) ≡ basename_of (span_in s path)
  unfolding chunk basename_of
  base-part =
      let l = span_in s path in
      let k = base_start l in
      let e : length (drop k l) ≡ path.len - k = omega (arith, length-drop k l, path-length) in
      let f : path.start + path.len - length (drop k l) ≡ path.start + k = omega (arith, base_start-within l, path-length) in
      (λ i. take (e i) (drop (f i) s)) ∙ sym (drop_part s path.start path.len k)

  pub parts_in : {o b : List ℕ} → o ≡ directory_name (span_in s path)
      → b ≡ basename_of (span_in s path)
      → PartsIn s path (record { own = record { start = path.start; len = length o }; base = record { start = path.start + path.len - length b; len = length b } })
  parts_in {o} {b} eo eb =
      let w = P.within in
      let h = P.short in
      let lo = rw path-length at (directory-length (span_in s path)) in
      let lb = rw path-length at (basename-length (span_in s path)) in
      rw (eo, eb) (record {
        own = own-part;
        base = base-part;
        own_in = record { within = omega arith; short = omega arith };
        base-in = record { within = omega arith; short = omega arith };
      })

-- ---- the place of a number

module _ (version n : ℕ) {old : Bool} (eo : old ≡ leb version 4) where
  pub counted-before : old ≡ true → (r : Option ℕ) → SomeIff r (1 ≤ n) (n - 1) → r ≡ counted_from version n
  unfolding counted_from
  counted-before o None h = rw (sym eo ∙ o, eq-eqb n 0 (by_less (n ≡ 0) 0 n (λ l. absurd (h l)) (λ l. omega arith)))
  counted-before o (Some k) h = rw (sym eo ∙ o, ne_eqb n 0 (λ z. absurd (omega (arith, h.0, z))), h.1)

  pub counted-after : old ≡ false → Some n ≡ counted_from version n
  unfolding counted_from
  counted-after o = rw (sym eo ∙ o)

-- ---- a directory of the table

module _ {A : Type 0} where
  pub at_some : (xs : List A) (i : ℕ) (d : A) → i < length xs → at xs i ≡ some (get_or xs i d)
  unfolding at
  at_some [] i d h = absurd (not-suc-le-zero h)
  at_some (x ∷ xs) zero d h = refl
  at_some (x ∷ xs) (suc i) d h = at_some xs i d (le_of_suc-le-suc h)

  pub at_none : (xs : List A) (i : ℕ) → length xs ≤ i → at xs i ≡ none
  unfolding at
  at_none [] i h = refl
  at_none (x ∷ xs) zero h = absurd (not-suc-le-zero h)
  at_none (x ∷ xs) (suc i) h = at_none xs i (le_of_suc-le-suc h)

module _ {s w : List ℕ} {u : FileUnit} (U : FileUnitIn s w u) where
  listed : (i : ℕ) → at (unit_here s u.place).directories i ≡ map_option directory_of (at (spanned_of s w u.directories.base u.directories.count) i)
  listed i = rw (← U.directories) (at-image directory_of (spanned_of s w u.directories.base u.directories.count) i)

  pub directory-past : (i : ℕ) → u.directories.count ≤ i → Reads s (Ok (record { start = 0; len = 0 })) (read_directory (at (unit_here s u.place).directories i))
  unfolding map_option chunk
  directory-past i h =
      let l : length (spanned_of s w u.directories.base u.directories.count) ≤ i = rw spanned-length h in
      record { is = rw (listed i, at_none (spanned_of s w u.directories.base u.directories.count) i l); within = no_span-in s }

  module _ (i : ℕ) (h : i < u.directories.count) (a : Span) (ea : a ≡ span_of (chunk w (u.directories.base + i * 8) 8)) where
    directory-here : DirectoryIn s a
    directory-here = rw ea (U.spans i h)

    pub flag_read : a.start + 1 ≤ length s
    flag_read = omega (arith, directory-here.within, directory-here.flagged)

    pub flag-before : 1 ≤ a.len
    flag-before = directory-here.flagged

    spanned_here : at (spanned_of s w u.directories.base u.directories.count) i ≡ some (span_in s a)
    unfolding spanned_of chunk
    spanned_here =
        let f : List ℕ → List ℕ = λ b. span_in s (span_of b) in
        let n = u.directories.count in
        at_some (records f 8 w u.directories.base n) i [] (rw (records-length f 8 w u.directories.base n) h)
        ∙ ap (λ (x : List ℕ). some x) (records-at f 8 w u.directories.base n i [] h ∙ ap (span_in s) (sym ea))

    module _ (f : ℕ) (ef : f ≡ le_at 1 s a.start) where
      read_is : read_directory (at (unit_here s u.place).directories i) ≡ cond (eqb f 1) (refused 6) (done (span_in s (record { start = a.start + 1; len = a.len - 1 })))
      unfolding map_option directory_of chunk
      read_is =
          let d = directory-here.flagged in
          rw (listed i, spanned_here, number-first s a.start a.len 1 f d ef, drop_part s a.start a.len 1)

      pub directory-failed : f ≡ 1 → Reads s (Err Refusal.Decoder) (read_directory (at (unit_here s u.place).directories i))
      directory-failed e = record { is = rw (read_is, eq-eqb f 1 e); within = tt }

      pub directory-path : (f ≡ 1 → ⊥) → Reads s (Ok (record { start = a.start + 1; len = a.len - 1 })) (read_directory (at (unit_here s u.place).directories i))
      directory-path e =
          let d = directory-here in
          record { is = rw (read_is, ne_eqb f 1 e); within = record { within = omega (arith, d.within, d.flagged); short = omega (arith, d.flagged, d.short) } }

  -- ---- the directory of a number

  -- what is read for a place, or for none
  abbrev read_counted : Option ℕ → Outcome (List ℕ)
  read_counted None = done []
  read_counted (Some k) = read_directory (at (unit_here s u.place).directories k)

  counted_is : (n : ℕ) → named_directory (unit_here s u.place) u.version n ≡ read_counted (counted_from u.version n)
  unfolding named_directory counted_from
  counted_is n = go (leb u.version 4) (eqb n 0) refl refl
    where
      go : (b c : Bool) → leb u.version 4 ≡ b → eqb n 0 ≡ c → named_directory (unit_here s u.place) u.version n ≡ read_counted (counted_from u.version n)
      go true c e z = rw (e, lt-ltb u.version 5 (omega (arith, leb-true u.version 4 e)), z) (sides c)
        where
          sides : (c : Bool) → cond c (done []) (read_counted (Some (n - 1))) ≡ read_counted (cond c None (Some (n - 1)))
          sides true = refl
          sides false = refl
      go false c e z = rw (e, le-ltb u.version 5 (omega (arith, leb-false u.version 4 e)))

  module _ (n : ℕ) where
    pub named-none : None ≡ counted_from u.version n → Reads s (Ok (record { start = 0; len = 0 })) (named_directory (unit_here s u.place) (header_here s u.place).version n)
    unfolding chunk
    named-none e = record { is = rw (← U.version, counted_is n, ← e); within = no_span-in s }

    pub named-some : (k : ℕ) (r : Result Span Refusal) → Some k ≡ counted_from u.version n → Reads s r (read_directory (at (unit_here s u.place).directories k))
        → Reads s r (named_directory (unit_here s u.place) (header_here s u.place).version n)
    named-some k r e R = rw (← U.version, counted_is n, ← e) R

-- ---- the compilation directory before it

module _ (s : List ℕ) (version : ℕ) (a : Span) (n : ℕ) (d : Span) (b : Bool) (eb : b ≡ needs_compilation version n (span_in s d)) where
  pub before-none : b ≡ false → Before s version a n d (record { start = 0; len = 0 })
  unfolding chunk
  before-none t = record { is = rw (← eb, t); string = no_span-in s }

-- ---- a file with a relative path

module _ {s : List ℕ} {u : FileUnit} (n : ℕ) (parts : PathParts) where
  pub relative-failed : {e : Refusal} → Reads s (Err e) (named_directory (unit_here s u.place) (header_here s u.place).version n) → Relative s u n parts (Err e)
  unfolding relative_entry ◌>>=◌
  relative-failed R = record { is = rw (← R.is); within = tt }

  pub relative-found : {w : List ℕ} (d c : Span) → Reads s (Ok d) (named_directory (unit_here s u.place) (header_here s u.place).version n) → FileUnitIn s w u
      → Before s u.version u.compilation n d c → SpanIn s parts.own → SpanIn s parts.base
      → Relative s u n parts (Ok (Some (record { compilation = c; directory = d; own = parts.own; base = parts.base })))
  unfolding relative_entry ◌>>=◌ file_in joined_directory
  relative-found d c R U B own base = record {
    is = rw (← R.is, ← U.version, ← U.compilation, B.is);
    within = record { compilation = B.string; directory = R.within; own = own; base = base };
  }

-- ---- a file

empty_is : (l : List ℕ) → length l ≡ 0 → is_empty l ≡ true
empty_is [] h = refl
empty_is (x ∷ l) h = absurd (omega arith)

empty_not : (l : List ℕ) → (length l ≡ 0 → ⊥) → is_empty l ≡ false
empty_not [] h = absurd (h refl)
empty_not (x ∷ l) h = refl

append-alone : (l : List ℕ) → append_path (append_path [] []) l ≡ l
unfolding append_path
append-alone [] = refl
append-alone (b ∷ l) = refl

module _ (s : List ℕ) (u : FileUnit) (file : Span) (long : 9 ≤ file.len) (f : ℕ) (ef : f ≡ le_at 1 s file.start) where
  abbrev path : Span
  path = record { start = file.start + 9; len = file.len - 9 }

  file-is : ◌≡◌ {A = HeaderFile} (file_of (span_in s file)) (record { failed = eqb f 1; directory = le_at 8 s (file.start + 1); path = span_in s path })
  unfolding file_of chunk
  file-is =
      let number : le_at 8 (take file.len (drop file.start s)) 1 ≡ le_at 8 s (file.start + 1) = number_at s file.start file.len 8 1 (le_at 8 s (file.start + 1)) (omega arith) refl in
      rw (number-first s file.start file.len 1 f (omega arith) ef, number, drop_part s file.start file.len 9)

  pub pieced-failed : f ≡ 1 → Pieced s u file (Err Refusal.Decoder)
  unfolding file_entry
  pieced-failed e = record { is = rw (file-is, eq-eqb f 1 e); within = tt }

  module _ (parts : PathParts) (good : f ≡ 1 → ⊥) (P : PartsIn s (record { start = file.start + 9; len = file.len - 9 }) parts) where
    base-length : length (basename_of (span_in s path)) ≡ parts.base.len
    base-length = ap length (sym P.base) ∙ chunk-length s parts.base.start parts.base.len P.base-in.within

    pub pieced-unnamed : parts.base.len ≡ 0 → Pieced s u file (Ok None)
    unfolding file_entry
    pieced-unnamed e = record { is = rw (file-is, ne_eqb f 1 good, empty_is (basename_of (span_in s path)) (base-length ∙ e)); within = tt }

    module _ (some-name : parts.base.len ≡ 0 → ⊥) (b : Bool) (eb : b ≡ is_absolute (span_in s (record { start = file.start + 9; len = file.len - 9 }))) where
      named : is_empty (basename_of (span_in s path)) ≡ false
      named = empty_not (basename_of (span_in s path)) (λ e. some-name (sym base-length ∙ e))

      pub pieced-absolute : b ≡ true
          → Pieced s u file (Ok (Some (record { compilation = record { start = 0; len = 0 }; directory = record { start = 0; len = 0 }; own = parts.own; base = parts.base })))
      unfolding file_entry file_in chunk
      pieced-absolute t = record {
        is = rw (file-is, ne_eqb f 1 good, named, ← eb, t, append-alone (span_in s parts.own), P.own, P.base);
        within = record { compilation = no_span-in s; directory = no_span-in s; own = P.own_in; base = P.base-in };
      }

      pub pieced-relative : (n : ℕ) (r : Result (Option FilePieces) Refusal) → b ≡ false → n ≡ le_at 8 s (file.start + 1) → Relative s u n parts r → Pieced s u file r
      unfolding file_entry relative_entry
      pieced-relative n r t en Q = record {
        is = rw (file-is, ne_eqb f 1 good, named, ← eb, t, ← en, ← P.own, ← P.base) Q.is;
        within = Q.within;
      }
