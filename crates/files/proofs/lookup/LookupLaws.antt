-- A file's number is looked up in the table: the unit's n-th file, its place in the table, and before version 5 no file 0.
use Prim.Native.Nat.{ℕ, zero, suc, ◌+◌, ◌-◌, ◌<◌}
use native.Mathlib.Omega.{arith}
use mathlib.Core.Path.{◌≡◌, refl, sym, ap, ◌∙◌}
use mathlib.Core.Bool.{Bool, true, false}
use mathlib.Core.List.{List, [], ◌∷◌, map}
use mathlib.Core.Option.{Option, none, some}
use lib.Dec.{leb}
use borrow.Author.Tests.{ne_eqb}
use lib.ListN.{length, drop}
use Rattle.tlv.specs.declared.model.FileIndex.{FileIndex}
use Rattle.std.specs.Prelude.{Some, None, Result, Ok, Err}
use Rattle.std.specs.Prelude as std
use Rattle.std.specs.Result.{result_ok}
use Rattle.std.proofs.lemmas.Option.{none-some, same_Some}
use Rattle.tlv.specs.declared.refusal.Refusal.{Refusal}
use Rattle.tlv.specs.declared.fields.FieldSpan.{FieldSpan}
use Rattle.tlv.specs.Outcome.{done}
use Rattle.tlv.specs.Lists.{at, map_option}
use Rattle.tlv.specs.Fields.{fields, payloads}
use Rattle.tlv.specs.Cursor.{step_at}
use Rattle.tlv.specs.Checked.{Placed}
use Rattle.tlv.specs.Model.{CompilationUnit, LineHeader, HeaderFile, file_of}
use Rattle.tlv.proofs.ListLaws.{at-image}
use Rattle.buffers.specs.Table.{chunk}
use Rattle.buffers.specs.Output.{FileEntry}
use Rattle.buffers.proofs.TableLaws.{kept_refl, kept-wide}
use Rattle.access.specs.Places.{own_fields, unit_here}
use Rattle.access.specs.Access.{NextOwn}
use Rattle.access.proofs.OwnLaws.{own-placed}
use Rattle.access.proofs.UnitFacts.{unit-files}
use Rattle.paths.specs.Paths.{file_entry}
use Rattle.lines.specs.Files.{FileTable, file_index, place_of, get}
use Rattle.files.specs.declared.index.FileNumber.{FileNumber}
use Rattle.files.specs.declared.pieces.FilePieces.{FilePieces}
use Rattle.files.specs.declared.spans.FileUnit.{FileUnit}
use Rattle.files.specs.declared.store.StoredFiles.{StoredFiles}
use Rattle.files.specs.declared.store.LaidHash.{LaidHash}
use Rattle.files.specs.Pieces.{span_in, file_in, header_here, counted_from, UnitPlaced, FileUnitIn, named_of, Pieced}
use Rattle.files.specs.Store.{scratch_from, extent, entries_of, table_of, FilesIn, LaidAt, found_of}
use Rattle.files.specs.Indices.{number_of}
use Rattle.files.specs.Reached.{number_in, reached_indices, own_file, NthFile, Found, nth_number, LookedUp}
use Rattle.files.proofs.InterningLaws.{file-span}
use Rattle.files.proofs.AddedLaws.{laid-files, table-laid}

-- ---- the n-th field of a file

abbrev payloads_from : List ℕ → ℕ → List (List ℕ)
payloads_from s p = payloads 0x15 (own_fields (fields (drop p s)))

-- the file that is looked for has the number `left` among those from place q on
pub record Passing (s : List ℕ) (p n q left : ℕ) : Type 0 where
  pub placed : Placed s q
  pub same : at (payloads_from s p) n ≡ at (payloads_from s q) left

pub passing-start : {s : List ℕ} {p : ℕ} (n : ℕ) → Placed s p → Passing s p n p n
passing-start n h = record { placed = h; same = refl }

at_next : (x : List ℕ) (xs : List (List ℕ)) (n : ℕ) → 0 < n → at (x ∷ xs) n ≡ at xs (n - 1)
unfolding at
at_next x xs zero h = absurd (omega arith)
at_next x xs (suc n) h = let z : suc n - 1 ≡ n = omega arith in rw z

module _ {s : List ℕ} {p n q left : ℕ} (J : Passing s p n q left) where
  pub passing-over : NextOwn s q 0x15 None → NthFile s p n None
  unfolding at
  passing-over own = record { is = sym (J.same ∙ rw (← own.is)); within = tt }

  module _ {f : FieldSpan} (own : NextOwn s q 0x15 (Some f)) where
    first-is : payloads_from s q ≡ span_in s (record { start = f.start; len = f.len }) ∷ payloads_from s f.next
    unfolding chunk
    first-is = rw (← own.is)

    pub passing-found : left ≡ 0 → NthFile s p n (Some f)
    unfolding at
    passing-found z = record { is = sym (J.same ∙ rw (z, first-is)); within = file-span own J.placed }

    pub passing-next : (left ≡ 0 → ⊥) → Passing s p n f.next (left - 1)
    passing-next ne = record {
      placed = own-placed s q 0x15 f own J.placed;
      same = J.same ∙ rw first-is (at_next (span_in s (record { start = f.start; len = f.len })) (payloads_from s f.next) left (omega arith));
    }

-- ---- the place of a file

-- the number of e, whose place was looked up as e₁'s
pub numbered-place : (main supplementary w : List ℕ) (t : StoredFiles) {e e₁ : FileEntry} (f : std.Option ℕ) → e₁ ≡ e → found_of f ≡ place_of e₁ (entries_of main supplementary w t)
    → map_option (λ k. file_index (t.first + k)) (found_of f) ≡ number_in (table_of main supplementary w t) (done (some e))
unfolding table_of
numbered-place main supplementary w t f q is = ap (map_option (λ k. file_index (t.first + k))) (is ∙ λ j. place_of (q j) (entries_of main supplementary w t))

-- what is found where only the scratch was written
pub found-laid : {main supplementary w w₁ : List ℕ} {t : StoredFiles} {e : FileEntry} {l : LaidHash} {at : ℕ} {r : std.Option FileIndex} → FilesIn main supplementary w t
    → at ≡ scratch_from t → LaidAt w w₁ at e l → length w₁ ≡ length w → number_of r ≡ number_in (table_of main supplementary w₁ t) (done (some e))
    → Found main supplementary w w₁ t (number_in (table_of main supplementary w t) (done (some e))) r
found-laid {t = t} {e} F ea L size is = record {
  is = is ∙ ap (λ (x : FileTable). number_in x (done (some e))) (table-laid F ea L);
  same = table-laid F ea L;
  holds = laid-files F ea L size;
  rest = kept-wide t.base (extent t) L.rest (omega arith) (omega arith);
}

-- ---- the number of the n-th file

-- nothing is found where nothing was written
found_none : {main supplementary w : List ℕ} {t : StoredFiles} {o : Option FileIndex} → FilesIn main supplementary w t → o ≡ none → Found main supplementary w w t o None
found_none {w = w} {t = t} F e = record { is = sym e; same = refl; holds = F; rest = kept_refl w t.base (extent t) }

-- the number of a file that may not be there
abbrev number_at : CompilationUnit → LineHeader → FileTable → Option HeaderFile → Option FileIndex
number_at u h t none = none
number_at u h t (some f) = number_in t (file_entry u h f)

nth-is : (u : CompilationUnit) (h : LineHeader) (t : FileTable) (n : ℕ) → nth_number u h t n ≡ number_at u h t (at u.files n)
unfolding nth_number at get
nth-is u h t n = go u.files n
  where
    go : (fs : List HeaderFile) (k : ℕ) → get (map (λ f. number_in t (file_entry u h f)) fs) k ≡ number_at u h t (at fs k)
    go [] k = refl
    go (f ∷ fs) zero = refl
    go (f ∷ fs) (suc k) = go fs k

module _ {s : List ℕ} {p n : ℕ} {r : std.Option FieldSpan} (U : UnitPlaced s p) (N : NthFile s (p + 21) n r) where
  -- the unit's file by what was found
  file-is : at (unit_here s p).files n ≡ map_option file_of (own_file s r)
  file-is =
      ap (λ (fs : List HeaderFile). at fs n) (unit-files s p (step_at s p) 0x10 (p + 3) 18 (p + 21) refl U.is)
      ∙ at-image file_of (payloads_from s (p + 21)) n ∙ ap (map_option file_of) (sym N.is)

  number_is : (t : FileTable) → nth_number (unit_here s p) (header_here s p) t n ≡ number_at (unit_here s p) (header_here s p) t (map_option file_of (own_file s r))
  number_is t = nth-is (unit_here s p) (header_here s p) t n ∙ ap (number_at (unit_here s p) (header_here s p) t) file-is

pub nth-missing : {main supplementary w s : List ℕ} {p n : ℕ} {t : StoredFiles} → UnitPlaced s p → NthFile s (p + 21) n None → FilesIn main supplementary w t
    → Found main supplementary w w t (nth_number (unit_here s p) (header_here s p) (table_of main supplementary w t) n) None
unfolding map_option
nth-missing {main} {supplementary} {w} {t = t} U N F = found_none F (number_is U N (table_of main supplementary w t))

-- the value that a result keeps
pub is-ok : {A : Type 0} (m : Result A Refusal) (v : A) → Some v ≡ result_ok m → m ≡ Ok v
is-ok (Ok x) v e = ap Ok (same_Some x v (sym e))
is-ok (Err x) v e = absurd (none-some v (sym e))

module _ {s : List ℕ} {u : FileUnit} {n : ℕ} {f : FieldSpan} (U : UnitPlaced s u.place) (N : NthFile s (u.place + 21) n (Some f)) where
  named-is : {m : Result (std.Option FilePieces) Refusal} → Pieced s u (record { start = f.start; len = f.len }) m → (t : FileTable)
      → nth_number (unit_here s u.place) (header_here s u.place) t n ≡ number_in t (named_of s m)
  unfolding map_option
  named-is P t = number_is U N t ∙ rw (← P.is)

  module _ {main supplementary w : List ℕ} {t : StoredFiles} where
    pub nth-failed : (m : Result (std.Option FilePieces) Refusal) → Pieced s u (record { start = f.start; len = f.len }) m → None ≡ result_ok m
        → FilesIn main supplementary w t
        → Found main supplementary w w t (nth_number (unit_here s u.place) (header_here s u.place) (table_of main supplementary w t) n) None
    nth-failed (Ok v) P e F = absurd (none-some v e)
    nth-failed (Err x) P e F = found_none F (named-is P (table_of main supplementary w t))

    pub nth-unnamed : Pieced s u (record { start = f.start; len = f.len }) (Ok None) → FilesIn main supplementary w t
        → Found main supplementary w w t (nth_number (unit_here s u.place) (header_here s u.place) (table_of main supplementary w t) n) None
    nth-unnamed P F = found_none F (named-is P (table_of main supplementary w t))

    pub nth-pieces : {w' : List ℕ} {p : FilePieces} {x : std.Option FileIndex} → Pieced s u (record { start = f.start; len = f.len }) (Ok (Some p))
        → Found main supplementary w w' t (number_in (table_of main supplementary w t) (done (some (file_in s p)))) x
        → Found main supplementary w w' t (nth_number (unit_here s u.place) (header_here s u.place) (table_of main supplementary w t) n) x
    nth-pieces P A = record { is = A.is ∙ sym (named-is P (table_of main supplementary w t)); same = A.same; holds = A.holds; rest = A.rest }

-- ---- the number of one of DWARF's

-- the number of the file at a place, or of none
abbrev counted_number : CompilationUnit → LineHeader → FileTable → std.Option ℕ → Option FileIndex
counted_number u h t None = none
counted_number u h t (Some k) = nth_number u h t k

reached-is : (u : CompilationUnit) (h : LineHeader) (t : FileTable) (n : ℕ) → get (reached_indices u h t) n ≡ counted_number u h t (counted_from h.version n)
unfolding reached_indices counted_from nth_number get
reached-is u h t n = go (leb h.version 4) n refl
  where
    go : (b : Bool) (n : ℕ) → leb h.version 4 ≡ b → get (reached_indices u h t) n ≡ counted_number u h t (counted_from h.version n)
    go true zero e = rw e
    go true (suc n) e = let z : suc n - 1 ≡ n = omega arith in rw (e, ne_eqb (suc n) 0 (λ z. absurd (omega arith)), z)
    go false n e = rw e

module _ {w s : List ℕ} {u : FileUnit} (U : FileUnitIn s w u) where
  looked-is : (T : FileTable) (n : ℕ) {o : std.Option ℕ} → o ≡ counted_from u.version n
      → get (reached_indices (unit_here s u.place) (header_here s u.place) T) n ≡ counted_number (unit_here s u.place) (header_here s u.place) T o
  looked-is T n e = rw (e, U.version) (reached-is (unit_here s u.place) (header_here s u.place) T n)

  pub looked-none : {main supplementary : List ℕ} {t : StoredFiles} {number : FileNumber} → FilesIn main supplementary w t → None ≡ counted_from u.version number.0 → LookedUp main supplementary w w t s u number None
  looked-none {main} {supplementary} {t} {number} F e = record { is = sym (looked-is (table_of main supplementary w t) number.0 e); same = refl; holds = F; rest = kept_refl w t.base (extent t) }

  -- looked up in the sheet of the unit's source
  pub looked-some : {main supplementary w' s' : List ℕ} {t : StoredFiles} {number : FileNumber} {r : std.Option FileIndex} (k : ℕ) → s' ≡ s → Some k ≡ counted_from u.version number.0
      → Found main supplementary w w' t (nth_number (unit_here s' u.place) (header_here s' u.place) (table_of main supplementary w t) k) r → LookedUp main supplementary w w' t s u number r
  looked-some {main} {supplementary} {t = t} {number = number} k e c A = record { is = (rw e at A.is) ∙ sym (looked-is (table_of main supplementary w t) number.0 c); same = A.same; holds = A.holds; rest = A.rest }
