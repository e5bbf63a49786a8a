-- The files of a unit's header join the table in order: the turns of the loop over them, and the unit's map in the end.
use Prim.Native.Nat.{ℕ, ◌+◌, ◌*◌, ◌≤◌, ◌<◌, ◌^◌}
use native.Mathlib.Omega.{arith}
use mathlib.Core.Path.{◌≡◌, refl, sym, ap, subst, ◌∙◌}
use mathlib.Core.Logic.{inl, inr, ⊎_elim}
use mathlib.Core.List.{List, [], ◌∷◌, ◌++◌, map, append-nil, append_assoc}
use mathlib.Core.Option.{Option, none, some}
use lib.ListN.{length, drop}
use Rattle.tlv.specs.declared.model.FileIndex.{FileIndex}
use Rattle.std.specs.Prelude.{Some, None, Result, Ok, Err}
use Rattle.std.specs.Prelude as std
use Rattle.tlv.specs.declared.refusal.Refusal.{Refusal}
use Rattle.tlv.specs.Refusals as refusals
use Rattle.tlv.specs.declared.fields.FieldSpan.{FieldSpan}
use Rattle.files.specs.declared.store.AddedFile.{AddedFile}
use Rattle.tlv.specs.Outcome.{Outcome, refused, done, ◌>>=◌}
use Rattle.tlv.specs.Lists.{Any}
use Rattle.tlv.specs.Fields.{fields, payloads}
use Rattle.tlv.specs.Cursor.{step_at}
use Rattle.tlv.specs.Checked.{Placed}
use Rattle.tlv.specs.Model.{CompilationUnit, LineHeader, HeaderFile, file_of}
use Rattle.tlv.proofs.PlacePromises.{placed-file, placed-file-string}
use Rattle.tlv.specs.declared.model.DebugSource.{DebugSource}
use Rattle.buffers.specs.declared.table.Stored.{Stored}
use Rattle.buffers.specs.Buffer.{top}
use Rattle.buffers.specs.Table.{chunk, KeptBut}
use Rattle.buffers.proofs.TableLaws.{but_refl, but_trans}
use Rattle.buffers.proofs.RecordLaws.{records-suc, records-but}
use Rattle.access.specs.Places.{own_fields, unit_here}
use Rattle.access.specs.Access.{NextOwn}
use Rattle.access.proofs.OwnLaws.{own-within, own-field, own-placed}
use Rattle.access.proofs.UnitFacts.{unit-files}
use Rattle.lines.specs.Files.{FileTable, FileIndices, intern_file, Indexed, intern_files}
use Rattle.files.specs.declared.spans.Span.{Span}
use Rattle.files.specs.declared.spans.FileUnit.{FileUnit}
use Rattle.files.specs.declared.store.StoredFiles.{StoredFiles}
use Rattle.files.specs.Pieces.{source_in, span_in, header_here, UnitPlaced, FileUnitIn, FileSpanIn}
use Rattle.files.specs.Possible.{with_zero}
use Rattle.files.specs.Store.{extent, table_of, FilesIn, Grown}
use Rattle.files.specs.Indices.{index_of, indices_of}
use Rattle.files.specs.Interns.{OfUnit, InternsAt, MapRoom, with_indices, InternsFiles}
use Rattle.files.proofs.UnitLaws.{unit-next, unit-within}
use Rattle.files.proofs.RoomLaws.{source-small}
use Rattle.files.proofs.GrownLaws.{unit_kept, grown-none, grown-trans}

-- ---- the files from a place on

unfoldable pub files_from : List ℕ → ℕ → List HeaderFile
files_from s p = map file_of (payloads 0x15 (own_fields (fields (drop p s))))

files-of_unit : (s : List ℕ) (p : ℕ) → UnitPlaced s p → (unit_here s p).files ≡ files_from s (p + 21)
unfolding files_from
files-of_unit s p U = unit-files s p (step_at s p) 0x10 (p + 3) 18 (p + 21) refl U.is

-- the place behind the unit's field
pub place-small : {main supplementary w s : List ℕ} {t : StoredFiles} → FilesIn main supplementary w t → (source : DebugSource) → s ≡ source_in main supplementary source → (p : ℕ) → UnitPlaced s p → p + 21 < 2 ^ 32
place-small {s = s} F source e p U =
    let l : length s < 2 ^ 32 = source-small source F e in
    omega (arith, unit-within U)

abbrev spanned : ℕ → ℕ → Span
spanned start len = record { start = start; len = len }

module _ {s : List ℕ} {p : ℕ} where
  files-over : NextOwn s p 0x15 None → files_from s p ≡ []
  unfolding files_from
  files-over own = rw (← own.is)

  module _ {f : FieldSpan} (own : NextOwn s p 0x15 (Some f)) where
    files-first : files_from s p ≡ file_of (span_in s (spanned f.start f.len)) ∷ files_from s f.next
    unfolding files_from chunk
    files-first = rw (← own.is)

    -- its payload is one of a file
    pub file-span : Placed s p → FileSpanIn s (spanned f.start f.len)
    file-span h =
        let x = own-field s p 0x15 f own h in
        let w = own-within s p 0x15 f own in
        let short = placed-file-string s x.place (step_at s x.place) 0x15 f.start f.len f.next x.here refl x.is refl in
        let long = placed-file s x.place (step_at s x.place) 0x15 f.start f.len f.next x.here refl x.is refl in
        record { within = w.0; numbered = long; short = omega arith }

-- ---- one file more, on the definitions

join_more : (x : Outcome Indexed) (o : Option FileIndex) (is : FileIndices) → ((x >>= λ r. done (record { table = r.table; indices = o ∷ r.indices })) >>= with_indices is) ≡ (x >>= with_indices (is ++ (o ∷ [])))
unfolding ◌>>=◌
join_more (refused n) o is = refl
join_more (done r) o is = ap (λ (l : FileIndices). done (record { table = r.table; indices = l })) (sym (append_assoc is (o ∷ []) r.indices))

module _ (u : CompilationUnit) (h : LineHeader) (t : FileTable) (f : HeaderFile) (fs : List HeaderFile) (is : FileIndices) where
  intern_more : (t' : FileTable) (o : Option FileIndex) → done (record { table = t'; number = o }) ≡ intern_file u h t f
      → (intern_files u h t (f ∷ fs) >>= with_indices is) ≡ (intern_files u h t' fs >>= with_indices (is ++ (o ∷ [])))
  unfolding intern_files ◌>>=◌
  intern_more t' o e = rw (← e) (join_more (intern_files u h t' fs) o is)

  intern-refused : (k : ℕ) → refused k ≡ intern_file u h t f → refused k ≡ (intern_files u h t (f ∷ fs) >>= with_indices is)
  unfolding intern_files ◌>>=◌
  intern-refused k e = rw (← e)

intern_over : (u : CompilationUnit) (h : LineHeader) (t : FileTable) (is : FileIndices) → (intern_files u h t [] >>= with_indices is) ≡ done (record { table = t; indices = is })
unfolding intern_files ◌>>=◌
intern_over u h t is = rw append-nil

-- the table after a file: it is as it was where the file has no path
abbrev pub grown_table : StoredFiles → std.Option AddedFile → StoredFiles
grown_table t None = t
grown_table t (Some a) = a.table

-- ---- the loop: n records of the map are written, n₀ of them before it, and the files from p on are left

pub record Interning (main supplementary w₀ w files₀ files : List ℕ) (t₀ t : StoredFiles) (s : List ℕ) (u : FileUnit) (base n₀ n p : ℕ) : Type 0 where
  pub placed : Placed s p
  pub left : (intern_files (unit_here s u.place) (header_here s u.place) (table_of main supplementary w₀ t₀) (unit_here s u.place).files >>= with_indices (indices_of w₀ base n₀))
      ≡ (intern_files (unit_here s u.place) (header_here s u.place) (table_of main supplementary w t) (files_from s p) >>= with_indices (indices_of w base n))
  pub grown : Grown main supplementary w₀ w files₀ files t₀ t
  pub unit : FileUnitIn s w u
  pub room : MapRoom s w t u base
  pub count : n + length (files_from s p) ≡ n₀ + length (unit_here s u.place).files
  pub few : n₀ ≤ 1
  pub listed : (f : HeaderFile) → Any (λ x. f ≡ x) (files_from s p) → Any (λ x. f ≡ x) (with_zero (unit_here s u.place).file_zero (unit_here s u.place).files)
  pub rest : KeptBut w₀ w ((t₀.base, extent t₀) ∷ (base, 5 * (1 + length (unit_here s u.place).files)) ∷ [])
  pub size : length w ≡ length w₀
  pub files-size : length files ≡ length files₀

any_zero : (o : Option HeaderFile) (fs : List HeaderFile) (f : HeaderFile) → Any (λ x. f ≡ x) fs → Any (λ x. f ≡ x) (with_zero o fs)
any_zero none fs f a = a
any_zero (some x) fs f a = inr a

pub interning-start : {main supplementary w files : List ℕ} {t : StoredFiles} {s : List ℕ} {u : FileUnit} {base n : ℕ} → FilesIn main supplementary w t → FileUnitIn s w u → UnitPlaced s u.place
    → MapRoom s w t u base → n ≤ 1 → length files < top → Interning main supplementary w w files files t t s u base n n (u.place + 21)
interning-start {main} {supplementary} {w} {files} {t} {s} {u} {base} {n} F U P M few k =
    let e : (unit_here s u.place).files ≡ files_from s (u.place + 21) = files-of_unit s u.place P in
    record {
      placed = unit-next P;
      left = ap (λ (fs : List HeaderFile). intern_files (unit_here s u.place) (header_here s u.place) (table_of main supplementary w t) fs >>= with_indices (indices_of w base n)) e;
      grown = grown-none F k;
      unit = U;
      room = M;
      count = ap (λ (fs : List HeaderFile). n + length fs) (sym e);
      few = few;
      listed = λ f a. any_zero (unit_here s u.place).file_zero (unit_here s u.place).files f (subst (λ (fs : List HeaderFile). Any (λ x. f ≡ x) fs) (sym e) a);
      rest = but_refl w _;
      size = refl;
      files-size = refl;
    }

module _ {main supplementary w₀ w files₀ files : List ℕ} {t₀ t : StoredFiles} {s : List ℕ} {u : FileUnit} {base n₀ n p : ℕ}
    (J : Interning main supplementary w₀ w files₀ files t₀ t s u base n₀ n p) where
  pub interning_over : {m : Stored FileIndex} → m.base ≡ base → m.count ≡ n → NextOwn s p 0x15 None
      → InternsFiles main supplementary w₀ w files₀ files t₀ s u base n₀ (Ok (record { table = t; map = m }))
  interning_over from many own =
      let none_left : length (files_from s p) ≡ 0 = ap length (files-over own) in
      let count = J.count in
      let few = J.few in
      record {
        is = rw many (sym (J.left ∙ rw (files-over own) (intern_over (unit_here s u.place) (header_here s u.place) (table_of main supplementary w t) (indices_of w base n))));
        after = (J.grown, (from, omega arith));
        rest = J.rest;
      }

  module _ {f : FieldSpan} (own : NextOwn s p 0x15 (Some f)) where
    one_more : length (files_from s p) ≡ 1 + length (files_from s f.next)
    one_more = let first = ap length (files-first own) in omega arith

    pub file-within : FileSpanIn s (spanned f.start f.len)
    file-within = file-span own J.placed

    pub file_of-unit : OfUnit s u.place (spanned f.start f.len)
    file_of-unit = record { listed = J.listed (file_of (span_in s (spanned f.start f.len))) (subst (λ (fs : List HeaderFile). Any (λ x. file_of (span_in s (spanned f.start f.len)) ≡ x) fs) (sym (files-first own)) (inl refl)) }

    -- there is room for its number, past the table
    pub file-room : (t.base + extent t ≤ base + n * 5) × (base + n * 5 + 5 ≤ length w)
    file-room =
        let room = J.room in
        let count = J.count in
        let few = J.few in
        (omega arith, omega (arith, one_more))

    module _ {w' files' : List ℕ} {q : Result (std.Option AddedFile) Refusal} (A : InternsAt main supplementary w w' files files' t s u (spanned f.start f.len) (base + n * 5) q) where
      wide : KeptBut w w' ((t₀.base, extent t₀) ∷ (base, 5 * (1 + length (unit_here s u.place).files)) ∷ [])
      wide =
          let G = J.grown in
          let count = J.count in
          let few = J.few in
          let long = one_more in
          record { same = λ a k c. A.rest.same a k (rw (G.base, G.room) c.0, (⊎_elim (λ l. inl (omega arith)) (λ l. inr (omega arith)) c.1.0, tt)) }

      module _ (size : length w' ≡ length w) (files-size : length files' ≡ length files) where
        step : (t' : StoredFiles) (o : Option FileIndex)
            → done (record { table = table_of main supplementary w' t'; number = o }) ≡ intern_file (unit_here s u.place) (header_here s u.place) (table_of main supplementary w t) (file_of (span_in s (spanned f.start f.len)))
            → Grown main supplementary w w' files files' t t' → index_of (chunk w' (base + n * 5) 5) ≡ o → Interning main supplementary w₀ w' files₀ files' t₀ t' s u base n₀ (n + 1) f.next
        unfolding indices_of
        step t' o is G number =
            let room = J.room in
            let count = J.count in
            let few = J.few in
            let first = files-first own in
            let long = one_more in
            let pushed : indices_of w' base (n + 1) ≡ indices_of w base n ++ (o ∷ []) =
            records-suc index_of 5 w' base n ∙ (λ i. records-but index_of 5 base n A.rest (inr (omega arith), (inl (omega arith), tt)) i ++ (number i ∷ [])) in
            record {
              placed = own-placed s p 0x15 f own J.placed;
              left = J.left ∙ rw (first, pushed) (intern_more (unit_here s u.place) (header_here s u.place) (table_of main supplementary w t) (file_of (span_in s (spanned f.start f.len))) (files_from s f.next)
                  (indices_of w base n) (table_of main supplementary w' t') o is);
              grown = grown-trans J.grown G;
              unit = unit_kept J.unit A.rest (inr (omega arith), (inl (omega arith), tt)) size;
              room = record { table = rw (G.base, G.room) room.table; directories = room.directories; map = rw size room.map };
              count = omega arith;
              few = few;
              listed = λ f a. J.listed f (subst (λ (fs : List HeaderFile). Any (λ x. f ≡ x) fs) (sym first) (inr a));
              rest = but_trans J.rest wide;
              size = size ∙ J.size;
              files-size = files-size ∙ J.files-size;
            }

    module _ {w' files' : List ℕ} where
      pub interning-refused : {e : Refusal} → InternsAt main supplementary w w' files files' t s u (spanned f.start f.len) (base + n * 5) (Err e)
          → InternsFiles main supplementary w₀ w' files₀ files' t₀ s u base n₀ (Err e)
      interning-refused {e} A = record {
        is = intern-refused (unit_here s u.place) (header_here s u.place) (table_of main supplementary w t) (file_of (span_in s (spanned f.start f.len)))
            (files_from s f.next) (indices_of w base n) (refusals.number_of e) A.is ∙ sym (J.left ∙ rw (files-first own));
        after = tt;
        rest = but_trans J.rest (wide A);
      }

      pub interning_turn : (o : std.Option AddedFile) → InternsAt main supplementary w w' files files' t s u (spanned f.start f.len) (base + n * 5) (Ok o)
          → length w' ≡ length w → length files' ≡ length files → Interning main supplementary w₀ w' files₀ files' t₀ (grown_table t o) s u base n₀ (n + 1) f.next
      interning_turn None A size files-size = step A size files-size t none A.is A.after A.number
      interning_turn (Some a) A size files-size = step A size files-size a.table (some a.number) A.is A.after A.number
