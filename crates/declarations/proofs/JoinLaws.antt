-- The files of a unit that is reached by a section offset join the table.
use mathlib.Core.Path.{◌≡◌, refl, sym, ap, subst, ◌∙◌}
use mathlib.Core.Bool.{Bool, true, false, true≢false, false≢true}
use mathlib.Core.Logic.{inl, inr, ⊎_elim}
use mathlib.Core.List.{List, ◌∷◌}
use mathlib.Core.Option.{Option, none, some}
use Prim.Native.Nat.{ℕ, suc, ◌+◌, ◌*◌, ◌≤◌, ◌<◌}
use native.Mathlib.Omega.{arith}
use lib.ListN.{length}
use Rattle.tlv.specs.declared.model.DebugSource.{DebugSource}
use Rattle.tlv.specs.Outcome.{Outcome, refused, done}
use Rattle.tlv.specs.Lists.{Any, at, is_none, map_option}
use Rattle.tlv.specs.Fields.{fields}
use Rattle.tlv.specs.Model.{CompilationUnit, LineHeader, units}
use Rattle.buffers.specs.Buffer.{top}
use Rattle.buffers.specs.Table.{KeptBut}
use Rattle.buffers.proofs.TableLaws.{but_one, but_refl, but_trans}
use Rattle.access.specs.Places.{unit_here, unit_places, UnitOf}
use Rattle.access.proofs.UnitPlaceLaws.{units-at}
use Rattle.lines.specs.Files.{FileTable, Indexed, intern_header_files}
use Rattle.files.specs.declared.spans.FileUnit.{FileUnit}
use Rattle.std.specs.Prelude.{Result, Ok, Err}
use Rattle.tlv.specs.declared.refusal.Refusal.{Refusal}
use Rattle.tlv.specs.Refusals.{number_of}
use Rattle.files.specs.declared.header.InternedFiles.{InternedFiles}
use Rattle.files.specs.Pieces.{source_in, or_header, header_here, Described}
use Rattle.files.specs.Store.{table_of}
use Rattle.files.specs.Interns.{Listed, MapRoom, indexed_of, InternsHeader}
use Rattle.files.proofs.GrownLaws.{grown-none, grown-after}
use Rattle.files.proofs.ListedLaws.{listed, listed-supplementary}
use Rattle.files.proofs.ReachedLaws.{interned-reached}
use Rattle.references.specs.Search.{unit_files}
use Rattle.declarations.specs.declared.declaring.Places.{Places}
use Rattle.declarations.specs.declared.declaring.DeclaringState.{DeclaringState}
use Rattle.declarations.specs.Declarations.{reached_files, ReachedUnit, DeclaringIn, lower}
use Rattle.declarations.specs.DeclaredSteps.{UnitKnown, Joins}
use Rattle.declarations.proofs.DeclareFrames.{spans-inside}
use Rattle.declarations.proofs.OwnDeclarationLaws.{described-clear, described-table, described-room, described-rest}

-- one of a list is at a number of it
any_at : {A : Type 0} (a : A) (xs : List A) → Any (λ y. y ≡ a) xs → (k : ℕ) × (at xs k ≡ some a)
unfolding at
any_at {A = A} a mathlib.Core.List.[] x' = elim x' [ ]
any_at a (x ∷ xs) (inl e) = (0, ap some e)
any_at a (x ∷ xs) (inr h) = let r = any_at a xs h in (suc r.0, r.1)

unit-at : (s : List ℕ) (q : ℕ) → UnitOf s q → (k : ℕ) × (at (units s) k ≡ some (unit_here s q))
unfolding map_option
unit-at s q h = let r = any_at q (unit_places 0 (fields s)) h in (r.0, units-at s r.0 ∙ ap (map_option (unit_here s)) r.1)

header-there : (o : Option LineHeader) → is_none o ≡ false → o ≡ some (or_header o)
header-there none e = absurd (true≢false e)
header-there (some h) e = refl

listed_at : (main supplementary : List ℕ) (input : DebugSource) (q : ℕ) → Any (λ y. y ≡ q) (unit_places 0 (fields (source_in main supplementary input)))
    → is_none (unit_here (source_in main supplementary input) q).header ≡ false
    → Listed main supplementary (unit_here (source_in main supplementary input) q) (header_here (source_in main supplementary input) q)
unfolding header_here
listed_at main supplementary DebugSource.Main q h e =
    let r = unit-at main q h in
    listed main supplementary r.0 (unit_here main q) _ r.1 (header-there (unit_here main q).header e)
listed_at main supplementary DebugSource.Supplementary q h e =
    let r = unit-at supplementary q h in
    listed-supplementary main supplementary r.0 (unit_here supplementary q) _ r.1 (header-there (unit_here supplementary q).header e)

-- ---- what a unit's files make of the table

no-files : (u : CompilationUnit) (o : Option LineHeader) (t : FileTable) → is_none o ≡ true → (unit_files u o t ≡ done (record { table = t; indices = reached_files u o t })) × ReachedUnit u o t
no-files u none t e = (refl, tt)
no-files u (some h) t e = absurd (false≢true e)

files-are : (u : CompilationUnit) (o : Option LineHeader) (t : FileTable) (x : Outcome Indexed) → is_none o ≡ false → x ≡ intern_header_files u (or_header o) t → unit_files u o t ≡ x
files-are u none t x e is = absurd (true≢false e)
files-are u (some h) t x e is = sym is

files-reached : (u : CompilationUnit) (o : Option LineHeader) (t : FileTable) (r : Indexed) → is_none o ≡ false → done r ≡ intern_header_files u (or_header o) t
    → (unit_files u o t ≡ done (record { table = r.table; indices = reached_files u o r.table })) × ReachedUnit u o r.table
files-reached u none t r e is = absurd (true≢false e)
files-reached u (some h) t r e is =
    let R = interned-reached u h t r (sym is) in
    (sym is ∙ ap (λ (i : List _). done (record { table = r.table; indices = i })) R.0, R.1)

module _ {main supplementary w : List ℕ} {d : Places} {st : DeclaringState} (D : DeclaringIn main supplementary w d st)
    (input : DebugSource) {q : ℕ} (U : UnitKnown (source_in main supplementary input) q)
    {lacks : Bool} (e : lacks ≡ is_none (unit_here (source_in main supplementary input) q).header) where
  pub joins-none : {files : List ℕ} → length files < top → lacks ≡ true → Joins main supplementary w w files files d st.table (unit_here (source_in main supplementary input) q) (Ok st.table)
  joins-none few so =
      let u = unit_here (source_in main supplementary input) q in
      let n = no-files u u.header (table_of main supplementary w st.table) (sym e ∙ so) in
      record { is = record { is = n.0; reached = n.1; grown = grown-none D.files few }; rest = but_refl _ _ }

  module _ {w₁ : List ℕ} {u : FileUnit} (not_so : lacks ≡ false) (B : Described (source_in main supplementary input) w w₁ input q d.spans u) (size : length w₁ ≡ length w) where
    there : is_none (unit_here (source_in main supplementary input) q).header ≡ false
    there = sym e ∙ not_so

    pub join-listed : Listed main supplementary (unit_here (source_in main supplementary u.source) u.place) (header_here (source_in main supplementary u.source) u.place)
    join-listed = rw (B.source-is, B.place) (listed_at main supplementary input q U.listed there)

    pub join-room : MapRoom (source_in main supplementary u.source) w₁ st.table u (d.spans + u.directories.count * 8)
    join-room =
        let r = described-room D input U e not_so B size in
        let a = D.table in
        let b = D.indices in
        let i = spans-inside D in
        let z = B.directories in
        let m : d.spans + u.directories.count * 8 + 5 * (1 + length (unit_here (source_in main supplementary input) q).files) ≤ length w = omega arith in
        record { table = omega arith; directories = omega arith; map = rw (B.source-is, B.place, size) m }

    module _ {w₂ files files₂ : List ℕ} {r : Result InternedFiles Refusal}
        (I : InternsHeader main supplementary w₁ w₂ files files₂ st.table (source_in main supplementary u.source) u (d.spans + u.directories.count * 8) r) where
      here : InternsHeader main supplementary w₁ w₂ files files₂ st.table (source_in main supplementary input) u (d.spans + u.directories.count * 8) r
      here = subst (λ (i : DebugSource). InternsHeader main supplementary w₁ w₂ files files₂ st.table (source_in main supplementary i) u (d.spans + u.directories.count * 8) r) B.source-is I

      interned : indexed_of main supplementary w₂ (d.spans + u.directories.count * 8) r
          ≡ intern_header_files (unit_here (source_in main supplementary input) q) (or_header (unit_here (source_in main supplementary input) q).header) (table_of main supplementary w st.table)
      unfolding header_here
      interned = rw (B.place, described-table D input U e not_so B size) at here.is

      join-rest : KeptBut w w₂ (lower d st.table)
      join-rest =
          let m = described-room D input U e not_so B size in
          let k : length (unit_here (source_in main supplementary input) u.place).files ≡ length (unit_here (source_in main supplementary input) q).files = rw B.place in
          but_trans (described-rest D input U e not_so B size)
          (record { same = λ p n c. here.rest.same p n (c.0, (⊎_elim (λ l. inl (omega arith)) (λ l. inr (omega arith)) c.1.0, tt)) })

      pub joins-refused : (n : Refusal) → r ≡ Err n → Joins main supplementary w w₂ files files₂ d st.table (unit_here (source_in main supplementary input) q) (Err n)
      joins-refused n to =
          let v = unit_here (source_in main supplementary input) q in
          record { is = files-are v v.header (table_of main supplementary w st.table) (refused (number_of n)) there (rw to at interned); rest = join-rest }

      pub joins-table : (j : InternedFiles) → r ≡ Ok j → Joins main supplementary w w₂ files files₂ d st.table (unit_here (source_in main supplementary input) q) (Ok j.table)
      joins-table j to =
          let v = unit_here (source_in main supplementary input) q in
          let f = files-reached v v.header (table_of main supplementary w st.table) _ there (rw to at interned) in
          let g = rw to at here.after in
          record {
            is = record { is = f.0; reached = f.1; grown = grown-after D.files (but_one B.rest) (described-clear D input U e not_so B size) g.0 };
            rest = join-rest;
          }
