-- The members of the declaration search's cycle: the ways through an entry, a reference and an offset of a section.
use mathlib.Core.Path.{◌≡◌, refl, sym, ap, subst, ◌∙◌}
use mathlib.Core.Bool.{Bool, true, false, cond}
use mathlib.Core.List.{List, [], ◌∷◌}
use mathlib.Core.Option.{Option, none, some}
use Prim.Native.Nat.{ℕ, suc, ◌+◌, ◌-◌, ◌≤◌, ◌<◌}
use native.Mathlib.Omega.{arith}
use lib.Dec.{eqb}
use lib.ListN.{length}
use Rattle.std.specs.Prelude.{None, Result, Ok, Err, is_some}
use Rattle.std.specs.declared.option.Option.{Option as Given}
use Rattle.tlv.specs.declared.refusal.Refusal.{Refusal}
use Rattle.tlv.specs.Outcome.{Outcome, refused, done}
use Rattle.tlv.specs.Model.{CompilationUnit, Attribute, LineHeader}
use Rattle.tlv.proofs.OutcomeLaws.{Gives, gives, gives_none, gives-cond, gives-bind, gives-map, given}
use Rattle.buffers.specs.Buffer.{top}
use Rattle.buffers.specs.Table.{KeptBut}
use Rattle.buffers.specs.Output.{Warning}
use Rattle.access.specs.declared.index.EntryPlace.{EntryPlace}
use Rattle.access.specs.Places.{unit_here, entry_here}
use Rattle.lines.specs.Files.{FileIndices}
use Rattle.files.specs.declared.store.StoredFiles.{StoredFiles}
use Rattle.files.specs.Store.{table_of, Grown}
use Rattle.files.specs.Indices.{indices_in}
use Rattle.files.proofs.ReachedLaws.{reached-grown}
use Rattle.references.specs.declared.ways.EntryAt.{EntryAt}
use Rattle.references.specs.declared.trails.Trail.{Trail as Walked}
use Rattle.references.specs.Search.{DebugSource as Source, Dwarf, main_source, supplementary_source, Place, Trail, DieKey, is_visited, Target, nothing, same_unit, by_offset, absolute_entry_offset, entry_at, follow_in, follow_absolute, follow_unit, follow_supplementary, follow, unit_containing, units_in, attribute, origin_attributes, Declaring, own_declaration, resolve_declaration, resolve_declaration_line}
use Rattle.references.specs.Reads.{Counted, after, counted_referenced_declaration, counted_declaration, declaration_reads}
use Rattle.references.specs.Tables.{EntryKnown}
use Rattle.references.specs.Keys.{keys_at}
use Rattle.references.specs.Names.{dwarf_of, place_at, start_at, follow_from}
use Rattle.references.proofs.ReadLaws.{counts-declaration}
use Rattle.references.proofs.ReadBounds.{bounded_at}
use Rattle.references.proofs.GivesLaws.{counted-assoc}
use Rattle.declarations.specs.declared.declaring.Places.{Places}
use Rattle.declarations.specs.declared.declaring.DeclaringState.{DeclaringState}
use Rattle.declarations.specs.declared.declaring.Declaration.{Declaration}
use Rattle.declarations.specs.declared.declaring.Declared.{Declared}
use Rattle.declarations.specs.Declarations.{none_found, reached_files, ReachedUnit, indices_at, declaring_at, DeclaringIn, DeclaredAs, Declares, CountedAs, DeclaresCounted, LineRead, searched, Reaching, resolve_reference}
use Rattle.declarations.proofs.DeclareFrames.{more, searched-map}
use Rattle.declarations.proofs.DeclareLaws.{Stops, none_is, declares-here, declares-as, and_then, then-missing, then_stop, then_last}

-- ---- a reference leads to its own unit, or elsewhere by an offset

abbrev pub Far : Target → Type 0
Far nothing = Unit {0}
Far (same_unit x) = ⊥
Far (by_offset x) = Unit {0}

abbrev Stays : Place → Target → Type 0
Stays p nothing = Unit {0}
Stays p (same_unit x) = x.unit ≡ p.unit
Stays p (by_offset x) = Unit {0}

any_of : {A : Type 0} (x : Outcome A) → Gives (λ (a : A). Unit {0}) x
any_of (refused n) = gives_none
any_of (done a) = gives tt

in_far : (input : Source) (k : DieKey) (t : Trail) (o : Option CompilationUnit) → Gives (λ f. Far f.target) (follow_in input k t o)
in_far input k t none = gives tt
in_far input k t (some u) = gives-bind (any_of (entry_at u (k.offset - u.offset))) (λ e h. gives tt)

pub absolute-far : (d : Dwarf) (input source : Source) (t : Trail) (o : ℕ) → Gives (λ f. Far f.target) (follow_absolute d input source t o)
unfolding follow_absolute
absolute-far d input source t o =
    let k : DieKey = record { source = source; offset = o } in
    gives-cond (is_visited t k) (λ h. gives tt) (λ h. in_far input k t (unit_containing (units_in d input) o))

far-stays : (p : Place) (x : Target) → Far x → Stays p x
far-stays p nothing h = tt
far-stays p (same_unit x) h = absurd h
far-stays p (by_offset x) h = tt

unit-stays : (p : Place) (t : Trail) (o : ℕ) → Gives (λ f. Stays p f.target) (follow_unit p t o)
unfolding follow_unit
unit-stays p t o = gives-bind (any_of (absolute_entry_offset p.unit o)) λ a h.
    gives-cond (is_visited t (record { source = p.source; offset = a })) (λ y. gives tt) (λ y. gives-bind (any_of (entry_at p.unit o)) (λ e g. gives refl))

supplementary-far : (d : Dwarf) (input : Source) (us : List CompilationUnit) (t : Trail) (o : ℕ) → Gives (λ f. Far f.target) (follow_supplementary d input us t o)
supplementary-far d main_source [] t o = gives tt
supplementary-far d main_source (u ∷ us) t o = absolute-far d supplementary_source supplementary_source t o
supplementary-far d supplementary_source us t o = gives tt

follow-stays : (d : Dwarf) (p : Place) (t : Trail) (o : Option Attribute) → Gives (λ f. Stays p f.target) (follow d p t o)
unfolding follow
follow-stays d p t none = gives tt
follow-stays d p t (some a) =
    gives-cond (eqb a.kind 4) (λ h. unit-stays p t a.value) (λ h.
    gives-cond (eqb a.kind 5) (λ g. gives-map (λ f far. far-stays p f.target far) (absolute-far d p.input main_source t a.value)) (λ g.
    gives-cond (eqb a.kind 6) (λ i. gives-map (λ f far. far-stays p f.target far) (supplementary-far d p.input d.supplementary t a.value)) (λ i. gives tt)))

pub same-unit : (main supplementary : List ℕ) (at : EntryAt) (name : ℕ) (t t' : Trail) (x : Place)
    → follow_from main supplementary at name t ≡ done (record { trail = t'; target = same_unit x }) → x.unit ≡ (place_at main supplementary at).unit
unfolding follow_from
same-unit main supplementary at name t t' x e = given (follow-stays (dwarf_of main supplementary) (place_at main supplementary at) t (attribute (place_at main supplementary at).entry name)) e

-- ---- a unit's numbers stay

pub indices-as : (main supplementary w w' : List ℕ) (d : Places) (st st' : DeclaringState) (at at' : EntryAt) (reached : Bool) → indices_in w' d.indices ≡ indices_in w d.indices
    → table_of main supplementary w' st'.table ≡ table_of main supplementary w st.table → (place_at main supplementary at').unit ≡ (place_at main supplementary at).unit
    → indices_at main supplementary w' d st' at'.input at'.entry.unit reached ≡ indices_at main supplementary w d st at.input at.entry.unit reached
unfolding indices_at
indices-as main supplementary w w' d st st' at at' reached map table unit = rw (unit, table, map)

pub reaching_as : {main supplementary w w' : List ℕ} {st st' : DeclaringState} {at at' : EntryAt} {reached : Bool} → Reaching main supplementary w st at reached
    → table_of main supplementary w' st'.table ≡ table_of main supplementary w st.table → (place_at main supplementary at').unit ≡ (place_at main supplementary at).unit
    → Reaching main supplementary w' st' at' reached
reaching_as R table unit = record { unit = λ y. rw (unit, table) (R.unit y) }

-- as the table grows
grown-reached : {main supplementary w w' files files' : List ℕ} {t t' : StoredFiles} (u : CompilationUnit) (o : Option LineHeader) → Grown main supplementary w w' files files' t t'
    → ReachedUnit u o (table_of main supplementary w t)
    → (reached_files u o (table_of main supplementary w' t') ≡ reached_files u o (table_of main supplementary w t)) × ReachedUnit u o (table_of main supplementary w' t')
unfolding table_of
grown-reached u none G R = (refl, tt)
grown-reached u (some h) G R = reached-grown u h _ _ G.new R G.first G.entries

module _ {main supplementary w w' files files' : List ℕ} {d : Places} {st : DeclaringState} (D : DeclaringIn main supplementary w d st) (st' : DeclaringState) {at : EntryAt} {reached : Bool}
    (R : Reaching main supplementary w st at reached) (G : Grown main supplementary w w' files files' st.table st'.table) where
  pub reaching-grown : Reaching main supplementary w' st' at reached
  reaching-grown = record { unit = λ y. (grown-reached (place_at main supplementary at).unit (place_at main supplementary at).unit.header G (R.unit y)).1 }

  pub indices-grown : KeptBut w w' (searched main supplementary d st.table)
      → indices_at main supplementary w' d st' at.input at.entry.unit reached ≡ indices_at main supplementary w d st at.input at.entry.unit reached
  unfolding indices_at
  indices-grown K = go reached R.unit
    where
      go : (b : Bool) → (b ≡ true → ReachedUnit (place_at main supplementary at).unit (place_at main supplementary at).unit.header (table_of main supplementary w st.table))
          → cond b (reached_files (place_at main supplementary at).unit (place_at main supplementary at).unit.header (table_of main supplementary w' st'.table)) (indices_in w' d.indices)
          ≡ cond b (reached_files (place_at main supplementary at).unit (place_at main supplementary at).unit.header (table_of main supplementary w st.table)) (indices_in w d.indices)
      go true h = (grown-reached (place_at main supplementary at).unit (place_at main supplementary at).unit.header G (h refl)).0
      go false h = searched-map D K

-- ---- an entry

module _ {main supplementary w : List ℕ} {d : Places} {st : DeclaringState} (D : DeclaringIn main supplementary w d st) {at : EntryAt} {reached : Bool}
    (R : Reaching main supplementary w st at reached) where
  pub resolve-deep : {files warnings : List ℕ} {a : ℕ} → length files < top → length warnings < top → a ≤ st.trail.count + 1 → at.left ≡ 0
      → DeclaresCounted (counted_declaration at.left (dwarf_of main supplementary) (place_at main supplementary at) (indices_at main supplementary w d st at.input at.entry.unit reached))
      main supplementary w w files files warnings warnings d st a a (none_found st)
  unfolding counted_declaration
  resolve-deep few short read deep = rw deep (declares-here D few short None read (λ k ws. refl))

  module _ (shallow : at.left ≡ 0 → ⊥) where
    step : (x : Declaring) → (counted_declaration at.left (dwarf_of main supplementary) (place_at main supplementary at) (indices_at main supplementary w d st at.input at.entry.unit reached)) x
        ≡ and_then (λ y. after y.trail (own_declaration (place_at main supplementary at).unit (place_at main supplementary at).entry (indices_at main supplementary w d st at.input at.entry.unit reached) y))
        (counted_referenced_declaration (counted_declaration (at.left - 1) (dwarf_of main supplementary)) (dwarf_of main supplementary) (place_at main supplementary at)
        (indices_at main supplementary w d st at.input at.entry.unit reached) origin_attributes) x
    unfolding counted_declaration
    step x = let more_left : at.left ≡ suc (at.left - 1) = omega arith in one-more at.left (at.left - 1) more_left x
      where
        one-more : (m k : ℕ) → m ≡ suc k → (x : Declaring)
            → (counted_declaration m (dwarf_of main supplementary) (place_at main supplementary at) (indices_at main supplementary w d st at.input at.entry.unit reached)) x
            ≡ and_then (λ y. after y.trail (own_declaration (place_at main supplementary at).unit (place_at main supplementary at).entry (indices_at main supplementary w d st at.input at.entry.unit reached) y))
            (counted_referenced_declaration (counted_declaration k (dwarf_of main supplementary)) (dwarf_of main supplementary) (place_at main supplementary at)
            (indices_at main supplementary w d st at.input at.entry.unit reached) origin_attributes) x
        one-more m k e x = rw e

    turn : (n : ℕ) (ns : List ℕ) (x : Declaring)
        → (counted_referenced_declaration (counted_declaration (at.left - 1) (dwarf_of main supplementary)) (dwarf_of main supplementary) (place_at main supplementary at)
        (indices_at main supplementary w d st at.input at.entry.unit reached) (n ∷ ns)) x
        ≡ and_then (resolve_reference (at.left - 1) main supplementary at (indices_at main supplementary w d st at.input at.entry.unit reached) n)
        (counted_referenced_declaration (counted_declaration (at.left - 1) (dwarf_of main supplementary)) (dwarf_of main supplementary) (place_at main supplementary at)
        (indices_at main supplementary w d st at.input at.entry.unit reached) ns) x
    unfolding counted_referenced_declaration resolve_reference follow_from
    turn n ns x = sym (counted-assoc x.trail (follow (dwarf_of main supplementary) (place_at main supplementary at) x.trail (attribute (place_at main supplementary at).entry n)) _ _)

    none_left : (x : Declaring) → (counted_referenced_declaration (counted_declaration (at.left - 1) (dwarf_of main supplementary)) (dwarf_of main supplementary) (place_at main supplementary at)
        (indices_at main supplementary w d st at.input at.entry.unit reached) []) x ≡ after x.trail (done x)
    unfolding counted_referenced_declaration
    none_left x = refl

    module _ {files warnings w₁ files₁ warnings₁ : List ℕ} {a a₁ : ℕ} where
      pub resolve-own : (r : Result Declared Refusal) → Stops r
          → DeclaresCounted (λ y. after y.trail (own_declaration (place_at main supplementary at).unit (place_at main supplementary at).entry (indices_at main supplementary w d st at.input at.entry.unit reached) y))
          main supplementary w w₁ files files₁ warnings warnings₁ d st a a₁ r
          → DeclaresCounted (counted_declaration at.left (dwarf_of main supplementary) (place_at main supplementary at) (indices_at main supplementary w d st at.input at.entry.unit reached))
          main supplementary w w₁ files files₁ warnings warnings₁ d st a a₁ r
      resolve-own r stop F = declares-as r (λ k ws. step _) (then_stop _ r stop F)

      module _ {st₁ : DeclaringState} (F : DeclaresCounted (λ y. after y.trail (own_declaration (place_at main supplementary at).unit (place_at main supplementary at).entry (indices_at main supplementary w d st at.input at.entry.unit reached) y))
          main supplementary w w₁ files files₁ warnings warnings₁ d st a a₁ (none_found st₁)) where
        pub first-reaching : Reaching main supplementary w₁ st₁ at reached
        first-reaching = reaching-grown D st₁ R F.after.grown

        module _ {w₂ files₂ warnings₂ : List ℕ} {b : ℕ} where
          first-as : {r : Result Declared Refusal} → DeclaresCounted (resolve_reference (at.left - 1) main supplementary at (indices_at main supplementary w₁ d st₁ at.input at.entry.unit reached) 0x31)
              main supplementary w₁ w₂ files₁ files₂ warnings₁ warnings₂ d st₁ a₁ b r
              → DeclaresCounted (resolve_reference (at.left - 1) main supplementary at (indices_at main supplementary w d st at.input at.entry.unit reached) 0x31)
              main supplementary w₁ w₂ files₁ files₂ warnings₁ warnings₂ d st₁ a₁ b r
          first-as G = rw (indices-grown D st₁ R F.after.grown F.rest) at G

          pub resolve-first : (r : Result Declared Refusal) → Stops r
              → DeclaresCounted (resolve_reference (at.left - 1) main supplementary at (indices_at main supplementary w₁ d st₁ at.input at.entry.unit reached) 0x31)
              main supplementary w₁ w₂ files₁ files₂ warnings₁ warnings₂ d st₁ a₁ b r
              → DeclaresCounted (counted_declaration at.left (dwarf_of main supplementary) (place_at main supplementary at) (indices_at main supplementary w d st at.input at.entry.unit reached))
              main supplementary w w₂ files files₂ warnings warnings₂ d st a b r
          resolve-first r stop G =
              declares-as r (λ k ws. step _) (then-missing r F (declares-as r (λ k ws. turn 0x31 (0x47 ∷ []) _) (then_stop _ r stop (first-as G))))

          module _ {st₂ : DeclaringState} (G : DeclaresCounted (resolve_reference (at.left - 1) main supplementary at (indices_at main supplementary w₁ d st₁ at.input at.entry.unit reached) 0x31)
              main supplementary w₁ w₂ files₁ files₂ warnings₁ warnings₂ d st₁ a₁ b (none_found st₂)) where
            pub second-reaching : Reaching main supplementary w₂ st₂ at reached
            second-reaching = reaching-grown F.after.ready st₂ first-reaching G.after.grown

            pub resolve-second : {w₃ files₃ warnings₃ : List ℕ} {e : ℕ} (r : Result Declared Refusal)
                → DeclaresCounted (resolve_reference (at.left - 1) main supplementary at (indices_at main supplementary w₂ d st₂ at.input at.entry.unit reached) 0x47)
                main supplementary w₂ w₃ files₂ files₃ warnings₂ warnings₃ d st₂ b e r
                → DeclaresCounted (counted_declaration at.left (dwarf_of main supplementary) (place_at main supplementary at) (indices_at main supplementary w d st at.input at.entry.unit reached))
                main supplementary w w₃ files files₃ warnings warnings₃ d st a e r
            resolve-second r H =
                let I = rw (indices-grown F.after.ready st₂ first-reaching G.after.grown G.rest, indices-grown D st₁ R F.after.grown F.rest) at H in
                declares-as r (λ k ws. step _) (then-missing r F (declares-as r (λ k ws. turn 0x31 (0x47 ∷ []) _)
                (then-missing r (first-as G) (declares-as r (λ k ws. turn 0x47 [] _) (then_last r none_left I)))))

-- a search that found nothing, and what it leaves
module _ {f : Declaring → Counted Declaring} {main supplementary w w' files files' warnings warnings' : List ℕ} {d : Places} {st : DeclaringState} {a b : ℕ} where
  pub missing-is : (r : Declared) → is_some r.found ≡ false → DeclaresCounted f main supplementary w w' files files' warnings warnings' d st a b (Ok r)
      → DeclaresCounted f main supplementary w w' files files' warnings warnings' d st a b (none_found r.state)
  missing-is r h F =
      subst (λ (o : Given Declaration). DeclaresCounted f main supplementary w w' files files' warnings warnings' d st a b (Ok (record { state = r.state; found = o }))) (none_is r.found h) F

  -- by the numbers of reads that it starts and ends with
  pub read-as : {c : ℕ} (r : Result Declared Refusal) → b ≡ c → DeclaresCounted f main supplementary w w' files files' warnings warnings' d st a b r
      → DeclaresCounted f main supplementary w w' files files' warnings warnings' d st a c r
  read-as r e F = subst (λ (m : ℕ). DeclaresCounted f main supplementary w w' files files' warnings warnings' d st a m r) e F

  pub from-as : {c : ℕ} (r : Result Declared Refusal) → a ≡ c → DeclaresCounted f main supplementary w w' files files' warnings warnings' d st a b r
      → DeclaresCounted f main supplementary w w' files files' warnings warnings' d st c b r
  from-as r e F = subst (λ (m : ℕ). DeclaresCounted f main supplementary w w' files files' warnings warnings' d st m b r) e F

-- the search of an entry of the unit that is imported, as the definition says it: from no followed targets on
pub declaration-line : (main supplementary w : List ℕ) (d : Places) (st : DeclaringState) (e : EntryPlace) (is : FileIndices) (ws : List Warning) → st.trail.count ≡ 0
    → resolve_declaration_line (dwarf_of main supplementary) (unit_here main e.unit) (entry_here main e.place) is (table_of main supplementary w st.table) ws
    ≡ resolve_declaration 64 (dwarf_of main supplementary) (place_at main supplementary (start_at e)) is (declaring_at main supplementary w d st ws 1)
unfolding resolve_declaration_line keys_at
declaration-line main supplementary w d st e is ws none-followed = rw none-followed

-- ---- without the count, and the count

module _ (main supplementary w' : List ℕ) (d : Places) (ws new : List Warning) (n : ℕ) where
  outcome-as : (c : Counted Declaring) (o : Outcome Declaring) (r : Result Declared Refusal) → c.outcome ≡ o → CountedAs main supplementary w' d ws n new c r → DeclaredAs main supplementary w' d ws n new o r
  outcome-as c o (Err m) e h = sym e ∙ ap (λ (x : Counted Declaring). x.outcome) h
  outcome-as c o (Ok r) e h = sym e ∙ ap (λ (x : Counted Declaring). x.outcome) h

  reads_as : (c : Counted Declaring) (r : Result Declared Refusal) → CountedAs main supplementary w' d ws n new c r → c.reads ≡ n
  reads_as c (Err m) h = ap (λ (x : Counted Declaring). x.reads) h
  reads_as c (Ok r) h = ap (λ (x : Counted Declaring). x.reads) h

-- a search that starts anew is one of the state before
pub restart-as : {f : Declaring → Counted Declaring} {main supplementary w w' files files' warnings warnings' : List ℕ} {d : Places} {st : DeclaringState} {a b : ℕ} {t : Walked}
    (r : Result Declared Refusal) → t.count ≡ st.trail.count → DeclaresCounted f main supplementary w w' files files' warnings warnings' d (more st t) a b r
    → DeclaresCounted f main supplementary w w' files files' warnings warnings' d st a b r
restart-as (Err n) same G = record { reads = G.reads; adds = G.adds; few = G.few; new = G.new; is = λ k ws. rw same at (G.is k ws); after = tt; rest = G.rest }
restart-as (Ok r) same G = record {
  reads = G.reads;
  adds = G.adds;
  few = G.few;
  new = G.new;
  is = λ k ws. rw same at (G.is k ws);
  after = record { grown = G.after.grown; put = G.after.put; ready = G.after.ready };
  rest = G.rest;
}

module _ {main supplementary w w' files files' warnings warnings' : List ℕ} {d : Places} {st : DeclaringState} {b : ℕ} (e : EntryPlace) (r : Result Declared Refusal)
    (G : DeclaresCounted (counted_declaration 64 (dwarf_of main supplementary) (place_at main supplementary (start_at e)) (indices_in w d.indices)) main supplementary w w' files files' warnings warnings' d st 1 b r) where
  pub line_plain : Declares (resolve_declaration 64 (dwarf_of main supplementary) (place_at main supplementary (start_at e)) (indices_in w d.indices)) main supplementary w w' files files' warnings warnings' d st r
  line_plain = record {
    reads = G.reads;
    new = G.new;
    is = λ k ws. outcome-as main supplementary w' d ws G.new (G.reads k) _ _ r
        (counts-declaration (dwarf_of main supplementary) 64 (place_at main supplementary (start_at e)) (indices_in w d.indices) (declaring_at main supplementary w d st ws k)).same (G.is k ws);
    after = G.after;
    rest = G.rest;
  }

  pub line_read : DeclaringIn main supplementary w d st → st.trail.count ≡ 0 → EntryKnown main e.unit e.place → LineRead main supplementary w d st e.unit e.place b
  unfolding declaration_reads keys_at
  line_read D none-followed known =
      let is : (ws : List Warning) → b ≡ declaration_reads (dwarf_of main supplementary) (unit_here main e.unit) (entry_here main e.place) (indices_in w d.indices) (table_of main supplementary w st.table) ws
      = λ ws. let n = G.adds 1 in let same : b ≡ G.reads 1 = omega arith in same ∙ rw none-followed at (sym (reads_as main supplementary w' d ws G.new (G.reads 1) _ r (G.is 1 ws))) in
      record {
        is = is;
        within = rw (is []) ((bounded_at supplementary D.search-tables.main-index.number D.search-tables.main-index.accepted known).declaration (indices_in w d.indices) (table_of main supplementary w st.table) []);
      }
