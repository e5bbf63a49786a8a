-- How many entries a search can read: one more than the targets that it followed, which are different ones of reference attributes.
use mathlib.Core.Path.{◌≡◌, refl}
use mathlib.Core.Bool.{Bool, true, false, cond}
use mathlib.Core.List.{List, [], ◌∷◌}
use mathlib.Core.Option.{Option, none, some}
use Prim.Native.Nat.{ℕ, zero, suc, ◌-◌, ◌^◌, ◌≤◌}
use native.Mathlib.Omega.{arith}
use lib.Dec.{ltb}
use lib.ListN.{length}
use Rattle.tlv.specs.Outcome.{Outcome, refused, done}
use Rattle.tlv.specs.Lists.{is_none, is_empty}
use Rattle.tlv.specs.Model.{CompilationUnit, Entry}
use Rattle.tlv.specs.Fields.{fields}
use Rattle.tlv.specs.Checked.{Accepts}
use Rattle.tlv.proofs.OutcomeLaws.{Gives, gives, gives_none, gives-cond, gives-bind}
use Rattle.tlv.specs.declared.model.FileIndex.{FileIndex}
use Rattle.buffers.specs.Output.{WarningKind, invalid_declaration_file, invalid_declaration_line}
use Rattle.access.specs.Places.{unit_here, entry_here, unit_places}
use Rattle.access.proofs.UnitPlaceLaws.{units-places}
use Rattle.lines.specs.Files.{FileIndices, get}
use Rattle.references.specs.Search.{Dwarf, units_in, Place, Trail, empty_trail, absolute_entry_offset, Target, nothing, same_unit, by_offset, origin_attributes}
use Rattle.references.specs.Search.{chain_limit, name_attributes, own_name, place_in, file_index_attribute, unit_files}
use Rattle.references.specs.Search.{Declaring, with_trail, with_table, warn_declaration, declaration_of, declaration_from, own_declaration, unsigned_attribute}
use Rattle.references.specs.Reads.{Counted, after, go_on, CountedNames, counted_name_at, counted_referenced_name, counted_name, counted_reference_name}
use Rattle.references.specs.Reads.{CountedDeclarations, counted_declaration_at, counted_referenced_declaration, counted_declaration, name_reads}
use Rattle.references.specs.Reads.{reference_name_reads, declaration_reads, reference_attributes, ReadsWithin, ReadsBounded, Bounded}
use Rattle.references.specs.Tables.{EntryKnown}
use Rattle.references.specs.Names.{dwarf_of}
use Rattle.references.proofs.ReadTargets.{possible, possible-few, Stood, TargetStood, Sound, sound_few, named-sound}
use Rattle.references.proofs.TargetLaws.{known-unit, known-entry}
use Rattle.references.proofs.KeyLaws.{any_image}

-- ---- a counted outcome that keeps within the bound

record Within (d : Dwarf) {A : Type 0} (trail : A → Trail) (c : Counted A) : Type 0 where
  few : c.reads ≤ suc (length (possible d))
  sound : Gives (λ a. Sound d (trail a)) c.outcome

module _ {d : Dwarf} {A : Type 0} {trail : A → Trail} where
  within-done : (a : A) → Sound d (trail a) → Within d trail (after (trail a) (done a))
  within-done a S = record { few = sound_few d (trail a) S; sound = gives S }

  within-cond : (b : Bool) {x y : Counted A} → Within d trail x → Within d trail y → Within d trail (cond b x y)
  within-cond true X Y = X
  within-cond false X Y = Y

module _ {d : Dwarf} {A B : Type 0} {trail : B → Trail} {P : A → Type 0} {f : A → Counted B} where
  within_on : {n : ℕ} {o : Outcome A} → n ≤ suc (length (possible d)) → Gives P o → ((a : A) → P a → Within d trail (f a)) → Within d trail (go_on n o f)
  within_on few gives_none h = record { few = few; sound = gives_none }
  within_on few (gives {a} p) h = h a p

-- ---- names

abbrev KeepsNames : Dwarf → CountedNames → Type 0
KeepsNames d search = (p : Place) (t : Trail) → Stood d p → Sound d t → Within d (λ r. r.trail) (search p t)

module _ {d : Dwarf} {search : CountedNames} (h : KeepsNames d search) where
  name_at-within : (t : Trail) (x : Target) → Sound d t → TargetStood d x → Within d (λ r. r.trail) (counted_name_at search t x)
  name_at-within t nothing S stood = within-done (record { trail = t; name = [] }) S
  name_at-within t (same_unit p) S stood = h p t stood S
  name_at-within t (by_offset p) S stood = h p t stood S

  referenced-within : (p : Place) (ns : List ℕ) (t : Trail) → Stood d p → Sound d t → Within d (λ r. r.trail) (counted_referenced_name search d p ns t)
  unfolding counted_referenced_name
  referenced-within p [] t stood S = within-done (record { trail = t; name = [] }) S
  referenced-within p (n ∷ ns) t stood S =
      let later = referenced-within p ns in
      within_on (sound_few d t S) (named-sound d t S p stood n) λ f s.
      let W = name_at-within f.trail f.target s.0 s.1 in
      within_on W.few W.sound λ r R.
      within-cond (is_empty r.name) (later r.trail stood R) (within-done r R)

any-given : {A : Type 0} (o : Outcome A) → Gives (λ _. Unit {0}) o
any-given (refused n) = gives_none
any-given (done a) = gives tt

name-within : (d : Dwarf) (k : ℕ) → KeepsNames d (counted_name k d)
unfolding counted_name
name-within d zero p t stood S = within-done (record { trail = t; name = [] }) S
name-within d (suc k) p t stood S =
    let inner = name-within d k in
    within_on (sound_few d t S) (any-given (own_name p.entry name_attributes)) λ own _.
    within-cond (is_empty own) (referenced-within inner p origin_attributes t stood S) (within-done (record { trail = t; name = own }) S)

-- ---- declarations: the own declaration leaves the trail

own-trail : (u : CompilationUnit) (e : Entry) (is : FileIndices) (s : Declaring) → Gives (λ r. r.trail ≡ s.trail) (own_declaration u e is s)
unfolding own_declaration warn_declaration
own-trail u e is s = from (file_index_attribute e 0x3a) (unsigned_attribute e 0x3b)
  where
    warn : (kind : WarningKind) (n : ℕ) → Gives (λ r. r.trail ≡ s.trail) (warn_declaration kind u e n s)
    warn kind n = gives-bind (any-given (absolute_entry_offset u e.offset)) λ o _. gives refl

    of : (file line : ℕ) (o : Option FileIndex) → Gives (λ r. r.trail ≡ s.trail) (declaration_of u e file line o s)
    of file line none = warn invalid_declaration_file file
    of file line (some i) = gives-cond (ltb line (2 ^ 32)) (λ _. gives refl) (λ _. warn invalid_declaration_line line)

    from : (file line : Option ℕ) → Gives (λ r. r.trail ≡ s.trail) (declaration_from u e is file line s)
    from none line = gives refl
    from (some file) none = gives refl
    from (some file) (some line) = of file line (get is file)

abbrev KeepsDeclarations : Dwarf → CountedDeclarations → Type 0
KeepsDeclarations d search = (p : Place) (is : FileIndices) (s : Declaring) → Stood d p → Sound d s.trail → Within d (λ r. r.trail) (search p is s)

module _ {d : Dwarf} {search : CountedDeclarations} (h : KeepsDeclarations d search) where
  declaration-at-within : (is : FileIndices) (s : Declaring) (x : Target) → Sound d s.trail → TargetStood d x
      → Within d (λ r. r.trail) (counted_declaration_at search is s x)
  declaration-at-within is s nothing S stood = within-done s S
  declaration-at-within is s (same_unit p) S stood = h p is s stood S
  declaration-at-within is s (by_offset p) S stood =
      within_on (sound_few d s.trail S) (any-given (unit_files p.unit p.unit.header s.table)) λ i _.
      h p i.indices (with_table s i.table) stood S

  declared-within : (p : Place) (is : FileIndices) (ns : List ℕ) (s : Declaring) → Stood d p → Sound d s.trail
      → Within d (λ r. r.trail) (counted_referenced_declaration search d p is ns s)
  unfolding counted_referenced_declaration
  declared-within p is [] s stood S = within-done s S
  declared-within p is (n ∷ ns) s stood S =
      let later = declared-within p is ns in
      within_on (sound_few d s.trail S) (named-sound d s.trail S p stood n) λ f a.
      let W = declaration-at-within is (with_trail s f.trail) f.target a.0 a.1 in
      within_on W.few W.sound λ r R.
      within-cond (is_none r.found) (later r stood R) (within-done r R)

declaration-within : (d : Dwarf) (k : ℕ) → KeepsDeclarations d (counted_declaration k d)
unfolding counted_declaration
declaration-within d zero p is s stood S = within-done s S
declaration-within d (suc k) p is s stood S =
    let inner = declaration-within d k in
    within_on (sound_few d s.trail S) (own-trail p.unit p.entry is s) λ r e.
    let R : Sound d r.trail = rw e S in
    within-cond (is_none r.found) (declared-within inner p is origin_attributes r stood R) (within-done r R)

-- ---- the bounds

none_read : (d : Dwarf) → Sound d empty_trail
none_read d = record { distinct = tt; each = tt; few = omega arith }

reads-within : (d : Dwarf) (n : ℕ) → n ≤ suc (length (possible d)) → ReadsWithin d n
unfolding reference_attributes
reads-within d n few = record {
  alone = λ e. let none-there : reference_attributes d.supplementary ≡ 0 = rw e in omega (arith, possible-few d);
  both = omega (arith, possible-few d);
}

pub bounded : Bounded
unfolding name_reads reference_name_reads declaration_reads counted_reference_name units_in
bounded d u e in_unit in_entry =
    let p : Place = place_in u e in
    let stood : Stood d p = record { unit = in_unit; entry = in_entry; sourced = refl } in
    record {
      name = reads-within d _ (name-within d chain_limit p empty_trail stood (none_read d)).few;
      reference = λ name. reads-within d _
          (within_on (sound_few d empty_trail (none_read d)) (named-sound d empty_trail (none_read d) p stood name)
          (λ f s. name_at-within (name-within d (chain_limit - 1)) f.trail f.target s.0 s.1)).few;
      declaration = λ is table warnings. reads-within d _
          (declaration-within d chain_limit p is (record { trail = empty_trail; table = table; warnings = warnings; found = none }) stood (none_read d)).few;
    }

-- of the entry at place p of the unit at place q of an accepted sheet
pub bounded_at : {main : List ℕ} {q p : ℕ} (supplementary : List ℕ) (n : ℕ) → Accepts main n → EntryKnown main q p
    → ReadsBounded (dwarf_of main supplementary) (unit_here main q) (entry_here main p)
bounded_at {main} {q} {p} supplementary n accepted known =
    bounded (dwarf_of main supplementary) (unit_here main q) (entry_here main p)
    (rw (units-places main) (any_image (unit_here main) q (unit_places 0 (fields main)) (known-unit n accepted known))) (known-entry n accepted known)
