-- The counting searches are the searches, and count as many as a done search's trail says.
use mathlib.Core.Path.{◌≡◌, refl, ap}
use mathlib.Core.Bool.{Bool, true, false, cond}
use mathlib.Core.List.{List, [], ◌∷◌}
use Prim.Native.Nat.{ℕ, zero, suc, ◌-◌}
use Rattle.tlv.specs.Outcome.{Outcome, refused, done, ◌>>=◌}
use Rattle.tlv.specs.Lists.{is_none, is_empty}
use Rattle.tlv.proofs.OutcomeLaws.{done-is, refused-not}
use Rattle.lines.specs.Files.{FileIndices}
use Rattle.references.specs.Search.{Dwarf, Place, Trail, empty_trail, attribute, Target, nothing, same_unit, by_offset, follow, origin_attributes, chain_limit}
use Rattle.references.specs.Search.{name_attributes, own_name, NameSearch, name_at_target, referenced_name, resolve_name_inner}
use Rattle.references.specs.Search.{Declaring, with_trail, with_table, own_declaration, unit_files, DeclarationSearch, declaration_at_target}
use Rattle.references.specs.Search.{referenced_declaration, resolve_declaration}
use Rattle.references.specs.Reads.{Counted, after, ◌>>>◌, CountedNames, counted_name_at, counted_referenced_name, counted_name, counted_reference_name}
use Rattle.references.specs.Reads.{resolve_reference_named, CountedDeclarations, counted_declaration_at, counted_referenced_declaration, counted_declaration}
use Rattle.references.specs.Reads.{Counting}

-- ---- a counted outcome is an outcome, and its number is that of what it is done with

pub record Counts {A : Type 0} (trail : A → Trail) (c : Counted A) (o : Outcome A) : Type 0 where
  pub same : c.outcome ≡ o
  pub reads : (a : A) → o ≡ done a → c.reads ≡ (trail a).reads

module _ {A : Type 0} {trail : A → Trail} where
  counts_done : (a : A) → Counts trail (after (trail a) (done a)) (done a)
  counts_done a = record { same = refl; reads = λ b e. ap (λ (x : A). (trail x).reads) (done-is e) }

  counts_cond : (b : Bool) {c d : Counted A} {x y : Outcome A} → Counts trail c x → Counts trail d y → Counts trail (cond b c d) (cond b x y)
  counts_cond true C D = C
  counts_cond false C D = D

module _ {A B : Type 0} {trail : B → Trail} {f : A → Counted B} {g : A → Outcome B} where
  -- after an outcome
  pub counts-after : (t : Trail) (o : Outcome A) → ((a : A) → Counts trail (f a) (g a)) → Counts trail (after t o >>> f) (o >>= g)
  unfolding ◌>>=◌
  counts-after t (refused n) h = record { same = refl; reads = λ a e. refused-not e }
  counts-after t (done a) h = h a

  -- after a counted one
  pub counts_bind : (c : Counted A) (o : Outcome A) → c.outcome ≡ o → ((a : A) → Counts trail (f a) (g a)) → Counts trail (c >>> f) (o >>= g)
  unfolding ◌>>=◌
  counts_bind c (refused n) e h = rw e (record { same = refl; reads = λ a e. refused-not e })
  counts_bind c (done a) e h = rw e (h a)

-- ---- names

abbrev pub CountsNames : CountedNames → NameSearch → Type 0
CountsNames search inner = (p : Place) (t : Trail) → Counts (λ r. r.trail) (search p t) (inner p t)

module _ {search : CountedNames} {inner : NameSearch} (h : CountsNames search inner) where
  pub counts-name_at : (t : Trail) (x : Target) → Counts (λ r. r.trail) (counted_name_at search t x) (name_at_target inner t x)
  counts-name_at t nothing = counts_done (record { trail = t; name = [] })
  counts-name_at t (same_unit p) = h p t
  counts-name_at t (by_offset p) = h p t

  counts_referenced : (d : Dwarf) (p : Place) (ns : List ℕ) (t : Trail)
      → Counts (λ r. r.trail) (counted_referenced_name search d p ns t) (referenced_name inner d p ns t)
  unfolding counted_referenced_name referenced_name
  counts_referenced d p [] t = counts_done (record { trail = t; name = [] })
  counts_referenced d p (n ∷ ns) t =
      let later = counts_referenced d p ns in
      counts-after t (follow d p t (attribute p.entry n)) λ f.
      counts_bind (counted_name_at search f.trail f.target) (name_at_target inner f.trail f.target) (counts-name_at f.trail f.target).same λ r.
      counts_cond (is_empty r.name) (later r.trail) (counts_done r)

pub counts_name : (d : Dwarf) (k : ℕ) → CountsNames (counted_name k d) (resolve_name_inner k d)
unfolding counted_name resolve_name_inner
counts_name d zero p t = counts_done (record { trail = t; name = [] })
counts_name d (suc k) p t =
    let inner = counts_name d k in
    counts-after t (own_name p.entry name_attributes) λ own.
    counts_cond (is_empty own) (counts_referenced inner d p origin_attributes t) (counts_done (record { trail = t; name = own }))

counts-reference : (d : Dwarf) (p : Place) (name : ℕ) → Counts (λ r. r.trail) (counted_reference_name d p name) (resolve_reference_named d p name)
unfolding counted_reference_name resolve_reference_named
counts-reference d p name =
    counts-after empty_trail (follow d p empty_trail (attribute p.entry name)) λ f.
    counts-name_at (counts_name d (chain_limit - 1)) f.trail f.target

-- ---- declarations

abbrev CountsDeclarations : CountedDeclarations → DeclarationSearch → Type 0
CountsDeclarations search inner = (p : Place) (is : FileIndices) (s : Declaring) → Counts (λ r. r.trail) (search p is s) (inner p is s)

module _ {search : CountedDeclarations} {inner : DeclarationSearch} (h : CountsDeclarations search inner) where
  counts_declaration_at : (is : FileIndices) (s : Declaring) (x : Target)
      → Counts (λ r. r.trail) (counted_declaration_at search is s x) (declaration_at_target inner is s x)
  counts_declaration_at is s nothing = counts_done s
  counts_declaration_at is s (same_unit p) = h p is s
  counts_declaration_at is s (by_offset p) =
      counts-after s.trail (unit_files p.unit p.unit.header s.table) λ i. h p i.indices (with_table s i.table)

  counts-declared : (d : Dwarf) (p : Place) (is : FileIndices) (ns : List ℕ) (s : Declaring)
      → Counts (λ r. r.trail) (counted_referenced_declaration search d p is ns s) (referenced_declaration inner d p is ns s)
  unfolding counted_referenced_declaration referenced_declaration
  counts-declared d p is [] s = counts_done s
  counts-declared d p is (n ∷ ns) s =
      let later = counts-declared d p is ns in
      counts-after s.trail (follow d p s.trail (attribute p.entry n)) λ f.
      counts_bind (counted_declaration_at search is (with_trail s f.trail) f.target) (declaration_at_target inner is (with_trail s f.trail) f.target)
      (counts_declaration_at is (with_trail s f.trail) f.target).same λ r.
      counts_cond (is_none r.found) (later r) (counts_done r)

pub counts-declaration : (d : Dwarf) (k : ℕ) → CountsDeclarations (counted_declaration k d) (resolve_declaration k d)
unfolding counted_declaration resolve_declaration
counts-declaration d zero p is s = counts_done s
counts-declaration d (suc k) p is s =
    let inner = counts-declaration d k in
    counts-after s.trail (own_declaration p.unit p.entry is s) λ r.
    counts_cond (is_none r.found) (counts-declared inner d p is origin_attributes r) (counts_done r)

-- ---- the laws

pub counting : (d : Dwarf) (k : ℕ) (p : Place) → Counting d k p
counting d k p = record {
  name = λ t. (counts_name d k p t).same;
  name-reads = λ t r e. (counts_name d k p t).reads r e;
  reference = λ name. (counts-reference d p name).same;
  reference-reads = λ name r e. (counts-reference d p name).reads r e;
  declaration = λ is s. (counts-declaration d k p is s).same;
  declaration-reads = λ is s r e. (counts-declaration d k p is s).reads r e;
}
