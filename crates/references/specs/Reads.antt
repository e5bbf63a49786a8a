-- Definition. How many entries a search reads (document 02, E14): the searches with the number beside each outcome, refused or done.
use Rattle.std.specs.Prelude.{ℕ, zero, suc, ◌+◌, ◌-◌, ◌*◌, ◌≤◌, ◌≡◌, Bool, cond, ◌&&◌, List, [], ◌∷◌, leb, length}
use Rattle.std.proofs.Math.Option.{none}
use Rattle.tlv.specs.Outcome.{Outcome, refused, done, ◌>>=◌}
use Rattle.tlv.specs.Lists.{Any, filter, is_none, is_empty}
use Rattle.tlv.specs.Model.{CompilationUnit, Entry, Attribute}
use Rattle.buffers.specs.Output.{Warning}
use Rattle.lines.specs.Files.{FileTable, FileIndices}
use Rattle.references.specs.Search.{Dwarf, Place, Trail, empty_trail, attribute, Target}
use Rattle.references.specs.Search.{nothing, same_unit, by_offset, follow, origin_attributes, chain_limit}
use Rattle.references.specs.Search.{name_attributes, own_name, Named, name_at_target, resolve_name_inner, place_in}
use Rattle.references.specs.Search.{Declaring, with_trail, with_table, own_declaration, unit_files, resolve_declaration}

-- ---- an outcome, and how many entries had been read when it came

pub record Counted (A : Type 0) : Type 0 where
  pub reads : ℕ
  pub outcome : Outcome A

module _ {A : Type 0} where
  -- an outcome for which nothing more was read: a trail has the number of its search so far, the start included. A target outside all units, one that was
  -- followed before and one where no entry starts (13) read nothing; every entry that is reached counts, a 64th in a row too
  abbrev pub after : Trail → Outcome A → Counted A
  after t o = record { reads = t.reads; outcome = o }

module _ {A B : Type 0} where
  infixl 20 ◌>>>◌
  abbrev pub go_on : ℕ → Outcome A → (A → Counted B) → Counted B
  go_on n (refused k) f = record { reads = n; outcome = refused k }
  go_on n (done a) f = f a

  -- as _>>=_ of outcomes
  abbrev pub ◌>>>◌ : Counted A → (A → Counted B) → Counted B
  c >>> f = go_on c.reads c.outcome f

-- ---- names: each definition beside that of Search.antt which it counts

abbrev pub CountedNames : Type 0
CountedNames = Place → Trail → Counted Named

abbrev pub counted_name_at : CountedNames → Trail → Target → Counted Named
counted_name_at search t nothing = after t (done (record { trail = t; name = [] }))
counted_name_at search t (same_unit p) = search p t
counted_name_at search t (by_offset p) = search p t

unfoldable pub counted_referenced_name : CountedNames → Dwarf → Place → List ℕ → Trail → Counted Named
counted_referenced_name search d p [] t = after t (done (record { trail = t; name = [] }))
counted_referenced_name search d p (n ∷ ns) t =
    after t (follow d p t (attribute p.entry n)) >>> λ f.
    counted_name_at search f.trail f.target >>> λ r.
    cond (is_empty r.name) (counted_referenced_name search d p ns r.trail) (after r.trail (done r))

unfoldable pub counted_name : ℕ → Dwarf → Place → Trail → Counted Named
counted_name zero d p t = after t (done (record { trail = t; name = [] }))
counted_name (suc k) d p t = after t (own_name p.entry name_attributes) >>> λ own.
    cond (is_empty own) (counted_referenced_name (counted_name k d) d p origin_attributes t) (after t (done (record { trail = t; name = own })))

-- the name that the attribute of a name of an entry refers to
unfoldable pub counted_reference_name : Dwarf → Place → ℕ → Counted Named
counted_reference_name d p name =
    after empty_trail (follow d p empty_trail (attribute p.entry name)) >>> λ f.
    counted_name_at (counted_name (chain_limit - 1) d) f.trail f.target

-- ---- declarations

abbrev pub CountedDeclarations : Type 0
CountedDeclarations = Place → FileIndices → Declaring → Counted Declaring

abbrev pub counted_declaration_at : CountedDeclarations → FileIndices → Declaring → Target → Counted Declaring
counted_declaration_at search is s nothing = after s.trail (done s)
counted_declaration_at search is s (same_unit p) = search p is s
counted_declaration_at search is s (by_offset p) =
    after s.trail (unit_files p.unit p.unit.header s.table) >>> λ i. search p i.indices (with_table s i.table)

unfoldable pub counted_referenced_declaration : CountedDeclarations → Dwarf → Place → FileIndices → List ℕ → Declaring → Counted Declaring
counted_referenced_declaration search d p is [] s = after s.trail (done s)
counted_referenced_declaration search d p is (n ∷ ns) s =
    after s.trail (follow d p s.trail (attribute p.entry n)) >>> λ f.
    counted_declaration_at search is (with_trail s f.trail) f.target >>> λ r.
    cond (is_none r.found) (counted_referenced_declaration search d p is ns r) (after r.trail (done r))

unfoldable pub counted_declaration : ℕ → Dwarf → Place → FileIndices → Declaring → Counted Declaring
counted_declaration zero d p is s = after s.trail (done s)
counted_declaration (suc k) d p is s = after s.trail (own_declaration p.unit p.entry is s) >>> λ r.
    cond (is_none r.found) (counted_referenced_declaration (counted_declaration k d) d p is origin_attributes r) (after r.trail (done r))

-- ---- the counts of the three searches that start at an entry of the unit that is imported

unfoldable pub name_reads : Dwarf → CompilationUnit → Entry → ℕ
name_reads d u e = (counted_name chain_limit d (place_in u e) empty_trail).reads

unfoldable pub reference_name_reads : Dwarf → CompilationUnit → Entry → ℕ → ℕ
reference_name_reads d u e name = (counted_reference_name d (place_in u e) name).reads

unfoldable pub declaration_reads : Dwarf → CompilationUnit → Entry → FileIndices → FileTable → List Warning → ℕ
declaration_reads d u e is table warnings =
    (counted_declaration chain_limit d (place_in u e) is (record { trail = empty_trail; table = table; warnings = warnings; found = none })).reads

-- ---- the laws

-- resolve_reference_name of the attribute of a name, with what it followed
unfoldable pub resolve_reference_named : Dwarf → Place → ℕ → Outcome Named
resolve_reference_named d p name =
    follow d p empty_trail (attribute p.entry name) >>= λ f.
    name_at_target (resolve_name_inner (chain_limit - 1) d) f.trail f.target

-- "equal to the definition's own reads": without its number each is the search itself, and a search that is done has read as many as its trail says
pub record Counting (d : Dwarf) (k : ℕ) (p : Place) : Type 0 where
  pub name : (t : Trail) → (counted_name k d p t).outcome ≡ resolve_name_inner k d p t
  pub name-reads : (t : Trail) (r : Named) → resolve_name_inner k d p t ≡ done r → (counted_name k d p t).reads ≡ r.trail.reads
  pub reference : (name : ℕ) → (counted_reference_name d p name).outcome ≡ resolve_reference_named d p name
  pub reference-reads : (name : ℕ) (r : Named) → resolve_reference_named d p name ≡ done r → (counted_reference_name d p name).reads ≡ r.trail.reads
  pub declaration : (is : FileIndices) (s : Declaring) → (counted_declaration k d p is s).outcome ≡ resolve_declaration k d p is s
  pub declaration-reads : (is : FileIndices) (s r : Declaring) → resolve_declaration k d p is s ≡ done r
      → (counted_declaration k d p is s).reads ≡ r.trail.reads

-- a reference attribute: kinds 4 to 6, of any name
abbrev pub is_reference : Attribute → Bool
is_reference a = leb 4 a.kind && leb a.kind 6

unfoldable pub entry_references : List Entry → ℕ
entry_references [] = 0
entry_references (e ∷ es) = length (filter is_reference e.attributes) + entry_references es

-- how many there are in the units of a sheet
unfoldable pub reference_attributes : List CompilationUnit → ℕ
reference_attributes [] = 0
reference_attributes (u ∷ us) = entry_references u.entries + reference_attributes us

-- "at most 3 plus the number of reference attributes when there is no supplementary sheet, and at most 1 plus twice that number over both sheets otherwise"
pub record ReadsWithin (d : Dwarf) (count : ℕ) : Type 0 where
  pub alone : d.supplementary ≡ [] → count ≤ 3 + reference_attributes d.main
  pub both : count ≤ 1 + 2 * (reference_attributes d.main + reference_attributes d.supplementary)

-- of every search from an entry of the main sheet
pub record ReadsBounded (d : Dwarf) (u : CompilationUnit) (e : Entry) : Type 0 where
  pub name : ReadsWithin d (name_reads d u e)
  pub reference : (name : ℕ) → ReadsWithin d (reference_name_reads d u e name)
  pub declaration : (is : FileIndices) (table : FileTable) (warnings : List Warning) → ReadsWithin d (declaration_reads d u e is table warnings)

abbrev pub Bounded : Type 0
Bounded = (d : Dwarf) (u : CompilationUnit) (e : Entry) → Any (λ v. v ≡ u) d.main → Any (λ x. x ≡ e) u.entries → ReadsBounded d u e
