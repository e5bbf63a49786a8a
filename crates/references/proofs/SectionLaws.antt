-- Searches do not look at the sections that range lists are read from.
use mathlib.Core.Path.{◌≡◌, refl}
use mathlib.Core.Bool.{cond}
use mathlib.Core.List.{List, [], ◌∷◌}
use mathlib.Core.Option.{Option, none, some}
use Prim.Native.Nat.{ℕ, zero, suc, ◌-◌}
use Rattle.tlv.specs.Outcome.{done, ◌>>=◌}
use Rattle.tlv.specs.Lists.{is_empty, is_none}
use Rattle.tlv.specs.Model.{CompilationUnit, Entry, Attribute}
use Rattle.buffers.specs.Output.{Warning}
use Rattle.lines.specs.Files.{FileTable, FileIndices}
use Rattle.references.specs.Search.{Dwarf, DebugSource, main_source, supplementary_source, units_in, Place, Trail, follow_absolute, follow_supplementary, follow, origin_attributes, chain_limit, attribute, own_name, name_attributes, NameSearch, name_at_target, referenced_name, resolve_name_inner, place_in, empty_trail, resolve_named, resolve_name, resolve_reference_name, Declaring, DeclarationSearch, declaration_at_target, with_trail, referenced_declaration, own_declaration, resolve_declaration, resolve_declaration_line}

-- the same units with other sections
abbrev pub with_sections : List ℕ → List ℕ → Dwarf → Dwarf
with_sections lists addresses d = record { main = d.main; supplementary = d.supplementary; lists = lists; addresses = addresses }

module _ (lists addresses : List ℕ) (d : Dwarf) where
  abbrev e : Dwarf
  e = with_sections lists addresses d

  units-same : (input : DebugSource) → units_in e input ≡ units_in d input
  unfolding units_in
  units-same main_source = refl
  units-same supplementary_source = refl

  absolute-same : (input source : DebugSource) (t : Trail) (o : ℕ) → follow_absolute e input source t o ≡ follow_absolute d input source t o
  unfolding follow_absolute
  absolute-same input source t o = rw (units-same input)

  supplementary-same : (source : DebugSource) (us : List CompilationUnit) (t : Trail) (o : ℕ) → follow_supplementary e source us t o ≡ follow_supplementary d source us t o
  supplementary-same main_source [] t o = refl
  supplementary-same main_source (u ∷ us) t o = absolute-same supplementary_source supplementary_source t o
  supplementary-same supplementary_source us t o = refl

  follow-same : (p : Place) (t : Trail) (a : Option Attribute) → follow e p t a ≡ follow d p t a
  unfolding follow
  follow-same p t none = refl
  follow-same p t (some a) = rw (absolute-same p.input main_source t a.value, supplementary-same p.input d.supplementary t a.value)

  -- ---- names

  referenced_same : (f g : NameSearch) → f ≡ g → (p : Place) (ns : List ℕ) (t : Trail) → referenced_name f e p ns t ≡ referenced_name g d p ns t
  unfolding referenced_name
  referenced_same f g h p [] t = refl
  referenced_same f g h p (n ∷ ns) t = λ i.
      follow-same p t (attribute p.entry n) i >>= λ x.
      name_at_target (h i) x.trail x.target >>= λ r.
      cond (is_empty r.name) (referenced_same f g h p ns r.trail i) (done r)

  inner_same : (k : ℕ) (p : Place) (t : Trail) → resolve_name_inner k e p t ≡ resolve_name_inner k d p t
  unfolding resolve_name_inner
  inner_same zero p t = refl
  inner_same (suc k) p t = λ i.
      own_name p.entry name_attributes >>= λ own.
      cond (is_empty own) (referenced_same (resolve_name_inner k e) (resolve_name_inner k d) (λ j q u. inner_same k q u j) p origin_attributes t i) (done (record { trail = t; name = own }))

  pub name-same : (u : CompilationUnit) (x : Entry) → resolve_name e u x ≡ resolve_name d u x
  unfolding resolve_name resolve_named
  name-same u x = rw (inner_same chain_limit (place_in u x) empty_trail)

  pub reference_name-same : (u : CompilationUnit) (x : Entry) (a : Attribute) → resolve_reference_name e u x a ≡ resolve_reference_name d u x a
  unfolding resolve_reference_name
  reference_name-same u x a = λ i.
      follow-same (place_in u x) empty_trail (some a) i >>= λ f.
      name_at_target (λ p t. inner_same (chain_limit - 1) p t i) f.trail f.target >>= λ r.
      done r.name

  -- ---- declarations

  referenced_declaration-same : (f g : DeclarationSearch) → f ≡ g → (p : Place) (is : FileIndices) (ns : List ℕ) (s : Declaring)
      → referenced_declaration f e p is ns s ≡ referenced_declaration g d p is ns s
  unfolding referenced_declaration
  referenced_declaration-same f g h p is [] s = refl
  referenced_declaration-same f g h p is (n ∷ ns) s = λ i.
      follow-same p s.trail (attribute p.entry n) i >>= λ x.
      declaration_at_target (h i) is (with_trail s x.trail) x.target >>= λ r.
      cond (is_none r.found) (referenced_declaration-same f g h p is ns r i) (done r)

  declaration-same : (k : ℕ) (p : Place) (is : FileIndices) (s : Declaring) → resolve_declaration k e p is s ≡ resolve_declaration k d p is s
  unfolding resolve_declaration
  declaration-same zero p is s = refl
  declaration-same (suc k) p is s = λ i.
      own_declaration p.unit p.entry is s >>= λ r.
      cond (is_none r.found) (referenced_declaration-same (resolve_declaration k e) (resolve_declaration k d) (λ j q js u. declaration-same k q js u j) p is origin_attributes r i) (done r)

  pub declaration-line_same : (u : CompilationUnit) (x : Entry) (is : FileIndices) (table : FileTable) (ws : List Warning)
      → resolve_declaration_line e u x is table ws ≡ resolve_declaration_line d u x is table ws
  unfolding resolve_declaration_line
  declaration-line_same u x is table ws = declaration-same chain_limit (place_in u x) is _
