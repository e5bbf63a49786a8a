-- The entries that a walk meets are those below the subprogram: as entries of the unit by number, and as tree entries.
use mathlib.Core.Path.{◌≡◌, sym, ap, subst, ◌∙◌}
use mathlib.Core.List.{List, [], ◌∷◌, map}
use mathlib.Core.Option.{none}
use Prim.Native.Nat.{ℕ, zero, suc, ◌+◌, ◌-◌, ◌^◌, ◌≤◌, ◌<◌}
use native.Mathlib.Omega.{arith}
use lib.Dec.{ltb}
use lib.ListN.{length, get_or, drop, length-map}
use lib.Seq.{get_or-drop}
use Rattle.tlv.specs.Lists.{Any, All}
use Rattle.tlv.specs.Model.{CompilationUnit, Entry}
use Rattle.tlv.specs.Accepted.{EntryAccepted, Ordered, UnitAccepted}
use Rattle.tlv.proofs.ListLaws.{all_map, all_drop, all-take_while}
use Rattle.tlv.proofs.PlaceLaws.{all_get_or, any_get_or, get_or_image, drop_image, while_at, while_image}
use Rattle.references.specs.Search.{Dwarf}
use Rattle.imports.specs.Import.{descendants_of}
use Rattle.imports.specs.Agree.{TreeEntry, tree_entry, tree_entries, entry, entry_depth, Below}
use Rattle.imports.specs.Demand.{unit_entry, entries_below}
use Rattle.imports.proofs.ListAgree.{Steps, below_of}
use Rattle.imports.proofs.Shift.{below-is, is_below}
use Rattle.imports.proofs.MachineLaws.{steps_on}

-- past the end
abbrev blank : Entry
blank = record { offset = 0; depth = 0; tag = 0; attributes = []; ranges = []; failure = none; list = none }

-- ---- each entry's depth is at most the previous one's plus 1

ordered-steps : (o d : ℕ) (es : List Entry) (b : Entry) → Ordered o d es → (i : ℕ) → suc i < length es → (get_or es (suc i) b).depth ≤ suc (get_or es i b).depth
ordered-steps o d [] b h i l = absurd (omega arith)
ordered-steps o d (e ∷ []) b h i l = absurd (omega arith)
ordered-steps o d (e ∷ x ∷ es) b h zero l = h.2.1
ordered-steps o d (e ∷ x ∷ es) b h (suc i) l = ordered-steps (suc e.offset) (suc e.depth) (x ∷ es) b h.2 i (omega arith)

module _ (d : Dwarf) (u : CompilationUnit) where
  -- ---- tree entries by number

  pub tree-length : length (tree_entries d u) ≡ length u.entries
  unfolding tree_entries
  tree-length = length-map u.entries (tree_entry d u)

  pub tree-at : (i : ℕ) → i < length u.entries → entry (tree_entries d u) i ≡ tree_entry d u (unit_entry u i)
  unfolding tree_entries
  tree-at i l = get_or_image (tree_entry d u) u.entries i blank (record { depth = 0; tag = 0; name = []; ranges = [] }) l

  tree-depth : (i : ℕ) → i < length u.entries → entry_depth (tree_entries d u) i ≡ (unit_entry u i).depth
  unfolding tree_entry
  tree-depth i l = ap (λ (e : TreeEntry). e.depth) (tree-at i l)

  pub tree-steps : UnitAccepted u → Steps (tree_entries d u)
  tree-steps a i l =
      omega (arith, tree-length, tree-depth i (omega (arith, tree-length)), tree-depth (suc i) (omega (arith, tree-length)), ordered-steps 0 0 u.entries blank a.ordered i (omega (arith, tree-length)))

  -- ---- the entries below a subprogram

  module _ (s : ℕ) (l : s < length u.entries) where
    pub below-map : map (tree_entry d u) (entries_below u s) ≡ below_of (tree_entries d u) s
    unfolding below_of tree_entries descendants_of tree_entry
    below-map = rw (drop_image (tree_entry d u) (suc s) u.entries, tree-depth s l) (while_image (tree_entry d u) (λ e. ltb (unit_entry u s).depth e.depth) (drop (suc s) u.entries))

    below-count : length (below_of (tree_entries d u) s) ≡ length (entries_below u s)
    below-count = ap length (sym below-map) ∙ length-map (entries_below u s) (tree_entry d u)

    -- the entry of a place among them, by its number in the unit
    below-entry : (i : ℕ) → i < length (entries_below u s) → get_or (entries_below u s) i blank ≡ unit_entry u (suc s + i)
    unfolding descendants_of
    below-entry i h = (while_at (λ x. ltb (unit_entry u s).depth x.depth) blank (drop (suc s) u.entries) i h).0
        ∙ get_or-drop (suc s) u.entries i blank

    module _ (a : UnitAccepted u) where
      steps : (i : ℕ) → entry_depth (tree_entries d u) (suc i) ≤ suc (entry_depth (tree_entries d u) i)
      steps = steps_on (tree_entries d u) (tree-steps a)

      among : s < length (tree_entries d u)
      among = omega (arith, tree-length)

      -- what is so of one that the walk meets is so of an entry below
      pub below-any : (P : Entry → Type 0) → Any P (entries_below u s) → (i : ℕ) × Below (tree_entries d u) s i × P (unit_entry u i)
      below-any P h =
          let t = any_get_or P (entries_below u s) blank h in
          (suc s + t.0, below-is (tree_entries d u) s steps among t.0 (omega (arith, below-count)), subst P (below-entry t.0 t.1) t.2)

      -- what is so of all that the walk meets is so of every entry below
      pub below_all : (P : Entry → Type 0) → All P (entries_below u s) → (i : ℕ) → Below (tree_entries d u) s i → P (unit_entry u i)
      below_all P h i b =
          let g = is_below (tree_entries d u) s steps among i b in
          let l : i - suc s < length (entries_below u s) = omega (arith, below-count) in
          let w : suc s + (i - suc s) ≡ i = omega arith in
          subst P (below-entry (i - suc s) l ∙ ap (unit_entry u) w) (all_get_or P (entries_below u s) (i - suc s) blank h l)

      -- the offsets that warnings say have 64 bits
      pub below-offsets : All (λ e. u.offset + e.offset < 2 ^ 64) (entries_below u s)
      unfolding descendants_of
      below-offsets = all-take_while (λ e. u.offset + e.offset < 2 ^ 64) (λ x. ltb (unit_entry u s).depth x.depth) (drop (suc s) u.entries)
          (all_drop (λ e. u.offset + e.offset < 2 ^ 64) (suc s) u.entries (all_map u.entries small a.entries))
        where
          small : (e : Entry) → EntryAccepted u.length e → u.offset + e.offset < 2 ^ 64
          small e h = omega (arith, h.offset, a.within)
