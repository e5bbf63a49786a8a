-- An entry's ranges held against those of the innermost open node: what reading the innermost frame and merging say together, and what the entry at a place
-- gives.
use mathlib.Core.Path.{◌≡◌, refl, sym, ap, ◌∙◌}
use mathlib.Core.List.{List, [], ◌∷◌, map}
use mathlib.Core.Option.{Option, none, some}
use Prim.Native.Nat.{ℕ, ◌+◌, ◌-◌, ◌*◌}
use lib.ListN.{drop}
use Rattle.tlv.specs.declared.model.AddressRange.{AddressRange}
use Rattle.tlv.specs.Lists.{map_option}
use Rattle.tlv.specs.Fields.{fields, payload_of}
use Rattle.tlv.specs.Model.{RangeList, EntryRange, range_list_of}
use Rattle.tlv.specs.Cursor.{Step, field_here, step_at}
use Rattle.access.specs.Places.{own_fields, entry_here}
use Rattle.access.proofs.EntryPlaceLaws.{entry-ranges, entry-failure, entry-list}
use Rattle.rnglists.specs.RangeLists.{die_ranges_by}
use Rattle.imports.specs.Ranges.{coalesce_ranges}
use Rattle.imports.specs.Tree.{fit, die_ranges, parent_ranges}
use Rattle.ranges.specs.RangeTable.{ranges_at, read_by, read_at}
use Rattle.dies.specs.declared.frames.Open.{Open}
use Rattle.dies.specs.Details.{dwarf_with}
use Rattle.dies.specs.FrameStack.{open_in, Top}

-- what is read of the entry at a place is what the fields behind its field give
pub read_here : (main supplementary lists addresses : List ℕ) (p : ℕ) (r : Step) (t start len next : ℕ) → r ≡ step_at main p → r ≡ field_here t start len next
    → die_ranges (dwarf_with main supplementary lists addresses) (entry_here main p) ≡ read_at lists addresses main next
unfolding die_ranges
read_here main supplementary lists addresses p r t start len next reads e =
    ap (die_ranges_by lists addresses (entry_here main p)) (entry-list main p r t start len next reads e) ∙ by_list (map_option range_list_of (payload_of 0x1f (own_fields (fields (drop next main)))))
  where
    by_list : (o : Option RangeList) → die_ranges_by lists addresses (entry_here main p) o ≡ read_by lists addresses main next o
    by_list none = λ i. record { given = entry-ranges main p r t start len next reads e i; failure = entry-failure main p r t start len next reads e i; refusal = 6 }
    by_list (some l) = refl

-- those that fit the function's range or the innermost open node's
pub node-ranges : (base k : ℕ) (w w' : List ℕ) {st : Open} {from : ℕ} {f : AddressRange} (given : List EntryRange) → Top st from → ranges_at w base 1 ≡ f ∷ []
    → ranges_at w' (base + st.used * 16) k ≡ coalesce_ranges (fit (ranges_at w (base + from * 16) (st.used - from)) (map (λ x. x.range) given))
    → ranges_at w' (base + st.used * 16) k ≡ coalesce_ranges (fit (parent_ranges f (open_in w base st)) (map (λ x. x.range) given))
node-ranges base k w w' {f = f} given T bottom G = G ∙ ap (λ (ps : List AddressRange). coalesce_ranges (fit ps (map (λ x. x.range) given))) (sym (T.ranges f w base bottom))
