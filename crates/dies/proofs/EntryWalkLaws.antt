-- The entries of a unit by place: what the field at a place adds to them, which of them lie below a subprogram, and how many ranges and entries are left.
use mathlib.Core.Path.{◌≡◌, refl, ap, ◌∙◌}
use mathlib.Core.Bool.{Bool, not, ◌||◌}
use mathlib.Core.List.{List, [], ◌∷◌, map}
use Prim.Native.Nat.{ℕ, ◌+◌, ◌≤◌, ◌<◌}
use native.Mathlib.Omega.{arith}
use lib.Dec.{eqb}
use lib.ListN.{length, drop}
use borrow.Author.Tests.{eqb-true, eqb-false, eq-eqb, ne_eqb, lt-ltb, le-ltb}
use Rattle.std.specs.Prelude.{Some, None}
use Rattle.tlv.specs.declared.fields.FieldSpan.{FieldSpan}
use Rattle.tlv.specs.Lists.{Any, All, take_while, drop_while}
use Rattle.tlv.specs.Fields.{Field, FieldList, more, fields, whole_fields, grouped, payloads}
use Rattle.tlv.specs.Model.{Entry, entry_of}
use Rattle.tlv.specs.Cursor.{step_at, field_from}
use Rattle.tlv.specs.Bytes.{le_at}
use Rattle.tlv.specs.Checked.{field_in, Placed}
use Rattle.tlv.proofs.FieldLaws.{is-step, at-none, fields-field, field-within, payload-length}
use Rattle.tlv.proofs.PlacePromises.{placed-entry}
use Rattle.access.specs.Places.{own_fields, unit_fields, entry_here, unit_here, behind, entry_index, lists_from}
use Rattle.access.proofs.EntryPlaceLaws.{entry_depth-is}
use Rattle.access.proofs.ListCountLaws.{lists-one, lists-other}
use Rattle.access.proofs.IndexLaws.{index-entry, index-other}
use Rattle.access.proofs.IndexModel.{either}
use Rattle.references.specs.Tables.{EntryKnown}
use Rattle.imports.specs.Import.{descendants_of}
use Rattle.ranges.specs.RangeTable as table
use Rattle.dies.specs.Details.{entries_from, EntriesKnown}
use Rattle.dies.specs.DetailState.{ranges_later, entries_left}

-- the test of an entry's own fields
abbrev is_own : Field → Bool
is_own f = not (eqb f.tag 0x17 || eqb f.tag 0x10)

-- those of an entry are up to the next entry or unit
own-before : (fs : List Field) → (grouped 0x17 (take_while (λ f. not (eqb f.tag 0x10)) fs)).before ≡ take_while (λ f. not (eqb f.tag 0x17 || eqb f.tag 0x10)) fs
unfolding grouped take_while
own-before [] = refl
own-before (f ∷ fs) =
    either (eqb f.tag 0x10) (λ a. either (eqb f.tag 0x17) (λ b. rw (a, b)) (λ b. rw (a, b)))
    (λ a. either (eqb f.tag 0x17) (λ b. rw (a, b)) (λ b. rw (a, b, own-before fs)))

-- the payloads of a tag, before the first field that fails a test and from there on
split : (own : Field → Bool) (t : ℕ) (xs : List Field) → length (payloads t xs) ≡ length (payloads t (take_while own xs)) + length (payloads t (drop_while own xs))
unfolding take_while drop_while payloads
split own t [] = refl
split own t (x ∷ xs) =
    let ih = split own t xs in
    either (own x)
    (λ y. either (eqb x.tag t) (λ z. rw (y, z) (omega arith)) (λ z. rw (y, z) (omega arith)))
    (λ n. rw n (omega arith))

-- an entry's own fields are its unit's too
own-both : (fs : List Field) → take_while is_own (take_while (λ f. not (eqb f.tag 0x10)) fs) ≡ take_while is_own fs
unfolding take_while
own-both [] = refl
own-both (f ∷ fs) =
    either (eqb f.tag 0x10) (λ a. either (eqb f.tag 0x17) (λ b. rw (a, b)) (λ b. rw (a, b)))
    (λ a. either (eqb f.tag 0x17) (λ b. rw (a, b)) (λ b. rw (a, b, a, own-both fs)))

-- no more ranges come later than come at all, and no more lists than the unit has from there on
pub later-most : (s : List ℕ) (p : ℕ) → (ranges_later s p).ranges ≤ length (payloads 0x19 (whole_fields (fields (drop p s))))
unfolding ranges_later
later-most s p = omega (arith, split is_own 0x19 (whole_fields (fields (drop p s))))

pub lists-most : (s : List ℕ) (p : ℕ) → (ranges_later s p).lists ≤ lists_from s p
unfolding ranges_later lists_from
lists-most s p = omega (arith, split is_own 0x1f (unit_fields (fields (drop p s))))

pub left-all : (s : List ℕ) (p : ℕ) → entries_left s p ≡ length (payloads 0x17 (whole_fields (fields (drop p s))))
unfolding entries_left
left-all s p = refl

-- ---- below a subprogram

module _ (depth : ℕ) where
  pub below_none : descendants_of depth [] ≡ []
  unfolding descendants_of take_while
  below_none = refl

  pub below-cons : (e : Entry) (es : List Entry) → depth < e.depth → descendants_of depth (e ∷ es) ≡ e ∷ descendants_of depth es
  unfolding descendants_of take_while
  below-cons e es h = rw (lt-ltb depth e.depth h)

  pub below-stop : (e : Entry) (es : List Entry) → e.depth ≤ depth → descendants_of depth (e ∷ es) ≡ []
  unfolding descendants_of take_while
  below-stop e es h = rw (le-ltb depth e.depth h)

-- ---- what stands at a place

module _ (s : List ℕ) (p : ℕ) where
  pub from-none : None ≡ field_from s p → entries_from s p ≡ []
  unfolding entries_from unit_fields whole_fields take_while grouped
  from-none at = at-none s p at (λ (fs : FieldList). map entry_of (grouped 0x17 (unit_fields fs)).groups ≡ []) refl refl

  pub none-below : None ≡ field_from s p → (depth : ℕ) → descendants_of depth (entries_from s p) ≡ []
  none-below at depth = ap (descendants_of depth) (from-none at) ∙ below_none depth

  module _ (f : FieldSpan) (there : Some f ≡ field_from s p) where
    here : fields (drop p s) ≡ more (field_in s f.tag f.start f.len) (fields (drop f.next s))
    here = fields-field s p f there

    pub from-unit : f.tag ≡ 0x10 → entries_from s p ≡ []
    unfolding entries_from unit_fields whole_fields take_while grouped
    from-unit is = rw (here, eq-eqb f.tag 0x10 is)

    pub from-entry : f.tag ≡ 0x17 → entries_from s p ≡ entry_here s p ∷ entries_from s f.next
    unfolding entries_from unit_fields whole_fields take_while grouped entry_here own_fields
    from-entry is = rw (here, ne_eqb f.tag 0x10 (λ no. omega arith), eq-eqb f.tag 0x17 is, own-before (whole_fields (fields (drop f.next s))))

    pub from-other : (f.tag ≡ 0x10 → ⊥) → (f.tag ≡ 0x17 → ⊥) → entries_from s p ≡ entries_from s f.next
    unfolding entries_from unit_fields whole_fields take_while grouped
    from-other h k = rw (here, ne_eqb f.tag 0x10 h, ne_eqb f.tag 0x17 k)

    pub none-unit : (depth : ℕ) → f.tag ≡ 0x10 → descendants_of depth (entries_from s p) ≡ []
    none-unit depth is = ap (descendants_of depth) (from-unit is) ∙ below_none depth

    module _ (h : Placed s p) (is : f.tag ≡ 0x17) where
      pub entry-room : p + 15 ≤ length s
      entry-room =
          let w = field-within s p f there in
          let l = placed-entry s p (step_at s p) f.tag f.start f.len f.next h refl (is-step s p f there) is in
          omega arith

      pub depth-at : (entry_here s p).depth ≡ le_at 2 s (p + 11)
      depth-at =
          let w = field-within s p f there in
          let e : f.start + 8 ≡ p + 11 = omega arith in
          rw e at (entry_depth-is s p (step_at s p) f.tag f.start f.len f.next refl (is-step s p f there) h is)

      pub none-stop : (depth : ℕ) {n : ℕ} → n ≡ le_at 2 s (p + 11) → n ≤ depth → descendants_of depth (entries_from s p) ≡ []
      none-stop depth en l = ap (descendants_of depth) (from-entry is) ∙ below-stop depth (entry_here s p) (entries_from s f.next) (omega (arith, depth-at))

    -- ---- how many are left

    whole : whole_fields (fields (drop p s)) ≡ field_in s f.tag f.start f.len ∷ whole_fields (fields (drop f.next s))
    unfolding whole_fields
    whole = ap whole_fields here

    pub left-entry : f.tag ≡ 0x17 → entries_left s p ≡ 1 + entries_left s f.next
    unfolding entries_left payloads
    left-entry is = rw (whole, eq-eqb f.tag 0x17 is) (omega arith)

    pub left_other : (f.tag ≡ 0x17 → ⊥) → entries_left s p ≡ entries_left s f.next
    unfolding entries_left payloads
    left_other h = rw (whole, ne_eqb f.tag 0x17 h)

    pub later-entry : f.tag ≡ 0x17 → (ranges_later s p).ranges ≡ length (table.range_fields s f.next) + (ranges_later s f.next).ranges
    unfolding ranges_later own_fields drop_while payloads
    later-entry is = rw (whole, eq-eqb f.tag 0x17 is, ne_eqb f.tag 0x19 (λ no. omega arith)) (split is_own 0x19 (whole_fields (fields (drop f.next s))))

    pub lists-entry : f.tag ≡ 0x17 → (ranges_later s p).lists ≡ table.own_lists s f.next + (ranges_later s f.next).lists
    unfolding ranges_later unit_fields own_fields take_while drop_while payloads
    lists-entry is =
        let own : List Field = take_while (λ f. not (eqb f.tag 0x10)) (whole_fields (fields (drop f.next s))) in
        rw (whole, ne_eqb f.tag 0x10 (λ no. omega arith), eq-eqb f.tag 0x17 is, ne_eqb f.tag 0x1f (λ no. omega arith))
        (split is_own 0x1f own ∙ ap (λ (l : List Field). length (payloads 0x1f l) + length (payloads 0x1f (drop_while is_own own))) (own-both (whole_fields (fields (drop f.next s)))))

    pub later-other : (f.tag ≡ 0x10 → ⊥) → (f.tag ≡ 0x17 → ⊥) → (ranges_later s p).ranges ≡ (ranges_later s f.next).ranges
    unfolding ranges_later drop_while
    later-other h k = rw (whole, ne_eqb f.tag 0x17 k, ne_eqb f.tag 0x10 h)

    pub lists-later-other : (f.tag ≡ 0x10 → ⊥) → (f.tag ≡ 0x17 → ⊥) → (ranges_later s p).lists ≡ (ranges_later s f.next).lists
    unfolding ranges_later unit_fields take_while drop_while
    lists-later-other h k = rw (whole, ne_eqb f.tag 0x10 h, ne_eqb f.tag 0x17 k, ne_eqb f.tag 0x10 h)

    -- ---- the index

    to : behind p (field_in s f.tag f.start f.len) ≡ f.next
    to = let w = field-within s p f there in omega (arith, payload-length s p f there)

    fewer : (m : ℕ) → length (payloads m (whole_fields (fields (drop f.next s)))) ≤ length (payloads m (whole_fields (fields (drop p s))))
    unfolding payloads
    fewer m = rw whole (either (eqb f.tag m) (λ y. rw y (omega arith)) (λ n. rw n (omega arith)))

    -- no more lists follow
    fewer-lists : (f.tag ≡ 0x10 → ⊥) → lists_from s f.next ≤ lists_from s p
    fewer-lists h =
        either (eqb f.tag 0x1f)
        (λ y. omega (arith, lists-one s p (step_at s p) refl f.tag f.start f.len f.next (is-step s p f there) h (eqb-true f.tag 0x1f y)))
        (λ n. omega (arith, lists-other s p (step_at s p) refl f.tag f.start f.len f.next (is-step s p f there) h (eqb-false f.tag 0x1f n)))

    module _ {q : ℕ} (K : EntriesKnown s q p) where
      index-here : f.tag ≡ 0x17 → EntryKnown s q p × All (λ x. Any (λ y. y ≡ x) (entry_index 0 0 0 (fields s))) (entry_index f.next q (unit_here s q).offset (fields (drop f.next s)))
      index-here is =
          let all = rw (here, index-entry p q (unit_here s q).offset (field_in s f.tag f.start f.len) (fields (drop f.next s)) f.next to is) at K.listed in
          (record { entry = _; listed = all.0; place = refl; unit = refl }, all.1)

      pub known-here : f.tag ≡ 0x17 → EntryKnown s q p
      known-here is = (index-here is).0

      pub known-entry : f.tag ≡ 0x17 → EntriesKnown s q f.next
      known-entry is = record {
        listed = (index-here is).1;
        ranges = omega (arith, K.ranges, fewer 0x19);
        entries = omega (arith, K.entries, fewer 0x17);
        lists = omega (arith, K.lists, fewer-lists (λ no. omega arith));
      }

      pub known-other : (f.tag ≡ 0x10 → ⊥) → (f.tag ≡ 0x17 → ⊥) → EntriesKnown s q f.next
      known-other h k = record {
        listed = rw (here, index-other p q (unit_here s q).offset (field_in s f.tag f.start f.len) (fields (drop f.next s)) f.next to h k) at K.listed;
        ranges = omega (arith, K.ranges, fewer 0x19);
        entries = omega (arith, K.entries, fewer 0x17);
        lists = omega (arith, K.lists, fewer-lists h);
      }
