-- Contract. Ranges in the work slice, and what the functions that merge them there promise.
use Rattle.std.specs.Prelude.{Result, Ok, Err, ◌≡◌, ◌↔◌, ◌⊎◌, Bool, true, false, List, [], ◌∷◌, ◌++◌, map, ℕ, ◌+◌, ◌*◌, ◌/◌, ◌≤◌, min, max, ltb, length, drop}
use Rattle.std.proofs.Math.Option.{Option, none, some}
use Rattle.tlv.specs.Tags.{failure_tag, list_tag, range_tag}
use Rattle.tlv.specs.declared.model.AddressRange.{AddressRange}
use Rattle.tlv.specs.declared.refusal.Refusal.{Refusal}
use Rattle.tlv.specs.Refusals.{number_of}
use Rattle.tlv.specs.Bytes.{le_at}
use Rattle.tlv.specs.Grammar.{list_base_at, list_addresses_at, list_size_at}
use Rattle.tlv.specs.Fields.{fields, payloads, payload_of}
use Rattle.tlv.specs.Model.{RangeList, range_of, entry_range_of, failure_of, range_list_of}
use Rattle.tlv.specs.Lists.{Any, is_none, map_option}
use Rattle.buffers.specs.Table.{records, Kept}
use Rattle.access.specs.Places.{own_fields}
use Rattle.rnglists.specs.RangeLists.{ListRanges, ranges_in, list_ranges, DieRanges, listed}
use Rattle.rnglists.specs.Room.{range_least}
use Rattle.imports.specs.Ranges.{Apart, coalesce_ranges}
use Rattle.imports.specs.Tree.{fit}

-- bytes of a range
abbrev pub range_record : ℕ
range_record = 16

-- the n ranges from place p on
unfoldable pub ranges_at : List ℕ → ℕ → ℕ → List AddressRange
ranges_at w p n = records range_of range_record w p n

-- ---- one range more, as a pass in place does it

-- the least range that holds both
abbrev pub hull : AddressRange → AddressRange → AddressRange
hull r m = record { start = min r.start m.start; end = max r.end m.end }

-- the range in hand meets the next one: the next one stays before it, or it stays before the next one, which is then in hand, or they are joined
abbrev pub add_met : Bool → Bool → AddressRange → AddressRange → (AddressRange → List AddressRange) → List AddressRange
add_met true c r m rest = m ∷ rest r
add_met false true r m rest = r ∷ rest m
add_met false false r m rest = rest (hull r m)

-- ranges with one more
unfoldable pub add_one : AddressRange → List AddressRange → List AddressRange
add_one r [] = r ∷ []
add_one r (m ∷ ms) = add_met (ltb m.end r.start) (ltb r.end m.start) r m (λ x. add_one x ms)

-- a pass over the n ranges at p with range x in hand: there are r
pub record Inserted (w w' : List ℕ) (p n : ℕ) (x : AddressRange) (r : ℕ) : Type 0 where
  pub ranges : ranges_at w' p r ≡ add_one x (ranges_at w p n)
  pub few : r ≤ n + 1
  pub rest : Kept w w' p (n * range_record + range_record)

-- range x was merged with the n at p: there are r
pub record Added (w w' : List ℕ) (p n : ℕ) (x : AddressRange) (r : ℕ) : Type 0 where
  pub ranges : ranges_at w' p r ≡ coalesce_ranges (x ∷ ranges_at w p n)
  pub apart : Apart (ranges_at w' p r)
  pub few : r ≤ n + 1
  pub rest : Kept w w' p (n * range_record + range_record)

-- ---- all the ranges of a table, in some order

-- a range is one of the n at p just if it was one of them before: their order, and how often each stands there, does not matter to merging
pub record Reordered (w w' : List ℕ) (p n : ℕ) : Type 0 where
  pub same : (x : AddressRange) → Any (λ y. y ≡ x) (ranges_at w' p n) ↔ Any (λ y. y ≡ x) (ranges_at w p n)
  pub rest : Kept w w' p (n * range_record)

-- the n ranges at p were merged: there are r
pub record MergedAt (w w' : List ℕ) (p n r : ℕ) : Type 0 where
  pub ranges : ranges_at w' p r ≡ coalesce_ranges (ranges_at w p n)
  pub apart : Apart (ranges_at w' p r)
  pub few : r ≤ n
  pub rest : Kept w w' p (n * range_record)

-- ---- the ranges of an entry

-- the payloads of the range fields behind an entry's field, which ends at p
abbrev pub range_fields : List ℕ → ℕ → List (List ℕ)
range_fields s p = payloads range_tag (own_fields (fields (drop p s)))

-- the ranges that they give
abbrev pub ranges_given : List ℕ → ℕ → List AddressRange
ranges_given s p = map (λ x. x.range) (map entry_range_of (range_fields s p))

-- range x was put behind the n at p, or left out where it is empty or lies inside none of the m at q: there are r
pub record PutFit (w w' : List ℕ) (q m p n : ℕ) (x : AddressRange) (r : ℕ) : Type 0 where
  pub ranges : ranges_at w' p r ≡ ranges_at w p n ++ fit (ranges_at w q m) (x ∷ [])
  pub few : r ≤ n + 1
  pub rest : Kept w w' p (n * range_record + range_record)

-- the ranges of the entry that are nonempty and lie inside one of the m at q stand at `to`, r of them, as they come
pub record GatheredFit (s : List ℕ) (p : ℕ) (w w' : List ℕ) (q m to r : ℕ) : Type 0 where
  pub ranges : ranges_at w' to r ≡ fit (ranges_at w q m) (ranges_given s p)
  pub few : r ≤ length (range_fields s p)
  pub rest : Kept w w' to (range_record * length (range_fields s p))

-- the ranges of the entry that are nonempty and lie inside one of the m at q were merged to r ranges at `to`
pub record Gathered (s : List ℕ) (p : ℕ) (w w' : List ℕ) (q m to r : ℕ) : Type 0 where
  pub ranges : ranges_at w' to r ≡ coalesce_ranges (fit (ranges_at w q m) (ranges_given s p))
  pub apart : Apart (ranges_at w' to r)
  pub few : r ≤ length (range_fields s p)
  pub rest : Kept w w' to (range_record * length (range_fields s p))

-- ---- the ranges of a list (document 02, E9)

-- how many fields 1f an entry has whose field ends at p: one at the most
abbrev pub own_lists : List ℕ → ℕ → ℕ
own_lists s p = length (payloads list_tag (own_fields (fields (drop p s))))

-- the list of a field 1f
abbrev pub list_at : List ℕ → List ℕ → ℕ → ℕ → ℕ → ℕ → ListRanges
list_at lists addresses place size offset from = ranges_in size (drop place addresses) from (drop offset lists)

-- that of the field whose payload starts at a place
abbrev pub list_of : List ℕ → List ℕ → List ℕ → ℕ → ListRanges
list_of main lists addresses start =
    list_at lists addresses (le_at 8 main (start + list_addresses_at)) (le_at 1 main (start + list_size_at))
    (le_at 8 main start) (le_at 8 main (start + list_base_at))

-- the ranges that it gives
abbrev pub list_given : ListRanges → List AddressRange
list_given l = map (λ x. x.range) l.given

-- those that are nonempty and lie inside one of the m at q stand at `to`, as they come: a third of the section's bytes at the most; or the list has a fault
abbrev pub ListFit : List ℕ → ListRanges → List ℕ → List ℕ → ℕ → ℕ → ℕ → Result ℕ Refusal → Type 0
ListFit lists l w w' q m to (Ok r) = (l.fault ≡ 0) × (ranges_at w' to r ≡ fit (ranges_at w q m) (list_given l))
    × (r ≤ length lists / range_least)
ListFit lists l w w' q m to (Err e) = (l.fault ≡ number_of e) × (7 ≤ number_of e)

pub record GatheredList (lists addresses : List ℕ) (place size offset from : ℕ) (w w' : List ℕ) (q m to : ℕ) (r : Result ℕ Refusal) : Type 0 where
  pub is : ListFit lists (list_at lists addresses place size offset from) w w' q m to r
  pub rest : Kept w w' to (range_record * (length lists / range_least))

-- ---- the ranges of an inlined entry: merged, or the refusal that they are

-- of x, which the definition reads, those that are nonempty and lie inside one of the m at q were merged to r ranges at `to`; or reading them failed
abbrev pub MergedBy : DieRanges → List ℕ → List ℕ → ℕ → ℕ → ℕ → Result ℕ Refusal → Type 0
MergedBy x w w' q m to (Ok r) =
    (is_none x.failure ≡ true) × (ranges_at w' to r ≡ coalesce_ranges (fit (ranges_at w q m) (map (λ y. y.range) x.given)))
MergedBy x w w' q m to (Err e) = (is_none x.failure ≡ false) × (x.refusal ≡ number_of e) × (6 ≤ number_of e)

-- there are no more than `most`
abbrev pub MergedFew : ℕ → Result ℕ Refusal → Type 0
MergedFew most (Ok r) = r ≤ most
MergedFew most (Err e) = Unit

-- what is read of the entry whose field ends at p: its fields 19 and 1a, or, "in place of 19 and 1a", its list
abbrev pub read_by : List ℕ → List ℕ → List ℕ → ℕ → Option RangeList → DieRanges
read_by lists addresses s p none = record {
  given = map entry_range_of (range_fields s p);
  failure = map_option failure_of (payload_of failure_tag (own_fields (fields (drop p s))));
  refusal = 6;
}
read_by lists addresses s p (some l) = listed (list_ranges lists addresses l)

abbrev pub read_at : List ℕ → List ℕ → List ℕ → ℕ → DieRanges
read_at lists addresses s p = read_by lists addresses s p (map_option range_list_of (payload_of list_tag (own_fields (fields (drop p s)))))

-- its ranges, merged: those of its fields 19, or of its list
pub record Merges (x : DieRanges) (s lists : List ℕ) (p : ℕ) (w w' : List ℕ) (q m to : ℕ) (r : Result ℕ Refusal) : Type 0 where
  pub is : MergedBy x w w' q m to r
  pub most : ℕ
  pub few : MergedFew most r
  pub own : (most ≡ length (range_fields s p)) ⊎ ((most ≡ length lists / range_least) × (1 ≤ own_lists s p))
  pub rest : Kept w w' to (range_record * most)

-- the list's own part of it
pub record MergesList (l : ListRanges) (lists w w' : List ℕ) (q m to : ℕ) (r : Result ℕ Refusal) : Type 0 where
  pub is : MergedBy (listed l) w w' q m to r
  pub few : MergedFew (length lists / range_least) r
  pub rest : Kept w w' to (range_record * (length lists / range_least))

-- and that of the fields 19 and 1a of the entry whose field ends at p
pub record MergesFields (s : List ℕ) (p : ℕ) (w w' : List ℕ) (q m to : ℕ) (r : Result ℕ Refusal) : Type 0 where
  pub is : MergedBy (read_by [] [] s p none) w w' q m to r
  pub few : MergedFew (length (range_fields s p)) r
  pub rest : Kept w w' to (range_record * length (range_fields s p))
