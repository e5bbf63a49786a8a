-- A sheet that the grammar accepts has only units as promised (`Accepting`).
use mathlib.Core.Path.{◌≡◌, refl}
use mathlib.Core.Bool.{Bool, true, false, cond}
use mathlib.Core.List.{List, [], ◌∷◌, map}
use Prim.Native.Nat.{ℕ, suc}
use native.Mathlib.Numerals.{add-one}
use lib.Dec.{eqb}
use lib.ListN.{length-map}
use borrow.Author.Tests.{eqb-true, ne_eqb}
use Rattle.tlv.specs.Lists.{All}
use Rattle.tlv.specs.Bytes.{le_at}
use Rattle.tlv.specs.Fields.{Field, Group, Groups, grouped, fields, whole_fields, payloads, payload_of}
use Rattle.tlv.specs.declared.grammar.Context.{Context}
use Rattle.tlv.specs.Grammar.{start, next, check_input}
use Rattle.tlv.specs.Model.{range_of, directory_of, file_of, row_of, attribute_of, entry_range_of, failure_of, range_list_of, entry_of, unit_of, units}
use Rattle.tlv.specs.Accepted.{Small, String, AttributeAccepted, FailureAccepted, ListAccepted, RowAccepted, EntryAccepted, Ordered, UnitAccepted, Accepting}
use Rattle.tlv.proofs.ListLaws.{all_map, all-image, given-image}
use Rattle.tlv.proofs.AcceptedFields.{Passed, AllPassed, shape_is, limit_is, promised_all, promised-first}
use Rattle.tlv.proofs.AcceptedFields.{unit-promise, directory-promise, text-promise, directories-promise, file-promise, file_zero-promise}
use Rattle.tlv.proofs.AcceptedFields.{row-promise, attribute-promise, range-promise, failure-promise, list-promise, entry-from, entry-within, entry-step, entry-depth}
use Rattle.tlv.proofs.AcceptedCounts.{few-payloads}
use Rattle.tlv.proofs.AcceptedGroups.{Without, Passage, fields-bytes, checked-passed, grouped-passed}

-- ---- what a field leaves for the next

module _ (c : Context) (f : Field) where
  next-unit : f.tag ≡ 0x10 → ((next c f).length ≡ le_at 8 f.payload 8) × ((next c f).offset ≡ 0) × ((next c f).depth ≡ 0)
  unfolding next
  next-unit e = rw e (refl, refl, refl)

  next-entry : f.tag ≡ 0x17
      → ((next c f).length ≡ c.length) × ((next c f).offset ≡ suc (le_at 8 f.payload 0)) × ((next c f).depth ≡ suc (le_at 2 f.payload 8))
  unfolding next
  next-entry e = rw e (refl, add-one _, add-one _)

  next-other : (f.tag ≡ 0x10 → ⊥) → eqb f.tag 0x17 ≡ false
      → ((next c f).length ≡ c.length) × ((next c f).offset ≡ c.offset) × ((next c f).depth ≡ c.depth)
  unfolding next
  next-other h e = rw (ne_eqb f.tag 0x10 h, e) (refl, refl, refl)

-- ---- the entries

-- groups are entries of a unit of n bytes, the first at offset o or later and at depth d or less
record Entries (n o d : ℕ) (gs : List Group) : Type 0 where
  each : All (EntryAccepted n) (map entry_of gs)
  ordered : Ordered o d (map entry_of gs)

entry-accepted : (c : Context) (g : Group) → g.head.tag ≡ 0x17 → Passed c g.head → AllPassed (next c g.head) g.rest
    → EntryAccepted c.length (entry_of g)
unfolding entry_of
entry-accepted c g is h rest =
    let f = g.head in
    let r = g.rest in
    let c' = next c f in
    record {
      offset = entry-within c f.payload (shape_is c f 0x17 is h);
      depth = entry-depth c f.payload (limit_is c f 0x17 is h);
      attributes = all-image AttributeAccepted attribute_of (payloads 0x18 r) (promised_all 0x18 _ attribute-promise c' r rest);
      ranges = all-image (λ x. Small x.range) entry_range_of (payloads 0x19 r) (promised_all 0x19 _ range-promise c' r rest);
      failure = given-image FailureAccepted failure_of (payload_of 0x1a r) (promised-first 0x1a _ failure-promise c' r rest);
      list = given-image ListAccepted range_list_of (payload_of 0x1f r) (promised-first 0x1f _ list-promise c' r rest);
    }

module _ (c : Context) (f : Field) (g : Groups) where
  joined-entries : (b : Bool) → eqb f.tag 0x17 ≡ b → (f.tag ≡ 0x10 → ⊥) → Passed c f → AllPassed (next c f) g.before
      → Entries (next c f).length (next c f).offset (next c f).depth g.groups
      → Entries c.length c.offset c.depth (cond {A = Groups} b
      (record { before = []; groups = record { head = f; rest = g.before } ∷ g.groups })
      (record { before = f ∷ g.before; groups = g.groups })).groups
  unfolding entry_of
  joined-entries true e no-unit h own rest =
      let is = eqb-true f.tag 0x17 e in
      let s = shape_is c f 0x17 is h in
      let n = next-entry c f is in
      let later : Entries c.length (suc (le_at 8 f.payload 0)) (suc (le_at 2 f.payload 8)) g.groups = rw (n.0, n.1, n.2) at rest in
      record {
        each = (entry-accepted c (record { head = f; rest = g.before }) is h own, later.each);
        ordered = (entry-from c f.payload s, entry-step c f.payload s, later.ordered);
      }
  joined-entries false e no-unit h own rest =
      let n = next-other c f no-unit e in
      rw (n.0, n.1, n.2) at rest

entries-passed : (c : Context) (fs : List Field) → Without 0x10 fs → AllPassed c fs → Entries c.length c.offset c.depth (grouped 0x17 fs).groups
unfolding grouped
entries-passed c [] w h = record { each = tt; ordered = tt }
entries-passed c (f ∷ fs) w h =
    joined-entries c f (grouped 0x17 fs) (eqb f.tag 0x17) refl w.0 h.0
    (grouped-passed 0x17 (next c f) fs h.1).before (entries-passed (next c f) fs w.1 h.1)

-- ---- the units

unit-accepted : (g : Group) → Passage 0x10 g → UnitAccepted (unit_of g)
unfolding unit_of
unit-accepted g h =
    let f = g.head in
    let c = h.context in
    let c' = next c f in
    let own = (grouped 0x17 g.rest).before in
    let o = (grouped-passed 0x17 c' g.rest h.rest).before in
    let n = next-unit c f h.tag in
    let es : Entries (le_at 8 f.payload 8) 0 0 (grouped 0x17 g.rest).groups =
    rw (n.0, n.1, n.2) at (entries-passed c' g.rest h.without h.rest) in
    record {
      within = unit-promise c f.payload h.head.bytes
          (shape_is c f 0x10 h.tag h.head) (limit_is c f 0x10 h.tag h.head);
      directory = promised-first 0x11 _ directory-promise c' own o;
      text = all-image Small range_of (payloads 0x12 own) (promised_all 0x12 _ text-promise c' own o);
      directories = all-image (λ d. String d.path) directory_of (payloads 0x14 own) (promised_all 0x14 _ directories-promise c' own o);
      file_zero = given-image (λ d. String d.path) file_of (payload_of 0x1c own) (promised-first 0x1c _ file_zero-promise c' own o);
      files = all-image (λ d. String d.path) file_of (payloads 0x15 own) (promised_all 0x15 _ file-promise c' own o);
      rows = all-image RowAccepted row_of (payloads 0x16 own) (promised_all 0x16 _ row-promise c' own o);
      few = simp length-map (few-payloads 0x16 c' own o);
      entries = es.each;
      ordered = es.ordered;
    }

-- a sheet of bytes that the grammar accepts has only units with the promised bounds, order and limits
pub accepting : Accepting
unfolding check_input units
accepting s n b e =
    let gs = (grouped 0x10 (whole_fields (fields s))).groups in
    let c = start e.program in
    let passed = grouped-passed 0x10 c (whole_fields (fields s)) (checked-passed c (fields s) n (fields-bytes 0 s b) e.passes) in
    all-image UnitAccepted unit_of gs (all_map gs unit-accepted passed.groups)
