-- The name search of an entry: its own name, the turns over its references, and the two searches that start at an entry of the main sheet.
use mathlib.Core.Path.{◌≡◌, refl, sym, ap, ◌∙◌}
use mathlib.Core.Bool.{Bool, true, false, cond, true≢false}
use mathlib.Core.List.{List, [], ◌∷◌}
use mathlib.Core.Option.{Option, none, some}
use Prim.Native.Nat.{ℕ, suc, ◌+◌, ◌-◌, ◌≤◌}
use native.Mathlib.Omega.{arith}
use lib.ListN.{length}
use Rattle.std.specs.Prelude.{◌==◌}
use borrow.Author.Tests.{ne_eqb, eqb-true}
use Rattle.tlv.specs.Outcome.{Outcome, done, ◌>>=◌}
use Rattle.tlv.specs.Lists.{is_empty}
use Rattle.tlv.specs.Model.{CompilationUnit, Entry, Attribute}
use Rattle.buffers.specs.Table.{Kept}
use Rattle.buffers.proofs.TableLaws.{kept_refl, kept_trans}
use Rattle.access.specs.declared.index.EntryPlace.{EntryPlace}
use Rattle.access.specs.Places.{unit_here, entry_here}
use Rattle.files.specs.Pieces.{source_in}
use Rattle.references.specs.declared.tables.Tables.{Tables}
use Rattle.references.specs.declared.ways.EntryAt.{EntryAt}
use Rattle.references.specs.declared.keys.DieKey.{DieKey}
use Rattle.references.specs.declared.ways.OffsetAt.{OffsetAt}
use Rattle.std.specs.Prelude.{Ok, Err, Some, None}
use Rattle.std.specs.declared.option.Option.{Option as Given}
use Rattle.references.specs.declared.ways.Way.{Way}
use Rattle.tlv.specs.declared.refusal.Refusal.{Refusal}
use Rattle.tlv.specs.Refusals.{number_of}
use Rattle.references.specs.Search.{Dwarf, Trail, Followed, empty_trail, attribute, follow, place_in, origin_attributes, name_attributes, own_name, Named, resolve_named, resolve_name, resolve_reference_name}
use Rattle.references.specs.Reads.{Counted, after, ◌>>>◌, counted_name_at, counted_referenced_name, counted_name, counted_reference_name, name_reads, reference_name_reads, ReadsWithin}
use Rattle.references.specs.Tables.{EntryKnown, OwnNamed, bytes_given}
use Rattle.references.specs.Keys.{keys_at, key_in, Pushed, keys_from, keys_extent, TrailIn}
use Rattle.references.specs.Names.{dwarf_of, search_source, place_at, start_at, Stands, trail_at, SearchIn, follow_from, Ways, is_answer, counted_given, Gives, referred_name, resolve_absolute_name, found_name, reference_name, Resolved}
use Rattle.tlv.proofs.AnswerLaws.{numbered}
use Rattle.references.proofs.FollowLaws.{push_room, push_search}
use Rattle.references.proofs.ReadBounds.{bounded_at}
use Rattle.references.proofs.ReadLaws.{counts-after, counts_name, counts-name_at}
use Rattle.references.proofs.GivesLaws.{gives-here, gives_nothing, gives-refused, gives_after, gives-pushed, bind_assoc, counted-assoc, no_answer, own-ends, name-ends, name-goes, name-bytes}

-- ---- answers

-- bytes are an answer, and no bytes are none
pub named_answer : (r : List ℕ) {v : Bool} → v ≡ (length r == 0) → v ≡ false → true ≡ is_answer 0 r
unfolding is_answer
named_answer [] e h = absurd (true≢false (sym e ∙ h))
named_answer (b ∷ r) e h = refl

pub no-name : (r : List ℕ) {v : Bool} → v ≡ (length r == 0) → v ≡ true → false ≡ is_answer 0 r
unfolding is_answer
no-name [] e h = refl
no-name (b ∷ r) e h = let z = eqb-true (length (b ∷ r)) 0 (sym e ∙ h) in absurd (omega arith)

-- ---- the name that one reference leads to, by the way that it leads

-- the answer is a way
pub way_is : {f : Trail → Outcome Followed} {main supplementary w : List ℕ} {x : Tables} {n left : ℕ} {r q : Given Way} → Ways f main supplementary w x n left (Ok r) → r ≡ q
    → Ways f main supplementary w x n left (Ok q)
way_is W e = rw e at W

module _ {main supplementary w : List ℕ} {x : Tables} {n : ℕ} (at : EntryAt) (name : ℕ) (S : SearchIn main supplementary w x n) where
  pub from-refused : {bytes : List ℕ} {a : ℕ} (k : ℕ) (e : Refusal) → Ways (follow_from main supplementary at name) main supplementary w x n at.left (Err e) → a ≤ n + 1
      → Gives (referred_name k main supplementary at name) main supplementary x w n a w n a (number_of e) bytes
  unfolding referred_name
  from-refused {a = a} k e W few = gives-refused (referred_name k main supplementary at name) S few (numbered e) (rw (W.is a))

module _ {main supplementary w : List ℕ} {x : Tables} {n : ℕ} {r : Given Way} (at : EntryAt) (name : ℕ) (S : SearchIn main supplementary w x n)
    (W : Ways (follow_from main supplementary at name) main supplementary w x n at.left (Ok r)) where
  pub from_nothing : {a st : ℕ} (k : ℕ) → r ≡ None → a ≤ n + 1 → st ≡ 0 → Gives (referred_name k main supplementary at name) main supplementary x w n a w n a st []
  unfolding referred_name
  from_nothing {a} k to few z = gives_nothing (referred_name k main supplementary at name) S few z (rw ((way_is W to).is a))

  module _ (next : EntryAt) (key : DieKey) (to : r ≡ Some (Way.Entry next key)) where
    pub entry-room : TrailIn w x n 1
    entry-room = let N = (way_is W to).is in push_room S N.possible N.new

    pub entry-stands : Stands main supplementary next
    entry-stands = (way_is W to).is.stands

    pub entry-deeper : next.left ≡ at.left - 1
    entry-deeper = (way_is W to).is.deeper

    module _ {w₁ : List ℕ} (P : Pushed w w₁ x n (key_in key.source key.offset)) where
      pub entry-search : length w₁ ≡ length w → SearchIn main supplementary w₁ x (n + 1)
      entry-search size = let N = (way_is W to).is in push_search S N.possible N.new P size

      pub from-entry : {w₂ bytes : List ℕ} {n₂ a b st : ℕ}
          → Gives (counted_name next.left (dwarf_of main supplementary) (place_at main supplementary next)) main supplementary x w₁ (n + 1) (a + 1) w₂ n₂ b st bytes
          → Gives (referred_name (at.left - 1) main supplementary at name) main supplementary x w n a w₂ n₂ b st bytes
      unfolding referred_name
      from-entry {a = a} G =
          let N = (way_is W to).is in
          gives-pushed S N.possible N.new P (referred_name (at.left - 1) main supplementary at name)
          (counted_name (at.left - 1) (dwarf_of main supplementary) (place_at main supplementary next)) (rw (N.is a)) (rw N.deeper at G)

  pub from-offset : (next : OffsetAt) → r ≡ Some (Way.Offset next) → {w₂ bytes : List ℕ} {n₂ a b st : ℕ}
      → Gives (resolve_absolute_name next.left (dwarf_of main supplementary) (search_source next.input) (search_source next.key.source) next.key.offset) main supplementary x w n a w₂ n₂ b st bytes
      → Gives (referred_name (at.left - 1) main supplementary at name) main supplementary x w n a w₂ n₂ b st bytes
  unfolding referred_name resolve_absolute_name
  from-offset next to {a = a} G =
      let N = (way_is W to).is in
      gives_after (referred_name (at.left - 1) main supplementary at name)
      (resolve_absolute_name (at.left - 1) (dwarf_of main supplementary) (search_source next.input) (search_source next.key.source) next.key.offset)
      (kept_refl w x.keys (keys_extent main supplementary x)) (rw (N.is a)) (rw N.deeper at G)

-- ---- the own name

-- the search of an entry
abbrev pub inner : List ℕ → List ℕ → EntryAt → Trail → Counted Named
inner main supplementary at = counted_name at.left (dwarf_of main supplementary) (place_at main supplementary at)

-- the names that its references lead to, by the search of one level less
abbrev referenced : List ℕ → List ℕ → EntryAt → List ℕ → Trail → Counted Named
referenced main supplementary at names t =
    counted_referenced_name (counted_name (at.left - 1) (dwarf_of main supplementary)) (dwarf_of main supplementary) (place_at main supplementary at) names t

-- the references of these names are still to be followed
pub record Going (main supplementary : List ℕ) (x : Tables) (at : EntryAt) (w₀ : List ℕ) (n₀ a₀ : ℕ) (w : List ℕ) (n a : ℕ) (names : List ℕ) : Type 0 where
  pub shallow : at.left ≡ 0 → ⊥
  pub stands : Stands main supplementary at
  pub ready : SearchIn main supplementary w x n
  pub few : a ≤ n + 1
  pub rest : Kept w₀ w x.keys (keys_extent main supplementary x)
  pub size : length w ≡ length w₀
  pub goes : inner main supplementary at (trail_at w₀ (keys_from x) n₀ a₀) ≡ referenced main supplementary at names (trail_at w (keys_from x) n a)

module _ {main supplementary w : List ℕ} {x : Tables} {n a : ℕ} {at : EntryAt} (S : SearchIn main supplementary w x n) (few : a ≤ n + 1) (A : Stands main supplementary at) where
  pub inner_deep : {st : ℕ} → at.left ≡ 0 → st ≡ 0 → Gives (inner main supplementary at) main supplementary x w n a w n a st []
  unfolding counted_name
  inner_deep h z = gives_nothing (inner main supplementary at) S few z (rw h)

  module _ {s own : List ℕ} {st : ℕ} {v : Bool} (shallow : at.left ≡ 0 → ⊥) (is : s ≡ source_in main supplementary at.input) (O : OwnNamed s at.entry.place st own) (e : v ≡ is_answer st own) where
    inner_own : (t : Trail) → inner main supplementary at t
        ≡ (after t (bytes_given st own) >>> λ own. cond (is_empty own) (referenced main supplementary at origin_attributes t) (after t (done (record { trail = t; name = own }))))
    unfolding counted_name
    inner_own t =
        let more_left : at.left ≡ suc (at.left - 1) = omega arith in
        let name-is : bytes_given st own ≡ own_name (entry_here (source_in main supplementary at.input) at.entry.place) name_attributes = rw is at O.is in
        one-more at.left (at.left - 1) more_left t ∙ rw (← name-is)
      where
        one-more : (m k : ℕ) → m ≡ suc k → (t : Trail) → counted_name m (dwarf_of main supplementary) (place_at main supplementary at) t
            ≡ (after t (own_name (entry_here (source_in main supplementary at.input) at.entry.place) name_attributes) >>> λ own.
            cond (is_empty own) (counted_referenced_name (counted_name k (dwarf_of main supplementary)) (dwarf_of main supplementary) (place_at main supplementary at) origin_attributes t)
            (after t (done (record { trail = t; name = own }))))
        one-more m k e t = rw e

    pub inner-named : v ≡ true → Gives (inner main supplementary at) main supplementary x w n a w n a st own
    inner-named y =
        let t = trail_at w (keys_from x) n a in
        gives-here (inner main supplementary at) S few (inner_own t ∙ own-ends st own t (referenced main supplementary at origin_attributes t) (sym e ∙ y))

    pub inner_goes : v ≡ false → Going main supplementary x at w n a w n a origin_attributes
    unfolding bytes_given
    inner_goes y =
        let h = no_answer st own (sym e ∙ y) in
        record {
          shallow = shallow;
          stands = A;
          ready = S;
          few = few;
          rest = kept_refl w x.keys (keys_extent main supplementary x);
          size = refl;
          goes = inner_own (trail_at w (keys_from x) n a) ∙ rw (h.0, h.1);
        }

-- ---- a turn

referenced_step : (main supplementary : List ℕ) (at : EntryAt) (name : ℕ) (names : List ℕ) (t : Trail) → referenced main supplementary at (name ∷ names) t
    ≡ (referred_name (at.left - 1) main supplementary at name t >>> λ m. cond (is_empty m.name) (referenced main supplementary at names m.trail) (after m.trail (done m)))
unfolding counted_referenced_name referred_name follow_from
referenced_step main supplementary at name names t = sym (counted-assoc t (follow (dwarf_of main supplementary) (place_at main supplementary at) t (attribute (place_at main supplementary at).entry name)) _ _)

module _ {main supplementary w₀ w w₁ bytes names : List ℕ} {x : Tables} {at : EntryAt} {n₀ a₀ n a n₁ b st name : ℕ} {v : Bool} (G : Going main supplementary x at w₀ n₀ a₀ w n a (name ∷ names))
    (T : Gives (referred_name (at.left - 1) main supplementary at name) main supplementary x w n a w₁ n₁ b st bytes) (e : v ≡ is_answer st bytes) where
  turn : inner main supplementary at (trail_at w₀ (keys_from x) n₀ a₀)
      ≡ (counted_given st (trail_at w₁ (keys_from x) n₁ b) bytes >>> λ m. cond (is_empty m.name) (referenced main supplementary at names m.trail) (after m.trail (done m)))
  turn =
      G.goes
      ∙ referenced_step main supplementary at name names (trail_at w (keys_from x) n a)
      ∙ ap (λ (o : Counted Named). o >>> λ m. cond (is_empty m.name) (referenced main supplementary at names m.trail) (after m.trail (done m))) T.is

  pub turn-ends : v ≡ true → Gives (inner main supplementary at) main supplementary x w₀ n₀ a₀ w₁ n₁ b st bytes
  turn-ends y = record {
    is = turn ∙ name-ends st bytes (trail_at w₁ (keys_from x) n₁ b) (referenced main supplementary at names) (sym e ∙ y);
    few = T.few;
    ready = T.ready;
    rest = kept_trans G.rest T.rest;
  }

  pub turn-goes : v ≡ false → length w₁ ≡ length w → Going main supplementary x at w₀ n₀ a₀ w₁ n₁ b names
  turn-goes y same = record {
    shallow = G.shallow;
    stands = G.stands;
    ready = T.ready;
    few = T.few;
    rest = kept_trans G.rest T.rest;
    size = same ∙ G.size;
    goes = turn ∙ name-goes st bytes (trail_at w₁ (keys_from x) n₁ b) (referenced main supplementary at names) (sym e ∙ y);
  }

pub refused-answer : (st : ℕ) (bytes : List ℕ) → (st ≡ 0 → ⊥) → true ≡ is_answer st bytes
unfolding is_answer
refused-answer st bytes h = rw (ne_eqb st 0 h)

module _ {main supplementary w₀ w : List ℕ} {x : Tables} {at : EntryAt} {n₀ a₀ n a : ℕ} where
  -- no reference is left
  pub inner_done : Going main supplementary x at w₀ n₀ a₀ w n a [] → Gives (inner main supplementary at) main supplementary x w₀ n₀ a₀ w n a 0 []
  unfolding counted_referenced_name
  inner_done G =
      let g : Trail → Counted Named = λ t. after t (done (record { trail = t; name = [] })) in
      gives_after (inner main supplementary at) g G.rest G.goes (gives_nothing g G.ready G.few refl refl)

-- the last reference's answer is the search's
pub last-turn : {main supplementary w₀ w w₁ bytes : List ℕ} {x : Tables} {at : EntryAt} {n₀ a₀ n a n₁ b st name : ℕ} → Going main supplementary x at w₀ n₀ a₀ w n a (name ∷ [])
    → Gives (referred_name (at.left - 1) main supplementary at name) main supplementary x w n a w₁ n₁ b st bytes → length w₁ ≡ length w
    → Gives (inner main supplementary at) main supplementary x w₀ n₀ a₀ w₁ n₁ b st bytes
last-turn {main} {supplementary} {w₀} {w} {w₁} {bytes} {x} {at} {n₀} {a₀} {n} {a} {n₁} {b} {st} G T same = go (is_answer st bytes) refl
  where
    go : (v : Bool) → v ≡ is_answer st bytes → Gives (inner main supplementary at) main supplementary x w₀ n₀ a₀ w₁ n₁ b st bytes
    go true e = turn-ends G T e refl
    go false e = let h = no_answer st bytes (sym e) in rw (h.0, h.1) (inner_done (turn-goes G T e refl same))

-- ---- the searches that start at an entry of the main sheet

-- a reference's name, where there is a reference: without its count
reference-name : (d : Dwarf) (u : CompilationUnit) (e : Entry) (name : ℕ) → reference_name d u e (attribute e name) ≡ ((counted_reference_name d (place_in u e) name).outcome >>= λ m. done m.name)
unfolding resolve_reference_name counted_reference_name follow ◌>>=◌
reference-name d u e name = go (attribute e name)
  where
    go : (o : Option Attribute)
        → reference_name d u e o ≡ ((after empty_trail (follow d (place_in u e) empty_trail o) >>> λ f. counted_name_at (counted_name 63 d) f.trail f.target).outcome >>= λ m. done m.name)
    go none = refl
    go (some a) =
        let all = counts-after {trail = λ r. r.trail} empty_trail (follow d (place_in u e) empty_trail (some a)) (λ f. counts-name_at (counts_name d 63) f.trail f.target) in
        sym (bind_assoc (follow d (place_in u e) empty_trail (some a)) _ _) ∙ ap (λ (o : Outcome Named). o >>= λ m. done m.name) (sym all.same)

module _ {main supplementary : List ℕ} (e : EntryPlace) {at : EntryAt} (is : at ≡ start_at e) where
  module _ {w w' bytes : List ℕ} {x : Tables} {n' b st : ℕ} (G : Gives (inner main supplementary at) main supplementary x w 0 1 w' n' b st bytes) where
    pub resolved_name : Resolved main supplementary x w w' (resolve_name (dwarf_of main supplementary) (unit_here main e.unit) (entry_here main e.place)) st bytes
    unfolding resolve_name resolve_named keys_at
    resolved_name =
        let H = rw is at G in
        let found = sym (counts_name (dwarf_of main supplementary) 64 (place_in (unit_here main e.unit) (entry_here main e.place)) empty_trail).same ∙ ap (λ (c : Counted Named). c.outcome) H.is in
        record {
          is = sym (ap (λ (o : Outcome Named). o >>= λ m. done m.name) found ∙ name-bytes st bytes (trail_at w' (keys_from x) n' b));
          rest = H.rest;
        }

    pub name-read : b ≡ name_reads (dwarf_of main supplementary) (unit_here main e.unit) (entry_here main e.place)
    unfolding name_reads keys_at
    name-read = let H = rw is at G in sym (ap (λ (c : Counted Named). c.reads) H.is)

    pub name-within : SearchIn main supplementary w x 0 → EntryKnown main e.unit e.place → ReadsWithin (dwarf_of main supplementary) b
    name-within S known = rw name-read (bounded_at supplementary S.main-index.number S.main-index.accepted known).name

  module _ {w w' bytes : List ℕ} {x : Tables} {n' b st : ℕ} (name : ℕ) (G : Gives (referred_name (at.left - 1) main supplementary at name) main supplementary x w 0 1 w' n' b st bytes) where
    pub resolved-reference : Resolved main supplementary x w w' (reference_name (dwarf_of main supplementary) (unit_here main e.unit) (entry_here main e.place) (attribute (entry_here main e.place) name)) st bytes
    unfolding referred_name follow_from counted_reference_name keys_at
    resolved-reference =
        let H = rw is at G in
        record {
          is = sym (reference-name (dwarf_of main supplementary) (unit_here main e.unit) (entry_here main e.place) name
              ∙ ap (λ (c : Counted Named). c.outcome >>= λ m. done m.name) H.is ∙ name-bytes st bytes (trail_at w' (keys_from x) n' b));
          rest = H.rest;
        }

    pub reference-read : b ≡ reference_name_reads (dwarf_of main supplementary) (unit_here main e.unit) (entry_here main e.place) name
    unfolding reference_name_reads referred_name follow_from counted_reference_name keys_at
    reference-read = let H = rw is at G in sym (ap (λ (c : Counted Named). c.reads) H.is)

    pub reference-within : SearchIn main supplementary w x 0 → EntryKnown main e.unit e.place → ReadsWithin (dwarf_of main supplementary) b
    reference-within S known = rw reference-read ((bounded_at supplementary S.main-index.number S.main-index.accepted known).reference name)

-- ---- what was found by its bytes

pub found-length : (name : List ℕ) {r : List ℕ} → Some r ≡ found_name name → length name ≡ 0 → ⊥
found-length [] is e = let z : ◌≡◌ {A = ℕ} 0 1 = cc in omega arith
found-length (b ∷ bs) is e = omega arith

pub missing-length : (name : List ℕ) → None ≡ found_name name → length name ≡ 0
missing-length [] is = refl
missing-length (b ∷ bs) is = let z : ◌≡◌ {A = ℕ} 0 1 = cc in absurd (omega arith)
