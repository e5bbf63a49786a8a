-- The targets that a search has followed: a new one, what stays, that there is room for each that can come, and which can.
use mathlib.Core.Path.{◌≡◌, refl, sym, ap, ◌∙◌}
use mathlib.Core.Bool.{Bool, true, false, cond, ◌&&◌, true≢false}
use mathlib.Core.Logic.{inl, inr}
use mathlib.Core.List.{List, [], ◌∷◌, ◌++◌, map}
use mathlib.Core.Option.{Option, none, some}
use Prim.Native.Nat.{ℕ, suc, ◌+◌, ◌*◌, ◌≤◌}
use native.Mathlib.Numerals.{add-one}
use native.Mathlib.Omega.{arith}
use lib.Dec.{eqb}
use lib.ListN.{length}
use denote.Enum.Declared.{tag_of}
use borrow.Author.Tests.{eq-eqb, eqb-true}
use Rattle.tlv.specs.declared.model.DebugSource.{DebugSource}
use Rattle.tlv.specs.contracts.model.DebugSource.{the_type}
use Rattle.tlv.specs.Lists.{Any, All, exists}
use Rattle.tlv.specs.Bytes.{le_at}
use Rattle.tlv.specs.Fields.{fields}
use Rattle.tlv.specs.Checked.{Accepts}
use Rattle.tlv.specs.Model.{CompilationUnit, Entry, Attribute, units}
use Rattle.tlv.proofs.TestLaws.{by_test}
use Rattle.tlv.proofs.ListLaws.{all_map}
use Rattle.buffers.specs.Table.{chunk, Kept, Wrote}
use Rattle.buffers.proofs.TableLaws.{kept_trans, kept-wide, le_at-kept, but_one}
use Rattle.access.specs.Places.{entry_here, unit_here, unit_places}
use Rattle.access.proofs.UnitPlaceLaws.{units-places}
use Rattle.access.proofs.IndexModel.{either}
use Rattle.std.specs.Prelude.{Some, None}
use Rattle.std.specs.declared.option.Option.{Option as Given}
use Rattle.references.specs.declared.attributes.Reference.{Reference}
use Rattle.references.specs.declared.tables.Tables.{Tables}
use Rattle.references.specs.Search.{DebugSource as Source, DieKey, main_source, supplementary_source, same_source, same_key, attribute}
use Rattle.references.specs.Tables.{EntryKnown, reference_of}
use Rattle.references.specs.Keys.{key_of, keys_at, key_in, chain_count, keys_from, keys_extent, many, Chained, TrailIn, Chains, Pushed, main_keys, supplementary_keys, entry_keys, unit_keys, possible_keys, PossibleKey, Distinct, KeysIn}
use Rattle.references.proofs.VisitedLaws.{key_is}
use Rattle.references.proofs.ChainLaws.{keys_length, keys-clear, chained-clear, many-chained}
use Rattle.references.proofs.TargetLaws.{first_any, known-unit, known-entry}

-- ---- what stays, and a new key

source_is : (source : DebugSource) (o : ℕ) → record { source = cond (eqb (tag_of the_type source) 0) main_source supplementary_source; offset = o } ≡ key_in source o
source_is DebugSource.Main o = refl
source_is DebugSource.Supplementary o = refl

module _ {w w₁ w₂ : List ℕ} (x : Tables) (n : ℕ) (source : DebugSource) {base o : ℕ} (eb : base ≡ keys_from x)
    (A : Wrote w w₁ (base + n * 13) 1 (tag_of the_type source)) (B : Wrote w₁ w₂ (base + n * 13 + 1) 8 o) where
  written : Kept w w₂ (keys_from x + n * 13) 9
  written = rw eb at (kept_trans (kept-wide (base + n * 13) 9 A.rest (omega arith) (omega arith)) (kept-wide (base + n * 13) 9 B.rest (omega arith) (omega arith)))

  written-key : keys_at w₂ (keys_from x) (n + 1) ≡ key_in source o ∷ keys_at w (keys_from x) n
  unfolding keys_at
  written-key =
      let first : le_at 1 w₂ (base + n * 13) ≡ tag_of the_type source = le_at-kept 1 (base + n * 13) B.rest (inl (omega arith)) ∙ A.value in
      let key : key_of (chunk w₂ (base + n * 13) 9) ≡ key_in source o = key_is w₂ (base + n * 13) (tag_of the_type source) o first B.value ∙ source_is source o in
      rw (add-one n, rw eb at key, keys-clear (keys_from x) n (but_one written) (inl (omega arith), tt))

  written-rest : Kept w w₂ x.keys (chain_count x * 4 + (n + 1) * 13)
  written-rest = kept-wide x.keys (chain_count x * 4 + (n + 1) * 13) written (omega arith) (omega arith)

  -- the older ones are still in chains
  pub written-chains : {v : Bool} → TrailIn w x n 1 → v ≡ many n → v ≡ true → Chained w₂ x n
  written-chains T e y = chained-clear (many-chained T e y) (but_one written) (inl (omega arith), tt)

  -- few: there are no chains
  pub pushed_few : {v : Bool} {n' : ℕ} → n' ≡ n + 1 → v ≡ many n' → v ≡ false → Pushed w w₂ x n (key_in source o)
  pushed_few en e not-many = record { keys = written-key; chained = λ y. absurd (true≢false (sym y ∙ sym (rw en at e) ∙ not-many)); rest = written-rest }

  pub pushed-chained : {w₃ : List ℕ} {n' : ℕ} → n' ≡ n + 1 → Chains w₂ w₃ x n' → Pushed w w₃ x n (key_in source o)
  pushed-chained {w₃} en C' =
      let C : Chains w₂ w₃ x (n + 1) = rw en at C' in
      record { keys = C.keys (n + 1) ∙ written-key; chained = λ _. C.chained; rest = kept_trans written-rest C.rest }

-- ---- room: keys that are different and possible are no more than the possible ones

same_self : (k : DieKey) → same_key k k ≡ true
same_self k = rw (eq-eqb k.offset k.offset refl) (go k.source)
  where
    go : (x : Source) → (same_source x x && true) ≡ true
    go main_source = refl
    go supplementary_source = refl

module _ (k : DieKey) where
  -- the list without one that is k
  abbrev without : (ps : List DieKey) → Any (λ x. k ≡ x) ps → List DieKey
  without [] x' = elim x' [ ]
  without (p ∷ ps) (inl e) = ps
  without (p ∷ ps) (inr a) = p ∷ without ps a

  without-length : (ps : List DieKey) (a : Any (λ x. k ≡ x) ps) → length ps ≡ suc (length (without ps a))
  without-length [] a = elim a [ ]
  without-length (p ∷ ps) (inl e) = refl
  without-length (p ∷ ps) (inr a) = ap suc (without-length ps a)

  without_keeps : (ps : List DieKey) (a : Any (λ x. k ≡ x) ps) (x : DieKey) → same_key k x ≡ false → Any (λ y. x ≡ y) ps → Any (λ y. x ≡ y) (without ps a)
  without_keeps [] a x other _ = elim a [ ]
  without_keeps (p ∷ ps) (inl e) x other (inl is) =
      let same : k ≡ x = e ∙ sym is in
      absurd (true≢false (sym (same_self k) ∙ rw (← same) at other))
  without_keeps (p ∷ ps) (inl e) x other (inr b) = b
  without_keeps (p ∷ ps) (inr a) x other (inl is) = inl is
  without_keeps (p ∷ ps) (inr a) x other (inr b) = inr (without_keeps ps a x other b)

  without_all : (ps : List DieKey) (a : Any (λ x. k ≡ x) ps) (ks : List DieKey) → exists (same_key k) ks ≡ false → All (λ x. Any (λ y. x ≡ y) ps) ks
      → All (λ x. Any (λ y. x ≡ y) (without ps a)) ks
  unfolding exists
  without_all ps a [] new h = tt
  without_all ps a (x ∷ ks) new h =
      either (same_key k x)
      (λ y. absurd (true≢false (rw y at new)))
      (λ n. (without_keeps ps a x n h.0, without_all ps a ks (rw n at new) h.1))

pub distinct-few : (ks ps : List DieKey) → Distinct ks → All (λ x. Any (λ y. x ≡ y) ps) ks → length ks ≤ length ps
distinct-few [] ps d h = omega arith
distinct-few (k ∷ ks) ps d h =
    let less = distinct-few ks (without k ps h.0) d.1 (without_all k ps h.0 ks d.0 h.1) in
    let one = without-length k ps h.0 in
    omega arith

module _ {main supplementary w : List ℕ} {x : Tables} {n : ℕ} (K : KeysIn main supplementary w x n) where
  listed : All (λ k. Any (λ y. k ≡ y) (possible_keys main supplementary)) (keys_at w (keys_from x) n)
  listed = all_map (keys_at w (keys_from x) n) (λ k p. p.listed) K.possible

  -- the keys lie in the work slice
  pub keys-inside : TrailIn w x n 0
  keys-inside =
      let few = distinct-few (keys_at w (keys_from x) n) (possible_keys main supplementary) K.distinct listed in
      record { room = omega (arith, K.room, keys_length w (keys_from x) n); chained = K.chained }

  module _ (k : DieKey) (possible : PossibleKey main supplementary k) (new : exists (same_key k) (keys_at w (keys_from x) n) ≡ false) where
    -- a possible key that is new has room
    pub keys_below : n + 1 ≤ length (possible_keys main supplementary)
    keys_below = omega (arith, distinct-few (k ∷ keys_at w (keys_from x) n) (possible_keys main supplementary) (new, K.distinct) (possible.listed, listed), keys_length w (keys_from x) n)

    pub room-left : TrailIn w x n 1
    room-left = record { room = omega (arith, K.room, keys_below); chained = K.chained }

    pub keys-in_pushed : {w' : List ℕ} → Pushed w w' x n k → length w' ≡ length w → KeysIn main supplementary w' x (n + 1)
    keys-in_pushed P size = record {
      distinct = rw P.keys (new, K.distinct);
      possible = rw P.keys (possible, K.possible);
      chained = P.chained;
      room = rw size K.room;
    }

-- no keys yet
pub keys-in_none : {main supplementary w : List ℕ} {x : Tables} → x.keys + keys_extent main supplementary x ≤ length w → KeysIn main supplementary w x 0
unfolding keys_at many
keys-in_none room = record { distinct = tt; possible = tt; chained = λ y. absurd (true≢false (sym y)); room = room }

-- ---- the keys that an attribute can be remembered under are possible

module _ {A : Type 0} (P : A → Type 0) where
  pub any_left : (xs ys : List A) → Any P xs → Any P (xs ++ ys)
  any_left [] ys x' = elim x' [ ]
  any_left (x ∷ xs) ys (inl p) = inl p
  any_left (x ∷ xs) ys (inr p) = inr (any_left xs ys p)

  pub any_right : (xs ys : List A) → Any P ys → Any P (xs ++ ys)
  any_right [] ys p = p
  any_right (x ∷ xs) ys p = inr (any_right xs ys p)

pub any_image : {A B : Type 0} (f : A → B) (a : A) (xs : List A) → Any (λ x. x ≡ a) xs → Any (λ y. y ≡ f a) (map f xs)
any_image {A = A} {B = B} f a [] x' = elim x' [ ]
any_image f a (x ∷ xs) (inl e) = inl (ap f e)
any_image f a (x ∷ xs) (inr e) = inr (any_image f a xs e)

-- what a reader takes of an attribute is among what it takes of an entry, of a unit and of all units
module _ (f : CompilationUnit → List Attribute → List DieKey) (P : DieKey → Type 0) where
  pub entry-keys : (u : CompilationUnit) (e : Entry) (es : List Entry) → Any (λ x. x ≡ e) es → Any P (f u e.attributes) → Any P (entry_keys f u es)
  unfolding entry_keys
  entry-keys u e [] x'' p = elim x'' [ ]
  entry-keys u e (d ∷ es) (inl same) p = any_left P (f u d.attributes) (entry_keys f u es) (rw same p)
  entry-keys u e (d ∷ es) (inr later) p = any_right P (f u d.attributes) (entry_keys f u es) (entry-keys u e es later p)

  pub unit-keys : (u : CompilationUnit) (us : List CompilationUnit) → Any (λ x. x ≡ u) us → Any P (entry_keys f u u.entries) → Any P (unit_keys f us)
  unfolding unit_keys
  unit-keys u [] x'' p = elim x'' [ ]
  unit-keys u (v ∷ us) (inl same) p = any_left P (entry_keys f v v.entries) (unit_keys f us) (rw same p)
  unit-keys u (v ∷ us) (inr later) p = any_right P (entry_keys f v v.entries) (unit_keys f us) (unit-keys u us later p)

  known-keys : {s : List ℕ} {q p : ℕ} (n : ℕ) → Accepts s n → EntryKnown s q p → Any P (f (unit_here s q) (entry_here s p).attributes) → Any P (unit_keys f (units s))
  known-keys {s} {q} {p} n accepted known any =
      unit-keys (unit_here s q) (units s) (rw (units-places s) (any_image (unit_here s) q (unit_places 0 (fields s)) (known-unit n accepted known)))
      (entry-keys (unit_here s q) (entry_here s p) (unit_here s q).entries (known-entry n accepted known) any)

-- the attribute that a reference is
record Referring (o : Option Attribute) (kind value : ℕ) : Type 0 where
  one : Attribute
  is : o ≡ some one
  kind-is : one.kind ≡ kind
  value-is : one.value ≡ value

abbrev Refers : Option Attribute → Given Reference → Type 0
Refers o None = Unit {0}
Refers o (Some (Reference.Unit v)) = Referring o 4 v
Refers o (Some (Reference.Section v)) = Referring o 5 v
Refers o (Some (Reference.Supplementary v)) = Referring o 6 v

refers : (o : Option Attribute) → Refers o (reference_of o)
unfolding reference_of
refers none = tt
refers (some a) =
    let R : Given Reference → Type 0 = Refers (some a) in
    by_test R (eqb a.kind 4) (λ y. record { one = a; is = refl; kind-is = eqb-true a.kind 4 y; value-is = refl }) (λ _.
    by_test R (eqb a.kind 5) (λ y. record { one = a; is = refl; kind-is = eqb-true a.kind 5 y; value-is = refl }) (λ _.
    by_test R (eqb a.kind 6) (λ y. record { one = a; is = refl; kind-is = eqb-true a.kind 6 y; value-is = refl }) (λ _. tt)))

-- an attribute of a kind, and a key of its value that a reader takes of each such attribute
module _ (f : CompilationUnit → List Attribute → List DieKey)
    (there : (u : CompilationUnit) (P : DieKey → Type 0) (a : Attribute) (later : List Attribute) → Any P (f u later) → Any P (f u (a ∷ later)))
    (u : CompilationUnit) (k : ℕ) (key : ℕ → DieKey)
    (here : (a : Attribute) (later : List Attribute) → a.kind ≡ k → Any (λ x. key a.value ≡ x) (f u (a ∷ later))) where
  pub taken : (bs : List Attribute) (a : Attribute) → Any (λ b. b ≡ a) bs → a.kind ≡ k → Any (λ x. key a.value ≡ x) (f u bs)
  taken [] a x'' is = elim x'' [ ]
  taken (b ∷ bs) a (inl same) is = rw same (here a bs is)
  taken (b ∷ bs) a (inr later) is = there u (λ x. key a.value ≡ x) b bs (taken bs a later is)

  named-taken : (e : Entry) (name v : ℕ) → Referring (attribute e name) k v → Any (λ x. key v ≡ x) (f u e.attributes)
  unfolding attribute
  named-taken e name v r =
      rw r.value-is at (taken e.attributes r.one (first_any (λ a. eqb a.name name) r.one e.attributes r.is) r.kind-is)

-- an entry of the main sheet
pub later-main : (u : CompilationUnit) (P : DieKey → Type 0) (a : Attribute) (later : List Attribute) → Any P (main_keys u later) → Any P (main_keys u (a ∷ later))
unfolding main_keys
later-main u P a later p =
    by_test (Any P) (eqb a.kind 4) (λ _. inr p) (λ _. by_test (Any P) (eqb a.kind 5) (λ _. inr p) (λ _. by_test (Any P) (eqb a.kind 6) (λ _. inr p) (λ _. p)))

module _ {main supplementary : List ℕ} {n q p v : ℕ} (name : ℕ) (accepted : Accepts main n) (known : EntryKnown main q p) where
  from-main : (k : ℕ) (key : ℕ → DieKey) → ((a : Attribute) (later : List Attribute) → a.kind ≡ k → Any (λ x. key a.value ≡ x) (main_keys (unit_here main q) (a ∷ later)))
      → Referring (attribute (entry_here main p) name) k v → PossibleKey main supplementary (key v)
  unfolding possible_keys
  from-main k key here r = record {
    listed = any_left (λ x. key v ≡ x) (unit_keys main_keys (units main)) (unit_keys supplementary_keys (units supplementary))
        (known-keys main_keys (λ x. key v ≡ x) n accepted known (named-taken main_keys later-main (unit_here main q) k key here (entry_here main p) name v r));
  }

  pub possible-main_unit : reference_of (attribute (entry_here main p) name) ≡ Some (Reference.Unit v) → PossibleKey main supplementary (key_in DebugSource.Main ((unit_here main q).offset + v))
  unfolding main_keys
  possible-main_unit is =
      from-main 4 (λ x. key_in DebugSource.Main ((unit_here main q).offset + x)) (λ a later is. rw is (inl refl)) (rw is at (refers (attribute (entry_here main p) name)))

  pub possible-main_section : reference_of (attribute (entry_here main p) name) ≡ Some (Reference.Section v) → PossibleKey main supplementary (key_in DebugSource.Main v)
  unfolding main_keys
  possible-main_section is = from-main 5 (key_in DebugSource.Main) (λ a later is. rw is (inl refl)) (rw is at (refers (attribute (entry_here main p) name)))

  pub possible-main-supplementary : reference_of (attribute (entry_here main p) name) ≡ Some (Reference.Supplementary v) → PossibleKey main supplementary (key_in DebugSource.Supplementary v)
  unfolding main_keys
  possible-main-supplementary is = from-main 6 (key_in DebugSource.Supplementary) (λ a later is. rw is (inl refl)) (rw is at (refers (attribute (entry_here main p) name)))

-- an entry of the supplementary sheet
pub later-supplementary : (u : CompilationUnit) (P : DieKey → Type 0) (a : Attribute) (later : List Attribute) → Any P (supplementary_keys u later) → Any P (supplementary_keys u (a ∷ later))
unfolding supplementary_keys
later-supplementary u P a later p = by_test (Any P) (eqb a.kind 4) (λ _. inr (inr p)) (λ _. by_test (Any P) (eqb a.kind 5) (λ _. inr p) (λ _. p))

pub either-source : (source : DebugSource) (o : ℕ) (ks : List DieKey) → Any (λ x. key_in source o ≡ x) (key_in DebugSource.Main o ∷ key_in DebugSource.Supplementary o ∷ ks)
either-source DebugSource.Main o ks = inl refl
either-source DebugSource.Supplementary o ks = inr (inl refl)

module _ {main supplementary : List ℕ} {n q p v : ℕ} (name : ℕ) (accepted : Accepts supplementary n) (known : EntryKnown supplementary q p) where
  from-supplementary : (k : ℕ) (key : ℕ → DieKey)
      → ((a : Attribute) (later : List Attribute) → a.kind ≡ k → Any (λ x. key a.value ≡ x) (supplementary_keys (unit_here supplementary q) (a ∷ later)))
      → Referring (attribute (entry_here supplementary p) name) k v → PossibleKey main supplementary (key v)
  unfolding possible_keys
  from-supplementary k key here r = record {
    listed = any_right (λ x. key v ≡ x) (unit_keys main_keys (units main)) (unit_keys supplementary_keys (units supplementary))
        (known-keys supplementary_keys (λ x. key v ≡ x) n accepted known
        (named-taken supplementary_keys later-supplementary (unit_here supplementary q) k key here (entry_here supplementary p) name v r));
  }

  -- under either source
  pub possible-supplementary_unit : (source : DebugSource) → reference_of (attribute (entry_here supplementary p) name) ≡ Some (Reference.Unit v)
      → PossibleKey main supplementary (key_in source ((unit_here supplementary q).offset + v))
  unfolding supplementary_keys
  possible-supplementary_unit source is =
      let u = unit_here supplementary q in
      from-supplementary 4 (λ x. key_in source (u.offset + x)) (λ a later is. rw is (either-source source (u.offset + a.value) (supplementary_keys u later)))
      (rw is at (refers (attribute (entry_here supplementary p) name)))

  pub possible-supplementary_section : reference_of (attribute (entry_here supplementary p) name) ≡ Some (Reference.Section v) → PossibleKey main supplementary (key_in DebugSource.Main v)
  unfolding supplementary_keys
  possible-supplementary_section is = from-supplementary 5 (key_in DebugSource.Main) (λ a later is. rw is (inl refl)) (rw is at (refers (attribute (entry_here supplementary p) name)))
