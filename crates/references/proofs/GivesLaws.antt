-- What the name searches give: by the ways through them, and the turns of the loop over an entry's references.
use mathlib.Core.Path.{◌≡◌, refl, sym, ap, ◌∙◌}
use mathlib.Core.Bool.{Bool, true, false, cond, not, true≢false}
use mathlib.Core.List.{List, [], ◌∷◌}
use mathlib.Core.Option.{Option}
use Prim.Native.Nat.{ℕ, ◌+◌, ◌≤◌}
use native.Mathlib.Omega.{arith}
use lib.Dec.{eqb}
use lib.ListN.{length}
use borrow.Author.Tests.{eq-eqb, ne_eqb, eqb-true}
use Rattle.tlv.specs.declared.model.DebugSource.{DebugSource}
use Rattle.tlv.specs.Outcome.{Outcome, refused, done, ◌>>=◌}
use Rattle.tlv.specs.Lists.{exists, is_empty}
use Rattle.tlv.specs.Model.{CompilationUnit, units}
use Rattle.buffers.specs.Table.{Kept}
use Rattle.buffers.proofs.TableLaws.{kept_refl, kept_trans}
use Rattle.access.proofs.IndexModel.{either}
use Rattle.files.specs.Pieces.{source_in}
use Rattle.references.specs.declared.tables.Tables.{Tables}
use Rattle.std.specs.Prelude.{Result, Ok, Err, Some, None}
use Rattle.std.specs.declared.option.Option.{Option as Given}
use Rattle.tlv.specs.declared.refusal.Refusal.{Refusal}
use Rattle.tlv.specs.Refusals.{number_of}
use Rattle.access.specs.declared.index.EntryPlace.{EntryPlace}
use Rattle.references.specs.declared.ways.OffsetAt.{OffsetAt}
use Rattle.references.specs.Search.{Trail, DieKey, same_key, is_visited, visit, visit_entry, unit_containing, units_in, follow_in, follow_absolute, Named}
use Rattle.references.specs.Reads.{Counted, after, ◌>>>◌, counted_name}
use Rattle.references.specs.Tables.{Leads, bytes_given}
use Rattle.references.specs.Keys.{keys_at, key_in, Pushed, PossibleKey, keys_from, keys_extent, TrailIn}
use Rattle.references.specs.Names.{dwarf_of, search_source, place_at, Stands, Aims, trail_at, SearchIn, is_answer, named_given, counted_given, Gives, resolve_absolute_name, at_entry}
use Rattle.references.proofs.FollowLaws.{push_room, push_kept, push_search}
use Rattle.references.proofs.WayLaws.{key-source}

-- ---- what is given, at once or by another search

module _ {main supplementary : List ℕ} {x : Tables} where
  -- at once
  pub gives-here : {w : List ℕ} {n a st : ℕ} {r : List ℕ} (f : Trail → Counted Named) → SearchIn main supplementary w x n → a ≤ n + 1
      → f (trail_at w (keys_from x) n a) ≡ counted_given st (trail_at w (keys_from x) n a) r → Gives f main supplementary x w n a w n a st r
  gives-here {w} f S few e = record { is = e; few = few; ready = S; rest = kept_refl w x.keys (keys_extent main supplementary x) }

  -- nothing
  pub gives_nothing : {w : List ℕ} {n a st : ℕ} (f : Trail → Counted Named) → SearchIn main supplementary w x n → a ≤ n + 1 → st ≡ 0
      → f (trail_at w (keys_from x) n a) ≡ after (trail_at w (keys_from x) n a) (done (record { trail = trail_at w (keys_from x) n a; name = [] })) → Gives f main supplementary x w n a w n a st []
  unfolding named_given
  gives_nothing {st = st} f S few z e = gives-here f S few (e ∙ rw (eq-eqb st 0 z))

  -- a refusal
  pub gives-refused : {w : List ℕ} {n a st : ℕ} {r : List ℕ} (f : Trail → Counted Named) → SearchIn main supplementary w x n → a ≤ n + 1 → (st ≡ 0 → ⊥)
      → f (trail_at w (keys_from x) n a) ≡ after (trail_at w (keys_from x) n a) (refused st) → Gives f main supplementary x w n a w n a st r
  unfolding named_given
  gives-refused {st = st} f S few h e = gives-here f S few (e ∙ rw (ne_eqb st 0 h))

  -- as another search does from where this one has come to
  pub gives_after : {w w₁ w₂ : List ℕ} {n n₁ n₂ a a₁ b st : ℕ} {r : List ℕ} (f g : Trail → Counted Named)
      → Kept w w₁ x.keys (keys_extent main supplementary x) → f (trail_at w (keys_from x) n a) ≡ g (trail_at w₁ (keys_from x) n₁ a₁)
      → Gives g main supplementary x w₁ n₁ a₁ w₂ n₂ b st r → Gives f main supplementary x w n a w₂ n₂ b st r
  gives_after f g K e G = record { is = e ∙ G.is; few = G.few; ready = G.ready; rest = kept_trans K G.rest }

  -- a target is written down first
  module _ {w w₁ : List ℕ} {n : ℕ} {key : DieKey} (S : SearchIn main supplementary w x n) (possible : PossibleKey main supplementary key)
      (new : exists (same_key key) (keys_at w (keys_from x) n) ≡ false) (P : Pushed w w₁ x n key) where
    trail-pushed : (k : ℕ) → record { visited = key ∷ keys_at w (keys_from x) n; reads = k } ≡ trail_at w₁ (keys_from x) (n + 1) k
    trail-pushed k = ap (λ (ks : List DieKey). record { visited = ks; reads = k }) (sym P.keys)

    pub gives-pushed : {w₂ : List ℕ} {n₂ a b st : ℕ} {r : List ℕ} (f g : Trail → Counted Named)
        → f (trail_at w (keys_from x) n a) ≡ g (visit_entry (trail_at w (keys_from x) n a) key)
        → Gives g main supplementary x w₁ (n + 1) (a + 1) w₂ n₂ b st r → Gives f main supplementary x w n a w₂ n₂ b st r
    gives-pushed {a = a} f g e G = gives_after f g (push_kept S possible new P) (e ∙ ap g (trail-pushed (a + 1))) G

    pub gives-outside : {a st : ℕ} (f : Trail → Counted Named) → length w₁ ≡ length w → a ≤ n + 1 → st ≡ 0
        → f (trail_at w (keys_from x) n a) ≡ after (visit (trail_at w (keys_from x) n a) key) (done (record { trail = visit (trail_at w (keys_from x) n a) key; name = [] }))
        → Gives f main supplementary x w n a w₁ (n + 1) a st []
    gives-outside {a} f size few z e =
        let g : Trail → Counted Named = λ t. after t (done (record { trail = t; name = [] })) in
        gives_after f g (push_kept S possible new P) (e ∙ ap g (trail-pushed a)) (gives_nothing g (push_search S possible new P size) (omega arith) z refl)

-- ---- an offset of a section

units_in-is : (main supplementary : List ℕ) (input : DebugSource) → units_in (dwarf_of main supplementary) (search_source input) ≡ units (source_in main supplementary input)
unfolding units_in
units_in-is main supplementary DebugSource.Main = refl
units_in-is main supplementary DebugSource.Supplementary = refl

-- the search for the name there
abbrev absolute : ℕ → List ℕ → List ℕ → OffsetAt → Trail → Counted Named
absolute depth main supplementary at = resolve_absolute_name depth (dwarf_of main supplementary) (search_source at.input) (search_source at.key.source) at.key.offset

abbrev key_at : OffsetAt → DieKey
key_at at = record { source = search_source at.key.source; offset = at.key.offset }

-- an offset that was not followed yet
module _ {main supplementary w : List ℕ} {x : Tables} {n : ℕ} {at : OffsetAt} {v : Bool} (S : SearchIn main supplementary w x n) (A : Aims main supplementary at)
    (seen : v ≡ exists (same_key (key_in at.key.source at.key.offset)) (keys_at w (keys_from x) n)) (new : v ≡ false) where
  pub offset-room : TrailIn w x n 1
  offset-room = push_room S A.possible (sym seen ∙ new)

  pub offset-search : {w₁ : List ℕ} → Pushed w w₁ x n (key_in at.key.source at.key.offset) → length w₁ ≡ length w → SearchIn main supplementary w₁ x (n + 1)
  offset-search P size = push_search S A.possible (sym seen ∙ new) P size

module _ {main supplementary w : List ℕ} {x : Tables} {n : ℕ} {at : OffsetAt} (depth : ℕ) (S : SearchIn main supplementary w x n) (A : Aims main supplementary at) {v : Bool}
    (seen : v ≡ exists (same_key (key_in at.key.source at.key.offset)) (keys_at w (keys_from x) n)) where
  visited : exists (same_key (key_at at)) (keys_at w (keys_from x) n) ≡ v
  visited = ap (λ (k : DieKey). exists (same_key k) (keys_at w (keys_from x) n)) (key-source at.key.source at.key.offset) ∙ sym seen

  pub absolute-seen : {a st : ℕ} → a ≤ n + 1 → st ≡ 0 → v ≡ true → Gives (absolute depth main supplementary at) main supplementary x w n a w n a st []
  unfolding resolve_absolute_name follow_absolute is_visited
  absolute-seen few z y = gives_nothing (absolute depth main supplementary at) S few z (rw (visited, y))

  module _ {s : List ℕ} (new : v ≡ false) (is : s ≡ source_in main supplementary at.input) {r : Result (Given EntryPlace) Refusal} (L : Leads s at.key.offset r) where
    follows : {o : Option CompilationUnit} → unit_containing (units (source_in main supplementary at.input)) at.key.offset ≡ o
        → (t : Trail) → t.visited ≡ keys_at w (keys_from x) n
        → follow_absolute (dwarf_of main supplementary) (search_source at.input) (search_source at.key.source) t at.key.offset ≡ follow_in (search_source at.input) (key_at at) t o
    unfolding follow_absolute is_visited
    follows found t same = rw (same, visited, new, units_in-is main supplementary at.input, found)

    pub absolute-no-entry : (e : Refusal) → r ≡ Err e → {a : ℕ} → a ≤ n + 1 → Gives (absolute depth main supplementary at) main supplementary x w n a w n a (number_of e) []
    unfolding resolve_absolute_name ◌>>=◌
    absolute-no-entry e to {a} few =
        let leads = rw (is, to) at L in
        let none = leads.is.1 in
        rw leads.is.0
        (gives-refused (absolute depth main supplementary at) S few (λ z. omega arith) (rw (follows none.containing (trail_at w (keys_from x) n a) refl, none.missing)))

    pub absolute-stands : (f : EntryPlace) → r ≡ Ok (Some f) → Stands main supplementary (at_entry at f)
    absolute-stands f to = let leads = rw (is, to) at L in record { known = leads.is.2; sourced = A.sourced }

    module _ {w₁ : List ℕ} (P : Pushed w w₁ x n (key_in at.key.source at.key.offset)) where
      pub absolute-outside : {a st : ℕ} → r ≡ Ok None → length w₁ ≡ length w → a ≤ n + 1 → st ≡ 0
          → Gives (absolute depth main supplementary at) main supplementary x w n a w₁ (n + 1) a st []
      unfolding resolve_absolute_name ◌>>=◌
      absolute-outside {a} to size few z =
          let leads = rw (is, to) at L in
          gives-outside S A.possible (sym seen ∙ new) P (absolute depth main supplementary at) size few z
          (rw (follows leads.is (trail_at w (keys_from x) n a) refl)
          (ap (λ (key : DieKey). after (visit (trail_at w (keys_from x) n a) key) (done (record { trail = visit (trail_at w (keys_from x) n a) key; name = [] }))) (key-source at.key.source at.key.offset)))

      pub absolute-at : (f : EntryPlace) → r ≡ Ok (Some f) → {w₂ name : List ℕ} {n₂ a b st : ℕ}
          → Gives (counted_name depth (dwarf_of main supplementary) (place_at main supplementary (at_entry at f))) main supplementary x w₁ (n + 1) (a + 1) w₂ n₂ b st name
          → Gives (absolute depth main supplementary at) main supplementary x w n a w₂ n₂ b st name
      unfolding resolve_absolute_name ◌>>=◌
      absolute-at f to {a = a} G =
          let leads = rw (is, to) at L in
          let inner : Trail → Counted Named = counted_name depth (dwarf_of main supplementary) (place_at main supplementary (at_entry at f)) in
          gives-pushed S A.possible (sym seen ∙ new) P (absolute depth main supplementary at) inner
          (rw (follows leads.is.0 (trail_at w (keys_from x) n a) refl, leads.is.1)
          (ap (λ (key : DieKey). inner (visit_entry (trail_at w (keys_from x) n a) key)) (key-source at.key.source at.key.offset)))
          G

-- ---- an answer ends a search

pub bind_assoc : {A B C : Type 0} (m : Outcome A) (f : A → Outcome B) (g : B → Outcome C) → ((m >>= f) >>= g) ≡ (m >>= λ a. f a >>= g)
unfolding ◌>>=◌
bind_assoc (refused n) f g = refl
bind_assoc (done a) f g = refl

pub counted-assoc : {A B C : Type 0} (t : Trail) (o : Outcome A) (f : A → Counted B) (g : B → Counted C) → ((after t o >>> f) >>> g) ≡ (after t o >>> λ a. f a >>> g)
counted-assoc t (refused n) f g = refl
counted-assoc t (done a) f g = refl

module _ (st : ℕ) (r : List ℕ) where
  -- no answer: no refusal, and no name
  pub no_answer : is_answer st r ≡ false → (st ≡ 0) × (r ≡ [])
  unfolding is_answer
  no_answer e = either (eqb st 0) (λ y. (eqb-true st 0 y, go r (rw y at e))) (λ n. absurd (true≢false (rw n at e)))
    where
      go : (r : List ℕ) → not (is_empty r) ≡ false → r ≡ []
      go [] e = refl
      go (b ∷ r) e = absurd (true≢false e)

  module _ (t : Trail) where
    -- the own name
    pub own-ends : (g : Counted Named) → is_answer st r ≡ true → (after t (bytes_given st r) >>> λ own. cond (is_empty own) g (after t (done (record { trail = t; name = own })))) ≡ counted_given st t r
    unfolding is_answer bytes_given named_given
    own-ends g e = go (eqb st 0) r e
      where
        go : (b : Bool) (r : List ℕ) → cond b (not (is_empty r)) true ≡ true
            → (after t (cond b (done r) (refused st)) >>> λ own. cond (is_empty own) g (after t (done (record { trail = t; name = own })))) ≡ after t (cond b (done (record { trail = t; name = r })) (refused st))
        go true [] e = absurd (true≢false (sym e))
        go true (b ∷ r) e = refl
        go false r e = refl

    -- the name of a reference
    pub name-ends : (g : Trail → Counted Named) → is_answer st r ≡ true → (counted_given st t r >>> λ m. cond (is_empty m.name) (g m.trail) (after m.trail (done m))) ≡ counted_given st t r
    unfolding is_answer named_given
    name-ends g e = go (eqb st 0) r e
      where
        go : (b : Bool) (r : List ℕ) → cond b (not (is_empty r)) true ≡ true
            → (after t (cond b (done (record { trail = t; name = r })) (refused st)) >>> λ m. cond (is_empty m.name) (g m.trail) (after m.trail (done m))) ≡ after t (cond b (done (record { trail = t; name = r })) (refused st))
        go true [] e = absurd (true≢false (sym e))
        go true (b ∷ r) e = refl
        go false r e = refl

    pub name-goes : (g : Trail → Counted Named) → is_answer st r ≡ false → (counted_given st t r >>> λ m. cond (is_empty m.name) (g m.trail) (after m.trail (done m))) ≡ g t
    unfolding named_given
    name-goes g e = let h = no_answer e in rw (h.0, h.1)

    pub name-bytes : (named_given st t r >>= λ m. done m.name) ≡ bytes_given st r
    unfolding bytes_given named_given ◌>>=◌
    name-bytes = go (eqb st 0) (record { trail = t; name = r })
      where
        go : (b : Bool) (n : Named) → (cond b (done n) (refused st) >>= λ m. done m.name) ≡ cond b (done n.name) (refused st)
        go true n = refl
        go false n = refl
