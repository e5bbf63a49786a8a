-- Look-ups in the result of a join: where DWARF had an answer it is found as before.
use mathlib.Core.Path.{◌≡◌, refl, sym, ap, subst, ◌∙◌}
use mathlib.Core.Bool.{Bool, true, false, cond, not}
use mathlib.Core.List.{List, [], ◌∷◌, ◌++◌, map}
use mathlib.Core.Option.{Option, none, some, none-ne-some, some-injective}
use Prim.Native.Nat.{ℕ}
use Rattle.tlv.specs.Outcome.{refused, done, ◌>>=◌}
use Rattle.tlv.specs.Lists.{All, take_while, first, last, map_option}
use Rattle.tlv.specs.Bytes.{Bytes}
use Rattle.tlv.specs.Fields.{FieldList, end, cut, more, fields_from, fields, whole_fields, payloads}
use Rattle.tlv.proofs.OutcomeLaws.{done-is, refused-not, with_done}
use Rattle.buffers.specs.Reader.{records_form}
use Rattle.buffers.proofs.FieldLaws.{prepend, tagged}
use Rattle.access.specs.Places.{behind}
use Rattle.lookup.specs.Tray.{FieldAt, GroupAt, fields_at, has_tag, groups_at, functions_at, nodes_at, function_range, functions_of}
use Rattle.lookup.specs.Lookup.{holds, row_in_force, chain_from, chain, Frames, frames_of, qualifying, look_up}
use Rattle.symbols.specs.Symbols.{symbols_form, Symbol, symbol_of, joining, bare_bytes, joined}
use Rattle.symbols.specs.Means.{FunctionsJoined, Looking, Meanings}
use Rattle.symbols.proofs.BareLaws.{Fits, payload_of, fields-joined, form-joined}
use Rattle.symbols.proofs.JoinLaws.{shorts, whole-payloads, joining-fits}
use Rattle.symbols.proofs.ChoiceLaws.{choosing, covering}

-- ---- lists behind each other

module _ {A : Type 0} (p : A → Bool) where
  first-before : (xs ys : List A) (x : A) → first p xs ≡ some x → first p (xs ++ ys) ≡ some x
  unfolding first
  first-before [] ys x e = absurd (none-ne-some x e)
  first-before (z ∷ xs) ys x e = go (p z) e (first-before xs ys x)
    where
      go : (b : Bool) → cond b (some z) (first p xs) ≡ some x → (first p xs ≡ some x → first p (xs ++ ys) ≡ some x)
          → cond b (some z) (first p (xs ++ ys)) ≡ some x
      go true q ih = q
      go false q ih = ih q

  first-behind : (xs ys : List A) → first p xs ≡ none → first p (xs ++ ys) ≡ first p ys
  unfolding first
  first-behind [] ys e = refl
  first-behind (z ∷ xs) ys e = go (p z) e (first-behind xs ys)
    where
      go : (b : Bool) → cond b (some z) (first p xs) ≡ none → (first p xs ≡ none → first p (xs ++ ys) ≡ first p ys)
          → cond b (some z) (first p (xs ++ ys)) ≡ first p ys
      go true q ih = absurd (none-ne-some z (sym q))
      go false q ih = ih q

  first-all : (P : A → Type 0) (xs : List A) (x : A) → All P xs → first p xs ≡ some x → P x
  unfolding first
  first-all P [] x h e = absurd (none-ne-some x e)
  first-all P (z ∷ xs) x h e = go (p z) e (first-all P xs x h.1)
    where
      go : (b : Bool) → cond b (some z) (first p xs) ≡ some x → (first p xs ≡ some x → P x) → P x
      go true q ih = subst P (some-injective _ _ q) h.0
      go false q ih = ih q

  while-before : (xs ys : List A) → take_while p ys ≡ [] → take_while p (xs ++ ys) ≡ take_while p xs
  unfolding take_while
  while-before [] ys e = e
  while-before (x ∷ xs) ys e = rw (while-before xs ys e)

-- ---- functions with their places, one tray behind another

-- where fields that begin at p end
abbrev end_at : ℕ → FieldList → ℕ
end_at p end = p
end_at p cut = p
end_at p (more f fs) = end_at (behind p f) fs

placed-append : (p : ℕ) (fs ys : FieldList) → fields_at p (prepend (whole_fields fs) ys) ≡ fields_at p fs ++ fields_at (end_at p fs) ys
unfolding fields_at whole_fields
placed-append p end ys = refl
placed-append p cut ys = refl
placed-append p (more f fs) ys = ap (λ (l : List FieldAt). record { place = p; field = f } ∷ l) (placed-append (behind p f) fs ys)

abbrev is_other : FieldAt → Bool
is_other x = not (has_tag 0x41 x)

groups-append : (xs ys : List FieldAt) → take_while is_other ys ≡ [] → groups_at 0x41 (xs ++ ys) ≡ groups_at 0x41 xs ++ groups_at 0x41 ys
unfolding groups_at
groups-append [] ys e = refl
groups-append (x ∷ xs) ys e = rw (while-before is_other xs ys e, groups-append xs ys e) (go (has_tag 0x41 x))
  where
    group : GroupAt
    group = record { place = x.place; head = x.field; rest = take_while is_other xs }

    go : (b : Bool) → cond b (group ∷ (groups_at 0x41 xs ++ groups_at 0x41 ys)) (groups_at 0x41 xs ++ groups_at 0x41 ys)
        ≡ cond b (group ∷ groups_at 0x41 xs) (groups_at 0x41 xs) ++ groups_at 0x41 ys
    go true = refl
    go false = refl

-- ---- bare functions

abbrev bares_at : ℕ → List Symbol → List FieldAt
bares_at q ss = fields_at q (prepend (tagged 0x41 payload_of ss) end)

bares-stop : (q : ℕ) (ss : List Symbol) → take_while is_other (bares_at q ss) ≡ []
unfolding fields_at take_while
bares-stop q [] = refl
bares-stop q (s ∷ ss) = refl

bares-bare : (q : ℕ) (ss : List Symbol) → All (λ f. f.rest ≡ []) (groups_at 0x41 (bares_at q ss))
unfolding fields_at groups_at
bares-bare q [] = tt
bares-bare q (s ∷ ss) =
    let next = behind q (record { tag = 0x41; payload = payload_of s }) in
    (bares-stop next ss, bares-bare next ss)

module _ (tray : List ℕ) (ss : List Symbol) (h : All Fits ss) (f : records_form 0 0 (fields tray) ≡ true) where
  abbrev behind_tray : List GroupAt
  behind_tray = groups_at 0x41 (bares_at (end_at 0 (fields tray)) ss)

  functions-append : functions_at (tray ++ bare_bytes ss) ≡ functions_at tray ++ behind_tray
  unfolding functions_at
  functions-append =
      ap (λ (fs : FieldList). groups_at 0x41 (fields_at 0 fs)) (fields-joined tray ss h f)
      ∙ ap (λ (l : List FieldAt). groups_at 0x41 l) (placed-append 0 (fields tray) (prepend (tagged 0x41 payload_of ss) end))
      ∙ groups-append (fields_at 0 (fields tray)) (bares_at (end_at 0 (fields tray)) ss) (bares-stop (end_at 0 (fields tray)) ss)

  functions-are : functions_of (tray ++ bare_bytes ss) ≡ done (functions_at tray ++ behind_tray)
  unfolding functions_of
  functions-are = rw (form-joined tray ss h f) (ap done functions-append)

-- ---- the result of a join

record Result (tray result : List ℕ) : Type 0 where
  added : List Symbol
  fit : All Fits added
  is : result ≡ tray ++ bare_bytes added

module _ (tray list result : List ℕ) (b : Bytes list) where
  result_by : (gs : List GroupAt) (c : Bool) → symbols_form (fields list) ≡ c
      → cond c (done (tray ++ bare_bytes (joining (map function_range gs) (map symbol_of (payloads 0x50 (whole_fields (fields list)))))))
      (refused 26) ≡ done result
      → Result tray result
  unfolding fields_from
  result_by gs true s e = record {
    added = joining (map function_range gs) (map symbol_of (payloads 0x50 (whole_fields (fields list))));
    fit = joining-fits (map function_range gs) (payloads 0x50 (whole_fields (fields list))) (whole-payloads (fields list) s (shorts 0 list b));
    is = sym (done-is e);
  }
  result_by gs false s e = refused-not e

  result_of : joined tray list ≡ done result → Result tray result
  unfolding joined
  result_of e = with_done (functions_of tray) _ e λ gs g q. result_by gs (symbols_form (fields list)) refl q

  -- a join that is done had functions
  functions-of : joined tray list ≡ done result → (fs : List GroupAt) × (functions_of tray ≡ done fs)
  unfolding joined
  functions-of e = with_done (functions_of tray) _ e λ gs g q. (gs, g)

formed-of : (tray : List ℕ) (fs : List GroupAt) → functions_of tray ≡ done fs → (records_form 0 0 (fields tray) ≡ true) × (functions_at tray ≡ fs)
unfolding functions_of
formed-of tray fs e = go (records_form 0 0 (fields tray)) refl e
  where
    go : (c : Bool) → records_form 0 0 (fields tray) ≡ c → cond c (done (functions_at tray)) (refused 19) ≡ done fs
        → (records_form 0 0 (fields tray) ≡ true) × (functions_at tray ≡ fs)
    go true h q = (h, done-is q)
    go false h q = refused-not q

functions-joined : (tray list result : List ℕ) (fs : List GroupAt) → Bytes list → joined tray list ≡ done result → functions_of tray ≡ done fs
    → FunctionsJoined tray list result fs
functions-joined tray list result fs b e g =
    let r = result_of tray list result b e in
    let k = formed-of tray fs g in
    record {
      bares = behind_tray tray r.added r.fit k.0;
      is = ap functions_of r.is ∙ functions-are tray r.added r.fit k.0
          ∙ ap (λ (l : List GroupAt). done (l ++ behind_tray tray r.added r.fit k.0)) k.1;
      bare = bares-bare (end_at 0 (fields tray)) r.added;
    }

-- ---- a look-up in it

module _ (a : ℕ) where
  abbrev is_found : GroupAt → Bool
  is_found f = holds a (function_range f)

  look_done : (tray : List ℕ) (fs : List GroupAt) → functions_of tray ≡ done fs → look_up tray a ≡ qualifying (frames_of a) (first is_found fs)
  unfolding look_up ◌>>=◌
  look_done tray fs e = rw e

  -- what DWARF's functions answer, all of them answer
  same-found : (fs bares : List GroupAt) (x : Frames) → qualifying (frames_of a) (first is_found fs) ≡ done x
      → qualifying (frames_of a) (first is_found (fs ++ bares)) ≡ done x
  same-found fs bares x e = go (first is_found fs) refl e
    where
      go : (o : Option GroupAt) → first is_found fs ≡ o → qualifying (frames_of a) o ≡ done x → qualifying (frames_of a) (first is_found (fs ++ bares)) ≡ done x
      go none h q = refused-not q
      go (some f) h q = rw (first-before is_found fs bares f h) q

  abbrev Bare : Frames → Type 0
  Bare x = (x.row ≡ none) × (x.chain ≡ [])

  bare-frames : (f : GroupAt) → f.rest ≡ [] → Bare (frames_of a f)
  unfolding frames_of row_in_force chain nodes_at groups_at chain_from last map_option
  bare-frames f e = (rw e, rw e)

  other-found : (fs bares : List GroupAt) (x : Frames) → All (λ f. f.rest ≡ []) bares → qualifying (frames_of a) (first is_found fs) ≡ refused 20
      → qualifying (frames_of a) (first is_found (fs ++ bares)) ≡ done x → Bare x
  other-found fs bares x all e = go (first is_found fs) refl e
    where
      found : (o : Option GroupAt) → first is_found bares ≡ o → qualifying (frames_of a) o ≡ done x → Bare x
      found none h q = refused-not q
      found (some f) h q = subst Bare (done-is q) (bare-frames f (first-all is_found (λ g. g.rest ≡ []) bares f all h))

      go : (o : Option GroupAt) → first is_found fs ≡ o → qualifying (frames_of a) o ≡ refused 20
          → qualifying (frames_of a) (first is_found (fs ++ bares)) ≡ done x → Bare x
      go none h q k = found (first is_found bares) refl (subst (λ (o : Option GroupAt). qualifying (frames_of a) o ≡ done x) (first-behind is_found fs bares h) k)
      go (some f) h q k = refused-not (sym q)

pub looking : Looking
looking = record { functions = functions-joined; same = same; otherwise = otherwise }
  where
    same : (tray list result : List ℕ) (a : ℕ) (x : Frames) → Bytes list → joined tray list ≡ done result → look_up tray a ≡ done x → look_up result a ≡ done x
    same tray list result a x b e l =
        let g = functions-of tray list result b e in
        let j = functions-joined tray list result g.0 b e g.1 in
        look_done a result (g.0 ++ j.bares) j.is ∙ same-found a g.0 j.bares x (sym (look_done a tray g.0 g.1) ∙ l)

    otherwise : (tray list result : List ℕ) (a : ℕ) (x : Frames) → Bytes list → joined tray list ≡ done result → look_up tray a ≡ refused 20
        → look_up result a ≡ done x → (x.row ≡ none) × (x.chain ≡ [])
    otherwise tray list result a x b e l m =
        let g = functions-of tray list result b e in
        let j = functions-joined tray list result g.0 b e g.1 in
        other-found a g.0 j.bares x j.bare (sym (look_done a tray g.0 g.1) ∙ l) (sym (look_done a result (g.0 ++ j.bares) j.is) ∙ m)

pub meanings : Meanings
meanings = record { choosing = choosing; covering = covering; looking = looking }
