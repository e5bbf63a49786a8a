-- What the form of a records tray says of the depths of a function's nodes, and that its chain is that of the request's words.
use mathlib.Core.Path.{◌≡◌, refl, sym, subst}
use mathlib.Core.Bool.{Bool, true, false, cond, ◌&&◌, ◌||◌, not, false≢true}
use mathlib.Core.Logic.{◌⊎◌, inl, inr}
use mathlib.Core.List.{List, [], ◌∷◌, map}
use Prim.Native.Nat.{ℕ, zero, suc, ◌+◌, ◌≤◌, ◌<◌}
use native.Mathlib.Omega.{arith}
use lib.Dec.{leb, eqb}
use lib.ListN.{length, get_or}
use borrow.Author.Tests.{leb-true, eqb-true}
use Rattle.tlv.specs.Lists.{All, exists, take_while}
use Rattle.tlv.specs.Bytes.{le_at}
use Rattle.tlv.specs.Outcome.{refused, done}
use Rattle.tlv.specs.Fields.{Field, FieldList, end, cut, more, fields}
use Rattle.tlv.proofs.TestLaws.{and_left, and_right, or_either}
use Rattle.tlv.proofs.ListLaws.{all_map}
use Rattle.tlv.proofs.OutcomeLaws.{done-is, refused-not}
use Rattle.buffers.specs.Reader.{records_after, records_formed, depth_after, records_form, node_of}
use Rattle.access.specs.Places.{behind}
use Rattle.lookup.specs.Tray.{FieldAt, GroupAt, fields_at, has_tag, groups_at, functions_at, nodes_at, node, functions_of}
use Rattle.lookup.specs.Lookup.{chain}
use Rattle.lookup.specs.Means.{depth_of, Chained, Chaining}
use Rattle.lookup.proofs.ChainLaws.{Preorder, numbers_from, placed, whole, few}

-- ---- depths one after the other

abbrev pub Ordered : ℕ → List ℕ → Type 0
Ordered d [] = Unit {0}
Ordered d (x ∷ xs) = (x ≤ d) × (x ≤ 256) × ((1 ≤ x) ⊎ (d ≡ 0)) × Ordered (x + 1) xs

positive : (d : ℕ) (xs : List ℕ) → 1 ≤ d → Ordered d xs → (m : ℕ) → m < length xs → 1 ≤ get_or xs m 0
positive d [] l o m h = absurd (omega arith)
positive d (x ∷ xs) l o zero h = go o.2
  where
    go : (1 ≤ x) ⊎ (d ≡ 0) → 1 ≤ x
    go (inl q) = q
    go (inr q) = absurd (omega arith)
positive d (x ∷ xs) l o (suc m) h = positive (x + 1) xs (omega arith) o.3 m (omega arith)

rises : (d : ℕ) (xs : List ℕ) → Ordered d xs → (m : ℕ) → suc m < length xs → get_or xs (suc m) 0 ≤ suc (get_or xs m 0)
rises d [] o m h = absurd (omega arith)
rises d (x ∷ []) o m h = absurd (omega arith)
rises d (x ∷ y ∷ xs) o zero h = let l = o.3.0 in omega arith
rises d (x ∷ y ∷ xs) o (suc m) h = rises (x + 1) (y ∷ xs) o.3 m (omega arith)

shallows : (d : ℕ) (xs : List ℕ) → Ordered d xs → (m : ℕ) → m < length xs → get_or xs m 0 ≤ 256
shallows d [] o m h = absurd (omega arith)
shallows d (x ∷ xs) o zero h = o.1
shallows d (x ∷ xs) o (suc m) h = shallows (x + 1) xs o.3 m (omega arith)

preorder : (xs : List ℕ) → Ordered 0 xs → Preorder (λ m. get_or xs m 0) (length xs)
preorder [] o = record {
  root = λ h. absurd (omega arith);
  below = λ m l h. absurd (omega arith);
  step = λ m h. absurd (omega arith);
  shallow = λ m h. absurd
      (omega arith);
}
preorder (x ∷ xs) o = record { root = λ h. let l = o.0 in omega arith; below = low; step = rises 0 (x ∷ xs) o; shallow = shallows 0 (x ∷ xs) o }
  where
    low : (m : ℕ) → 0 < m → m < length (x ∷ xs) → 1 ≤ get_or (x ∷ xs) m 0
    low zero l h = absurd (omega arith)
    low (suc m) l h = positive (x + 1) xs (omega arith) o.3 m (omega arith)

-- ---- from the form of the fields

abbrev depths : List GroupAt → List ℕ
depths gs = map (λ n. (node n).depth) gs

-- the fields up to the next function
abbrev own_of : List FieldAt → List FieldAt
own_of fs = take_while (λ x. not (has_tag 0x41 x)) fs

record Formed (d : ℕ) (fs : List FieldAt) : Type 0 where
  own : Ordered d (depths (groups_at 0x43 (own_of fs)))
  each : All (λ f. Ordered 0 (depths (nodes_at f))) (groups_at 0x41 fs)

pub node-ordered : (d t : ℕ) (p : List ℕ) → eqb t 0x43 ≡ true → records_formed d t p ≡ true
    → (le_at 2 p 0 ≤ d) × (le_at 2 p 0 ≤ 256) × ((1 ≤ le_at 2 p 0) ⊎ (d ≡ 0))
unfolding records_formed
node-ordered d t p e h =
    let k = subst (λ (x : ℕ). records_formed d x p ≡ true) (eqb-true t 0x43 e) h in
    let x = le_at 2 p 0 in
    let last = and_right (leb 10 (length p) && leb x d && leb x 256) (leb 1 x || eqb d 0) k in
    let front = and_left (leb 10 (length p) && leb x d && leb x 256) (leb 1 x || eqb d 0) k in
    let mid = and_left (leb 10 (length p) && leb x d) (leb x 256) front in (
      leb-true x d (and_right (leb 10 (length p)) (leb x d) mid),
      leb-true x 256 (and_right (leb 10 (length p) && leb x d) (leb x 256) front),
      either (or_either (leb 1 x) (eqb d 0) last),
    )
  where
    either : (leb 1 (le_at 2 p 0) ≡ true) ⊎ (eqb d 0 ≡ true) → (1 ≤ le_at 2 p 0) ⊎ (d ≡ 0)
    either (inl q) = inl (leb-true 1 _ q)
    either (inr q) = inr (eqb-true d 0 q)

-- a field more in front
module _ (d p : ℕ) (f : Field) (rest : List FieldAt) (formed : records_formed d f.tag f.payload ≡ true) (ih : Formed (depth_after d f) rest) where
  abbrev this : FieldAt
  this = record { place = p; field = f }

  front : Formed d (this ∷ rest)
  unfolding groups_at take_while nodes_at depth_after node_of
  front = go (eqb f.tag 0x41) refl (eqb f.tag 0x43) refl ih.own ih.each
    where
      go : (b : Bool) → eqb f.tag 0x41 ≡ b → (c : Bool) → eqb f.tag 0x43 ≡ c
          → Ordered (cond b 0 (cond c (le_at 2 f.payload 0 + 1) d)) (depths (groups_at 0x43 (own_of rest)))
          → All (λ g. Ordered 0 (depths (nodes_at g))) (groups_at 0x41 rest)
          → Formed d (this ∷ rest)
      go true e c q own each = record {
        own = rw e tt;
        each = rw e (own, each);
      }
      go false e true q own each =
          let n = node-ordered d f.tag f.payload q formed in
          record { own = rw (e, q) (n.0, n.1, n.2, own); each = rw e each }
      go false e false q own each = record { own = rw (e, q) own; each = rw e each }

each-formed : (previous d p : ℕ) (fs : FieldList) → records_form previous d fs ≡ true → Formed d (fields_at p fs)
unfolding records_form fields_at groups_at take_while
each-formed previous d p end h = record { own = tt; each = tt }
each-formed previous d p cut h = absurd (false≢true h)
each-formed previous d p (more f fs) h =
    let tests = and_left (exists (eqb f.tag) (records_after previous) && records_formed d f.tag f.payload)
    (records_form f.tag (depth_after d f) fs) h in
    let rest = and_right (exists (eqb f.tag) (records_after previous) && records_formed d f.tag f.payload)
    (records_form f.tag (depth_after d f) fs) h in
    front d p f (fields_at (behind p f) fs) (and_right (exists (eqb f.tag) (records_after previous)) (records_formed d f.tag f.payload) tests)
    (each-formed f.tag (depth_after d f) (behind p f) fs rest)

-- ---- the chain

length-depths : (gs : List GroupAt) → length (depths gs) ≡ length gs
length-depths [] = refl
length-depths (g ∷ gs) = rw (length-depths gs)

depths-are : (gs : List GroupAt) → map (λ n. n.depth) (map node gs) ≡ depths gs
depths-are [] = refl
depths-are (g ∷ gs) = rw (depths-are gs)

chained : (a : ℕ) (f : GroupAt) → Ordered 0 (depths (nodes_at f)) → Chained f a
unfolding chain
chained a f o =
    let gs = nodes_at f in
    let pre : Preorder (depth_of (map node gs)) (length gs) =
    subst (λ (ds : List ℕ). Preorder (λ m. get_or ds m 0) (length gs)) (sym (depths-are gs))
    (subst (λ (n : ℕ). Preorder (λ m. get_or (depths gs) m 0) n) (length-depths gs) (preorder (depths gs) o)) in
    record {
      numbers = numbers_from a gs 0 0 gs;
      is = whole a gs pre gs refl;
      places = placed a gs gs 0 0 refl;
      few = few a gs pre gs 0 0 refl (omega arith);
    }

pub chaining : Chaining
unfolding functions_of functions_at
chaining tray fs a e = go (records_form 0 0 (fields tray)) refl e
  where
    go : (b : Bool) → records_form 0 0 (fields tray) ≡ b → cond b (done (groups_at 0x41 (fields_at 0 (fields tray)))) (refused 19) ≡ done fs
        → All (λ f. Chained f a) fs
    go true h q = subst (λ (l : List GroupAt). All (λ f. Chained f a) l) (done-is q)
        (all_map (groups_at 0x41 (fields_at 0 (fields tray))) (λ f o. chained a f o) (each-formed 0 0 0 (fields tray) h).each)
    go false h q = refused-not q
