-- What stands at a place, and the fields from there on: the one law between places and lists of fields, and its consequences.
use mathlib.Core.Path.{◌≡◌, refl, sym, ap, subst, ◌∙◌}
use mathlib.Core.List.{List, [], ◌∷◌}
use Prim.Native.Nat.{ℕ, zero, suc, ◌+◌, ◌-◌, ◌<◌, ◌≤◌}
use native.Mathlib.Nat.{add-zero}
use native.Mathlib.Omega.{arith}
use native.Mathlib.Decide.{dec_le}
use mathlib.Core.Bool.{Bool, true, false, cond}
use lib.Dec.{leb, ltb}
use lib.ListN.{length, take, drop, get_or, length-drop}
use lib.Seq.{drop-drop, get_or-drop, length-take-le}
use borrow.Author.Tests.{le-leb, lt-leb, lt-ltb, le-ltb, eq-eqb, ne_eqb}
use Rattle.tlv.specs.Bytes.{le, le_at}
use Rattle.tlv.specs.Fields.{FieldList, end, cut, more, fields_from, fields, whole_fields, payloads}
use Rattle.tlv.specs.Cursor.{Step, field_here, cut_short, nothing_left, step_at, fields_of}

-- ---- the four cases of a step, each from the tests that lead there

module _ (s : List ℕ) (p : ℕ) where
  pub step_end : length s ≤ p → step_at s p ≡ nothing_left
  unfolding step_at
  step_end h = rw (le-leb (length s) p h)

  pub step-short : p < length s → length s - p < 3 → step_at s p ≡ cut_short
  unfolding step_at
  step-short h k = rw (lt-leb (length s) p h, lt-ltb (length s - p) 3 k)

  pub step_cut : p < length s → 3 ≤ length s - p → length s - (p + 3) < le_at 2 s (p + 1) → step_at s p ≡ cut_short
  unfolding step_at
  step_cut h k g = rw (lt-leb (length s) p h, le-ltb (length s - p) 3 k, lt-leb (le_at 2 s (p + 1)) (length s - (p + 3)) g)

  pub step_field : p < length s → 3 ≤ length s - p → le_at 2 s (p + 1) ≤ length s - (p + 3)
      → step_at s p ≡ field_here (get_or s p 0) (p + 3) (le_at 2 s (p + 1)) (p + 3 + le_at 2 s (p + 1))
  unfolding step_at
  step_field h k g = rw (lt-leb (length s) p h, le-ltb (length s - p) 3 k, le-leb (le_at 2 s (p + 1)) (length s - (p + 3)) g)

-- ---- places and lists of fields

pub fields_from-drop : (k : ℕ) (l : List ℕ) → fields_from k l ≡ fields (drop k l)
unfolding fields_from
fields_from-drop zero l = refl
fields_from-drop (suc k) [] = refl
fields_from-drop (suc k) (x ∷ l) = fields_from-drop k l

le_at-two : (s : List ℕ) (p t a b : ℕ) (rest : List ℕ) → drop p s ≡ t ∷ a ∷ b ∷ rest → le_at 2 s (p + 1) ≡ le (a ∷ b ∷ [])
unfolding le_at
le_at-two s p t a b rest e = ap (λ (l : List ℕ). le (take 2 l)) (sym (drop-drop 1 p s) ∙ ap (drop 1) e)

-- the fields from a place on are the step there and the fields from the next place on
pub fields-at : (s : List ℕ) (p : ℕ) → fields (drop p s) ≡ fields_of s (step_at s p)
unfolding fields_from
fields-at s p = go (drop p s) refl
  where
    go : (l : List ℕ) → drop p s ≡ l → fields l ≡ fields_of s (step_at s p)
    go [] e = rw (step_end s p (omega (arith, length-drop p s, ap length e)))
    go (t ∷ []) e = rw (step-short s p (omega (arith, length-drop p s, ap length e)) (omega (arith, length-drop p s, ap length e)))
    go (t ∷ a ∷ []) e = rw (step-short s p (omega (arith, length-drop p s, ap length e)) (omega (arith, length-drop p s, ap length e)))
    go (t ∷ a ∷ b ∷ rest) e =
        let n : ℕ = le (a ∷ b ∷ []) in
        let long : length s - p ≡ length rest + 3 = omega (arith, length-drop p s, ap length e) in
        let rest-is : drop (p + 3) s ≡ rest = sym (drop-drop 3 p s) ∙ ap (drop 3) e in
        let n-is : le_at 2 s (p + 1) ≡ n = le_at-two s p t a b rest e in
        let t-is : get_or s p 0 ≡ t = rw (add-zero p) at (sym (get_or-drop p s 0 0) ∙ ap (λ (l : List ℕ). get_or l 0 0) e) in
        elim (dec_le n (length rest)) [
          | yes h ↦ rw (
            step_field s p (omega arith) (omega arith) (omega arith),
            ← drop-drop (le_at 2 s (p + 1)) (p + 3) s,
            rest-is,
            n-is,
            t-is,
            le-leb n (length rest) h,
            fields_from-drop n rest,
          )
          | no g ↦ rw (step_cut s p (omega arith) (omega arith) (omega arith), lt-leb n (length rest) (omega arith))
        ]

-- what a step says of its places
abbrev Within : List ℕ → ℕ → Step → Type 0
Within s p nothing_left = Unit
Within s p cut_short = Unit
Within s p (field_here t start n next) = (start ≡ p + 3) × (next ≡ start + n) × (next ≤ length s)

within : (s : List ℕ) (p : ℕ) → Within s p (step_at s p)
within s p =
    elim (dec_le (length s) p) [
      | yes h ↦ rw (step_end s p h) tt
      | no h ↦
          elim (dec_le 3 (length s - p)) [
            | yes k ↦
                elim (dec_le (le_at 2 s (p + 1)) (length s - (p + 3))) [
                  | yes g ↦ rw (step_field s p (omega arith) k g) (refl, refl, omega arith)
                  | no g ↦ rw (step_cut s p (omega arith) k (omega arith)) tt
                ]
            | no k ↦ rw (step-short s p (omega arith) (omega arith)) tt
          ]
    ]

-- where bytes are left, a step is no end
pub never-end : (s : List ℕ) (p : ℕ) → p < length s → step_at s p ≡ nothing_left → ⊥
unfolding step_at
never-end s p h e = go (ltb (length s - p) 3) (leb (le_at 2 s (p + 1)) (length s - (p + 3))) (rw (lt-leb (length s) p h) at e)
  where
    go : (a b : Bool) → cond a cut_short (cond b (field_here (get_or s p 0) (p + 3) (le_at 2 s (p + 1)) (p + 3 + le_at 2 s (p + 1))) cut_short) ≡ nothing_left → ⊥
    go true b x = cc
    go false true x = cc
    go false false x = cc

-- ---- a step that is a field: its payload is whole, and its next place is further on, within the string

module _ (s : List ℕ) (p : ℕ) (r : Step) (t start n next : ℕ) (at : r ≡ step_at s p) (e : r ≡ field_here t start n next) where
  pub field-within : (start ≡ p + 3) × (next ≡ start + n) × (next ≤ length s)
  field-within = subst (Within s p) (sym at ∙ e) (within s p)

  pub next-less : length s - next < length s - p
  next-less = let w = field-within in omega arith

  pub next-within : next ≤ length s
  next-within = field-within.2

  -- a counter that is at most the place stays so, with one more a field too
  pub next-counts : (k : ℕ) → k ≤ p → k + 1 ≤ next
  next-counts k h = let w = field-within in omega arith

  pub next-keeps : (k : ℕ) → k ≤ p → k ≤ next
  next-keeps k h = let w = field-within in omega arith

  pub payload-within : start + n ≤ length s
  payload-within = let w = field-within in omega arith

  pub payload-length : length (take n (drop start s)) ≡ n
  payload-length = let w = field-within in length-take-le n (drop start s) (rw length-drop (omega arith))

  -- the fields from the place on begin with that field
  pub fields-field : fields (drop p s) ≡ more (record { tag = t; payload = take n (drop start s) }) (fields (drop next s))
  fields-field = fields-at s p ∙ ap (fields_of s) (sym at ∙ e)

-- ---- induction by place: what holds at the end and at a cut, and at a field where it holds at the next place, holds from every place on

module _ (s : List ℕ) (P : ℕ → FieldList → Type 0) (at-end : (p : ℕ) → P p end) (at_cut : (p : ℕ) → P p cut)
    (at_field : (p t start n next : ℕ) → start ≡ p + 3 → next ≡ start + n → next ≤ length s → length (take n (drop start s)) ≡ n
    → P next (fields (drop next s)) → P p (more (record { tag = t; payload = take n (drop start s) }) (fields (drop next s)))) where
  -- one step, where it holds at every later place
  one : (p : ℕ) (r : Step) → r ≡ step_at s p → ((next : ℕ) → length s - next < length s - p → P next (fields (drop next s))) → P p (fields_of s r)
  one p nothing_left at rest = at-end p
  one p cut_short at rest = at_cut p
  one p (field_here t start n next) at rest =
      let w = field-within s p _ t start n next at refl in
      at_field p t start n next w.0 w.1 w.2 (payload-length s p _ t start n next at refl) (rest next (next-less s p _ t start n next at refl))

  by_fuel : (k p : ℕ) → length s - p ≤ k → P p (fields (drop p s))
  by_fuel zero p h = rw (fields-at s p) (one p (step_at s p) refl (λ next l. absurd (omega arith)))
  by_fuel (suc k) p h = rw (fields-at s p) (one p (step_at s p) refl (λ next l. by_fuel k next (omega arith)))

  pub row-ind : (p : ℕ) → P p (fields (drop p s))
  row-ind p = by_fuel (length s) p (omega arith)

-- ---- a turn of a loop that counts the fields of a tag: n are counted, and m are to be counted in all

module _ (s : List ℕ) (tag p n m : ℕ) (r : Step) (inv : m ≡ n + length (payloads tag (whole_fields (fields (drop p s))))) (at : r ≡ step_at s p) where
  turn : m ≡ n + length (payloads tag (whole_fields (fields_of s r)))
  turn = inv ∙ rw (fields-at s p, ← at)

  module _ (t start len next : ℕ) (e : r ≡ field_here t start len next) where
    pub count-one : t ≡ tag → m ≡ n + 1 + length (payloads tag (whole_fields (fields (drop next s))))
    unfolding whole_fields payloads
    count-one h = let here = rw (e, eq-eqb t tag h) at turn in omega arith

    pub count-other : (t ≡ tag → ⊥) → m ≡ n + length (payloads tag (whole_fields (fields (drop next s))))
    unfolding whole_fields payloads
    count-other h = rw (e, ne_eqb t tag h) at turn
