-- Tables of ranges: those of a tray merged, one range more, whether an address is held.
use mathlib.Core.Path.{◌≡◌, sym, ap, subst, ◌∙◌}
use mathlib.Core.Bool.{Bool, true, false, true≢false}
use mathlib.Core.Logic.{◌⊎◌, inl, inr, ⊎_elim, ◌↔◌}
use mathlib.Core.List.{List, [], ◌∷◌, ◌++◌}
use Prim.Native.Nat.{ℕ, ◌+◌, ◌-◌, ◌*◌, ◌≤◌}
use native.Mathlib.Omega.{arith}
use lib.ListN.{length}
use Rattle.tlv.specs.declared.model.AddressRange.{AddressRange}
use Rattle.tlv.specs.Addresses.{Nonempty}
use Rattle.tlv.specs.Lists.{All, exists}
use Rattle.tlv.proofs.ListLaws.{all_append}
use Rattle.imports.specs.Ranges.{Holds, coalesce_ranges}
use Rattle.imports.proofs.RangeLaws.{merge-holds}
use Rattle.buffers.specs.Table.{PutRange}
use Rattle.ranges.specs.RangeTable.{ranges_at, Added, MergedAt}
use Rattle.ranges.proofs.RangeTableLaws.{ranges-nil, ranges-push, ranges-below}
use Rattle.ranges.proofs.InsertLaws.{apart-nonempty}
use Rattle.lookup.specs.Lookup.{holds}
use Rattle.lookup.proofs.DemandLaws.{some_holds}
use Rattle.symbols.specs.declared.extents.RangeTables.{RangeTables}
use Rattle.std.specs.Prelude.{Some}
use Rattle.symbols.specs.Walk.{ranges_in}
use Rattle.symbols.specs.Extents.{Lying, HeldIn, Known, GatheredIn, Remembered}
use Rattle.symbols.proofs.SoughtLaws.{exists-holds, same_test}

-- ---- one of two lists

module _ (a : ℕ) where
  pub held-left : (xs ys : List AddressRange) → Holds xs a → Holds (xs ++ ys) a
  held-left [] ys x' = elim x' [ ]
  held-left (x ∷ xs) ys (inl h) = inl h
  held-left (x ∷ xs) ys (inr h) = inr (held-left xs ys h)

  pub held-right : (xs ys : List AddressRange) → Holds ys a → Holds (xs ++ ys) a
  held-right [] ys h = h
  held-right (x ∷ xs) ys h = inr (held-right xs ys h)

  held-split : (xs ys : List AddressRange) → Holds (xs ++ ys) a → Holds xs a ⊎ Holds ys a
  held-split [] ys h = inr h
  held-split (x ∷ xs) ys (inl h) = inl (inl h)
  held-split (x ∷ xs) ys (inr h) = go (held-split xs ys h)
    where
      go : Holds xs a ⊎ Holds ys a → Holds (x ∷ xs) a ⊎ Holds ys a
      go (inl q) = inl (inr q)
      go (inr q) = inr q

-- ---- the tables of a tray

pub learned : {s w₁ w₂ : List ℕ} {n k : ℕ} → GatheredIn s w₁ (Some n) → MergedAt w₁ w₂ 0 n k → length w₂ ≡ length w₁
    → Known (ranges_in s) w₂ (Some (record { functions = k; base = n * 16; merged = 0; added = 0 }))
learned {s} {w₁} {w₂} {n} {k} g m e =
    let got = g.is in
    let is : ranges_at w₂ 0 k ≡ coalesce_ranges (ranges_in s) = m.ranges ∙ ap coalesce_ranges got.ranges in
    let few = m.few in
    let room = got.within in
    let nil = ranges-nil w₂ (n * 16) in
    record {
      is = record {
        lying = record { below = omega arith; within = omega arith; some = omega arith; first = m.apart; second = rw nil tt; filled = rw nil tt };
        same = λ a. (
          λ h. ⊎_elim (λ x. (merge-holds (ranges_in s) a).0 (subst (λ (l : List AddressRange). Holds l a) is x))
              (λ x. absurd (subst (λ (l : List AddressRange). Holds l a) nil x)) h,
          λ h. inl (subst (λ (l : List AddressRange). Holds l a) (sym is) ((merge-holds (ranges_in s) a).1 h)),
        );
      };
    }

-- ---- one range more

-- the second table holds what it held and the range, however it now stands there
grown-by : {w w' : List ℕ} {e : RangeTables} (x : AddressRange) (m n : ℕ)
    → Lying w' (record { functions = e.functions; base = e.base; merged = m; added = n })
    → ranges_at w' 0 e.functions ≡ ranges_at w 0 e.functions
    → ((y : ℕ) → Holds (ranges_at w' e.base n) y ↔ Holds (ranges_at w e.base e.added ++ (x ∷ [])) y)
    → Remembered w w' (Some e) x (Some (record { functions = e.functions; base = e.base; merged = m; added = n }))
grown-by {w} {w'} {e} x m n lying first held = record { grown = λ rs k. record { is = record { lying = lying; same = λ y. (to rs k y, from rs k y) } } }
  where
    to : (rs : List AddressRange) → Known rs w (Some e) → (y : ℕ)
        → HeldIn w' (record { functions = e.functions; base = e.base; merged = m; added = n }) y → Holds (rs ++ (x ∷ [])) y
    to rs k y (inl h) = held-left y rs (x ∷ []) ((k.is.same y).0 (inl (subst (λ (q : List AddressRange). Holds q y) first h)))
    to rs k y (inr h) =
        ⊎_elim (λ u. held-left y rs (x ∷ []) ((k.is.same y).0 (inr u))) (λ u. held-right y rs (x ∷ []) u)
        (held-split y (ranges_at w e.base e.added) (x ∷ []) ((held y).0 h))

    from : (rs : List AddressRange) → Known rs w (Some e) → (y : ℕ) → Holds (rs ++ (x ∷ [])) y
        → HeldIn w' (record { functions = e.functions; base = e.base; merged = m; added = n }) y
    from rs k y h =
        ⊎_elim
        (λ u. ⊎_elim (λ v. inl (subst (λ (q : List AddressRange). Holds q y) (sym first) v))
        (λ v. inr ((held y).1 (held-left y (ranges_at w e.base e.added) (x ∷ []) v))) ((k.is.same y).1 u))
        (λ u. inr ((held y).1 (held-right y (ranges_at w e.base e.added) (x ∷ []) u))) (held-split y rs (x ∷ []) h)

turned_round : (y : ℕ) (x : AddressRange) (rs : List AddressRange) → Holds (x ∷ rs) y ↔ Holds (rs ++ (x ∷ [])) y
turned_round y x rs = (to, from)
  where
    to : Holds (x ∷ rs) y → Holds (rs ++ (x ∷ [])) y
    to (inl h) = held-right y rs (x ∷ []) (inl h)
    to (inr h) = held-left y rs (x ∷ []) h

    one : Holds (x ∷ []) y → Holds (x ∷ rs) y
    one (inl h) = inl h
    one (inr h) = absurd h

    from : Holds (rs ++ (x ∷ [])) y → Holds (x ∷ rs) y
    from h = ⊎_elim (λ u. inr u) one (held-split y rs (x ∷ []) h)

module _ {w w₁ : List ℕ} {e : RangeTables} (x : AddressRange) (l : Lying w e) (full : Nonempty x) (put : PutRange w w₁ (e.base + e.added * 16) x) where
  pushed : ranges_at w₁ e.base (e.added + 1) ≡ ranges_at w e.base e.added ++ (x ∷ [])
  pushed = ranges-push e.base e.added put

  pub pushed-filled : All Nonempty (ranges_at w₁ e.base (e.added + 1))
  pushed-filled = rw pushed (all_append Nonempty (ranges_at w e.base e.added) (x ∷ []) l.filled (full, tt))

module _ {w w₁ : List ℕ} {e : RangeTables} (x : AddressRange) (l : Lying w e)
    (room : 16 ≤ length w - (e.base + e.added * 16)) where
  -- merged with all others at once
  pub remember-added : {n : ℕ} → Added w w₁ e.base e.added x n → length w₁ ≡ length w
      → Remembered w w₁ (Some e) x (Some (record { functions = e.functions; base = e.base; merged = n; added = n }))
  remember-added {n} a same =
      let below = l.below in
      let within = l.within in
      let few = a.few in
      let kept : ranges_at w₁ 0 e.functions ≡ ranges_at w 0 e.functions = ranges-below 0 e.functions a.rest (omega arith) in
      grown-by x n n
      (record {
        below = l.below;
        within = omega arith;
        some = omega arith;
        first = rw kept l.first;
        second = a.apart;
        filled = apart-nonempty (ranges_at w₁ e.base n) a.apart;
      })
      kept held
    where
      held : (y : ℕ) → Holds (ranges_at w₁ e.base n) y ↔ Holds (ranges_at w e.base e.added ++ (x ∷ [])) y
      held y =
          let old = ranges_at w e.base e.added in
          let merged = subst (λ (q : List AddressRange). Holds q y ↔ Holds (x ∷ old) y) (sym a.ranges) (merge-holds (x ∷ old) y) in
          (λ h. (turned_round y x old).0 (merged.0 h), λ h. merged.1 ((turned_round y x old).1 h))

  module _ (full : Nonempty x) (put : PutRange w w₁ (e.base + e.added * 16) x) (same : length w₁ ≡ length w) where
    first-kept : ranges_at w₁ 0 e.functions ≡ ranges_at w 0 e.functions
    first-kept = let below = l.below in ranges-below 0 e.functions put.rest (omega arith)

    -- behind those that are merged
    pub remember-pushed : Remembered w w₁ (Some e) x (Some (record { functions = e.functions; base = e.base; merged = e.merged; added = e.added + 1 }))
    remember-pushed =
        let within = l.within in
        let some = l.some in
        let kept : ranges_at w₁ e.base e.merged ≡ ranges_at w e.base e.merged = ranges-below e.base e.merged put.rest (omega arith) in
        grown-by x e.merged (e.added + 1)
        (record {
          below = l.below;
          within = omega arith;
          some = omega arith;
          first = rw first-kept l.first;
          second = rw kept l.second;
          filled = pushed-filled x l full put;
        })
        first-kept (λ y. subst (λ (q : List AddressRange). Holds q y ↔ Holds (ranges_at w e.base e.added ++ (x ∷ [])) y) (sym (pushed x l full put)) (λ h. h, λ h. h))

    -- and then merged with all of them
    pub remember-settled : {w₂ : List ℕ} {n : ℕ} → MergedAt w₁ w₂ e.base (e.added + 1) n → length w₂ ≡ length w₁
        → Remembered w w₂ (Some e) x (Some (record { functions = e.functions; base = e.base; merged = n; added = n }))
    remember-settled {w₂} {n} m again =
        let below = l.below in
        let within = l.within in
        let few = m.few in
        let kept : ranges_at w₂ 0 e.functions ≡ ranges_at w 0 e.functions = ranges-below 0 e.functions m.rest (omega arith) ∙ first-kept in
        let is : ranges_at w₂ e.base n ≡ coalesce_ranges (ranges_at w e.base e.added ++ (x ∷ [])) = m.ranges ∙ ap coalesce_ranges (pushed x l full put) in
        grown-by x n n
        (record {
          below = l.below;
          within = omega arith;
          some = omega arith;
          first = rw kept l.first;
          second = m.apart;
          filled = apart-nonempty (ranges_at w₂ e.base n) m.apart;
        })
        kept
        (λ y. subst (λ (q : List AddressRange). Holds q y ↔ Holds (ranges_at w e.base e.added ++ (x ∷ [])) y) (sym is)
        (merge-holds (ranges_at w e.base e.added ++ (x ∷ [])) y))

-- ---- is an address held, by the tables

module _ {rs : List AddressRange} {w : List ℕ} {e : RangeTables} (k : Known rs w (Some e)) (a : ℕ) (b : Bool)
    (first : b ≡ exists (holds a) (ranges_at w 0 e.functions)) where
  pub by_first : b ≡ true → true ≡ exists (holds a) rs
  by_first h = sym (exists-holds a rs ((k.is.same a).0 (inl (some_holds a (ranges_at w 0 e.functions) (sym first ∙ h)))))

  pub by-second : (c : Bool) → b ≡ false → c ≡ exists (holds a) (ranges_at w e.base e.added) → c ≡ exists (holds a) rs
  by-second c h second = second ∙ same_test a (ranges_at w e.base e.added) rs (to, from)
    where
      to : Holds (ranges_at w e.base e.added) a → Holds rs a
      to q = (k.is.same a).0 (inr q)

      from : Holds rs a → Holds (ranges_at w e.base e.added) a
      from q =
          ⊎_elim (λ u. absurd (true≢false (sym (exists-holds a (ranges_at w 0 e.functions) u) ∙ sym first ∙ h))) (λ u. u)
          ((k.is.same a).1 q)
