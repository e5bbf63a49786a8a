-- Passing over instructions: one law for each way through a function.
use mathlib.Core.Path.{◌≡◌, refl, sym, ap, ◌∙◌}
use mathlib.Core.Bool.{Bool, true, false, cond}
use mathlib.Core.Logic.{◌⊎◌, ⊎_elim}
use mathlib.Core.List.{List, [], ◌∷◌}
use Prim.Native.Nat.{ℕ, zero, suc, ◌+◌, ◌-◌, ◌^◌, ◌≤◌, ◌<◌}
use native.Mathlib.Omega.{arith}
use borrow.Author.Tests.{lt-ltb, le-ltb, le-leb, lt-leb, eq-eqb, ne_eqb, leb-true}
use lib.Dec.{leb, ltb, eqb}
use lib.ListN.{length, get_or, take, drop, length-drop, drop_of_length-le}
use lib.Seq.{drop-drop}
use Rattle.tlv.specs.Outcome.{Outcome, refused, done, ◌>>=◌}
use Rattle.tlv.proofs.OutcomeLaws.{done-is, refused-not}
use Rattle.std.specs.Prelude.{Result, Ok, Err, slice_range}
use Rattle.std.proofs.lemmas.List.{length-take-le}
use Rattle.tlv.specs.declared.refusal.Refusal.{Refusal}
use Rattle.line_program.specs.declared.operand.Operand.{Operand}
use Rattle.line_program.specs.declared.operand.Skipped.{Skipped}
use Rattle.line_program.specs.declared.lines.Extended.{Extended}
use Rattle.line_program.specs.Standard.{Operand as Number, OperandKind, half, Passed}
use Rattle.line_program.specs.Program.{bare, counted_kinds, operand_kinds, skip_operand, skip_operands, place_of, take_line_bytes, uleb, extended_body, extended, skip}
use Rattle.line_program.specs.Scan.{over, kinds_by, Reads, ReadsExtended, Passes, SkipsTo, ExtendedParts, extended_parts, read_extended}
use Rattle.line_program.proofs.UlebLaws.{drop_at}
use Rattle.line_program.proofs.SkipLaws.{passes-as, skips-as}

-- ---- n bytes

-- n bytes of s from `at` on
abbrev taken : List ℕ → ℕ → ℕ → Outcome (List ℕ)
taken s n at = take_line_bytes (length s) n (drop at s)

module _ (s : List ℕ) (n at : ℕ) (h : at ≤ length s) where
  taken_at : taken s n at ≡ cond (leb n (length s - at)) (done (drop (at + n) s)) (cond (ltb (at + n) (2 ^ 64)) (refused 7) (refused 12))
  unfolding take_line_bytes
  taken_at =
      let e : length s - (length s - at) ≡ at = omega arith in
      (λ i. cond (leb n (length-drop at s i)) (done (drop-drop n at s i)) (cond (ltb (length s - length-drop at s i + n) (2 ^ 64)) (refused 7) (refused 12)))
      ∙ ap (λ (x : ℕ). cond (leb n (length s - at)) (done (drop (at + n) s)) (cond (ltb (x + n) (2 ^ 64)) (refused 7) (refused 12))) e

  pub take_past : length s - at < n → 2 ^ 64 ≤ at + n → SkipsTo s at (Err Refusal.Overflow) (taken s n at)
  take_past g f =
      record { is = sym (rw (lt-leb n (length s - at) g, le-ltb (at + n) (2 ^ 64) f) at taken_at); within = tt }

  pub take_cut : length s - at < n → at + n < 2 ^ 64 → SkipsTo s at (Err Refusal.Cut) (taken s n at)
  take_cut g f =
      record { is = sym (rw (lt-leb n (length s - at) g, lt-ltb (at + n) (2 ^ 64) f) at taken_at); within = tt }

  pub take_to : n ≤ length s - at → SkipsTo s at (Ok (at + n)) (taken s n at)
  take_to g = record { is = sym (rw (le-leb n (length s - at) g) at taken_at); within = (omega arith, omega arith) }

-- ---- an extended instruction

-- where the bytes that were taken end
taken-end : (s : List ℕ) (n at next : ℕ) → at ≤ length s → next ≤ length s → done (drop next s) ≡ taken s n at → next ≡ at + n
unfolding take_line_bytes
taken-end s n at next h k is = go (leb n (length (drop at s))) refl (ltb (place_of (length s) (drop at s) + n) (2 ^ 64)) is
  where
    go : (b : Bool) → leb n (length (drop at s)) ≡ b → (c : Bool)
        → done (drop next s) ≡ cond b (done (drop n (drop at s))) (cond c (refused 7) (refused 12)) → next ≡ at + n
    go true f c is =
        let z : length (drop next s) ≡ length (drop n (drop at s)) = ap (λ (l : List ℕ). length l) (done-is is) in
        let most = leb-true n (length (drop at s)) f in
        omega (arith, length-drop next s, length-drop at s, length-drop n (drop at s))
    go false f true is = refused-not (sym is)
    go false f false is = refused-not (sym is)

module _ {s : List ℕ} {at : ℕ} where
  pub read-fault : {f : Refusal} → Reads s at (Err f) → ReadsExtended s at (Err f)
  unfolding read_extended ◌>>=◌
  read-fault R = record { is = rw (← R.is) refl; within = tt }

  module _ {o : Operand} (R : Reads s at (Ok o)) where
    pub read-zero : o.value ≡ 0 → ReadsExtended s at (Err Refusal.ZeroExtended)
    unfolding read_extended ◌>>=◌
    read-zero z = record { is = rw (← R.is, eq-eqb o.value 0 z) refl; within = tt }

    module _ (n : (o.value ≡ 0 → ⊥)) where
      parts_at : read_extended (length s) (drop at s) ≡ extended_parts (length s) o.value (drop o.next s)
      unfolding read_extended ◌>>=◌
      parts_at = rw (← R.is, ne_eqb o.value 0 n) refl

      pub read-cut : length s ≤ o.next → ReadsExtended s at (Err Refusal.CutExtended)
      unfolding extended_parts
      read-cut h = record { is = sym (parts_at ∙ ap (extended_parts (length s) o.value) (drop_of_length-le s {i = o.next} h)); within = tt }

      module _ (h : o.next < length s) where
        body_at : extended_parts (length s) o.value (drop o.next s)
            ≡ (taken s (o.value - 1) (o.next + 1)
            >>= λ rest. done (record { opcode = get_or s o.next 0; operand = take (o.value - 1) (drop (o.next + 1) s); rest = rest }))
        unfolding extended_parts
        body_at = ap (extended_parts (length s) o.value) (drop_at s o.next (get_or s o.next 0) h refl)

        pub read-past : {f : Refusal} → SkipsTo s (o.next + 1) (Err f) (taken s (o.value - 1) (o.next + 1)) → ReadsExtended s at (Err f)
        unfolding ◌>>=◌
        read-past Q = record { is = rw (parts_at, body_at, ← Q.is) refl; within = tt }

        pub read-all : {x : Extended} → SkipsTo s (o.next + 1) (Ok x.next) (taken s (o.value - 1) (o.next + 1)) → x.opcode ≡ get_or s o.next 0
            → x.operand.now ≡ slice_range s (o.next + 1) x.next → ReadsExtended s at (Ok x)
        unfolding ◌>>=◌
        read-all {x} Q opcode operand =
            let n = x.next - (o.next + 1) in
            let z : n ≡ o.value - 1 = omega (arith, taken-end s (o.value - 1) (o.next + 1) x.next (omega arith) Q.within.1 Q.is) in
            let left = length-drop (o.next + 1) s in
            let size : length x.operand.now ≡ n = ap length operand ∙ length-take-le n (drop (o.next + 1) s) (omega (arith, left, Q.within.1)) in
            record {
              is = rw (parts_at, body_at, ← Q.is, opcode, operand, z) refl;
              within = (omega (arith, R.within.0, size, Q.within.0), Q.within.1);
            }

-- of an instruction that is read it is passed on whether it ends the sequence
abbrev passed : ExtendedParts → Passed
passed x = record { ends = eqb x.opcode 1; rest = x.rest }

extended-read : (whole : ℕ) (s : List ℕ) → extended whole s ≡ (read_extended whole s >>= λ x. done (passed x))
unfolding extended read_extended extended_body extended_parts ◌>>=◌
extended-read whole s = from_length (uleb s)
  where
    from_bytes : (n : ℕ) (l : List ℕ) → extended_body whole n l ≡ (extended_parts whole n l >>= λ x. done (passed x))
    from_bytes n [] = refl
    from_bytes n (b ∷ l) = go (take_line_bytes whole (n - 1) l)
      where
        go : (x : Outcome (List ℕ)) → (x >>= λ rest. done (record { ends = eqb b 1; rest = rest }))
            ≡ ((x >>= λ rest. done (record { opcode = b; operand = take (n - 1) l; rest = rest })) >>= λ y. done (passed y))
        go (refused k) = refl
        go (done rest) = refl

    from_length : (x : Outcome Number) → (x >>= λ o. cond (eqb o.value 0) (refused 9) (extended_body whole o.value o.rest))
        ≡ ((x >>= λ o. cond (eqb o.value 0) (refused 9) (extended_parts whole o.value o.rest)) >>= λ y. done (passed y))
    from_length (refused k) = refl
    from_length (done o) = go (eqb o.value 0)
      where
        go : (b : Bool) → cond b (refused 9) (extended_body whole o.value o.rest) ≡ (cond b (refused 9) (extended_parts whole o.value o.rest) >>= λ y. done (passed y))
        go true = refl
        go false = from_bytes o.value o.rest

module _ {s : List ℕ} {at : ℕ} where
  pub extended-fault : {f : Refusal} → ReadsExtended s at (Err f) → Passes s at (Err f) (extended (length s) (drop at s))
  unfolding ◌>>=◌
  extended-fault R = record { is = rw (extended-read, ← R.is) refl; within = tt }

  module _ {x : Extended} (R : ReadsExtended s at (Ok x)) where
    pub extended-end : x.opcode ≡ 1 → Passes s at (Ok (Skipped.Ended x.next)) (extended (length s) (drop at s))
    unfolding ◌>>=◌
    extended-end e = record { is = rw (extended-read, ← R.is, eq-eqb x.opcode 1 e) refl; within = (omega (arith, R.within.0), R.within.1) }

    pub extended-to : (x.opcode ≡ 1 → ⊥) → Passes s at (Ok (Skipped.To x.next)) (extended (length s) (drop at s))
    unfolding ◌>>=◌
    extended-to n = record { is = rw (extended-read, ← R.is, ne_eqb x.opcode 1 n) refl; within = (omega (arith, R.within.0), R.within.1) }

-- ---- a standard instruction

-- the operands of a standard opcode
abbrev counted : List ℕ → ℕ → List ℕ → Outcome (List ℕ)
counted ls o s = skip_operands (kinds_by ls o) s

-- the ways of a standard opcode: two bytes, nothing, or the operands that the lengths count
abbrev standard : List ℕ → ℕ → List ℕ → Outcome (List ℕ)
standard ls o s =
    cond (eqb o 9) (cond (leb 2 (length s)) (done (drop 2 s)) (refused 7))
    (cond (bare o) (done s) (skip_operands (counted_kinds o (get_or ls (o - 1) 0)) s))

kinds-by : (a b c : Bool) (ks : List OperandKind) (s : List ℕ) → leb 2 (length s) ≡ c
    → skip_operands (cond a (half ∷ []) (cond b [] ks)) s ≡ cond a (cond c (done (drop 2 s)) (refused 7)) (cond b (done s) (skip_operands ks s))
unfolding skip_operands skip_operand ◌>>=◌
kinds-by true b true ks s e = rw e
kinds-by true b false ks s e = rw e
kinds-by false true c ks s e = refl
kinds-by false false c ks s e = refl

standard-is : (ls : List ℕ) (o : ℕ) (s : List ℕ) → counted ls o s ≡ standard ls o s
unfolding operand_kinds
standard-is ls o s = kinds-by (eqb o 9) (bare o) (leb 2 (length s)) (counted_kinds o (get_or ls (o - 1) 0)) s refl

module _ (s ls : List ℕ) (o at : ℕ) where
  by-standard : {r : Result ℕ Refusal} → SkipsTo s at r (standard ls o (drop at s)) → SkipsTo s at r (counted ls o (drop at s))
  by-standard P = skips-as (standard-is ls o (drop at s)) P

  pub standard-bare : (k : ℕ) → o ≡ k → eqb k 9 ≡ false → bare k ≡ true → at ≤ length s → SkipsTo s at (Ok at) (counted ls o (drop at s))
  standard-bare k e f g h =
      let l : List ℕ = drop at s in
      let two : Outcome (List ℕ) = cond (leb 2 (length l)) (done (drop 2 l)) (refused 7) in
      by-standard (record {
        is =
            let counted : Outcome (List ℕ) = skip_operands (counted_kinds k (get_or ls (k - 1) 0)) l in
            sym (ap (λ (x : ℕ). standard ls x l) e ∙ (λ i. cond (f i) two (cond (g i) (done l) counted)));
        within = (omega arith, h);
      })

  -- two bytes that the program has no room for end before the last number
  pub standard-two : {r : Result ℕ Refusal} → o ≡ 9 → at ≤ length s → at + 2 < 2 ^ 64 → SkipsTo s at r (taken s 2 at) → SkipsTo s at r (counted ls o (drop at s))
  standard-two e h f P =
      let t : taken s 2 at ≡ cond (leb 2 (length s - at)) (done (drop (at + 2) s)) (refused 7) = rw (lt-ltb (at + 2) (2 ^ 64) f) at (taken_at s 2 at h) in
      by-standard (skips-as (rw (eq-eqb o 9 e, length-drop at s, drop-drop 2 at s) (sym t)) P)

  standard-other : {n : ℕ} {r : Result ℕ Refusal} → (o ≡ 9 → ⊥) → (o ≡ 1 → ⊥) → (o ≡ 6 → ⊥) → (o ≡ 7 → ⊥) → (o ≡ 8 → ⊥) → (o ≡ 10 → ⊥) → (o ≡ 11 → ⊥)
      → n ≡ get_or ls (o - 1) 0 → SkipsTo s at r (skip_operands (counted_kinds o n) (drop at s)) → SkipsTo s at r (counted ls o (drop at s))
  standard-other n9 n1 n6 n7 n8 n10 n11 e P =
      by-standard (skips-as (rw (ne_eqb o 9 n9, ne_eqb o 1 n1, ne_eqb o 6 n6, ne_eqb o 7 n7, ne_eqb o 8 n8, ne_eqb o 10 n10, ne_eqb o 11 n11, e)) P)

-- a match arm `6 | 7 | .. ` is a test of a range, less what the arms before it take
bare-from : (k : ℕ) → k < 6 → (k ≡ 3 → ⊥) → bare (6 + k) ≡ true
bare-from zero h n = refl
bare-from (suc zero) h n = refl
bare-from (suc (suc zero)) h n = refl
bare-from (suc (suc (suc zero))) h n = absurd (n refl)
bare-from (suc (suc (suc (suc zero)))) h n = refl
bare-from (suc (suc (suc (suc (suc zero))))) h n = refl
bare-from (suc (suc (suc (suc (suc (suc k)))))) h n = absurd (omega arith)

pub standard-range : (s ls : List ℕ) (o at : ℕ) → (o ≡ 9 → ⊥) → 6 ≤ o → o < 12 → at ≤ length s → SkipsTo s at (Ok at) (counted ls o (drop at s))
standard-range s ls o at n g h l =
    let e : o ≡ 6 + (o - 6) = omega arith in
    standard-bare s ls o at (6 + (o - 6)) e (ne_eqb (6 + (o - 6)) 9 (λ z. n (e ∙ z))) (bare-from (o - 6) (omega arith) (λ z. n (omega arith))) l

pub standard-rest : (s ls : List ℕ) (o at : ℕ) {n : ℕ} {r : Result ℕ Refusal} → (o ≡ 9 → ⊥) → (o ≡ 1 → ⊥) → (o < 6) ⊎ (12 ≤ o)
    → n ≡ get_or ls (o - 1) 0 → SkipsTo s at r (skip_operands (counted_kinds o n) (drop at s)) → SkipsTo s at r (counted ls o (drop at s))
standard-rest s ls o at n9 n1 d =
    let off : (k : ℕ) → 6 ≤ k → k < 12 → o ≡ k → ⊥ = λ k g h e. ⊎_elim (λ l. omega arith) (λ l. omega arith) d in
    standard-other s ls o at n9 n1 (off 6 (omega arith) (omega arith)) (off 7 (omega arith) (omega arith)) (off 8 (omega arith) (omega arith))
    (off 10 (omega arith) (omega arith)) (off 11 (omega arith) (omega arith))

-- ---- any instruction

module _ (s : List ℕ) (p o base w : ℕ) (ls : List ℕ) (r : Result Skipped Refusal) where
  pub skip-extended : o ≡ 0 → Passes s p r (extended w (drop p s)) → Passes s p r (skip (record { base = base; lengths = ls }) w o (drop p s))
  unfolding skip
  skip-extended e P = passes-as (rw (eq-eqb o 0 e)) P

  pub skip-standard : (o ≡ 0 → ⊥) → o < base → Passes s p r (over (counted ls o (drop p s))) → Passes s p r (skip (record { base = base; lengths = ls }) w o (drop p s))
  unfolding skip operand_kinds
  skip-standard e h P = passes-as (rw (ne_eqb o 0 e, lt-ltb o base h)) P

pub skip-special : (s : List ℕ) (p o base w : ℕ) (ls : List ℕ) → (o ≡ 0 → ⊥) → base ≤ o → p ≤ length s
    → Passes s p (Ok (Skipped.To p)) (skip (record { base = base; lengths = ls }) w o (drop p s))
unfolding skip
skip-special s p o base w ls e h g = record { is = rw (ne_eqb o 0 e, le-ltb o base h); within = (omega arith, g) }
