-- The join from its parts: the tests of both inputs, the copy, the symbols.
use mathlib.Core.Path.{◌≡◌, refl, sym, ap, subst, ◌∙◌}
use mathlib.Core.Bool.{Bool, true, false, not}
use mathlib.Core.List.{List, ◌++◌}
use Prim.Native.Nat.{ℕ, ◌+◌, ◌-◌, ◌≤◌, ◌<◌}
use native.Mathlib.Omega.{arith}
use lib.ListN.{length, take, drop, length-append}
use lib.Seq.{take_at, drop-drop, drop_at}
use borrow.Author.Tests.{lt-ltb, le-ltb, not-true, not-false}
use Rattle.tlv.specs.Outcome.{refused, ◌>>=◌}
use Rattle.tlv.specs.Fields.{fields}
use Rattle.buffers.specs.Buffer.{Put}
use Rattle.buffers.specs.Reader.{records_form}
use Rattle.buffers.proofs.BufferLaws.{put-length, put-fits, put_whole, put-lost}
use Rattle.lookup.specs.Tray.{functions_of}
use Rattle.lookup.specs.Listing.{Cleared}
use Rattle.lookup.specs.Window.{fitting, listed_in}
use Rattle.std.specs.Prelude.{Option, Result, Ok}
use Rattle.tlv.specs.declared.refusal.Refusal.{Refusal}
use Rattle.tlv.specs.Refusals.{number_of}
use Rattle.symbols.specs.declared.extents.RangeTables.{RangeTables}
use Rattle.symbols.specs.Extents.{Known}
use Rattle.symbols.specs.Symbols.{joined, join_symbols}
use Rattle.symbols.specs.Answers.{join_given, SymbolsChecked}
use Rattle.symbols.specs.Walk.{ranges_in, whole_from, Standing, AllJoined}

module _ (tray list result : List ℕ) where
  cleared-as : (n : Refusal) (result₁ result₂ : List ℕ) (x : Result ℕ Refusal) → length result₁ ≡ length result → Cleared n result₁ result₂ x
      → (joined tray list >>= fitting 27 result) ≡ refused (number_of n)
      → join_given x result₂ ≡ join_symbols tray list result
  unfolding join_symbols listed_in
  cleared-as n result₁ result₂ x l c e = rw (c.is, e, c.zeros, l)

  module _ (b : Bool) (form : b ≡ records_form 0 0 (fields tray)) where
    misshapen : not b ≡ true → (joined tray list >>= fitting 27 result) ≡ refused 19
    unfolding joined functions_of ◌>>=◌
    misshapen h = rw (← form, not-true b h)

    pub join-misshapen : (result₂ : List ℕ) (x : Result ℕ Refusal) → Cleared Refusal.MisshapenRecords result result₂ x → not b ≡ true
        → join_given x result₂ ≡ join_symbols tray list result
    join-misshapen result₂ x c h = cleared-as Refusal.MisshapenRecords result result₂ x refl c (misshapen h)

    module _ (h : not b ≡ false) (d : Bool) (check : SymbolsChecked list d) where
      bad : not d ≡ true → (joined tray list >>= fitting 27 result) ≡ refused 26
      unfolding joined functions_of ◌>>=◌
      bad k = rw (← form, not-false b h, ← check.is, not-true d k)

      pub join-bad : (result₂ : List ℕ) (x : Result ℕ Refusal) → Cleared Refusal.MisshapenSymbols result result₂ x → not d ≡ true
          → join_given x result₂ ≡ join_symbols tray list result
      join-bad result₂ x c k = cleared-as Refusal.MisshapenSymbols result result₂ x refl c (bad k)

      module _ (k : not d ≡ false) (result₁ : List ℕ) (n : ℕ) (copied : Put 0 tray result result₁ n) where
        whole : (joined tray list >>= fitting 27 result) ≡ fitting 27 result (whole_from tray list 0)
        unfolding joined functions_of ◌>>=◌ whole_from
        whole = rw (← form, not-false b h, ← check.is, not-false d k)

        too_long : length result < length (whole_from tray list 0) → (joined tray list >>= fitting 27 result) ≡ refused 27
        unfolding fitting
        too_long l = whole ∙ rw (lt-ltb (length result) (length (whole_from tray list 0)) l)

        long : length tray ≤ length (whole_from tray list 0)
        unfolding whole_from
        long = rw length-append (omega arith)

        pub join-no-copy : (result₂ : List ℕ) (x : Result ℕ Refusal) → length result₁ < n → Cleared Refusal.ShortResult result₁ result₂ x
            → join_given x result₂ ≡ join_symbols tray list result
        join-no-copy result₂ x l c =
            let p = put-lost copied l in let q = long in cleared-as Refusal.ShortResult result₁ result₂ x (put-length copied) c (too_long (omega arith))

        module _ (l : n ≤ length result₁) where
          size : n ≡ length tray
          size = let p = copied.place in let q = copied.small in let f = put-fits copied l in omega arith

          copy_is : result₁ ≡ tray ++ drop (length tray) result
          copy_is = put_whole copied l

          taken : take n result₁ ≡ tray
          taken = rw (copy_is) (take_at tray (drop (length tray) result) n (sym size))

          pub join-standing : Standing result₁ n
          join-standing = record { within = l; formed = rw taken (sym form ∙ not-false b h) }

          pub join-known : {w : List ℕ} {e : Option RangeTables} → Known (ranges_in tray) w e → Known (ranges_in (take n result₁)) w e
          join-known {w} {e} known = subst (λ (l : List ℕ). Known (ranges_in l) w e) (sym taken) known

          module _ (result₂ : List ℕ) (q : ℕ) (all : AllJoined list result₁ result₂ n q) (same : length result₂ ≡ length result₁) where
            pub join-short : (result₃ : List ℕ) (x : Result ℕ Refusal) → length result₂ < q → Cleared Refusal.ShortResult result₂ result₃ x
                → join_given x result₃ ≡ join_symbols tray list result
            join-short result₃ x m c =
                let s = put-length copied in
                let t = all.short (omega arith) in
                let w : length result < length (whole_from tray list 0) =
                subst (λ (y : List ℕ). length result < length (whole_from y list 0)) taken (omega arith) in
                cleared-as Refusal.ShortResult result₂ result₃ x (same ∙ s) c (too_long w)

            pub join-done : q ≤ length result₂ → join_given (Ok q) result₂ ≡ join_symbols tray list result
            unfolding join_symbols listed_in fitting
            join-done m =
                let s = put-length copied in
                let t = all.fits (omega arith) in
                let is : q ≡ length (whole_from tray list 0) = t.1 ∙ ap (λ (y : List ℕ). length (whole_from y list 0)) taken in
                let fits : length (whole_from tray list 0) ≤ length result = omega arith in
                let rest : drop q result₁ ≡ drop q result = behind is in
                let now : result₂ ≡ whole_from tray list 0 ++ drop (length (whole_from tray list 0)) result =
                t.0 ∙ ap (λ (y : List ℕ). whole_from y list 0 ++ drop q result₁) taken ∙ ap (λ (y : List ℕ). whole_from tray list 0 ++ y) rest
                ∙ ap (λ (i : ℕ). whole_from tray list 0 ++ drop i result) is in
                rw (whole, le-ltb (length result) (length (whole_from tray list 0)) fits, is, now)
              where
                behind : q ≡ length (whole_from tray list 0) → drop q result₁ ≡ drop q result
                behind is =
                    let g = long in
                    let e : q ≡ length tray + (q - length tray) = omega arith in
                    rw (
                      e,
                      copy_is,
                      ← drop-drop (q - length tray) (length tray) (tray ++ drop (length tray) result),
                      drop_at tray (drop (length tray) result) (length tray) refl,
                      drop-drop (q - length tray) (length tray) result,
                    )
