-- A look-up by an index from its parts: the search, the pass, the function that is found.
use mathlib.Core.Path.{◌≡◌, refl, sym, ap, ◌∙◌}
use mathlib.Core.Bool.{Bool}
use mathlib.Core.List.{List}
use Prim.Native.Nat.{ℕ, ◌*◌, ◌/◌, ◌-◌, ◌≤◌}
use native.Mathlib.Omega.{arith}
use lib.ListN.{length, take, drop, replicate}
use borrow.Author.Tests.{le-ltb}
use Rattle.std.specs.Prelude.{Option, Some, None, Result, Ok, Err, IfOk}
use Rattle.tlv.specs.declared.refusal.Refusal.{Refusal}
use Rattle.tlv.specs.Outcome.{done, ◌>>=◌}
use Rattle.lookup.specs.declared.model.Chain.{Chain}
use Rattle.lookup.specs.declared.model.LookedUp.{LookedUp}
use Rattle.lookup.specs.Tray.{nodes_at}
use Rattle.lookup.specs.Lookup.{row_in_force, chain, frames_of}
use Rattle.access.specs.Access.{place_of}
use Rattle.lookup.specs.Walk.{row_from, ChainAt}
use Rattle.lookup.specs.Answers.{frames_given}
use Rattle.lookup.proofs.LookLaws.{looks_up}
use Rattle.look_index.specs.declared.index.Extent.{Extent}
use Rattle.look_index.specs.Index.{extent_at, function_here}
use Rattle.look_index.specs.LookIn.{Chosen, IsHere, by_choice, LooksUpIn}
use Rattle.look_index.proofs.Indexing.{indexing}

-- ---- the answer

module _ (tray w : List ℕ) (n a : ℕ) (rising : Bool) where
  module _ (l : n ≤ length w / 24) where
    fits : n * 24 ≤ length w
    fits = omega arith

    whole : (c : Option ℕ) (x : Result LookedUp Refusal) → Chosen w n rising a c → frames_given x ≡ by_choice tray w a c → IfOk x (λ y. y.chain.nodes ≤ 257)
        → IfOk x (λ y. drop y.chain.nodes y.chain.places ≡ replicate (257 - y.chain.nodes) 0) → LooksUpIn tray w n rising a x
    whole c x C is few rest = record {
      choice = c;
      chosen = λ _. C;
      is = is ∙ rw (le-ltb (length w) (n * 24) fits);
      few = few;
      rest = rest;
      own = λ I. looks_up tray a x (is ∙ indexing tray w n a rising c I C) few rest;
    }

    pub in-none : Chosen w n rising a None → LooksUpIn tray w n rising a (Err Refusal.NoFunction)
    in-none C = whole None (Err Refusal.NoFunction) C refl tt tt

    module _ (k : ℕ) (C : Chosen w n rising a (Some k)) (y : Extent) (ey : y ≡ extent_at w k) where
      choice-is : by_choice tray w a (Some k) ≡ (function_here tray y.place >>= λ f. done (frames_of a f))
      choice-is = ap (λ (z : Extent). function_here tray z.place >>= λ f. done (frames_of a f)) (sym ey)

      pub in-misshapen : (e : Refusal) → IsHere tray y.place (Err e) → LooksUpIn tray w n rising a (Err e)
      unfolding ◌>>=◌
      in-misshapen e H =
          let z = H.is in
          whole (Some k) (Err e) C (rw z.0 (sym (choice-is ∙ rw z.1))) tt tt

      pub in-found : (own : ℕ) (row : Option ℕ) (b : Chain) → IsHere tray y.place (Ok own) → place_of row ≡ row_from tray own a → ChainAt tray own a b
          → LooksUpIn tray w n rising a (Ok (record { function = y.place; row = row; chain = b }))
      unfolding ◌>>=◌ frames_of row_in_force chain nodes_at row_from
      in-found own row b H er K =
          let z = H.is in
          let g = z.function in
          let frames : frames_of a g ≡ record { function = y.place; row = place_of row; chain = take b.nodes b.places } = rw
          (z.here, z.rest, er, K.is) in
          whole (Some k) (Ok (record { function = y.place; row = row; chain = b })) C (sym (choice-is ∙ rw z.is (ap done frames))) K.few K.rest
