-- The look-up from its parts: the form's test, the function, its row and its chain.
use mathlib.Core.Path.{◌≡◌, sym, ap, ◌∙◌}
use mathlib.Core.Bool.{Bool, true, false, not}
use mathlib.Core.List.{List}
use Prim.Native.Nat.{ℕ, ◌-◌, ◌≤◌}
use lib.ListN.{take, drop, replicate}
use borrow.Author.Tests.{not-true, not-false}
use Rattle.std.specs.Prelude.{Option, Some, None, Result, Ok, Err, IfOk, IsErrAnd, ok_or}
use Rattle.std.proofs.lemmas.Result.{err_from_is_err_and}
use Rattle.tlv.specs.declared.refusal.Refusal.{Refusal}
use Rattle.tlv.specs.Outcome.{done, ◌>>=◌}
use Rattle.tlv.specs.Lists.{first}
use Rattle.tlv.specs.Fields.{fields}
use Rattle.buffers.specs.Reader.{records_form}
use Rattle.tlv.proofs.AnswerLaws.{err-none}
use Rattle.lookup.specs.declared.model.Chain.{Chain}
use Rattle.lookup.specs.declared.model.LookedUp.{LookedUp}
use Rattle.lookup.specs.declared.address.FunctionPlace.{FunctionPlace}
use Rattle.lookup.specs.Tray.{nodes_at, functions_at, functions_of, function_range}
use Rattle.lookup.specs.Lookup.{holds, row_in_force, chain, frames_of, qualifying, look_up}
use Rattle.lookup.specs.Walk.{StandsOwn, FunctionFound, row_from, ChainAt}
use Rattle.access.specs.Access.{place_of}
use Rattle.lookup.specs.Answers.{frames_given, LooksUp}
use Rattle.lookup.proofs.DemandLaws.{explaining}
use Rattle.lookup.proofs.OwnLaws.{stands-own}

-- ---- what `?` gives where `ok_or` had nothing

pub none-refused : {A T : Type 0} (r : Option A) (x : Result T Refusal) {e e' : Refusal} → Err e' ≡ ok_or r e → IsErrAnd x (λ y. y ≡ e') → (x ≡ Err e) × (r ≡ None)
none-refused r x h q =
    let n = err-none r h in
    let p = err_from_is_err_and x q in
    (rw (p.1, p.2, n.1), n.0)

-- ---- the parts of a look-up

-- the definition's answer, with the chain's places in bounds: demand 3 is then a theorem
pub looks_up : (s : List ℕ) (a : ℕ) (r : Result LookedUp Refusal) → frames_given r ≡ look_up s a → IfOk r (λ x. x.chain.nodes ≤ 257)
    → IfOk r (λ x. drop x.chain.nodes x.chain.places ≡ replicate (257 - x.chain.nodes) 0) → LooksUp s a r
looks_up s a r is few rest = record { is = is; few = few; rest = rest; demand = λ i x w e. explaining i s a x w (sym is ∙ e) }

module _ (s : List ℕ) (a : ℕ) (b : Bool) (form : b ≡ records_form 0 0 (fields s)) where
  pub looked_misshapen : not b ≡ true → LooksUp s a (Err Refusal.MisshapenRecords)
  unfolding look_up functions_of ◌>>=◌
  looked_misshapen h = looks_up s a (Err Refusal.MisshapenRecords) (rw (← form, not-true b h)) tt tt

  module _ (h : not b ≡ false) where
    well : look_up s a ≡ qualifying (frames_of a) (first (λ f. holds a (function_range f)) (functions_at s))
    unfolding look_up functions_of ◌>>=◌
    well = rw (← form, not-false b h)

    pub looked_none : FunctionFound s a None → LooksUp s a (Err Refusal.NoFunction)
    looked_none f = looks_up s a (Err Refusal.NoFunction) (sym (well ∙ ap (qualifying (frames_of a)) f)) tt tt

    pub looked-found : (f : FunctionPlace) (row : Option ℕ) (c : Chain) → FunctionFound s a (Some f) → place_of row ≡ row_from s f.own a
        → ChainAt s f.own a c → LooksUp s a (Ok (record { function = f.place; row = row; chain = c }))
    unfolding frames_of row_in_force chain nodes_at row_from
    looked-found f row c here w k =
        let frames : frames_of a here.function ≡ record { function = f.place; row = place_of row; chain = take c.nodes c.places } = rw
        (here.here, here.rest, w, k.is) in
        looks_up s a (Ok (record { function = f.place; row = row; chain = c })) (sym (well ∙ ap (qualifying (frames_of a)) here.is ∙ ap done frames)) k.few k.rest

-- where its own fields begin is a place of the tray
pub own-stands : (s : List ℕ) (a : ℕ) (f : FunctionPlace) → FunctionFound s a (Some f) → StandsOwn s f.own
own-stands s a f here = stands-own here.stands
