-- The answers of the look-ups as numbers.
use mathlib.Core.Path.{◌≡◌, refl, sym, ◌∙◌}
use mathlib.Core.Bool.{Bool, false}
use mathlib.Core.List.{List, [], ◌∷◌}
use Prim.Native.Nat.{ℕ}
use native.Mathlib.Omega.{arith}
use lib.ListN.{replicate}
use borrow.Author.Tests.{ne_eqb}
use Rattle.std.specs.Prelude.{Result, Ok, Err, Some, None}
use Rattle.tlv.specs.declared.refusal.Refusal.{Refusal}
use Rattle.tlv.specs.Outcome.{Outcome}
use Rattle.tlv.specs.Refusals.{number_of, as_outcome}
use Rattle.tlv.proofs.AnswerLaws.{numbered}
use Rattle.lookup.specs.declared.model.LookedUp.{LookedUp}
use Rattle.lookup.specs.declared.model.Indexed.{Indexed}
use Rattle.lookup.specs.Window.{ListAfter}
use Rattle.lookup.specs.Answers.{LooksUp, list_given}
use Rattle.look_index.specs.LookIn.{LooksUpIn}
use Rattle.pezgok.specs.Looked.{ToldIndex, ExportsLookUpIn, ToldFrames, ExportsLookUp, ToldNumber, nearest_in, list_in}

-- ---- frames

pub frames-refused : (q : Refusal) {n : ℕ} → n ≡ number_of q → ToldFrames (Err q) (0 ∷ 0 ∷ 0 ∷ 0 ∷ []) (replicate 257 0) n
frames-refused q {n} e = record { is = rw (e, ne_eqb (number_of q) 0 (numbered q)); places = refl; nodes = refl }

module _ (x : LookedUp) where
  pub frames-rowless : x.row ≡ None → ToldFrames (Ok x) (x.function ∷ 0 ∷ 0 ∷ x.chain.nodes ∷ []) x.chain.places 0
  frames-rowless e = record { is = rw e; places = refl; nodes = refl }

  pub frames-row : {place : ℕ} → x.row ≡ Some place → ToldFrames (Ok x) (x.function ∷ 1 ∷ place ∷ x.chain.nodes ∷ []) x.chain.places 0
  frames-row e = record { is = rw e; places = refl; nodes = refl }

pub exports-look_up : {tray found chain : List ℕ} {a r : ℕ} (x : Result LookedUp Refusal) → LooksUp tray a x → ToldFrames x found chain r → ExportsLookUp tray a found chain r
exports-look_up (Ok x) L T = record {
  is = sym T.is ∙ L.is;
  few = rw T.nodes L.few;
  rest = rw (T.nodes, T.places) L.rest;
  demand = λ i y w e. L.demand i y w (T.is ∙ e);
}
exports-look_up (Err q) L T = record {
  is = sym T.is ∙ L.is;
  few = rw T.nodes (omega arith);
  rest = rw (T.nodes, T.places);
  demand = λ i y w e. L.demand i y w (T.is ∙ e);
}

-- ---- one number

pub nearest-told : (x : Result ℕ Refusal) {r place : ℕ} {o : Outcome ℕ} → ToldNumber x place r → as_outcome x ≡ o → nearest_in r place ≡ o
nearest-told (Ok n) T e = rw (T.status, T.number) e
nearest-told (Err q) T e = rw (T.status, T.number, ne_eqb (number_of q) 0 (numbered q)) e

pub list-told : (x : Result ℕ Refusal) {size r : ℕ} {lent : List ℕ} {after : ListAfter} → ToldNumber x size r → list_given x lent ≡ after → list_in r size lent ≡ after
list-told (Ok n) T e = rw (T.status, T.number) e
list-told (Err q) T e = rw (T.status, T.number) e

-- ---- an index

pub index-refused : (q : Refusal) {n : ℕ} → n ≡ number_of q → ToldIndex (Err q) 0 false n
index-refused q e = record { finished = λ z. absurd (numbered q (sym e ∙ z)); refused = λ z. (q, refl, e, refl, refl) }

pub index-finished : (x : Indexed) → ToldIndex (Ok x) x.functions x.rising 0
index-finished x = record { finished = λ z. refl; refused = λ z. absurd (z refl) }

pub exports-look_up_in : {tray w found chain : List ℕ} {n a r : ℕ} {rising : Bool} (x : Result LookedUp Refusal) → LooksUpIn tray w n rising a x → ToldFrames x found chain r
    → ExportsLookUpIn tray w n rising a found chain r
exports-look_up_in x L T = record { answer = x; is = L; told = T; own = λ I. exports-look_up x (L.own I) T }
