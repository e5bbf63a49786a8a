-- Contract. What the look-ups for callers from C promise: the same as those of `lookup`, with the answer as numbers.
use Rattle.std.specs.Prelude.{◌≡◌, ◌≢◌, Result, Ok, Err, Bool, false, cond, List, ℕ, ◌-◌, ◌≤◌, eqb, get_or, take, drop, replicate}
use Rattle.std.proofs.Math.Option.{Option, none, some}
use Rattle.tlv.specs.declared.refusal.Refusal.{Refusal}
use Rattle.tlv.specs.Outcome.{Outcome, refused, done}
use Rattle.tlv.specs.Refusals.{number_of, status_of}
use Rattle.imports.specs.Answer.{Inputs}
use Rattle.lookup.specs.declared.model.Indexed.{Indexed}
use Rattle.lookup.specs.declared.model.LookedUp.{LookedUp}
use Rattle.lookup.specs.Lookup.{Frames, look_up}
use Rattle.lookup.specs.Window.{ListAfter}
use Rattle.lookup.specs.Demand.{WrittenBy, Explained}
use Rattle.lookup.specs.Answers.{frames_given}
use Rattle.look_index.specs.Index.{IndexOf, MakesIndex}
use Rattle.look_index.specs.LookIn.{LooksUpIn}

-- the row, where the first number says that there is one
abbrev pub row_in : ℕ → ℕ → Option ℕ
row_in has place = cond (eqb has 0) none (some place)

-- the answer that a refusal's number, four numbers and the chain's places stand for
abbrev pub frames_in : ℕ → List ℕ → List ℕ → Outcome Frames
frames_in n found chain =
    cond (eqb n 0)
    (done (record { function = get_or found 0 0; row = row_in (get_or found 1 0) (get_or found 2 0); chain = take (get_or found 3 0) chain }))
    (refused n)

-- none after a refusal
abbrev pub nodes_of : Result LookedUp Refusal → ℕ
nodes_of (Ok x) = x.chain.nodes
nodes_of (Err e) = 0

abbrev pub places_of : Result LookedUp Refusal → List ℕ
places_of (Ok x) = x.chain.places
places_of (Err e) = replicate 257 0

pub record ToldFrames (x : Result LookedUp Refusal) (found chain : List ℕ) (r : ℕ) : Type 0 where
  pub is : frames_given x ≡ frames_in r found chain
  pub places : chain ≡ places_of x
  pub nodes : get_or found 3 0 ≡ nodes_of x

pub record ExportsLookUp (tray : List ℕ) (a : ℕ) (found chain : List ℕ) (r : ℕ) : Type 0 where
  pub is : frames_in r found chain ≡ look_up tray a
  pub few : get_or found 3 0 ≤ 257
  pub rest : drop (get_or found 3 0) chain ≡ replicate (257 - get_or found 3 0) 0
  pub demand : (i : Inputs) (x : Frames) → WrittenBy i tray → frames_in r found chain ≡ done x → Explained i tray a x

abbrev pub nearest_in : ℕ → ℕ → Outcome ℕ
nearest_in n place = cond (eqb n 0) (done place) (refused n)

abbrev pub list_in : ℕ → ℕ → List ℕ → ListAfter
list_in n size lent = record { refusal = n; size = size; lent = lent }

-- an answer that is one number: that, and the refusal's; each is 0 where the other is not
abbrev pub number_told : Result ℕ Refusal → ℕ
number_told (Ok n) = n
number_told (Err e) = 0

pub record ToldNumber (x : Result ℕ Refusal) (n r : ℕ) : Type 0 where
  pub number : n ≡ number_told x
  pub status : r ≡ status_of x

-- ---- by an index

-- the refusal's number, the number of functions, whether they are in the order of their addresses
pub record ToldIndex (x : Result Indexed Refusal) (n : ℕ) (rising : Bool) (r : ℕ) : Type 0 where
  pub finished : r ≡ 0 → x ≡ Ok (record { functions = n; rising = rising })
  pub refused : r ≢ 0 → (q : Refusal) × (x ≡ Err q) × (r ≡ number_of q) × (n ≡ 0) × (rising ≡ false)

pub record ExportsIndex (tray w w' : List ℕ) (n : ℕ) (rising : Bool) (r : ℕ) : Type 0 where
  pub answer : Result Indexed Refusal
  pub is : MakesIndex tray w w' answer
  pub told : ToldIndex answer n rising r

pub record ExportsLookUpIn (tray w : List ℕ) (n : ℕ) (rising : Bool) (a : ℕ) (found chain : List ℕ) (r : ℕ) : Type 0 where
  pub answer : Result LookedUp Refusal
  pub is : LooksUpIn tray w n rising a answer
  pub told : ToldFrames answer found chain r
  -- by the tray's own index it is the look-up
  pub own : IndexOf tray w n rising → ExportsLookUp tray a found chain r
