-- Contract. What the look-ups promise: document 02's number and values of each answer, and the contract of `address::look_up`.
use Rattle.std.specs.Prelude.{Result, Ok, Err, IfOk, ℕ, ◌-◌, ◌≤◌, ◌≡◌, List, take, drop, replicate}
use Rattle.tlv.specs.declared.refusal.Refusal.{Refusal}
use Rattle.tlv.specs.Outcome.{Outcome, refused, done}
use Rattle.tlv.specs.Refusals.{number_of}
use Rattle.access.specs.Access.{place_of}
use Rattle.imports.specs.Answer.{Inputs}
use Rattle.lookup.specs.declared.model.LookedUp.{LookedUp}
use Rattle.lookup.specs.Lookup.{Frames, look_up}
use Rattle.lookup.specs.Window.{ListAfter}
use Rattle.lookup.specs.Demand.{WrittenBy, Explained}

-- of the row: "else reported missing"
abbrev pub frames_in : LookedUp → Frames
frames_in x = record { function = x.function; row = place_of x.row; chain = take x.chain.nodes x.chain.places }

abbrev pub frames_given : Result LookedUp Refusal → Outcome Frames
frames_given (Ok x) = done (frames_in x)
frames_given (Err e) = refused (number_of e)

-- the contract of `address::look_up`: the definition's answer; places that are not of the chain are 0; demand 3, where an import with inlines wrote the tray
pub record LooksUp (tray : List ℕ) (a : ℕ) (r : Result LookedUp Refusal) : Type 0 where
  pub is : frames_given r ≡ look_up tray a
  pub few : IfOk r (λ x. x.chain.nodes ≤ 257)
  pub rest : IfOk r (λ x. drop x.chain.nodes x.chain.places ≡ replicate (257 - x.chain.nodes) 0)
  pub demand : (i : Inputs) (x : Frames) → WrittenBy i tray → frames_given r ≡ done x → Explained i tray a x

-- `window::functions_inside` ensures list_given r list' ≡ functions_inside tray w list, `functions_crossing` the same of functions_crossing
abbrev pub list_given : Result ℕ Refusal → List ℕ → ListAfter
list_given (Ok n) lent = record { refusal = 0; size = n; lent = lent }
list_given (Err e) lent = record { refusal = number_of e; size = 0; lent = lent }
