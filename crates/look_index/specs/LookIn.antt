-- Contract. Look-ups by an index: of any bytes the answer is told, and by the tray's own index it is the look-up's.
use Rattle.std.specs.Prelude.{Option, Some, None, Result, Ok, Err, IfOk, ℕ, ◌*◌, ◌-◌}
use Rattle.std.specs.Prelude.{◌≤◌, ◌<◌, ◌≡◌, Bool, true, false, cond, List, ltb, length, drop, replicate}
use Rattle.tlv.specs.declared.refusal.Refusal.{Refusal}
use Rattle.tlv.specs.Outcome.{Outcome, refused, done, ◌>>=◌}
use Rattle.lookup.specs.declared.model.LookedUp.{LookedUp}
use Rattle.lookup.specs.Tray.{GroupAt}
use Rattle.lookup.specs.Lookup.{Frames, frames_of, look_up}
use Rattle.lookup.specs.Walk.{StandsOwn, own_at}
use Rattle.lookup.specs.Answers.{frames_given, LooksUp}
use Rattle.look_index.specs.Index.{extent_at, ExtentHolds, IndexOf, function_here, extent_size}

-- ---- which extent is taken

-- as many extents as a binary search passed: the last of them starts at or below the address, the next one above it
pub record Boundary (w : List ℕ) (n a m : ℕ) : Type 0 where
  pub within : m ≤ n
  pub below : 0 < m → (extent_at w (m - 1)).range.start ≤ a
  pub above : m < n → a < (extent_at w m).range.start

-- by a search: the last that was passed, if it holds the address
abbrev pub Searched : List ℕ → ℕ → ℕ → Option ℕ → Type 0
Searched w n a (Some k) = (k < n) × ExtentHolds (extent_at w k) a
Searched w n a None = (m : ℕ) × Boundary w n a m × (0 < m → ¬ ExtentHolds (extent_at w (m - 1)) a)

-- by a pass: the first that holds it
abbrev pub Scanned : List ℕ → ℕ → ℕ → Option ℕ → Type 0
Scanned w n a (Some k) = (k < n) × ExtentHolds (extent_at w k) a × ((j : ℕ) → j < k → ¬ ExtentHolds (extent_at w j) a)
Scanned w n a None = (j : ℕ) → j < n → ¬ ExtentHolds (extent_at w j) a

pub record SearchedBy (w : List ℕ) (n a : ℕ) (c : Option ℕ) : Type 0 where
  pub is : Searched w n a c

pub record ScannedBy (w : List ℕ) (n a : ℕ) (c : Option ℕ) : Type 0 where
  pub is : Scanned w n a c

pub record Chosen (w : List ℕ) (n : ℕ) (rising : Bool) (a : ℕ) (c : Option ℕ) : Type 0 where
  pub searched : rising ≡ true → Searched w n a c
  pub scanned : rising ≡ false → Scanned w n a c

-- ---- the function there

pub record FormedHere (tray : List ℕ) (p own : ℕ) : Type 0 where
  pub function : GroupAt
  pub is : function_here tray p ≡ done function
  pub here : function.place ≡ p
  pub rest : function.rest ≡ own_at tray own
  pub stands : StandsOwn tray own

abbrev pub HereIs : List ℕ → ℕ → Result ℕ Refusal → Type 0
HereIs tray p (Ok own) = FormedHere tray p own
HereIs tray p (Err e) = (e ≡ Refusal.MisshapenRecords) × (function_here tray p ≡ refused 19)

pub record IsHere (tray : List ℕ) (p : ℕ) (r : Result ℕ Refusal) : Type 0 where
  pub is : HereIs tray p r

-- ---- the answer

-- 20 where no extent is taken; 19 where no function in document 01's form stands where the extent says
abbrev pub by_choice : List ℕ → List ℕ → ℕ → Option ℕ → Outcome Frames
by_choice tray w a None = refused 20
by_choice tray w a (Some k) = function_here tray (extent_at w k).place >>= λ f. done (frames_of a f)

-- the contract of `lookin::look_up_in`, of any tray and index: 5 where the index is shorter than it is said to be
pub record LooksUpIn (tray w : List ℕ) (n : ℕ) (rising : Bool) (a : ℕ) (r : Result LookedUp Refusal) : Type 0 where
  pub choice : Option ℕ
  pub chosen : n * extent_size ≤ length w → Chosen w n rising a choice
  pub is : frames_given r ≡ cond (ltb (length w) (n * extent_size)) (refused 5) (by_choice tray w a choice)
  pub few : IfOk r (λ x. x.chain.nodes ≤ 257)
  pub rest : IfOk r (λ x. drop x.chain.nodes x.chain.places ≡ replicate (257 - x.chain.nodes) 0)
  -- by the tray's own index it is the look-up
  pub own : IndexOf tray w n rising → LooksUp tray a r

abbrev pub Indexing : Type 0
Indexing = (tray w : List ℕ) (n a : ℕ) (rising : Bool) (c : Option ℕ) → IndexOf tray w n rising → Chosen w n rising a c
    → by_choice tray w a c ≡ look_up tray a
