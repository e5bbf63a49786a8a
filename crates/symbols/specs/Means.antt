-- Theorem. What a join means in the request's own words (document 02, E13), and what look-ups find in its result. Theorems about every tray and list.
use Rattle.std.specs.Prelude.{ℕ, ◌≡◌, ◌⊎◌, ◌↔◌, List, [], ◌∷◌, ◌++◌, map}
use Rattle.std.proofs.Math.Option.{none}
use Rattle.tlv.specs.declared.model.AddressRange.{AddressRange}
use Rattle.tlv.specs.Outcome.{refused, done}
use Rattle.tlv.specs.Lists.{All}
use Rattle.tlv.specs.Bytes.{Bytes}
use Rattle.imports.specs.Ranges.{Holds}
use Rattle.lookup.specs.Tray.{GroupAt, functions_of}
use Rattle.lookup.specs.Lookup.{Frames, look_up}
use Rattle.symbols.specs.Symbols.{Symbol, symbol_of, joining, joined}

-- ---- which symbols become records

-- "A symbol of size 0 or empty name"
abbrev pub Passed : Symbol → Type 0
Passed s = (s.range.start ≡ s.range.end) ⊎ (s.name ≡ [])

-- of the symbols of a list, in its order, those that become records, where records of ranges rs are "already in the result"
pub data Becomes : List AddressRange → List Symbol → List Symbol → Type 0 where
  no_more : {rs : List AddressRange} → Becomes rs [] []
  -- ".. is passed over."
  passed : {rs : List AddressRange} {s : Symbol} {ss js : List Symbol} → Passed s → Becomes rs ss js → Becomes rs (s ∷ ss) js
  held : {rs : List AddressRange} {s : Symbol} {ss js : List Symbol} → Holds rs s.range.start → Becomes rs ss js → Becomes rs (s ∷ ss) js
  -- "Otherwise it becomes a bare function record .. in list order, if no record already in the result holds its start."
  becomes : {rs : List AddressRange} {s : Symbol} {ss js : List Symbol} → ¬ Passed s → ¬ Holds rs s.range.start
      → Becomes (rs ++ (s.range ∷ [])) ss js → Becomes rs (s ∷ ss) (s ∷ js)

-- these and no others
abbrev pub Choosing : Type 0
Choosing = (rs : List AddressRange) (ss js : List Symbol) → Becomes rs ss js ↔ (js ≡ joining rs ss)

-- so no symbol goes without an answer: a record of the result holds its start, unless it is passed over
abbrev pub Covering : Type 0
Covering = (rs : List AddressRange) (ps : List (List ℕ))
    → All (λ p. Passed (symbol_of p) ⊎ Holds (rs ++ map (λ s. s.range) (joining rs (map symbol_of ps))) (symbol_of p).range.start) ps

-- ---- look-ups (document 02, E6) in the result

-- the functions of the result: the tray's own, at their places and with their own fields, then bare ones
pub record FunctionsJoined (tray list result : List ℕ) (fs : List GroupAt) : Type 0 where
  pub bares : List GroupAt
  pub is : functions_of result ≡ done (fs ++ bares)
  pub bare : All (λ f. f.rest ≡ []) bares

pub record Looking : Type 0 where
  pub functions : (tray list result : List ℕ) (fs : List GroupAt) → Bytes list → joined tray list ≡ done result → functions_of tray ≡ done fs
      → FunctionsJoined tray list result fs
  -- where DWARF had an answer it is found as before: the function, its row in force and its chain, at the same places
  pub same : (tray list result : List ℕ) (a : ℕ) (x : Frames) → Bytes list → joined tray list ≡ done result → look_up tray a ≡ done x
      → look_up result a ≡ done x
  -- where it had none, what is found is bare: it has no row and no chain
  pub otherwise : (tray list result : List ℕ) (a : ℕ) (x : Frames) → Bytes list → joined tray list ≡ done result → look_up tray a ≡ refused 20
      → look_up result a ≡ done x → (x.row ≡ none) × (x.chain ≡ [])

pub record Meanings : Type 0 where
  pub choosing : Choosing
  pub covering : Covering
  pub looking : Looking
