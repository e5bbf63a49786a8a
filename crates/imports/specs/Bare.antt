-- Theorem. A package without debug data (document 02, E4), in the request's own words.
use Rattle.std.specs.Prelude.{ℕ, ◌≤◌, ◌<◌, ◌≡◌, ◌≢◌, true, false, [], length, replicate}
use Rattle.tlv.specs.Outcome.{refused, done}
use Rattle.tlv.specs.Grammar.{check_input}
use Rattle.imports.specs.Answer.{Inputs, oversize, work_needed, no_stats, Answer, After, after}
use Rattle.imports.specs.Sizes.{measure}

-- "the import is done, lengths and statistics are zero"
abbrev pub nothing_done : Answer
nothing_done = record { refusal = 0; records = 0; files = 0; warnings = 0; stats = no_stats }

-- no tray is written, and work is cleared as after every call
abbrev pub untouched : Inputs → After
untouched i = record { answer = nothing_done; records = i.records; files = i.files; warnings = i.warnings; work = replicate (length i.work) 0 }

-- the sizes and the supplementary sheet, which has n fields, have passed their tests
pub record Tested (i : Inputs) (n : ℕ) : Type 0 where
  pub sizes : oversize i ≡ false
  pub supplementary : check_input (length i.program) i.supplementary ≡ done n

pub record Bare (i : Inputs) : Type 0 where
  -- "With an empty main sheet and ordinal 0, the import is done, lengths and statistics are zero, and the line program is not read": only its length is
  -- asked. So does the pass of E1 answer
  pub bare : (n : ℕ) → Tested i n → i.ordinal ≡ 0 → work_needed i n [] ≤ length i.work → (after i ≡ untouched i)
      × ((measure i).answer ≡ nothing_done)
  -- "Sizes, the supplementary sheet and the work length are still tested", in document 01's order
  pub sizes : oversize i ≡ true → (after i).answer.refusal ≡ 1
  pub supplementary : (k : ℕ) → oversize i ≡ false → check_input (length i.program) i.supplementary ≡ refused k
      → (after i).answer.refusal ≡ k
  pub work : (n : ℕ) → Tested i n → i.ordinal ≡ 0 → length i.work < work_needed i n [] → (after i).answer.refusal ≡ 5
  -- "any other ordinal is still 4", also where work is short
  pub other : (n : ℕ) → Tested i n → i.ordinal ≢ 0 → (after i).answer.refusal ≡ 4

abbrev pub AllBare : Type 0
AllBare = (i : Inputs) → i.main ≡ [] → Bare i
