-- Contract. What the checker's answers mean, of a field and of a sheet, and what is a place of an accepted sheet.
use Rattle.std.specs.Prelude.{◌≡◌, Result, Ok, Err, cond, List, ℕ, ◌≤◌, length, take, drop}
use Rattle.tlv.specs.declared.grammar.Context.{Context}
use Rattle.tlv.specs.declared.refusal.Refusal.{Refusal}
use Rattle.tlv.specs.Outcome.{done}
use Rattle.tlv.specs.Fields.{Field, fields}
use Rattle.tlv.specs.Grammar.{shaped, limited, next, check_from, check_input}

-- the field of tag t whose payload is the n bytes of s from `start` on
abbrev pub field_in : List ℕ → ℕ → ℕ → ℕ → Field
field_in s t start n = record { tag = t; payload = take n (drop start s) }

-- what becomes of a field after c
unfoldable pub judged_of : Context → Field → Result Context Refusal
judged_of c f = cond (shaped c f) (cond (limited c f) (Ok (next c f)) (Err Refusal.PastLimit)) (Err Refusal.Misshapen)

-- a sheet is accepted, with a line program of some length, and has n fields
-- Stays a clause: it has a number, of which there may be more than one, and a ghost field has at most one proof.
pub record Accepts (s : List ℕ) (n : ℕ) : Type 0 where
  pub program : ℕ
  pub passes : check_input program s ≡ done n

-- .. and has some number of fields
-- Stays a clause, for the same reason.
pub record Accepted (s : List ℕ) : Type 0 where
  pub number : ℕ
  pub is : Accepts s number

-- p is the place of a field of an accepted sheet, or its end: the fields from p on pass after what stands before them
-- Stays a clause: it has a context and a number, of which there may be more than one, and a ghost field has at most one proof.
pub record Placed (s : List ℕ) (p : ℕ) : Type 0 where
  pub context : Context
  pub count : ℕ
  pub passes : check_from context (fields (drop p s)) ≡ done count
  pub within : p ≤ length s
