-- Contract. What the answer of a step that may be refused holds.
use Rattle.std.specs.Prelude.{Result, Ok, Err}
use Rattle.tlv.specs.declared.refusal.Refusal.{Refusal}

module _ {A : Type 0} where
  -- its value; a refusal has none, and a stands for it, of which nothing is promised then
  abbrev pub value_or : A → Result A Refusal → A
  value_or a (Ok x) = x
  value_or a (Err e) = a
