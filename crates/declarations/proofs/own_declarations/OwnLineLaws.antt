-- What is read of an entry's own declaration: its file number and line, and whether its unit has a line header.
use mathlib.Core.Path.{◌≡◌, refl, sym, ◌∙◌}
use mathlib.Core.Bool.{Bool, true, false, not}
use mathlib.Core.List.{List}
use Prim.Native.Nat.{ℕ, ◌+◌}
use Rattle.tlv.specs.Lists.{is_none, map_option}
use Rattle.tlv.specs.Cursor.{step_at}
use Rattle.std.specs.Prelude.{Some, None, is_some}
use Rattle.std.specs.declared.option.Option.{Option as Given}
use Rattle.tlv.specs.declared.fields.FieldSpan.{FieldSpan}
use Rattle.access.specs.Places.{entry_here, unit_here}
use Rattle.access.specs.Access.{NextOwn}
use Rattle.access.proofs.UnitFacts.{unit-header}
use Rattle.files.specs.Pieces.{UnitPlaced}
use Rattle.files.proofs.UnitLaws.{first-none, first_found}
use Rattle.references.specs.Search.{unsigned_attribute, file_index_attribute, own_declaration}
use Rattle.references.specs.Tables.{number_given}
use Rattle.references.proofs.NumberLaws.{given-none, given-some}
use Rattle.declarations.specs.DeclaredSteps.{OwnAt}

-- ---- the file number and the line

module _ {s : List ℕ} {p : ℕ} where
  pub no-file : None ≡ number_given (file_index_attribute (entry_here s p) 0x3a) → OwnAt s p None
  unfolding own_declaration
  no-file file = record { is = λ u is' x. rw (given-none (file_index_attribute (entry_here s p) 0x3a) None file refl) }

  module _ {n : ℕ} (file : Some n ≡ number_given (file_index_attribute (entry_here s p) 0x3a)) where
    pub no_line : None ≡ number_given (unsigned_attribute (entry_here s p) 0x3b) → OwnAt s p None
    unfolding own_declaration
    no_line line = record { is = λ u is' x. rw (given-some (file_index_attribute (entry_here s p) 0x3a) (Some n) n file refl, given-none (unsigned_attribute (entry_here s p) 0x3b) None line refl) }

    pub both-there : {m : ℕ} → Some m ≡ number_given (unsigned_attribute (entry_here s p) 0x3b) → OwnAt s p (Some (record { file = record { 0 = n }; line = m }))
    unfolding own_declaration
    both-there {m} line = record { is = λ u is' x. rw (given-some (file_index_attribute (entry_here s p) 0x3a) (Some n) n file refl, given-some (unsigned_attribute (entry_here s p) 0x3b) (Some m) m line refl) }

-- ---- the unit's header

not_is : (v w : Bool) → not v ≡ w → v ≡ not w
not_is true w e = rw (← e)
not_is false w e = rw (← e)

module _ {s : List ℕ} {q : ℕ} (U : UnitPlaced s q) where
  pub header-is : {none_there : Bool} (r : Given FieldSpan) → NextOwn s (q + 21) 0x13 r → is_some r ≡ not none_there → none_there ≡ is_none (unit_here s q).header
  unfolding map_option
  header-is None own e = not_is _ false (sym e) ∙ rw (unit-header s q (step_at s q) 0x10 (q + 3) 18 (q + 21) refl U.is, first-none s (q + 21) 0x13 own)
  header-is (Some f) own e = not_is _ true (sym e) ∙ rw (unit-header s q (step_at s q) 0x10 (q + 3) 18 (q + 21) refl U.is, first_found s (q + 21) 0x13 f own)
