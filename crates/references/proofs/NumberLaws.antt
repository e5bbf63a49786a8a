-- The numbers that an entry's attributes are: a file number, and an unsigned number.
use mathlib.Core.Path.{◌≡◌, refl, ap, ◌∙◌}
use mathlib.Core.Bool.{◌||◌}
use mathlib.Core.List.{List}
use mathlib.Core.Option.{Option, none, some}
use Prim.Native.Nat.{ℕ}
use native.Mathlib.Omega.{arith}
use lib.Dec.{eqb}
use Rattle.tlv.specs.Model.{Attribute}
use Rattle.access.specs.declared.access.Value.{Value}
use Rattle.access.specs.Places.{entry_here}
use Rattle.access.specs.Access.{Meaning, unsigned, file_number, value_of, meaning_of, said, Says}
use Rattle.std.specs.Prelude.{Some, None}
use Rattle.std.specs.declared.option.Option.{Option as Given}
use Rattle.references.specs.Search.{attribute, number_if, unsigned_attribute, file_index_attribute}
use Rattle.references.specs.Tables.{number_given, file_number_in, line_number_in}
use Rattle.references.proofs.ReferenceLaws.{by_kind, of_kind}

-- ---- the number that an attribute of some kinds gives

-- a file number, and a line
abbrev file_meant : Meaning → Given ℕ
file_meant (unsigned n) = Some n
file_meant (file_number n) = Some n
file_meant m = None

abbrev line_meant : Meaning → Given ℕ
line_meant (unsigned n) = Some n
line_meant m = None

value-file : (s : List ℕ) (v : Given Value) → file_number_in v ≡ file_meant (said s v)
value-file s None = refl
value-file s (Some (Value.Unsigned n)) = refl
value-file s (Some (Value.FileNumber n)) = refl
value-file s (Some (Value.Text start len)) = refl
value-file s (Some (Value.UnitReference n)) = refl
value-file s (Some (Value.SectionReference n)) = refl
value-file s (Some (Value.SupplementaryReference n)) = refl
value-file s (Some (Value.SectionOffset n)) = refl
value-file s (Some (Value.LineOffset n)) = refl
value-file s (Some (Value.Address n)) = refl
value-file s (Some Value.Failed) = refl

value_line : (s : List ℕ) (v : Given Value) → line_number_in v ≡ line_meant (said s v)
value_line s None = refl
value_line s (Some (Value.Unsigned n)) = refl
value_line s (Some (Value.FileNumber n)) = refl
value_line s (Some (Value.Text start len)) = refl
value_line s (Some (Value.UnitReference n)) = refl
value_line s (Some (Value.SectionReference n)) = refl
value_line s (Some (Value.SupplementaryReference n)) = refl
value_line s (Some (Value.SectionOffset n)) = refl
value_line s (Some (Value.LineOffset n)) = refl
value_line s (Some (Value.Address n)) = refl
value_line s (Some Value.Failed) = refl

meaning_file : (o : Option Attribute) → file_meant (meaning_of o) ≡ number_given (number_if (λ k. eqb k 1 || eqb k 2) o)
unfolding meaning_of value_of
meaning_file none = refl
meaning_file (some a) =
    by_kind (λ k. file_meant (value_of (of_kind a k)) ≡ number_given (number_if (λ k. eqb k 1 || eqb k 2) (some (of_kind a k)))) a.kind refl refl refl refl refl refl refl refl refl
    (λ n1 n2 n3 n4 n5 n6 n7 n8 n9. rw (n1, n2, n3, n4, n5, n6, n7, n8, n9))

meaning_line : (o : Option Attribute) → line_meant (meaning_of o) ≡ number_given (number_if (λ k. eqb k 1) o)
unfolding meaning_of value_of
meaning_line none = refl
meaning_line (some a) =
    by_kind (λ k. line_meant (value_of (of_kind a k)) ≡ number_given (number_if (λ k. eqb k 1) (some (of_kind a k)))) a.kind refl refl refl refl refl refl refl refl refl
    (λ n1 n2 n3 n4 n5 n6 n7 n8 n9. rw (n1, n2, n3, n4, n5, n6, n7, n8, n9))

-- ---- what is read of the entry at p

module _ {s : List ℕ} (p : ℕ) {v : Given Value} {r : Given ℕ} (name : ℕ) (says : Says s v (meaning_of (attribute (entry_here s p) name))) where
  pub file-read : r ≡ file_number_in v → r ≡ number_given (file_index_attribute (entry_here s p) name)
  unfolding file_index_attribute
  file-read is = is ∙ value-file s v ∙ ap file_meant says.is ∙ meaning_file (attribute (entry_here s p) name)

  pub line_read : r ≡ line_number_in v → r ≡ number_given (unsigned_attribute (entry_here s p) name)
  unfolding unsigned_attribute
  line_read is = is ∙ value_line s v ∙ ap line_meant says.is ∙ meaning_line (attribute (entry_here s p) name)

-- ---- a number that is given, or none

pub given-none : (o : Option ℕ) (r : Given ℕ) → r ≡ number_given o → r ≡ None → o ≡ none
given-none none r e is = refl
given-none (some m) r e is = let z : ◌≡◌ {A = ℕ} 0 1 = cc in absurd (omega arith)

pub given-some : (o : Option ℕ) (r : Given ℕ) (n : ℕ) → r ≡ number_given o → r ≡ Some n → o ≡ some n
given-some none r n e is = let z : ◌≡◌ {A = ℕ} 0 1 = cc in absurd (omega arith)
given-some (some m) r n e is = let z : m ≡ n = cc in ap some z
